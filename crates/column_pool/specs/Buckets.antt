-- Inner: buckets, by which a column is found among others: each column shows the one before it in its bucket.
use Rattle.std.specs.Prelude.{◌≡◌, ◌==◌, ℕ, ◌+◌, ◌*◌, ◌%◌, ◌<◌, ◌≤◌, cond, suc, List, [], ◌∷◌, length, take, fold, slice_index}
use Rattle.cover_core.specs.declared.Column.{Column}
use Rattle.cover_core.specs.Parts.{column_at}
use Rattle.column_pool.specs.Pools.{IsDistinct}

-- a hash with one item more
abbrev pub mixed : ℕ → ℕ → ℕ
mixed hash item = (8191 * hash + item) % 2147483647

-- the bucket of a class and a list
abbrev pub bucket_of : ℕ → List ℕ → ℕ
bucket_of class list = fold mixed class list % 262144

-- the bucket of a column
abbrev pub bucket_in : Column → ℕ
bucket_in column = bucket_of column.class column.items

-- how many columns there are up to the last one of a bucket, 0 where none is
abbrev pub last_in : ℕ → List Column → ℕ
last_in bucket [] = 0
last_in bucket (c ∷ cs) = cond (last_in bucket cs == 0) (cond (bucket_in c == bucket) 1 0) (suc (last_in bucket cs))

-- for each column, the last one of its bucket before it
abbrev pub IsChained : List Column → List ℕ → Type 0
IsChained columns earlier =
    (k : ℕ) → k < length columns → slice_index earlier k ≡ last_in (bucket_in (column_at columns k)) (take k columns)

-- the last column of each bucket, and for each column the one before it
pub record IsIndexed (columns : List Column) (heads earlier : List ℕ) : Type 0 where
  pub few : length columns ≤ 200000
  pub distinct : IsDistinct columns
  pub width : 0 < length heads → length heads ≡ 262144
  pub lasts : (bucket : ℕ) → slice_index heads bucket ≡ last_in bucket columns
  pub len : length earlier ≡ length columns
  pub chained : IsChained columns earlier
