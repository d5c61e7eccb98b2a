-- Inner: columns by their values and places.
use Rattle.std.specs.Prelude.{ℕ, suc, Bool, List, [], ◌∷◌}
use Rattle.std.specs.Ordering.{nat_cmp, int_cmp, then_cmp, on, is_lt}
use Rattle.std.specs.declared.cmp.Ordering.{Ordering}
use Rattle.plan_core.specs.declared.Price.{Price}
use Rattle.cover_core.specs.declared.Column.{Column}
use Rattle.cover_core.specs.FirstLeast.{value}
use Rattle.column_pool.specs.declared.key.Key.{Key}

-- the columns from a place on, by value and place
abbrev pub keys_from : List Price → ℕ → List Column → List Key
keys_from prices place [] = []
keys_from prices place (c ∷ cs) = record { value = value prices c; place = place } ∷ keys_from prices (suc place) cs

-- the value and the place of each column
abbrev pub keys_of : List Price → List Column → List Key
keys_of prices pool = keys_from prices 0 pool

-- the place of a column
abbrev pub place_of : Key → ℕ
place_of key = key.place

-- by value, and then by place
abbrev pub key_cmp : Key → Key → Ordering
key_cmp = then_cmp (on (λ (k : Key). k.value) int_cmp) (on (λ (k : Key). k.place) nat_cmp)

-- whether a column comes before another
abbrev pub is_before : Key → Key → Bool
is_before x y = is_lt (key_cmp x y)
