-- What has begun is kept when columns are put in printed order: the columns stay the same, at other places.
use Rattle.std.proofs.Common.{◌≡◌, ℕ, Bool, true, false, zero, suc, List, [], ◌∷◌, Some, nat_lt, if◌then◌else◌, refl, subst, slice_get}
use Rattle.cover_core.specs.declared.Column.{Column}
use Rattle.plan_params.specs.Settings.{put_in_order}
use Rattle.umlauf_write.specs.Printed.{first_of_column, printed}
use Rattle.cover_rest.specs.declared.begun.Begun.{Begun}
use Rattle.cover_rest.specs.Keeping.{KeepsBegun}
use Rattle.cover_rest.proofs.Lists.{some-same}

abbrev put : Column → List Column → List Column
put c cs = put_in_order first_of_column c cs

-- a column stands somewhere in a list
abbrev IsIn : Column → List Column → Type 0
IsIn c cs = (j : ℕ) × (slice_get cs j ≡ Some c)

later : (c d : Column) (cs : List Column) → IsIn d cs → IsIn d (c ∷ cs)
later c d cs (j, at) = (suc j, at)

-- the column that is put in is there
put-there : (c : Column) (cs : List Column) → IsIn c (put c cs)
put-there c [] = (0, refl)
put-there c (next ∷ cs) = by (nat_lt (first_of_column next) (first_of_column c)) (put-there c cs)
  where
    by : (b : Bool) → IsIn c (put c cs) → IsIn c (if b then next ∷ put c cs else c ∷ next ∷ cs)
    by true rest = later next c (put c cs) rest
    by false rest = (0, refl)

-- the others stay
put-stays : (c d : Column) (cs : List Column) (j : ℕ) → slice_get cs j ≡ Some d → IsIn d (put c cs)
put-stays c d [] j at = absurd (cc)
put-stays c d (next ∷ cs) zero at = by (nat_lt (first_of_column next) (first_of_column c))
  where
    by : (b : Bool) → IsIn d (if b then next ∷ put c cs else c ∷ next ∷ cs)
    by true = (0, at)
    by false = (1, at)
put-stays c d (next ∷ cs) (suc j) at = by (nat_lt (first_of_column next) (first_of_column c)) (put-stays c d cs j at)
  where
    by : (b : Bool) → IsIn d (put c cs) → IsIn d (if b then next ∷ put c cs else c ∷ next ∷ cs)
    by true rest = later next d (put c cs) rest
    by false rest = (suc (suc j), at)

-- And no other comes: to put a column in place loses none and brings none in, as the others stand where they stood, or one place
-- further on.
put-from : (c d : Column) (cs : List Column) (j : ℕ) → slice_get (put c cs) j ≡ Some d → IsIn d (c ∷ cs)
put-from c d [] j at = (j, at)
put-from c d (next ∷ cs) j at = by (nat_lt (first_of_column next) (first_of_column c)) j at (λ i is. put-from c d cs i is)
  where
    skip : IsIn d (c ∷ cs) → IsIn d (c ∷ next ∷ cs)
    skip (zero, is) = (0, is)
    skip (suc i, is) = (suc (suc i), is)

    by : (b : Bool) (i : ℕ) → slice_get (if b then next ∷ put c cs else c ∷ next ∷ cs) i ≡ Some d →
        ((k : ℕ) → slice_get (put c cs) k ≡ Some d → IsIn d (c ∷ cs)) →
        IsIn d (c ∷ next ∷ cs)
    by true zero is rest = (1, is)
    by true (suc i) is rest = skip (rest i is)
    by false i is rest = (i, is)

printed-there : (d : Column) (cs : List Column) (j : ℕ) → slice_get cs j ≡ Some d → IsIn d (printed cs)
printed-there d [] j at = absurd (cc)
printed-there d (c ∷ cs) zero at =
    let P : Column → Type 0 = λ e. IsIn e (put c (printed cs)) in subst P (some-same c d at) (put-there c (printed cs))
printed-there d (c ∷ cs) (suc j) at = let (i, here) = printed-there d cs j at in put-stays c d (printed cs) i here

there-printed : (d : Column) (cs : List Column) (j : ℕ) → slice_get (printed cs) j ≡ Some d → IsIn d cs
there-printed d [] j at = absurd (cc)
there-printed d (c ∷ cs) j at = go (put-from c d (printed cs) j at) (λ i is. there-printed d cs i is)
  where
    go : IsIn d (c ∷ printed cs) → ((k : ℕ) → slice_get (printed cs) k ≡ Some d → IsIn d cs) → IsIn d (c ∷ cs)
    go (zero, is) rest = (0, is)
    go (suc i, is) rest = later c d cs (rest i is)

-- Columns that keep what has begun keep it in printed order. What has begun is kept by columns wherever they stand: a head asks for
-- some column that begins with it, and each other column is asked alone. So it is enough that the same columns stand in both orders.
pub order-keeps : (heads : List Begun) (may : ℕ → List ℕ → Bool) (cs : List Column) → KeepsBegun heads may cs →
    KeepsBegun heads may (printed cs)
order-keeps heads may cs keeps = record {
  kept = λ k h at.
      let (j, c, there, begins) = keeps.kept k h at in
      let (i, here) = printed-there c cs j there in
      (i, c, here, begins);
  others = λ j c at none. let (i, here) = there-printed c cs j at in keeps.others i c here none;
}
