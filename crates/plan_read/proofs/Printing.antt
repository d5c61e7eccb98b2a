-- Printed order is kept by printing: each column goes before the first that does not begin earlier, and where the others stand in order
-- already, that is the place in front.
use Rattle.std.proofs.Common.{◌≡◌, ℕ, Bool, true, false, if◌then◌else◌, List, [], ◌∷◌, nat_lt, refl, ap, ◌∙◌, arith}
use Rattle.std.proofs.lemmas.Bool.Decides.{nat_tests}
use Rattle.cover_core.specs.declared.Column.{Column}
use Rattle.plan_params.specs.Settings.{put_in_order}
use Rattle.umlauf_write.specs.Printed.{first_of_column, printed}
use Rattle.plan_read.specs.Laws.{IsPrintedOnce}

abbrev put : Column → List Column → List Column
put c cs = put_in_order first_of_column c cs

-- the first of the columns, if there is one, does not begin before this one
abbrev IsInFront : Column → List Column → Type 0
IsInFront c [] = Unit {0}
IsInFront c (next ∷ cs) = nat_lt (first_of_column next) (first_of_column c) ≡ false

abbrev Stands : List Column → Type 0
Stands [] = Unit {0}
Stands (c ∷ cs) = IsInFront c cs × Stands cs

put-in-front : (c : Column) (cs : List Column) → IsInFront c cs → put c cs ≡ c ∷ cs
put-in-front c [] front = refl
put-in-front c (next ∷ cs) front = ap (λ (t : Bool). if t then next ∷ put c cs else c ∷ next ∷ cs) front

-- Columns that stand in order are put in order from the last to the first, and each comes to stand in front of those behind it; so
-- nothing moves. That printed columns stand so (`stands`) is kept by each `put`, and with both printing twice is printing once.
kept : (cs : List Column) → Stands cs → printed cs ≡ cs
kept [] stands = refl
kept (c ∷ cs) stands = ap (put c) (kept cs stands.1) ∙ put-in-front c cs stands.0

not-both : (a b : ℕ) → nat_lt a b ≡ true → nat_lt b a ≡ false
not-both a b e = grind (arith, nat_tests)

-- a column goes behind those that begin earlier
front-put : (first c : Column) (cs : List Column) → IsInFront first cs → nat_lt (first_of_column c) (first_of_column first) ≡ false →
    IsInFront first (put c cs)
front-put first c [] front late = late
front-put first c (next ∷ cs) front late =
    elim (nat_lt (first_of_column next) (first_of_column c)) as (λ t. IsInFront first (if t then next ∷ put c cs else c ∷ next ∷ cs)) [
      | true ↦ front
      | false ↦ late
    ]

put-stands : (c : Column) (cs : List Column) → Stands cs → Stands (put c cs)
put-stands c [] stands = (tt, tt)
put-stands c (next ∷ cs) stands =
    elim (nat_lt (first_of_column next) (first_of_column c)) as (λ t. nat_lt (first_of_column next) (first_of_column c) ≡ t →
    Stands (if t then next ∷ put c cs else c ∷ next ∷ cs)) [
      | true ↦ λ e. (front-put next c cs stands.0 (not-both (first_of_column next) (first_of_column c) e), put-stands c cs stands.1)
      | false ↦ λ e. (e, stands)
    ] refl

stands : (cs : List Column) → Stands (printed cs)
stands [] = tt
stands (c ∷ cs) = put-stands c (printed cs) (stands cs)

pub printed-once : IsPrintedOnce
printed-once columns = kept (printed columns) (stands columns)
