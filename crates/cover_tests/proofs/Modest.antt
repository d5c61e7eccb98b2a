-- The worths and places of the small problems are modest.
use Rattle.std.proofs.Common.{◌≡◌, ℕ, ◌+◌, ◌-◌, ◌<◌, ◌≤◌, ◌&&◌, Bool, true, false, cond, nat_lt, [], ◌∷◌, Some, None, refl, arith}
use Rattle.std.specs.Prelude.{IfSome}
use Rattle.std.proofs.lemmas.Bool.Decides.{nat_tests}
use Rattle.std.proofs.lemmas.List.Elements.{All-cons, All-nil}
use Rattle.cover_core.specs.Ranges.{HasFewPlaces, HasModestWorths}
use Rattle.cover_tests.specs.Line.{line}
use Rattle.cover_tests.specs.Three.{three}

abbrev Few : ℕ → Type 0
Few cap = cap ≤ 10000

pub three-few : HasFewPlaces three
three-few = All-cons Few 2 (1 ∷ []) (omega arith) (All-cons Few 1 [] (omega arith) (All-nil Few))

pub line-few : HasFewPlaces line
line-few = All-cons Few 1 [] (omega arith) (All-nil Few)

pub three-modest : HasModestWorths three
three-modest class [] there = tt
three-modest class (x ∷ []) there = low (nat_lt x 2) refl
  where
    low : (b : Bool) → nat_lt x 2 ≡ b → IfSome (cond b (Some (class + x + 3)) None) (λ worth. worth ≤ 4000000000)
    low true test = let below : x < 2 = grind (arith, nat_tests) in let few : class < 2 = there in omega arith
    low false test = tt
three-modest class (x ∷ y ∷ []) there =
    elim (nat_lt x y && nat_lt y 3) as (λ b. IfSome (cond b (Some 5) None) (λ worth. worth ≤ 4000000000)) [
      | true ↦
          omega arith
      | false ↦ tt
    ]
three-modest class (x ∷ y ∷ z ∷ rest) there = tt

pub line-modest : HasModestWorths line
line-modest class [] there = tt
line-modest class (x ∷ []) there =
    elim (nat_lt x 6) as (λ b. IfSome (cond b (Some 1) None) (λ worth. worth ≤ 4000000000)) [ true ↦ omega arith | false ↦ tt ]
line-modest class (x ∷ y ∷ []) there = low (nat_lt x y && nat_lt y 6) refl
  where
    low : (b : Bool) → (nat_lt x y && nat_lt y 6) ≡ b → IfSome (cond b (Some (1 + (y - x))) None) (λ worth. worth ≤ 4000000000)
    low true test = let below : y < 6 = grind (arith, nat_tests) in omega arith
    low false test = tt
line-modest class (x ∷ y ∷ z ∷ rest) there = tt
