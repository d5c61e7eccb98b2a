-- The worths of the five items are modest.
use Rattle.std.proofs.Common.{◌≡◌, ◌==◌, ℕ, ◌+◌, ◌-◌, ◌*◌, ◌<◌, ◌≤◌, ◌&&◌, ◌||◌, Bool, true, false, cond, nat_le, nat_lt, [], ◌∷◌, Some, None, refl, arith}
use Rattle.std.specs.Prelude.{IfSome}
use Rattle.std.proofs.lemmas.Bool.Decides.{nat_tests}
use Rattle.std.proofs.lemmas.List.Elements.{All-cons, All-nil}
use Rattle.cover_core.specs.Ranges.{HasFewPlaces, HasModestWorths}
use Rattle.exchange_tests.specs.Five.{five}

pub five-few : (places bar : ℕ) → places ≤ 10000 → HasFewPlaces (five places bar)
five-few places bar low =
    let Few : ℕ → Type 0 = λ cap. cap ≤ 10000 in
    All-cons Few places (1 ∷ []) low (All-cons Few 1 [] (omega arith) (All-nil Few))

pub five-modest : (places bar : ℕ) → HasModestWorths (five places bar)
five-modest places bar class [] there = tt
five-modest places bar class (x ∷ []) there =
    elim (nat_le bar x && nat_lt x 5) as (λ b. IfSome (cond b (Some 10) None) (λ worth. worth ≤ 4000000000)) [
      | true ↦
          omega arith
      | false ↦ tt
    ]
five-modest places bar class (x ∷ y ∷ []) there = low (nat_lt x y && nat_lt y 5 && (class == 0 || nat_lt y (x + 3))) refl
  where
    low : (b : Bool) → (nat_lt x y && nat_lt y 5 && (class == 0 || nat_lt y (x + 3))) ≡ b →
        IfSome (cond b (Some (8 + 3 * (y - x) + class)) None) (λ worth. worth ≤ 4000000000)
    low true test = let below : y < 5 = grind (arith, nat_tests) in let few : class < 2 = there in omega arith
    low false test = tt
five-modest places bar class (x ∷ y ∷ z ∷ []) there = low (nat_lt x y && nat_lt y z && nat_lt z 5) refl
  where
    low : (b : Bool) → (nat_lt x y && nat_lt y z && nat_lt z 5) ≡ b →
        IfSome (cond b (Some (3 * (z - x) + class)) None) (λ worth. worth ≤ 4000000000)
    low true test = let below : z < 5 = grind (arith, nat_tests) in let few : class < 2 = there in omega arith
    low false test = tt
five-modest places bar class (x ∷ y ∷ z ∷ w ∷ rest) there = tt
