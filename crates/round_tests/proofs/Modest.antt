-- The worths and places of the problems that pricers of tests have are modest.
use Rattle.std.proofs.Common.{◌==◌, ℕ, ◌+◌, ◌%◌, ◌<◌, ◌≤◌, ◌&&◌, true, false, cond, nat_lt, [], ◌∷◌, Option, Some, None, arith}
use Rattle.std.specs.Prelude.{IfSome}
use Rattle.std.proofs.lemmas.List.Elements.{All-cons, All-nil}
use Rattle.cover_core.specs.Ranges.{HasFewPlaces, HasModestWorths}
use Rattle.round_tests.specs.Pair.{pair}
use Rattle.round_tests.specs.Singles.{singles}

abbrev Few : ℕ → Type 0
Few cap = cap ≤ 10000

pub singles_few : (items : ℕ) → HasFewPlaces (singles items)
singles_few items = All-cons Few 1 (1 ∷ []) (omega arith) (All-cons Few 1 [] (omega arith) (All-nil Few))

pub singles_modest : (items : ℕ) → HasModestWorths (singles items)
singles_modest items class [] there = tt
singles_modest items class (x ∷ []) there =
    let few : class < 2 = there in
    elim (nat_lt x items && (x % 16 == 0)) as (λ b. IfSome (cond b (Some (class + 1)) None) (λ worth. worth ≤ 4000000000)) [
      | true ↦
          omega arith
      | false ↦ tt
    ]
singles_modest items class (x ∷ y ∷ rest) there = tt

pub pair-few : (alone : ℕ) (both : Option ℕ) (places : ℕ) → places ≤ 10000 → HasFewPlaces (pair alone both places)
pair-few alone both places low = All-cons Few places [] low (All-nil Few)

pub pair-modest : (alone : ℕ) (both : Option ℕ) (places : ℕ) → alone ≤ 4000000000 → IfSome both (λ worth. worth ≤ 4000000000) →
    HasModestWorths (pair alone both places)
pair-modest alone both places one two class [] there = tt
pair-modest alone both places one two class (x ∷ []) there =
    elim (nat_lt x 2) as (λ b. IfSome (cond b (Some alone) None) (λ worth. worth ≤ 4000000000)) [ true ↦ one | false ↦ tt ]
pair-modest alone both places one two class (x ∷ y ∷ []) there =
    elim ((x == 0) && (y == 1)) as (λ b. IfSome (cond b both None) (λ worth. worth ≤ 4000000000)) [ true ↦ two | false ↦ tt ]
pair-modest alone both places one two class (x ∷ y ∷ z ∷ rest) there = tt
