-- The worths of lists of one item are modest.
use Rattle.std.proofs.Common.{ℕ, ◌≤◌, true, false, cond, nat_lt, [], ◌∷◌, Some, None, arith}
use Rattle.std.specs.Prelude.{IfSome}
use Rattle.std.proofs.lemmas.List.Elements.{All-cons, All-nil}
use Rattle.cover_core.specs.Ranges.{HasFewPlaces, HasModestWorths}
use Rattle.label_search.specs.Samples.{single_problem}

pub singles-few : (count : ℕ) → HasFewPlaces (single_problem count)
singles-few count = let Few : ℕ → Type 0 = λ cap. cap ≤ 10000 in All-cons Few 1 [] (omega arith) (All-nil Few)

pub singles-modest : (count : ℕ) → HasModestWorths (single_problem count)
singles-modest count class [] there = tt
singles-modest count class (x ∷ []) there =
    elim (nat_lt x count) as (λ b. IfSome (cond b (Some 1) None) (λ worth. worth ≤ 4000000000)) [ true ↦ omega arith | false ↦ tt ]
singles-modest count class (x ∷ y ∷ rest) there = tt
