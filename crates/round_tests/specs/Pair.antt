-- Inner: a problem of two items, on which the examples of the tests are worked by hand.
use Rattle.std.specs.Prelude.{ℕ, ◌≤◌, ◌==◌, ◌&&◌, nat_lt, cond, List, [], ◌∷◌, Option, Some, None}
use Rattle.std.proofs.Common.{◌≡◌, ◌<◌, arith}
use Rattle.std.proofs.lemmas.Bool.Decides.{nat_tests}
use Rattle.plan_core.specs.Limits.{most_worth}
use Rattle.cover_core.specs.declared.Column.{Column}
use Rattle.plan_core.specs.declared.Price.{Price}
use Rattle.cover_core.specs.Best.{earlier}
use Rattle.cover_core.specs.Cover.{AllBelow, Problem, Rises}
use Rattle.cover_core.specs.Plans.{HasListedColumns}

-- an item alone is worth so much, and both together may have a worth too
abbrev pub pair_worth : ℕ → Option ℕ → ℕ → List ℕ → Option ℕ
pair_worth alone both class [] = None
pair_worth alone both class (x ∷ []) = cond (nat_lt x 2) (Some alone) None
pair_worth alone both class (x ∷ y ∷ []) = cond ((x == 0) && (y == 1)) both None
pair_worth alone both class (x ∷ y ∷ z ∷ rest) = None

-- two items, and one class with so many places
abbrev pub pair : ℕ → Option ℕ → ℕ → Problem
pair alone both places = record { items = 2; caps = places ∷ []; worth = pair_worth alone both }

-- a column of the one class
abbrev pub column : ℕ → List ℕ → Column
column worth items = record { class = 0; worth = worth; items = items }

pub pair-listed : (alone : ℕ) (both : Option ℕ) (places : ℕ) → HasListedColumns (pair alone both places)
pair-listed alone both places class [] worth has = absurd (cc)
pair-listed alone both places class (x ∷ []) worth has = let below : x < 2 = grind (arith, nat_tests) in ((λ e. cc), tt, (below, tt))
pair-listed alone both places class (x ∷ y ∷ []) worth has =
    let first : x ≡ 0 = grind (arith, nat_tests) in
    let second : y ≡ 1 = grind (arith, nat_tests) in
    let rises : x < y = omega arith in
    let low : x < 2 = omega arith in
    let high : y < 2 = omega arith in
    ((λ e. cc), (rises, tt), (low, (high, tt)))
pair-listed alone both places class (x ∷ y ∷ z ∷ rest) worth has = absurd (cc)

-- a column that may be valued at so many prices
pub record MayBeValued (count : ℕ) (c : Column) : Type 0 where
  pub rises : Rises c.items
  pub items : AllBelow count c.items
  pub cheap : c.worth ≤ most_worth

-- the earliest column of two items, where both together have no worth, or one
abbrev pub best_alone : List Price → ℕ → Column
best_alone prices alone = earlier prices (column alone (0 ∷ [])) (column alone (1 ∷ []))

abbrev pub best_column : List Price → ℕ → Option ℕ → Column
best_column prices alone None = best_alone prices alone
best_column prices alone (Some worth) = earlier prices (column worth (0 ∷ 1 ∷ [])) (best_alone prices alone)
