-- Inner: a problem of six items in a line, on which the examples of weaves are worked by hand.
use Rattle.std.specs.Prelude.{ℕ, ◌+◌, ◌-◌, ◌<◌, nat_lt, ◌&&◌, cond, List, [], ◌∷◌, Option, Some, None}
use Rattle.std.proofs.Common.{arith}
use Rattle.std.proofs.lemmas.Bool.Decides.{nat_tests}
use Rattle.cover_core.specs.Cover.{Problem}
use Rattle.cover_core.specs.Plans.{HasListedColumns}

-- an item alone is worth 1, and two items one more than what lies between their numbers
abbrev pub line_worth : ℕ → List ℕ → Option ℕ
line_worth class [] = None
line_worth class (x ∷ []) = cond (nat_lt x 6) (Some 1) None
line_worth class (x ∷ y ∷ []) = cond (nat_lt x y && nat_lt y 6) (Some (1 + (y - x))) None
line_worth class (x ∷ y ∷ z ∷ rest) = None

-- six items in a line, and one class
abbrev pub line : Problem
line = record { items = 6; caps = 1 ∷ []; worth = line_worth }

pub line-listed : HasListedColumns line
line-listed class [] worth has = absurd (cc)
line-listed class (x ∷ []) worth has = let below : x < 6 = grind (arith, nat_tests) in ((λ e. cc), tt, (below, tt))
line-listed class (x ∷ y ∷ []) worth has =
    let rises : x < y = grind (arith, nat_tests) in
    let below : y < 6 = grind (arith, nat_tests) in
    let first : x < 6 = omega arith in
    ((λ e. cc), (rises, tt), (first, (below, tt)))
line-listed class (x ∷ y ∷ z ∷ rest) worth has = absurd (cc)
