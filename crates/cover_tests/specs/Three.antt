-- Inner: a problem of three items, on which examples are worked by hand.
use Rattle.std.specs.Prelude.{ℕ, ◌+◌, ◌<◌, nat_lt, ◌&&◌, cond, List, [], ◌∷◌, Option, Some, None}
use Rattle.std.proofs.Common.{arith}
use Rattle.std.proofs.lemmas.Bool.Decides.{nat_tests}
use Rattle.cover_core.specs.Cover.{Problem}
use Rattle.cover_core.specs.Plans.{HasListedColumns}

-- item 0 or 1 alone is worth 3 more than the sum of its class and its number, two items are worth 5
abbrev pub three_worth : ℕ → List ℕ → Option ℕ
three_worth class [] = None
three_worth class (x ∷ []) = cond (nat_lt x 2) (Some (class + x + 3)) None
three_worth class (x ∷ y ∷ []) = cond (nat_lt x y && nat_lt y 3) (Some 5) None
three_worth class (x ∷ y ∷ z ∷ rest) = None

-- three items, and two classes with places for two and for one
abbrev pub three : Problem
three = record { items = 3; caps = 2 ∷ 1 ∷ []; worth = three_worth }

pub three-listed : HasListedColumns three
three-listed class [] worth has = absurd (cc)
three-listed class (x ∷ []) worth has = let below : x < 3 = grind (arith, nat_tests) in ((λ e. cc), tt, (below, tt))
three-listed class (x ∷ y ∷ []) worth has =
    let rises : x < y = grind (arith, nat_tests) in
    let below : y < 3 = grind (arith, nat_tests) in
    let first : x < 3 = omega arith in
    ((λ e. cc), (rises, tt), (first, (below, tt)))
three-listed class (x ∷ y ∷ z ∷ rest) worth has = absurd (cc)
