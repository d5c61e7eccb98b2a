-- Inner: a problem of five items, on which examples are worked by hand.
use Rattle.std.specs.Prelude.{ℕ, ◌+◌, ◌-◌, ◌*◌, ◌<◌, ◌==◌, nat_le, nat_lt, ◌&&◌, ◌||◌, cond, List, [], ◌∷◌, Option, Some, None}
use Rattle.std.proofs.Common.{arith}
use Rattle.std.proofs.lemmas.Bool.Decides.{nat_tests}
use Rattle.cover_core.specs.Cover.{Problem}
use Rattle.cover_core.specs.Plans.{HasListedColumns}

-- an item alone is worth 10, where it is not below the bar; two items 8 and three times their distance, and in class 1 they are less
-- than 3 apart; three items three times the distance of the outer ones; items together are worth their class more
abbrev pub five_worth : ℕ → ℕ → List ℕ → Option ℕ
five_worth bar class [] = None
five_worth bar class (x ∷ []) = cond (nat_le bar x && nat_lt x 5) (Some 10) None
five_worth bar class (x ∷ y ∷ []) =
    cond (nat_lt x y && nat_lt y 5 && (class == 0 || nat_lt y (x + 3))) (Some (8 + 3 * (y - x) + class)) None
five_worth bar class (x ∷ y ∷ z ∷ []) = cond (nat_lt x y && nat_lt y z && nat_lt z 5) (Some (3 * (z - x) + class)) None
five_worth bar class (x ∷ y ∷ z ∷ w ∷ rest) = None

-- five items, and two classes: one with so many places, and one with a single place
abbrev pub five : ℕ → ℕ → Problem
five places bar = record { items = 5; caps = places ∷ 1 ∷ []; worth = five_worth bar }

pub five-listed : (places bar : ℕ) → HasListedColumns (five places bar)
five-listed places bar class [] worth has = absurd (cc)
five-listed places bar class (x ∷ []) worth has = let below : x < 5 = grind (arith, nat_tests) in ((λ e. cc), tt, (below, tt))
five-listed places bar class (x ∷ y ∷ []) worth has =
    let rises : x < y = grind (arith, nat_tests) in
    let below : y < 5 = grind (arith, nat_tests) in
    let first : x < 5 = omega arith in
    ((λ e. cc), (rises, tt), (first, (below, tt)))
five-listed places bar class (x ∷ y ∷ z ∷ []) worth has =
    let rises : x < y = grind (arith, nat_tests) in
    let on : y < z = grind (arith, nat_tests) in
    let below : z < 5 = grind (arith, nat_tests) in
    let second : y < 5 = omega arith in
    let first : x < 5 = omega arith in
    ((λ e. cc), (rises, (on, tt)), (first, (second, (below, tt))))
five-listed places bar class (x ∷ y ∷ z ∷ w ∷ rest) worth has = absurd (cc)
