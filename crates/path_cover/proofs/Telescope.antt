-- Along a path the potentials' differences telescope: the gains of its nodes are at most its cost and what a path pays.
use Rattle.std.proofs.Common.{◌≡◌, ℕ, ℤ, pos, ◌+ℤ◌, ◌-ℤ◌, ◌≤ℤ◌, ◌+◌, ◌<◌, Bool, true, false, cond, nat_lt, List, [], ◌∷◌, Option, Some, None, refl, sym, ap, ◌∙◌, arith}
use Rattle.std.proofs.lemmas.Int.{ints}
use Rattle.std.proofs.lemmas.Bool.Decides.{nat_tests}
use Rattle.std.proofs.lemmas.Bool.{and_parts}
use Rattle.std.proofs.lemmas.Option.{same_Some}
use Rattle.cover_core.specs.Cover.{AllBelow, Rises}
use Rattle.cover_core.specs.Plans.{HasListedColumns}
use Rattle.cover_core.proofs.Sums.{sum_each}
use Rattle.path_cover.specs.Nets.{Net, IsRising, all_below, both, path_cost, paths, rest_cost}
use Rattle.path_cover.specs.Potentials.{Potentials, AreFeasible, IsTight, IsTightFrom, IsTightPath}

-- two costs that are there together are there each
pub record BothAre (a b : Option ℕ) (y : ℕ) : Type 0 where
  pub first : ℕ
  pub second : ℕ
  pub first_is : a ≡ Some first
  pub second_is : b ≡ Some second
  pub sum : first + second ≡ y

pub both_some : (a b : Option ℕ) (y : ℕ) → both a b ≡ Some y → BothAre a b y
both_some None b y e = absurd (cc)
both_some (Some c) None y e = absurd (cc)
both_some (Some c) (Some d) y e = record { first = c; second = d; first_is = refl; second_is = refl; sum = same_Some (c + d) y e }

cond_some : (b : Bool) (o : Option ℕ) (y : ℕ) → cond b o None ≡ Some y → (b ≡ true) × (o ≡ Some y)
cond_some true o y e = (refl, e)
cond_some false o y e = absurd (cc)

pub all_below_is : (n : ℕ) (ts : List ℕ) → all_below n ts ≡ true → AllBelow n ts
all_below_is n [] e = tt
all_below_is n (t ∷ ts) e =
    let parts = and_parts (nat_lt t n) (all_below n ts) e in
    let test : nat_lt t n ≡ true = parts.0 in
    let below : t < n = grind (arith, nat_tests) in
    (below, all_below_is n ts parts.1)

-- a path, taken apart
pub record PathIs (net : Net) (t : ℕ) (ts : List ℕ) (y : ℕ) : Type 0 where
  pub below : AllBelow net.nodes (t ∷ ts)
  pub costs : BothAre (net.arc net.nodes t) (rest_cost net t ts) y

pub path_is : (net : Net) (t : ℕ) (ts : List ℕ) (y : ℕ) → path_cost net (t ∷ ts) ≡ Some y → PathIs net t ts y
path_is net t ts y e =
    let parts = cond_some (all_below net.nodes (t ∷ ts)) (both (net.arc net.nodes t) (rest_cost net t ts)) y e in
    record { below = all_below_is net.nodes (t ∷ ts) parts.0; costs = both_some (net.arc net.nodes t) (rest_cost net t ts) y parts.1 }

rest_rises : (net : Net) → IsRising net → (t : ℕ) (ts : List ℕ) (y : ℕ) → t < net.nodes → AllBelow net.nodes ts →
    rest_cost net t ts ≡ Some y → Rises (t ∷ ts)
rest_rises net rising t [] y within below e = tt
rest_rises net rising t (u ∷ us) y within below e =
    let parts = both_some (net.arc t u) (rest_cost net u us) y e in
    (rising.rises t u parts.first within below.0 parts.first_is, rest_rises net rising u us parts.second below.0 below.1 parts.second_is)

-- Paths are not empty, rise, and have nodes of the network alone. What set partitioning asks of a problem holds of paths: arcs
-- between nodes rise, so a list with a cost rises and has no node twice.
pub paths_listed : (net : Net) → IsRising net → HasListedColumns (paths net)
paths_listed net rising class [] worth e = absurd (cc)
paths_listed net rising class (t ∷ ts) worth e =
    let path = path_is net t ts worth e in
    ((λ empty. cc), rest_rises net rising t ts path.costs.second path.below.0 path.below.1 path.costs.second_is, path.below)

-- what a node gains
abbrev pub gain : Potentials → ℕ → ℤ
gain p t = p.head t -ℤ p.tail t

pub rest_gain : (net : Net) (p : Potentials) → AreFeasible net p → (t : ℕ) (ts : List ℕ) (y : ℕ) → t < net.nodes → AllBelow net.nodes ts →
    rest_cost net t ts ≡ Some y →
    (sum_each (gain p) ts +ℤ (p.head net.nodes -ℤ p.tail t)) ≤ℤ pos y
rest_gain net p feasible t [] y within below e = let last = feasible t net.nodes y (omega arith) (omega arith) e in omega (arith, ints)
rest_gain net p feasible t (u ∷ us) y within below e =
    let parts = both_some (net.arc t u) (rest_cost net u us) y e in
    let within' : u < net.nodes = below.0 in
    let first = feasible t u parts.first (omega arith) (omega arith) parts.first_is in
    let rest = rest_gain net p feasible u us parts.second within' below.1 parts.second_is in
    omega (arith, ints, parts.sum)

-- The gains of a path's nodes are at most its cost and what a path pays. Along a path the potentials telescope: each arc's
-- difference is at most its cost, and the sum of these differences is that of the gains of its nodes, but for the store, where it
-- begins, and the end. So with gains as prices no path costs less than its nodes are priced at and what it pays for its place: that
-- potentials are feasible is all that paid prices need.
pub path_gain : (net : Net) (p : Potentials) → AreFeasible net p → (list : List ℕ) (y : ℕ) → path_cost net list ≡ Some y →
    sum_each (gain p) list ≤ℤ (pos y +ℤ (p.tail net.nodes -ℤ p.head net.nodes))
path_gain net p feasible [] y e = absurd (cc)
path_gain net p feasible (t ∷ ts) y e =
    let path = path_is net t ts y e in
    let within : t < net.nodes = path.below.0 in
    let first = feasible net.nodes t path.costs.first (omega arith) (omega arith) path.costs.first_is in
    let rest = rest_gain net p feasible t ts path.costs.second within path.below.1 path.costs.second_is in
    omega (arith, ints, path.costs.sum)

-- and they are equal to it where all arcs are tight
pub rest_tight : (net : Net) (p : Potentials) → (t : ℕ) (ts : List ℕ) (y : ℕ) → rest_cost net t ts ≡ Some y → IsTightFrom net p t ts →
    sum_each (gain p) ts +ℤ (p.head net.nodes -ℤ p.tail t) ≡ pos y
rest_tight net p t [] y e tight = let last : p.head net.nodes -ℤ p.tail t ≡ pos y = tight y e in omega (arith, ints)
rest_tight net p t (u ∷ us) y e tight =
    let parts = both_some (net.arc t u) (rest_cost net u us) y e in
    let first : p.head u -ℤ p.tail t ≡ pos parts.first = tight.0 parts.first parts.first_is in
    let rest = rest_tight net p u us parts.second parts.second_is tight.1 in
    omega (arith, ints, parts.sum)

-- The same sum with equality where all arcs are tight. With the lemma above and the one below: paths of tight arcs are just those
-- that cost no more than their prices, which is complementary slackness for one path.
pub path_tight : (net : Net) (p : Potentials) → (list : List ℕ) (y : ℕ) → path_cost net list ≡ Some y → IsTightPath net p list →
    sum_each (gain p) list ≡ pos y +ℤ (p.tail net.nodes -ℤ p.head net.nodes)
path_tight net p [] y e tight = absurd (cc)
path_tight net p (t ∷ ts) y e tight =
    let path = path_is net t ts y e in
    let first : p.head t -ℤ p.tail net.nodes ≡ pos path.costs.first = tight.0 path.costs.first path.costs.first_is in
    let rest = rest_tight net p t ts path.costs.second path.costs.second_is tight.1 in
    omega (arith, ints, path.costs.sum)

-- an arc with a known cost is tight where its reduced cost is 0
tight_is : (net : Net) (p : Potentials) (x v y : ℕ) → net.arc x v ≡ Some y → p.head v -ℤ p.tail x ≡ pos y → IsTight net p x v
tight_is net p x v y e equal c e' = let same : y ≡ c = same_Some y c (sym e ∙ e') in equal ∙ ap pos same

-- only there
pub tight_rest : (net : Net) (p : Potentials) → AreFeasible net p → (t : ℕ) (ts : List ℕ) (y : ℕ) → t < net.nodes → AllBelow net.nodes ts →
    rest_cost net t ts ≡ Some y →
    sum_each (gain p) ts +ℤ (p.head net.nodes -ℤ p.tail t) ≡ pos y → IsTightFrom net p t ts
tight_rest net p feasible t [] y within below e equal = tight_is net p t net.nodes y e (omega (arith, ints))
tight_rest net p feasible t (u ∷ us) y within below e equal =
    let parts = both_some (net.arc t u) (rest_cost net u us) y e in
    let within' : u < net.nodes = below.0 in
    let first = feasible t u parts.first (omega arith) (omega arith) parts.first_is in
    let rest = rest_gain net p feasible u us parts.second within' below.1 parts.second_is in (
      tight_is net p t u parts.first parts.first_is (omega (arith, ints, parts.sum)),
      tight_rest net p feasible u us parts.second within' below.1 parts.second_is (omega (arith, ints, parts.sum)),
    )

-- Only there: a sum of arcs, none of which is above its cost, comes to the sum of the costs only if each arc is equal to its own.
-- So any other cover of the same cost goes over tight arcs too, and the search for the first one may look at these alone.
pub tight_path : (net : Net) (p : Potentials) → AreFeasible net p → (list : List ℕ) (y : ℕ) → path_cost net list ≡ Some y →
    sum_each (gain p) list ≡ pos y +ℤ (p.tail net.nodes -ℤ p.head net.nodes) → IsTightPath net p list
tight_path net p feasible [] y e equal = absurd (cc)
tight_path net p feasible (t ∷ ts) y e equal =
    let path = path_is net t ts y e in
    let within : t < net.nodes = path.below.0 in
    let first = feasible net.nodes t path.costs.first (omega arith) (omega arith) path.costs.first_is in
    let rest = rest_gain net p feasible t ts path.costs.second within path.below.1 path.costs.second_is in (
      tight_is net p net.nodes t path.costs.first path.costs.first_is (omega (arith, ints, path.costs.sum)),
      tight_rest net p feasible t ts path.costs.second within path.below.1 path.costs.second_is (omega (arith, ints, path.costs.sum)),
    )
