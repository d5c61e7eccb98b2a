-- Promise: what holds of every network: the statements of the public laws.
use Rattle.std.specs.Prelude.{◌≡◌, ℕ, ℤ, pos, ◌+◌, ◌*◌, ◌<◌, ◌≤◌, ◌<ℤ◌, suc, false, List, [], ◌∷◌, Some, None}
use Rattle.plan_core.specs.declared.Price.{Price}
use Rattle.cover_core.specs.Plans.{IsPaid, bound_of}
use Rattle.path_cover.specs.Nets.{Net, IsDear, IsRising, IsCover, IsFirstLeastCover, cover_cost, first_nodes, paths, successor}
use Rattle.path_cover.specs.Potentials.{Potentials, AreFeasible, ArePricesOf, IsSlack}
use Rattle.path_cover.specs.Greatest.{AreAbove, AreGreatest}
use Rattle.path_cover.specs.Matchings.{AreCoverOf, IsHeld, IsTightMatching}
use Rattle.path_cover.specs.Trees.{Aim, IsTree, Matching, Tree}
use Rattle.path_cover.specs.Walks.{AllFollow, starts}

-- the prices of feasible potentials are paid over all paths
abbrev pub FeasibleIsPaid : Net → Type 0
FeasibleIsPaid net =
    IsRising net → (p : Potentials) → AreFeasible net p → (prices : List Price) (class_price : ℤ) → ArePricesOf net p prices class_price →
    IsPaid (paths net) prices (class_price ∷ [])

-- where a cover meets complementary slackness, the bound of the prices is its cost
abbrev pub SlackIsBound : Net → Type 0
SlackIsBound net =
    IsRising net → (p : Potentials) → AreFeasible net p → (prices : List Price) (class_price : ℤ) → ArePricesOf net p prices class_price →
    (lists : List (List ℕ)) → IsCover net lists → IsSlack net p lists →
    bound_of prices (class_price ∷ []) (net.most ∷ []) ≡ cover_cost net lists

-- where a cover meets complementary slackness, no cover costs less
abbrev pub SlackIsLeast : Net → Type 0
SlackIsLeast net =
    IsRising net → (p : Potentials) → AreFeasible net p → (lists others : List (List ℕ)) → IsCover net lists →
    IsSlack net p lists → IsCover net others →
    cover_cost net lists ≤ cover_cost net others

-- and each cover that costs the same meets it too
abbrev pub LeastIsSlack : Net → Type 0
LeastIsSlack net =
    IsRising net → (p : Potentials) → AreFeasible net p → (lists others : List (List ℕ)) → IsCover net lists →
    IsSlack net p lists → IsCover net others →
    cover_cost net others ≡ cover_cost net lists → IsSlack net p others

-- The paths that follow a tight matching of all nodes are a cover that meets complementary slackness, with the matching's columns as
-- successors; where no least cover that agrees before a node has an earlier successor there, it is the first one of least cost.
abbrev pub MatchingIsFirst : Net → Type 0
MatchingIsFirst net =
    IsRising net → (p : Potentials) (to from : ℕ → ℕ) (spare room : ℕ) → AreFeasible net p → IsHeld net.nodes net.most to from spare room →
    IsTightMatching net p to from spare →
    ((u : ℕ) → u < net.nodes → from u ≤ net.nodes) → (lists : List (List ℕ)) → AllFollow net.nodes to lists →
    first_nodes lists ≡ starts net.nodes from net.nodes →
    AreCoverOf net p to lists
    × (((others : List (List ℕ)) → IsCover net others → IsSlack net p others → (t : ℕ) → t < net.nodes →
    ((s : ℕ) → s < t → successor net.nodes others s ≡ to s) → to t ≤ successor net.nodes others t) → IsFirstLeastCover net lists)

-- where the tree of a free node has nothing to grow by, there is no cover
abbrev pub StuckIsNone : Net → Type 0
StuckIsNone net =
    IsRising net → (p : Potentials) (m : Matching) (a : Aim) (tree : Tree) → IsHeld net.nodes net.most m.to m.from m.spare m.room →
    IsTree net p m a tree →
    a.fixed ≡ 0 → net.nodes < a.limit → ((v : ℕ) → v ≤ net.nodes → tree.columns v ≡ false → tree.least v ≡ None) →
    (lists : List (List ℕ)) → IsCover net lists → ⊥

-- where the tree of a node that leaves its column for an earlier one grows no more over tight arcs, no least cover that agrees before that
-- node has an earlier successor there
abbrev pub StuckIsFirst : Net → Type 0
StuckIsFirst net =
    IsRising net → (p : Potentials) → AreFeasible net p → (m : Matching) (a : Aim) (tree : Tree) →
    IsHeld net.nodes net.most m.to m.from m.spare m.room → IsTree net p m a tree →
    a.fixed ≡ suc a.root → ((v : ℕ) (d : ℤ) → v ≤ net.nodes → tree.columns v ≡ false → tree.least v ≡ Some d → pos 0 <ℤ d) →
    (lists : List (List ℕ)) → IsCover net lists → IsSlack net p lists →
    ((t : ℕ) → t < a.root → successor net.nodes lists t ≡ m.to t) → a.limit ≤ successor net.nodes lists a.root

-- the greatest potentials are not far below 0
abbrev pub GreatestAreHigh : Net → Type 0
GreatestAreHigh net =
    IsRising net → (dear : ℕ) → IsDear net dear → (lists : List (List ℕ)) → IsCover net lists → (p : Potentials) → AreGreatest net lists p →
    AreAbove net p ((2 * net.nodes + 3) * dear)
