-- Promise: matchings of the rows of a network with its columns.
use Rattle.std.specs.Prelude.{◌≡◌, ◌==◌, ℕ, ℤ, pos, ◌+ℤ◌, ◌+◌, ◌<◌, ◌≤◌, Bool, cond, List, Some}
use Rattle.cover_core.proofs.Sums.{sum_first}
use Rattle.cover_core.specs.Cover.{Rises}
use Rattle.path_cover.specs.Nets.{Net, IsCover, first_nodes, successor}
use Rattle.path_cover.specs.Potentials.{Potentials, IsSlack, IsTight}

-- 1 where a test holds
abbrev pub one : Bool → ℤ
one b = pos (cond b 1 0)

-- each row that is there has its column, and each column its row
pub record AreMatched (n : ℕ) (to from : ℕ → ℕ) : Type 0 where
  pub onto : (t u : ℕ) → t < n → u < n → to t ≡ u → from u ≡ t
  pub back : (t u : ℕ) → t < n → u < n → from u ≡ t → to t ≡ u

-- rows and columns of a matching: row n is the store, and column n the end, which have many places
pub record IsHeld (n most : ℕ) (to from : ℕ → ℕ) (spare room : ℕ) : Type 0 where
  pub matched : AreMatched n to from
  pub ends : sum_first (λ t. one (to t == n)) n +ℤ pos (spare + room) ≡ pos most
  pub starts : sum_first (λ u. one (from u == n)) n +ℤ pos spare ≡ pos most

-- a matching while units of the store are in hand
pub record IsHeldBut (n most : ℕ) (to from : ℕ → ℕ) (spare room hand : ℕ) : Type 0 where
  pub matched : AreMatched n to from
  pub ends : sum_first (λ t. one (to t == n)) n +ℤ pos (spare + room) ≡ pos most
  pub starts : sum_first (λ u. one (from u == n)) n +ℤ pos (spare + hand) ≡ pos most

-- the arcs of a path are there, and tight where the path is
abbrev pub IsTightArc : Net → Potentials → ℕ → ℕ → Type 0
IsTightArc net p x v = (c : ℕ) × (net.arc x v ≡ Some c) × IsTight net p x v × (v ≤ net.nodes)

-- all arcs of a matching are there and tight, and store and end are equal where a vehicle is spare
pub record IsTightMatching (net : Net) (p : Potentials) (to from : ℕ → ℕ) (spare : ℕ) : Type 0 where
  pub rows : (t : ℕ) → t < net.nodes → to t ≤ net.nodes → IsTightArc net p t (to t)
  pub store : (u : ℕ) → u < net.nodes → from u ≡ net.nodes → IsTightArc net p net.nodes u
  pub stays : 0 < spare → p.head net.nodes ≡ p.tail net.nodes

-- what the paths that follow a full matching are
pub record AreCoverOf (net : Net) (p : Potentials) (to : ℕ → ℕ) (lists : List (List ℕ)) : Type 0 where
  pub cover : IsCover net lists
  pub slack : IsSlack net p lists
  pub successors : (t : ℕ) → t < net.nodes → successor net.nodes lists t ≡ to t
  pub ordered : Rises (first_nodes lists)
