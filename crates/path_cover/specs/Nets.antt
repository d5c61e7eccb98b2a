-- Promise: networks whose nodes are covered by paths.
use Rattle.std.specs.Prelude.{◌≡◌, ◌==◌, ℕ, ◌+◌, ◌*◌, ◌<◌, ◌≤◌, Bool, true, cond, ◌&&◌, nat_lt, List, [], ◌∷◌, map, Option, Some, None, option_and_then, unwrap_or}
use Rattle.std.specs.Option.{option_map}
use Rattle.cover_core.specs.declared.Column.{Column}
use Rattle.cover_core.specs.Cover.{Problem, Rises}
use Rattle.cover_core.specs.Plans.{IsPlan, cost}

-- Nodes 0 to n - 1, the number of paths that there may be, and what arcs cost, where they are there. The number n stands for the store
-- where an arc begins with it, and for the end where an arc ends with it: paths begin with an arc from the store and end with one to the
-- end. The arc from the store to the end stands for a path that is not used.
pub record Net : Type 0 where
  pub nodes : ℕ
  pub most : ℕ
  pub arc : ℕ → ℕ → Option ℕ

-- a path that is not used costs nothing, and arcs between nodes rise
pub record IsRising (net : Net) : Type 0 where
  pub stays : net.arc net.nodes net.nodes ≡ Some 0
  pub rises : (t u c : ℕ) → t < net.nodes → u < net.nodes → net.arc t u ≡ Some c → t < u

-- no arc costs more
abbrev pub IsDear : Net → ℕ → Type 0
IsDear net dear = (x v c : ℕ) → x ≤ net.nodes → v ≤ net.nodes → net.arc x v ≡ Some c → c ≤ dear

-- the greatest cost of an arc, times two more than the number of nodes, is at most 750,000,000,000: potentials then stay within 64 bits
abbrev pub IsCheap : Net → Type 0
IsCheap net = (dear : ℕ) × IsDear net dear × ((net.nodes + 2) * dear ≤ 750000000000)

-- two costs together
abbrev pub both : Option ℕ → Option ℕ → Option ℕ
both a b = option_and_then (λ c. option_map (λ d. c + d) b) a

-- what a path costs from a node on
abbrev pub rest_cost : Net → ℕ → List ℕ → Option ℕ
rest_cost net t [] = net.arc t net.nodes
rest_cost net t (u ∷ us) = both (net.arc t u) (rest_cost net u us)

abbrev pub all_below : ℕ → List ℕ → Bool
all_below n [] = true
all_below n (t ∷ ts) = nat_lt t n && all_below n ts

-- a list of nodes is a path where it is not empty and all its arcs are there
abbrev pub path_cost : Net → List ℕ → Option ℕ
path_cost net [] = None
path_cost net (t ∷ ts) = cond (all_below net.nodes (t ∷ ts)) (both (net.arc net.nodes t) (rest_cost net t ts)) None

-- the paths of a network as a set partitioning problem with one class
abbrev pub paths : Net → Problem
paths net = record { items = net.nodes; caps = net.most ∷ []; worth = λ class list. path_cost net list }

abbrev pub path_column : Net → List ℕ → Column
path_column net list = record { class = 0; worth = unwrap_or (path_cost net list) 0; items = list }

abbrev pub columns_of : Net → List (List ℕ) → List Column
columns_of net lists = map (path_column net) lists

-- a path cover: each node stands in exactly one path, once, and there are no more paths than there may be
abbrev pub IsCover : Net → List (List ℕ) → Type 0
IsCover net lists = IsPlan (paths net) (columns_of net lists)

abbrev pub cover_cost : Net → List (List ℕ) → ℕ
cover_cost net lists = cost (columns_of net lists)

-- the node behind a node in a list, n where there is none
abbrev pub behind : ℕ → ℕ → List ℕ → Option ℕ
behind n t [] = None
behind n t (x ∷ []) = cond (x == t) (Some n) None
behind n t (x ∷ y ∷ rest) = cond (x == t) (Some y) (behind n t (y ∷ rest))

-- the successor of a node; a node without one counts as n
abbrev pub successor : ℕ → List (List ℕ) → ℕ → ℕ
successor n [] t = n
successor n (list ∷ lists) t = unwrap_or (behind n t list) (successor n lists t)

-- where two lists of n numbers agree below a place, the number of the one there is not greater
abbrev pub IsNotAfter : ℕ → (ℕ → ℕ) → (ℕ → ℕ) → Type 0
IsNotAfter n f g = (t : ℕ) → t < n → ((s : ℕ) → s < t → f s ≡ g s) → f t ≤ g t

abbrev pub first_nodes : List (List ℕ) → List ℕ
first_nodes [] = []
first_nodes ([] ∷ lists) = first_nodes lists
first_nodes ((t ∷ ts) ∷ lists) = t ∷ first_nodes lists

-- a cover of least cost, and of several the one whose list of successors comes first; its paths are ordered by their first nodes
pub record IsFirstLeastCover (net : Net) (lists : List (List ℕ)) : Type 0 where
  pub cover : IsCover net lists
  pub least : (others : List (List ℕ)) → IsCover net others → cover_cost net lists ≤ cover_cost net others
  pub first : (others : List (List ℕ)) → IsCover net others → cover_cost net others ≡ cover_cost net lists →
      IsNotAfter net.nodes (successor net.nodes lists) (successor net.nodes others)
  pub ordered : Rises (first_nodes lists)
