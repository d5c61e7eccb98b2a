-- Promise: the tree of a search for an augmenting path.
use Rattle.std.specs.Prelude.{◌≡◌, ◌≢◌, ℕ, ℤ, pos, ◌+ℤ◌, ◌-ℤ◌, ◌≤ℤ◌, ◌<◌, ◌≤◌, Bool, true, false, Option, Some}
use Rattle.path_cover.specs.Nets.{Net}
use Rattle.path_cover.specs.Potentials.{Potentials}
use Rattle.path_cover.specs.Matchings.{IsTightArc}

-- Seen rows and columns; for each seen row the column that it was reached by, for each column the row that offers the least reduced cost,
-- that cost, and how far rows are from the root.
pub record Tree : Type 0 where
  pub rows : ℕ → Bool
  pub columns : ℕ → Bool
  pub by : ℕ → ℕ
  pub via : ℕ → ℕ
  pub least : ℕ → Option ℤ
  pub depth : ℕ → ℕ

-- a matching, with the number of vehicles that stay and of free places at the end
pub record Matching : Type 0 where
  pub to : ℕ → ℕ
  pub from : ℕ → ℕ
  pub spare : ℕ
  pub room : ℕ

-- from which free row the search begins, which columns it may take at first, and which rows are not moved
pub record Aim : Type 0 where
  pub root : ℕ
  pub limit : ℕ
  pub fixed : ℕ

-- a row other than the root holds the column by which it was reached
pub record IsReached (net : Net) (m : Matching) (a : Aim) (tree : Tree) (x : ℕ) : Type 0 where
  pub movable : a.fixed ≤ x
  pub within : tree.by x ≤ net.nodes
  pub seen : tree.columns (tree.by x) ≡ true
  pub row : x < net.nodes → m.to x ≡ tree.by x
  pub store : x ≡ net.nodes → tree.by x < net.nodes → m.from (tree.by x) ≡ net.nodes
  pub stays : x ≡ net.nodes → tree.by x ≡ net.nodes → 0 < m.spare
  pub deeper : tree.depth (tree.via (tree.by x)) < tree.depth x

-- a seen column is held, by seen rows and rows that are not moved
pub record IsFull (net : Net) (p : Potentials) (m : Matching) (a : Aim) (tree : Tree) (v : ℕ) : Type 0 where
  pub within : tree.via v ≤ net.nodes
  pub seen : tree.rows (tree.via v) ≡ true
  pub allowed : tree.via v ≡ a.root → v < a.limit
  pub tight : IsTightArc net p (tree.via v) v
  pub held : v < net.nodes → m.from v ≤ net.nodes
  pub holder : v < net.nodes → a.fixed ≤ m.from v → tree.rows (m.from v) ≡ true
  pub no_room : v ≡ net.nodes → m.room ≡ 0
  pub ends : v ≡ net.nodes → (t : ℕ) → a.fixed ≤ t → t < net.nodes → m.to t ≡ net.nodes → tree.rows t ≡ true
  pub stays : v ≡ net.nodes → 0 < m.spare → tree.rows net.nodes ≡ true

-- a seen row offers an unseen column no less than what is kept
abbrev pub IsOffered : Net → Potentials → Tree → ℕ → ℕ → ℕ → Type 0
IsOffered net p tree x v c = (d : ℤ) × (tree.least v ≡ Some d) × (d ≤ℤ (pos c +ℤ (p.tail x -ℤ p.head v)))

-- what is kept is what a seen row offers
pub record IsKept (net : Net) (p : Potentials) (a : Aim) (tree : Tree) (v : ℕ) (d : ℤ) : Type 0 where
  pub within : tree.via v ≤ net.nodes
  pub seen : tree.rows (tree.via v) ≡ true
  pub allowed : tree.via v ≡ a.root → v < a.limit
  pub cost : ℕ
  pub arc : net.arc (tree.via v) v ≡ Some cost
  pub is : d ≡ pos cost +ℤ (p.tail (tree.via v) -ℤ p.head v)

pub record IsTree (net : Net) (p : Potentials) (m : Matching) (a : Aim) (tree : Tree) : Type 0 where
  pub root_in : a.root < net.nodes
  pub root_free : net.nodes < m.to a.root
  pub root_seen : tree.rows a.root ≡ true
  pub fixed_in : a.fixed ≤ net.nodes
  pub reached : (x : ℕ) → x ≤ net.nodes → tree.rows x ≡ true → x ≢ a.root → IsReached net m a tree x
  pub full : (v : ℕ) → v ≤ net.nodes → tree.columns v ≡ true → IsFull net p m a tree v
  pub offered : (x v c : ℕ) → x ≤ net.nodes → v ≤ net.nodes → tree.rows x ≡ true → tree.columns v ≡ false → (x ≡ a.root → v < a.limit) →
      net.arc x v ≡ Some c → IsOffered net p tree x v c
  pub kept : (v : ℕ) (d : ℤ) → v ≤ net.nodes → tree.columns v ≡ false → tree.least v ≡ Some d → IsKept net p a tree v d
