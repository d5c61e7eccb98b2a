-- Promise: the walk back along an augmenting path, and how its parts are kept.
use Rattle.std.specs.Prelude.{List, ◌≡◌, ◌≢◌, ℕ, pos, ◌-ℤ◌, ◌<◌, ◌≤◌, true, false, None, length, slice_index, slice_index_or}
use Rattle.std.specs.Option.{option_map}
use Rattle.path_cover.specs.declared.growth.Falls.{Falls}
use Rattle.path_cover.specs.declared.growth.Growth.{Growth}
use Rattle.path_cover.specs.declared.growth.Target.{Target}
use Rattle.path_cover.specs.declared.placing.Placing.{Placing}
use Rattle.path_cover.specs.Nets.{Net}
use Rattle.path_cover.specs.Potentials.{Potentials}
use Rattle.path_cover.specs.Matchings.{IsHeld, IsTightArc, IsTightMatching}
use Rattle.path_cover.specs.Trees.{Aim, IsReached, Matching, Tree}

-- a column has a free place
pub record HasPlace (n v : ℕ) (m : Matching) : Type 0 where
  pub column_in : v ≤ n
  pub column : v < n → n < m.from v
  pub room : v ≡ n → 0 < m.room

-- a column and the seen row that reaches it over a tight arc
pub record IsStep (net : Net) (p : Potentials) (a : Aim) (tree : Tree) (v : ℕ) : Type 0 where
  pub within : tree.via v ≤ net.nodes
  pub seen : tree.rows (tree.via v) ≡ true
  pub allowed : tree.via v ≡ a.root → v < a.limit
  pub tight : IsTightArc net p (tree.via v) v

-- The walk back has come to a column with a free place: the rows nearer to the root are where they were.
pub record IsWalk (net : Net) (p : Potentials) (a : Aim) (tree : Tree) (m : Matching) (v : ℕ) : Type 0 where
  pub held : IsHeld net.nodes net.most m.to m.from m.spare m.room
  pub tight : IsTightMatching net p m.to m.from m.spare
  pub place : HasPlace net.nodes v m
  pub root_in : a.root < net.nodes
  pub root_free : net.nodes < m.to a.root
  pub step : IsStep net p a tree v
  pub steps : (w : ℕ) → w ≤ net.nodes → tree.columns w ≡ true → IsStep net p a tree w
  pub reached : (x : ℕ) → x ≤ net.nodes → tree.rows x ≡ true → x ≢ a.root → tree.depth x ≤ tree.depth (tree.via v) →
      IsReached net m a tree x

-- potentials are kept as how far they are below 0
abbrev pub potentials_of : Falls → Potentials
potentials_of falls = record {
  tail = λ x. pos 0 -ℤ pos (slice_index falls.tails.items x);
  head =
      λ v. pos 0 -ℤ pos (slice_index falls.heads.items v);
}

abbrev pub tree_of : Growth → Tree
tree_of growth = record {
  rows = λ x. slice_index_or growth.rows.items x false;
  columns = λ v. slice_index_or growth.columns.items v false;
  by = λ x. slice_index growth.by.items x;
  via = λ v. slice_index growth.via.items v;
  least = λ v. option_map (λ d. pos d) (slice_index_or growth.least.items v None);
  depth = λ x. slice_index growth.depth.items x;
}

abbrev pub aim_of : Target → Aim
aim_of target = record { root = target.root; limit = target.limit; fixed = target.fixed }

-- a matching as it is kept
pub record IsKeptAs (n : ℕ) (placing : Placing) (m : Matching) : Type 0 where
  pub to_count : length placing.to.items ≡ n
  pub from_count : length placing.from.items ≡ n
  pub to : (t : ℕ) → t < n → slice_index placing.to.items t ≡ m.to t
  pub from : (u : ℕ) → u < n → slice_index placing.from.items u ≡ m.from u
  pub spare : placing.spare ≡ m.spare
  pub room : placing.room ≡ m.room

-- a walk over a matching as it is kept
abbrev pub IsWalkOf : Net → Falls → Target → Growth → Placing → ℕ → Type 0
IsWalkOf net falls target growth placing v =
    (m : Matching) × IsKeptAs net.nodes placing m × IsWalk net (potentials_of falls) (aim_of target) (tree_of growth) m v

-- a tight matching as it is kept
abbrev pub IsTightAs : Net → Falls → Placing → Type 0
IsTightAs net falls placing = (m : Matching) × IsKeptAs net.nodes placing m × IsHeld net.nodes net.most m.to m.from m.spare m.room
    × IsTightMatching net (potentials_of falls) m.to m.from m.spare

-- what a search leaves as it was: rows below the fixed one, but for the root, keep their columns, and no row loses its place
pub record IsFramed (n : ℕ) (target : Target) (old new : List ℕ) : Type 0 where
  pub fixed : (t : ℕ) → t < target.fixed → t ≢ target.root → slice_index new t ≡ slice_index old t
  pub rows : (t : ℕ) → t < n → slice_index old t ≤ n → slice_index new t ≤ n
