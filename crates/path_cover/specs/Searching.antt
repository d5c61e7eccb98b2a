-- Promise: the state of a search for an augmenting path, as it is kept.
use Rattle.std.specs.Prelude.{List, [], ◌∷◌, ◌≡◌, ◌≢◌, ℕ, ℤ, pos, ◌<ℤ◌, ◌+◌, ◌<◌, ◌≤◌, Bool, true, false, cond, Option, Some, length, slice_index, slice_index_or, slice_set}
use Rattle.plan_core.specs.Limits.{most_places}
use Rattle.path_cover.specs.declared.growth.Falls.{Falls}
use Rattle.path_cover.specs.declared.growth.Growth.{Growth}
use Rattle.path_cover.specs.declared.growth.Target.{Target}
use Rattle.path_cover.specs.declared.placing.Placing.{Placing}
use Rattle.path_cover.specs.Nets.{Net}
use Rattle.path_cover.specs.Potentials.{Potentials, AreFeasible}
use Rattle.path_cover.specs.Matchings.{IsHeld, IsTightMatching}
use Rattle.path_cover.specs.Trees.{Aim, IsFull, IsKept, IsOffered, IsReached, IsTree, Matching, Tree}
use Rattle.path_cover.specs.Scans.{IsScanned, offer_of}
use Rattle.path_cover.specs.Augmenting.{IsFramed, IsKeptAs, IsStep, aim_of, potentials_of, tree_of}

-- potentials for each row and column
pub record HasPlaces (n : ℕ) (falls : Falls) : Type 0 where
  pub tails : length falls.tails.items ≡ n + 1
  pub heads : length falls.heads.items ≡ n + 1

-- a place of the tree for each row and column
pub record IsSized (n : ℕ) (growth : Growth) : Type 0 where
  pub rows : length growth.rows.items ≡ n + 1
  pub columns : length growth.columns.items ≡ n + 1
  pub by : length growth.by.items ≡ n + 1
  pub via : length growth.via.items ≡ n + 1
  pub least : length growth.least.items ≡ n + 1
  pub depth : length growth.depth.items ≡ n + 1

-- no potential is further below 0
abbrev pub AreLow : Falls → ℕ → Type 0
AreLow falls level = (i : ℕ) → (slice_index falls.tails.items i ≤ level) × (slice_index falls.heads.items i ≤ level)

-- how far one search lowers potentials at most
abbrev pub one_search : ℕ
one_search = 1500000000000

-- how many are true
abbrev pub seen_count : List Bool → ℕ
seen_count [] = 0
seen_count (b ∷ bs) = cond b 1 0 + seen_count bs

-- a tight matching under feasible potentials, as it is kept
pub record IsSeat (net : Net) (falls : Falls) (placing : Placing) (m : Matching) : Type 0 where
  pub kept : IsKeptAs net.nodes placing m
  pub held : IsHeld net.nodes net.most m.to m.from m.spare m.room
  pub tight : IsTightMatching net (potentials_of falls) m.to m.from m.spare
  pub places : HasPlaces net.nodes falls
  pub feasible : AreFeasible net (potentials_of falls)
  pub few : net.most ≤ most_places

abbrev pub IsSeated : Net → Falls → Placing → Type 0
IsSeated net falls placing = (m : Matching) × IsSeat net falls placing m

-- potentials during a search: those of what is not seen are as high as before it
pub record IsLow (falls : Falls) (growth : Growth) (level : ℕ) : Type 0 where
  pub most : level ≤ 5000000000000000
  pub all : AreLow falls (level + one_search)
  pub tails : (x : ℕ) → slice_index_or growth.rows.items x false ≡ false → slice_index falls.tails.items x ≤ level
  pub heads : (v : ℕ) → slice_index_or growth.columns.items v false ≡ false → slice_index falls.heads.items v ≤ level

abbrev pub IsDeep : Growth → Type 0
IsDeep growth = (x : ℕ) → slice_index growth.depth.items x ≤ seen_count growth.columns.items

-- a tree as it is kept
pub record IsTreed (net : Net) (falls : Falls) (placing : Placing) (growth : Growth) (target : Target) (m : Matching) : Type 0 where
  pub seat : IsSeat net falls placing m
  pub sized : IsSized net.nodes growth
  pub deep : IsDeep growth
  pub low : IsLow falls growth target.level
  pub tree : IsTree net (potentials_of falls) m (aim_of target) (tree_of growth)

abbrev pub IsTreedAs : Net → Falls → Placing → Growth → Target → Type 0
IsTreedAs net falls placing growth target = (m : Matching) × IsTreed net falls placing growth target m

-- a tree one column of which is seen while its rows may not be
pub record IsOpening (net : Net) (p : Potentials) (m : Matching) (a : Aim) (tree : Tree) (v : ℕ) : Type 0 where
  pub root_in : a.root < net.nodes
  pub root_free : net.nodes < m.to a.root
  pub root_seen : tree.rows a.root ≡ true
  pub fixed_in : a.fixed ≤ net.nodes
  pub reached : (x : ℕ) → x ≤ net.nodes → tree.rows x ≡ true → x ≢ a.root → IsReached net m a tree x
  pub within : v ≤ net.nodes
  pub opened : tree.columns v ≡ true
  pub step : IsStep net p a tree v
  pub held : v < net.nodes → m.from v ≤ net.nodes
  pub no_room : v ≡ net.nodes → m.room ≡ 0
  pub full : (w : ℕ) → w ≤ net.nodes → tree.columns w ≡ true → w ≢ v → IsFull net p m a tree w
  pub offered : (x w c : ℕ) → x ≤ net.nodes → w ≤ net.nodes → tree.rows x ≡ true → tree.columns w ≡ false → (x ≡ a.root → w < a.limit) →
      net.arc x w ≡ Some c → IsOffered net p tree x w c
  pub kept : (w : ℕ) (d : ℤ) → w ≤ net.nodes → tree.columns w ≡ false → tree.least w ≡ Some d → IsKept net p a tree w d

-- and as it is kept
pub record IsOpened (net : Net) (falls : Falls) (placing : Placing) (growth : Growth) (target : Target) (v : ℕ) (m : Matching) : Type 0
  where
    pub seat : IsSeat net falls placing m
    pub sized : IsSized net.nodes growth
    pub deep : IsDeep growth
    pub low : IsLow falls growth target.level
    pub above : slice_index growth.depth.items (slice_index growth.via.items v) < seen_count growth.columns.items
    pub opening : IsOpening net (potentials_of falls) m (aim_of target) (tree_of growth) v

abbrev pub IsOpenedAs : Net → Falls → Placing → Growth → Target → ℕ → Type 0
IsOpenedAs net falls placing growth target v = (m : Matching) × IsOpened net falls placing growth target v m

-- what a row offers the columns
abbrev pub row_offer : Net → Falls → Growth → ℕ → ℕ → Option ℕ
row_offer net falls growth x v =
    offer_of (slice_index_or growth.columns.items v false) (net.arc x v) (slice_index falls.heads.items v) (slice_index falls.tails.items x)

-- a row is seen, and has made its offers
pub record IsReachedBy (net : Net) (falls : Falls) (x by : ℕ) (old new : Growth) : Type 0 where
  pub rows : new.rows.items ≡ slice_set old.rows.items x true
  pub columns : new.columns.items ≡ old.columns.items
  pub reached : new.by.items ≡ slice_set old.by.items x by
  pub depth : new.depth.items ≡ slice_set old.depth.items x (slice_index old.depth.items (slice_index old.via.items by) + 1)
  pub scanned : IsScanned (net.nodes + 1) x (row_offer net falls old x) old.least.items new.least.items old.via.items new.via.items

-- a tree that cannot grow
pub record IsStuckBy (net : Net) (falls : Falls) (placing : Placing) (target : Target) (m : Matching) (tree : Tree) : Type 0 where
  pub seat : IsSeat net falls placing m
  pub grown : IsTree net (potentials_of falls) m (aim_of target) tree
  pub halted : (v : ℕ) (d : ℤ) → v ≤ net.nodes → tree.columns v ≡ false → tree.least v ≡ Some d → (target.limit ≤ net.nodes) × (pos 0 <ℤ d)

abbrev pub IsStuck : Net → Falls → Placing → Target → Type 0
IsStuck net falls placing target = (m : Matching) × (tree : Tree) × IsStuckBy net falls placing target m tree

-- the root has a column that it may have, and rows that are not to be moved have theirs
pub record IsRooted (n : ℕ) (target : Target) (old new : Placing) : Type 0 where
  pub framed : IsFramed n target old.to.items new.to.items
  pub allowed : slice_index new.to.items target.root < target.limit
  pub within : slice_index new.to.items target.root ≤ n
