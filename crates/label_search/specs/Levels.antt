-- Promise: the nodes of a search, level by level: those of an item stand together.
use Rattle.std.specs.Prelude.{◌≡◌, ℕ, ℤ, pos, ◌≤ℤ◌, ◌<ℤ◌, ◌≤◌, ◌-◌, List, [], ◌∷◌, ◌++◌, length, take, drop, Bool, None, fold}
use Rattle.cover_core.specs.Labels.{Labelling}
use Rattle.label_search.specs.declared.node.Node.{Node}
use Rattle.label_search.specs.declared.node.Level.{Level}
use Rattle.label_search.specs.Limits.{passed}
use Rattle.label_search.specs.Nodes.{AllSound, insert_node, next_nodes, node_of}

-- a value of 64 bits that is at least the least one, and one that is above the most
abbrev pub IsFrom : ℤ → ℤ → Type 0
IsFrom least value = (least ≤ℤ value) × (value ≤ℤ pos 9223372036854775807)

abbrev pub IsAbove : ℤ → ℤ → Type 0
IsAbove most value = (most <ℤ value) × (value ≤ℤ pos 9223372036854775807)

-- no label of a list that ends with the item before has an extension by the item that passes, and none of those with a value above the most
abbrev pub NoneFollows : {L : Type 0} → Labelling L → (L → Type 0) → (L → ℕ) → (L → Bool) → ℕ → ℕ → Type 0
NoneFollows {L} w sound last test before item = (a : L) → sound a → last a ≡ before → passed test (w.extend a item) ≡ None

abbrev pub NoneFollowsAbove : {L : Type 0} → Labelling L → (L → Type 0) → (L → ℕ) → (L → ℤ) → (L → Bool) → ℕ → ℕ → ℤ → Type 0
NoneFollowsAbove {L} w sound last value_at test before item most =
    (a : L) → sound a → last a ≡ before → IsAbove most (value_at a) → passed test (w.extend a item) ≡ None

-- no label has an extension by the item that passes, and none of those with a value above the most
abbrev pub NoneReaches : {L : Type 0} → Labelling L → (L → Type 0) → (L → Bool) → ℕ → Type 0
NoneReaches {L} w sound test item = (a : L) → sound a → passed test (w.extend a item) ≡ None

abbrev pub NoneReachesAbove : {L : Type 0} → Labelling L → (L → Type 0) → (L → ℤ) → (L → Bool) → ℕ → ℤ → Type 0
NoneReachesAbove {L} w sound value_at test item most = (a : L) → sound a → IsAbove most (value_at a) → passed test (w.extend a item) ≡ None

-- no label of the nodes with a value above the most has an extension by the item that passes
abbrev pub AreUnfollowed : {L : Type 0} → Labelling L → (L → ℤ) → (L → Bool) → ℕ → ℤ → List (Node L) → Type 0
AreUnfollowed w value_at test item most nodes = AllSound (λ a. IsAbove most (value_at a) → passed test (w.extend a item) ≡ None) nodes

-- a sound label of a list that ends with an item
abbrev pub EndsAt : {L : Type 0} → (L → Type 0) → (L → ℕ) → ℕ → L → Type 0
EndsAt sound last item a = sound a × (last a ≡ item)

-- the labels of all nodes have values of 64 bits that are at least the least one
abbrev pub AllAtLeast : {L : Type 0} → (L → ℤ) → ℤ → List (Node L) → Type 0
AllAtLeast value_at least nodes = AllSound (λ a. IsFrom least (value_at a)) nodes

-- a sound label of a level: its list ends with the level's item, and its value is at least the level's least
abbrev pub IsOfLevel : {L : Type 0} → (L → Type 0) → (L → ℕ) → (L → ℤ) → Level → L → Type 0
IsOfLevel sound last value_at level a = sound a × (last a ≡ level.item) × IsFrom level.least (value_at a)

-- the nodes from a place on are those of the levels, one after another
abbrev pub AreLevels : {L : Type 0} → (L → Type 0) → (L → ℕ) → (L → ℤ) → ℕ → List (Node L) → List Level → Type 0
AreLevels sound last value_at place nodes [] = length nodes ≡ 0
AreLevels sound last value_at place nodes (l ∷ ls) =
    (place ≤ l.end) × ((l.end - place) ≤ length nodes) × AllSound (IsOfLevel sound last value_at l) (take (l.end - place) nodes) ×
    AreLevels sound last value_at l.end (drop (l.end - place) nodes) ls

-- what a level has so far: the start, and the extensions of the nodes before a place
abbrev pub level_so_far : {L : Type 0} → Labelling L → (L → L → Bool) → (L → ℤ) → List (Node L) → ℕ → ℕ → List (Node L)
level_so_far w good value_at nodes item place =
    fold (insert_node good value_at) [] (node_of item 0 (w.start item) ++ next_nodes w item 0 (take place nodes))
