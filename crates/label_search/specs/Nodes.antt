-- Promise: the nodes that a search by labels keeps.
use Rattle.std.specs.Prelude.{ℕ, ℤ, ◌+◌, int_lt, Bool, cond, not, ◌&&◌, zero, suc, List, [], ◌∷◌, ◌++◌, Option, Some, None, drop, filter, fold, take}
use Rattle.std.specs.List.{list_any}
use Rattle.label_search.specs.declared.node.Node.{Node}
use Rattle.label_search.specs.declared.node.Best.{Best}
use Rattle.cover_core.specs.Labels.{Labelling}

-- a node beats a label: its own is at least as good
abbrev pub is_beaten_node : {L : Type 0} → (L → L → Bool) → L → Node L → Bool
is_beaten_node good b n = good n.label b

-- a node stays beside a label that does not beat it
abbrev pub stays_beside : {L : Type 0} → (L → L → Bool) → (L → ℤ) → L → Node L → Bool
stays_beside good value_at a n = not (good a n.label && int_lt (value_at a) (value_at n.label))

-- a list without the item at a place, unless it passes a test
abbrev pub without : {X : Type 0} → (X → Bool) → ℕ → List X → List X
without test place xs = take place xs ++ (filter test (take 1 (drop place xs)) ++ drop (place + 1) xs)

-- a node is put last, unless another one beats it; those of a greater value to which it is at least as good are taken out
abbrev pub insert_node : {L : Type 0} → (L → L → Bool) → (L → ℤ) → List (Node L) → Node L → List (Node L)
insert_node good value_at nodes n =
    cond (list_any (is_beaten_node good n.label) nodes) nodes (filter (stays_beside good value_at n.label) nodes ++ n ∷ [])

-- the node of a label, where there is one
abbrev pub node_of : {L : Type 0} → ℕ → ℕ → Option L → List (Node L)
node_of item before None = []
node_of item before (Some a) = record { label = a; item = item; before = before } ∷ []

-- the extensions of nodes, the first of which has this place
abbrev pub next_nodes : {L : Type 0} → Labelling L → ℕ → ℕ → List (Node L) → List (Node L)
next_nodes w item place [] = []
next_nodes w item place (n ∷ ns) = node_of item (place + 1) (w.extend n.label item) ++ next_nodes w item (place + 1) ns

-- the nodes of the lists that end with an item, from the nodes of the items before it, in their order
abbrev pub level_of : {L : Type 0} → Labelling L → (L → L → Bool) → (L → ℤ) → List (Node L) → ℕ → List (Node L)
level_of w good value_at nodes item =
    fold (insert_node good value_at) [] (node_of item 0 (w.start item) ++ next_nodes w item 0 nodes)

-- the nodes of all lists whose items are below n
abbrev pub nodes_below : {L : Type 0} → Labelling L → (L → L → Bool) → (L → ℤ) → ℕ → List (Node L)
nodes_below w good value_at zero = []
nodes_below w good value_at (suc n) = nodes_below w good value_at n ++ level_of w good value_at (nodes_below w good value_at n) n

-- the better of what was found so far and a node's value: the smaller one, and of equal ones the earlier
abbrev pub better_of : Option Best → Option ℤ → ℕ → Option Best
better_of best None place = best
better_of None (Some value) place = Some (record { place = place; value = value })
better_of (Some best) (Some value) place = cond (int_lt value best.value) (Some (record { place = place; value = value })) (Some best)

-- the best of nodes, the first of which has this place
abbrev pub best_from : {L : Type 0} → (L → Option ℤ) → ℕ → Option Best → List (Node L) → Option Best
best_from close place best [] = best
best_from close place best (n ∷ ns) = best_from close (place + 1) (better_of best (close n.label) place) ns

-- the labels of all nodes are sound
abbrev pub AllSound : {L : Type 0} → (L → Type 0) → List (Node L) → Type 0
AllSound sound [] = Unit {0}
AllSound sound (n ∷ ns) = sound n.label × AllSound sound ns

-- the values of the labels of nodes
abbrev pub values_of : {L : Type 0} → (L → ℤ) → List (Node L) → List ℤ
values_of value_at [] = []
values_of value_at (n ∷ ns) = value_at n.label ∷ values_of value_at ns
