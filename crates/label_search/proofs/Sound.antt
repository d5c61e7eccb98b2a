-- The labels of all nodes are sound.
use Rattle.std.proofs.Common.{◌≡◌, ℕ, ℤ, ◌+◌, ◌<◌, Bool, true, false, cond, zero, suc, List, [], ◌∷◌, ◌++◌, length, get_or, refl, subst, sym, arith}
use Rattle.std.specs.Prelude.{Option, Some, None, fold, filter}
use Rattle.std.specs.List.{list_any}
use Rattle.cover_core.specs.Labels.{Labelling}
use Rattle.label_search.specs.declared.node.Node.{Node}
use Rattle.label_search.specs.Laws.{IsSafe}
use Rattle.label_search.specs.Nodes.{is_beaten_node, stays_beside, insert_node, node_of, next_nodes, level_of, nodes_below, AllSound}

pub AllSound-get : {L : Type 0} (sound : L → Type 0) (ns : List (Node L)) (i : ℕ) (n : Node L) → AllSound sound ns → i < length ns →
    n ≡ get_or ns i n → sound n.label
AllSound-get sound [] i n h below is = absurd (omega arith)
AllSound-get {L = L} sound (m ∷ ns) zero n h below is = let P : Node L → Type 0 = λ x. sound x.label in subst P (sym is) h.0
AllSound-get sound (m ∷ ns) (suc i) n h below is = AllSound-get sound ns i n h.1 (omega arith) is

pub AllSound-append : {L : Type 0} (sound : L → Type 0) (xs ys : List (Node L)) → AllSound sound xs →
    AllSound sound ys → AllSound sound (xs ++ ys)
AllSound-append sound [] ys h k = k
AllSound-append sound (x ∷ xs) ys h k = (h.0, AllSound-append sound xs ys h.1 k)

AllSound-filter : {L : Type 0} (sound : L → Type 0) (p : Node L → Bool) (xs : List (Node L)) → AllSound sound xs →
    AllSound sound (filter p xs)
AllSound-filter sound p [] h = tt
AllSound-filter sound p (x ∷ xs) h =
    elim (p x) as (λ b. AllSound sound (cond b (x ∷ filter p xs) (filter p xs))) [
      | true ↦ (h.0, AllSound-filter sound p xs h.1)
      | false ↦ AllSound-filter sound p xs h.1
    ]

AllSound-insert : {L : Type 0} (sound : L → Type 0) (good : L → L → Bool) (value_at : L → ℤ) (nodes : List (Node L)) (n : Node L) →
    AllSound sound nodes → sound n.label → AllSound sound (insert_node good value_at nodes n)
AllSound-insert {L = L} sound good value_at nodes n h k =
    elim (list_any (is_beaten_node good n.label) nodes) as
    (λ b. AllSound sound (cond b nodes (filter (stays_beside good value_at n.label) nodes ++ n ∷ []))) [
      | true ↦ h
      | false ↦ AllSound-append sound (filter (stays_beside good value_at n.label) nodes) (n ∷ [])
          (AllSound-filter sound (stays_beside good value_at n.label) nodes h) (k, tt)
    ]

pub AllSound-fold : {L : Type 0} (sound : L → Type 0) (good : L → L → Bool) (value_at : L → ℤ) (new old : List (Node L)) →
    AllSound sound old → AllSound sound new → AllSound sound (fold (insert_node good value_at) old new)
AllSound-fold sound good value_at [] old h k = h
AllSound-fold sound good value_at (n ∷ ns) old h k =
    AllSound-fold sound good value_at ns (insert_node good value_at old n) (AllSound-insert sound good value_at old n h k.0) k.1

pub AllSound-node_of : {L : Type 0} (sound : L → Type 0) (item before : ℕ) (o : Option L) → ((a : L) → o ≡ Some a → sound a) →
    AllSound sound (node_of item before o)
AllSound-node_of sound item before None h = tt
AllSound-node_of sound item before (Some a) h = (h a refl, tt)

AllSound-next : {L : Type 0} (w : Labelling L) (sound : L → Type 0) → IsSafe w sound → (item place : ℕ) (ns : List (Node L)) →
    AllSound sound ns → AllSound sound (next_nodes w item place ns)
AllSound-next w sound safe item place [] h = tt
AllSound-next w sound safe item place (n ∷ ns) h =
    AllSound-append sound (node_of item (place + 1) (w.extend n.label item)) (next_nodes w item (place + 1) ns)
    (AllSound-node_of sound item (place + 1) (w.extend n.label item) (λ a e. safe.steps n.label a item h.0 e))
    (AllSound-next w sound safe item (place + 1) ns h.1)

pub AllSound-below : {L : Type 0} (w : Labelling L) (good : L → L → Bool) (value_at : L → ℤ) (sound : L → Type 0) → IsSafe w sound →
    (q : ℕ) → AllSound sound (nodes_below w good value_at q)
AllSound-below w good value_at sound safe zero = tt
AllSound-below {L = L} w good value_at sound safe (suc q) =
    let nodes : List (Node L) = nodes_below w good value_at q in
    let before = AllSound-below w good value_at sound safe q in
    AllSound-append sound nodes (level_of w good value_at nodes q) before
    (AllSound-fold sound good value_at (node_of q 0 (w.start q) ++ next_nodes w q 0 nodes) [] tt
    (AllSound-append sound (node_of q 0 (w.start q)) (next_nodes w q 0 nodes)
    (AllSound-node_of sound q 0 (w.start q) (λ a e. safe.starts q a e))
    (AllSound-next w sound safe q 0 nodes before)))

pub AllSound-is : {L : Type 0} (w : Labelling L) (good : L → L → Bool) (value_at : L → ℤ) (sound : L → Type 0) → IsSafe w sound →
    (q : ℕ) (nodes : List (Node L)) →
    nodes ≡ nodes_below w good value_at q → AllSound sound nodes
AllSound-is {L = L} w good value_at sound safe q nodes is = let P : List (Node L) → Type 0 = λ l. AllSound sound l in
    subst P (sym is) (AllSound-below w good value_at sound safe q)
