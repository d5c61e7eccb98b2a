-- The lists of the nodes.
use Rattle.std.proofs.Common.{◌≡◌, ℕ, ℤ, ◌+◌, ◌≤◌, ◌<◌, ◌⊎◌, inl, inr, Bool, true, false, cond, zero, suc, List, [], ◌∷◌, ◌++◌, length, refl, sym, ap, ◌∙◌, subst, arith, append_assoc, add-one, length-append}
use Rattle.std.specs.Prelude.{Option, Some, None, fold, filter, unwrap_or}
use Rattle.std.specs.List.{list_any}
use Rattle.std.proofs.lemmas.List.{append-nil}
use Rattle.cover_core.specs.Labels.{Labelling, Held}
use Rattle.label_search.specs.declared.node.Node.{Node}
use Rattle.label_search.specs.Lists.{place_list, list_before, held_of, helds_from}
use Rattle.label_search.specs.Nodes.{is_beaten_node, stays_beside, insert_node, node_of, next_nodes}
use Rattle.label_search.proofs.Insertions.{In, In-left, In-right, In-split, filter-In, insert-from, AreRanked}

abbrev pub helds_at : {L : Type 0} → List (Held L) → List (Node L) → List (Held L)
helds_at hs [] = []
helds_at hs (n ∷ ns) = held_of hs n ∷ helds_at hs ns

abbrev pub AllEarly : {L : Type 0} → ℕ → List (Node L) → Type 0
AllEarly k [] = Unit {0}
AllEarly k (n ∷ ns) = (n.before ≤ k) × AllEarly k ns

pub place_list-append : {L : Type 0} (hs gs : List (Held L)) (i : ℕ) → i < length hs → place_list (hs ++ gs) i ≡ place_list hs i
place_list-append [] gs i h = absurd (omega arith)
place_list-append (x ∷ hs) gs zero h = refl
place_list-append (x ∷ hs) gs (suc i) h = place_list-append hs gs i (omega arith)

pub place_list-seam : {L : Type 0} (hs : List (Held L)) (h : Held L) (gs : List (Held L)) → place_list (hs ++ h ∷ gs) (length hs) ≡ h.0
place_list-seam [] h gs = refl
place_list-seam (x ∷ hs) h gs = place_list-seam hs h gs

pub list_before-append : {L : Type 0} (hs gs : List (Held L)) (r : ℕ) → r ≤ length hs → list_before (hs ++ gs) r ≡ list_before hs r
list_before-append hs gs zero h = refl
list_before-append hs gs (suc i) h = place_list-append hs gs i (omega arith)

pub helds_from-append : {L : Type 0} (hs : List (Held L)) (ns ms : List (Node L)) →
    helds_from hs (ns ++ ms) ≡ helds_from (helds_from hs ns) ms
helds_from-append hs [] ms = refl
helds_from-append hs (n ∷ ns) ms = helds_from-append (hs ++ held_of hs n ∷ []) ns ms

-- The lists of a level are made from the lists before it alone: each of its nodes extends a node that stands before the level
-- (`AllEarly`), so its list is the same whether the level's other nodes are there already or not. Thus a level can be spoken of as a
-- whole, as the lists so far and the level's behind them.
pub helds_from-level : {L : Type 0} (hs gs : List (Held L)) (ms : List (Node L)) → AllEarly (length hs) ms →
    helds_from (hs ++ gs) ms ≡ (hs ++ gs) ++ helds_at hs ms
helds_from-level hs gs [] h = sym (append-nil (hs ++ gs))
helds_from-level {L = L} hs gs (n ∷ ns) h =
    let same : held_of (hs ++ gs) n ≡ held_of hs n =
    ap (λ l. let p : Held L = (l ++ n.item ∷ [], n.label) in p) (list_before-append hs gs n.before h.0) in
    ap (λ x. helds_from ((hs ++ gs) ++ x ∷ []) ns) same ∙
    ap (λ l. helds_from l ns) (append_assoc hs gs (held_of hs n ∷ [])) ∙
    helds_from-level hs (gs ++ held_of hs n ∷ []) ns h.1 ∙
    ap (λ l. l ++ helds_at hs ns) (sym (append_assoc hs gs (held_of hs n ∷ []))) ∙
    append_assoc (hs ++ gs) (held_of hs n ∷ []) (helds_at hs ns)

abbrev pub labels_of : {L : Type 0} → List (Node L) → List L
labels_of [] = []
labels_of (n ∷ ns) = n.label ∷ labels_of ns

abbrev pub held_labels : {L : Type 0} → List (Held L) → List L
held_labels [] = []
held_labels (h ∷ hs) = h.1 ∷ held_labels hs

pub held_labels-append : {L : Type 0} (hs gs : List (Held L)) → held_labels (hs ++ gs) ≡ held_labels hs ++ held_labels gs
held_labels-append [] gs = refl
held_labels-append (h ∷ hs) gs = ap (λ l. h.1 ∷ l) (held_labels-append hs gs)

pub held_labels-from : {L : Type 0} (hs : List (Held L)) (ns : List (Node L)) →
    held_labels (helds_from hs ns) ≡ held_labels hs ++ labels_of ns
held_labels-from hs [] = sym (append-nil (held_labels hs))
held_labels-from hs (n ∷ ns) =
    held_labels-from (hs ++ held_of hs n ∷ []) ns ∙ ap (λ l. l ++ labels_of ns) (held_labels-append hs (held_of hs n ∷ [])) ∙
    append_assoc (held_labels hs) (n.label ∷ []) (labels_of ns)

-- the extensions, from the labels alone
abbrev pub next_from : {L : Type 0} → Labelling L → ℕ → ℕ → List L → List (Node L)
next_from w item place [] = []
next_from w item place (a ∷ rest) = node_of item (place + 1) (w.extend a item) ++ next_from w item (place + 1) rest

pub next_nodes-is : {L : Type 0} (w : Labelling L) (item place : ℕ) (ns : List (Node L)) →
    next_nodes w item place ns ≡ next_from w item place (labels_of ns)
next_nodes-is w item place [] = refl
next_nodes-is w item place (n ∷ ns) = ap (λ l. node_of item (place + 1) (w.extend n.label item) ++ l) (next_nodes-is w item (place + 1) ns)

-- what a node of a label is
pub record IsNodeOf {L : Type 0} (item before : ℕ) (a : L) (c : Node L) : Type 0 where
  pub label : c.label ≡ a
  pub item_is : c.item ≡ item
  pub before_is : c.before ≡ before

pub In-node_of : {L : Type 0} (item before : ℕ) (o : Option L) (a : L) → o ≡ Some a →
    (c : Node L) × In c (node_of item before o) × IsNodeOf item before a c
In-node_of item before None a e = absurd (cc)
In-node_of {L = L} item before (Some b) a e =
    let f : Option L → L = λ o. unwrap_or o b in
    (record { label = b; item = item; before = before }, inl refl, record { label = ap f e; item_is = refl; before_is = refl })

pub from-node_of : {L : Type 0} (item before : ℕ) (o : Option L) (c : Node L) → In c (node_of item before o) →
    (o ≡ Some c.label) × (c.item ≡ item) × (c.before ≡ before)
from-node_of item before None c h = absurd h
from-node_of {L = L} item before (Some a) c h =
    elim h [
      | inl e ↦ (sym (ap (λ (n : Node L). Some n.label) e), ap (λ (n : Node L). n.item) e, ap (λ (n : Node L). n.before) e)
      | inr
          none ↦ absurd none
    ]

-- Each extension of a kept list by the item is among the candidates, with a rank that names the list that it extends. The candidates
-- are made by walking the labels alone, counting places; the induction has the lists that were passed (`gs`), as many as the place
-- says, so that the rank of a candidate is read in the list of all. `from-next` is the way back.
pub In-next : {L : Type 0} (w : Labelling L) (item : ℕ) (gs rest : List (Held L)) (h : Held L) (b : L) → In h rest →
    w.extend h.1 item ≡ Some b →
    (c : Node L) × In c (next_from w item (length gs) (held_labels rest)) × (c.label ≡ b) × (c.item ≡ item)
    × (list_before (gs ++ rest) c.before ≡ h.0)
In-next w item gs [] h b has e = absurd has
In-next {L = L} w item gs (r ∷ rest) h b has e =
    elim has [
      | inl same ↦
          let made : w.extend r.1 item ≡ Some b = ap (λ (x : Held L). w.extend x.1 item) (sym same) ∙ e in
          let (c, there, is) = In-node_of item (length gs + 1) (w.extend r.1 item) b made in
          let place : list_before (gs ++ r ∷ rest) (length gs + 1) ≡ h.0 =
          rw add-one (place_list-seam gs r rest ∙ ap (λ (x : Held L). x.0) (sym same)) in (
            c,
            In-left c (node_of item (length gs + 1) (w.extend r.1 item)) (next_from w item (length gs + 1) (held_labels rest)) there,
            is.label,
            is.item_is,
            ap (list_before (gs ++ r ∷ rest)) is.before_is ∙ place,
          )
      | inr later ↦
          let (c, there, label, item_is, list) = In-next w item (gs ++ r ∷ []) rest h b later e in
          let longer : length (gs ++ r ∷ []) ≡ length gs + 1 = length-append {A = Held L} gs (r ∷ []) in
          let P : ℕ → Type 0 = λ k. In c (next_from w item k (held_labels rest)) in
          let Q : List (Held L) → Type 0 = λ l. list_before l c.before ≡ h.0 in (
            c,
            In-right c (node_of item (length gs + 1) (w.extend r.1 item)) (next_from w item (length gs + 1) (held_labels rest))
                (subst P longer there),
            label,
            item_is,
            subst Q (append_assoc gs (r ∷ []) rest) list,
          )
    ]

-- and each one that is there is one
pub record IsNext {L : Type 0} (w : Labelling L) (item : ℕ) (gs rest : List (Held L)) (c : Node L) : Type 0 where
  pub from : Held L
  pub there : In from rest
  pub made : w.extend from.1 item ≡ Some c.label
  pub item_is : c.item ≡ item
  pub list : list_before (gs ++ rest) c.before ≡ from.0
  pub above : length gs + 1 ≤ c.before
  pub below : c.before ≤ length gs + length rest

pub from-next : {L : Type 0} (w : Labelling L) (item : ℕ) (gs rest : List (Held L)) (c : Node L) →
    In c (next_from w item (length gs) (held_labels rest)) → IsNext w item gs rest c
from-next w item gs [] c has = absurd has
from-next {L = L} w item gs (r ∷ rest) c has =
    elim (In-split c (node_of item (length gs + 1) (w.extend r.1 item)) (next_from w item (length gs + 1) (held_labels rest)) has) [
      | inl here ↦
          let (made, item_is, before_is) = from-node_of item (length gs + 1) (w.extend r.1 item) c here in
          let seam : list_before (gs ++ r ∷ rest) (length gs + 1) ≡ r.0 = rw add-one (place_list-seam gs r rest) in
          record {
            from = r;
            there = inl refl;
            made = made;
            item_is = item_is;
            list = ap (list_before (gs ++ r ∷ rest)) before_is ∙ seam;
            above = omega arith;
            below = omega arith;
          }
      | inr later ↦
          let longer : length (gs ++ r ∷ []) ≡ length gs + 1 = length-append {A = Held L} gs (r ∷ []) in
          let P : ℕ → Type 0 = λ k. In c (next_from w item k (held_labels rest)) in
          let n = from-next w item (gs ++ r ∷ []) rest c (subst P (sym longer) later) in
          let Q : List (Held L) → Type 0 = λ l. list_before l c.before ≡ n.from.0 in
          record {
            from = n.from;
            there = inr n.there;
            made = n.made;
            item_is = n.item_is;
            list =
                subst Q (append_assoc gs (r ∷ []) rest) n.list;
            above = omega (arith, n.above);
            below = omega (arith, n.below);
          }
    ]

pub AreRanked-append : {L : Type 0} (xs ys : List (Node L)) → AreRanked xs → AreRanked ys →
    ((x y : Node L) → In x xs → In y ys → x.before ≤ y.before) → AreRanked (xs ++ ys)
AreRanked-append [] ys rx ry h = ry
AreRanked-append (x ∷ xs) ys rx ry h = (
  (λ m has. elim (In-split m xs ys has) [ inl l ↦ rx.0 m l | inr r ↦ h x m (inl refl) r ]),
  AreRanked-append xs ys rx.1 ry (λ a b ha hb. h a b (inr ha) hb),
)

pub AreRanked-filter : {L : Type 0} (p : Node L → Bool) (xs : List (Node L)) → AreRanked xs → AreRanked (filter p xs)
AreRanked-filter p [] r = tt
AreRanked-filter p (x ∷ xs) r =
    elim (p x) as (λ b. AreRanked (cond b (x ∷ filter p xs) (filter p xs))) [
      | true ↦ ((λ m has. r.0 m (filter-In p m xs has)), AreRanked-filter p xs r.1)
      | false ↦ AreRanked-filter p xs r.1
    ]

pub AreRanked-insert : {L : Type 0} (good : L → L → Bool) (value_at : L → ℤ) (nodes : List (Node L)) (n : Node L) → AreRanked nodes →
    ((m : Node L) → In m nodes → m.before ≤ n.before) → AreRanked (insert_node good value_at nodes n)
AreRanked-insert {L = L} good value_at nodes n r early =
    let p : Node L → Bool = stays_beside good value_at n.label in
    elim (list_any (is_beaten_node good n.label) nodes) as (λ b. AreRanked (cond b nodes (filter p nodes ++ n ∷ []))) [
      | true ↦ r
      | false ↦ AreRanked-append (filter p nodes) (n ∷ []) (AreRanked-filter p nodes r) ((λ m none. absurd none), tt)
          (λ x y hx hy. elim hy [
            | inl e ↦ (let before = early x (filter-In p x nodes hx) in let same = ap (λ (z : Node L). z.before) e in
                omega arith)
            | inr none ↦ absurd none
          ])
    ]

-- Insertions keep the nodes of a level in rising order of the nodes that they extend: a new node goes last, all that are there are
-- of earlier or equal rank, and taking nodes out disturbs no order. So a level comes out in the order of its candidates, without
-- being sorted.
pub inserted-ranked : {L : Type 0} (good : L → L → Bool) (value_at : L → ℤ) (new old : List (Node L)) → AreRanked new → AreRanked old →
    ((m n : Node L) → In m old → In n new → m.before ≤ n.before) → AreRanked (fold (insert_node good value_at) old new)
inserted-ranked good value_at [] old rn ro h = ro
inserted-ranked {L = L} good value_at (c ∷ cs) old rn ro h =
    inserted-ranked good value_at cs (insert_node good value_at old c) rn.1
    (AreRanked-insert good value_at old c ro (λ m hm. h m c hm (inl refl)))
    (λ m x hm hx. elim (insert-from good value_at old c m hm) [
      | inl o ↦ h m x o (inr hx)
      | inr e ↦
          (let first = rn.0 x hx in let same = ap (λ (z : Node L). z.before) e in omega arith)
    ])

pub inserted-from : {L : Type 0} (good : L → L → Bool) (value_at : L → ℤ) (new old : List (Node L)) (m : Node L) →
    In m (fold (insert_node good value_at) old new) → In m old ⊎ In m new
inserted-from good value_at [] old m has = inl has
inserted-from good value_at (c ∷ cs) old m has =
    elim (inserted-from good value_at cs (insert_node good value_at old c) m has) [
      | inl step ↦ elim (insert-from good value_at old c m step) [ inl o ↦ inl o | inr e ↦ inr (inl e) ]
      | inr later ↦ inr (inr later)
    ]
