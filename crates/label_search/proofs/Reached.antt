-- The nodes of the lists below each item are a cover in order.
use Rattle.std.proofs.Common.{◌≡◌, ℕ, ℤ, ◌+◌, ◌≤◌, ◌<◌, ◌⊎◌, inl, inr, Bool, false, zero, suc, List, [], ◌∷◌, ◌++◌, length, reverse, refl, sym, ap, ◌∙◌, subst, arith, length-append}
use Rattle.std.specs.Prelude.{Option, Some, None, fold}
use Rattle.std.specs.Ordering.{is_gt, nat_cmp}
use Rattle.std.specs.Cmp.Lexicographic.{slice_cmp}
use Rattle.std.proofs.lemmas.Bool.{cases_lt}
use Rattle.cover_core.specs.FirstLeast.{IsNotAfter, backward_cmp}
use Rattle.cover_core.specs.Labels.{Labelling, Held, label_after, label_of, held, hold, Beats, IsKept, IsValued, IsCover, IsFirstKept, IsFirstClosed}
use Rattle.cover_core.proofs.Order.{IsNotAfter-append, IsNotAfter-same, backward_cmp-last}
use Rattle.cover_core.proofs.Labels.{hold-Some, first_of_all, covers, beats-kept, label_of-held}
use Rattle.label_search.specs.declared.node.Node.{Node}
use Rattle.label_search.specs.Laws.{IsStepwise, GoodAs}
use Rattle.label_search.specs.Nodes.{insert_node, node_of, level_of, nodes_below}
use Rattle.label_search.proofs.Insertions.{In, In-left, In-right, In-split, AreRanked, inserted-covers}
use Rattle.std.proofs.lemmas.List.{append-nil}
use Rattle.label_search.specs.Lists.{place_list, list_before, held_of, helds_from}
use Rattle.label_search.proofs.Helds.{helds_from-append, helds_at, AllEarly, labels_of, held_labels, held_labels-from, next_from, next_nodes-is, helds_from-level, In-node_of, from-node_of, In-next, from-next, AreRanked-append, inserted-ranked, inserted-from}

-- a list beside its label
abbrev pub list_and_label : (L : Type 0) → List ℕ → L → Held L
list_and_label L l a = (l, a)

abbrev pub AreSorted : {L : Type 0} → List (Held L) → Type 0
AreSorted [] = Unit {0}
AreSorted {L} (h ∷ hs) = ((g : Held L) → In g hs → IsNotAfter h.0 g.0) × AreSorted hs

abbrev pub EndsWith : ℕ → List ℕ → Type 0
EndsWith x xs = (ys : List ℕ) × (xs ≡ ys ++ x ∷ [])

pub AreSorted-append : {L : Type 0} (xs ys : List (Held L)) → AreSorted xs → AreSorted ys →
    ((x y : Held L) → In x xs → In y ys → IsNotAfter x.0 y.0) → AreSorted (xs ++ ys)
AreSorted-append [] ys sx sy h = sy
AreSorted-append (x ∷ xs) ys sx sy h = (
  (λ g has. elim (In-split g xs ys has) [ inl l ↦ sx.0 g l | inr r ↦ h x g (inl refl) r ]),
  AreSorted-append xs ys sx.1 sy (λ a b ha hb. h a b (inr ha) hb),
)

pub place-In : {L : Type 0} (hs : List (Held L)) (i : ℕ) → i < length hs → (g : Held L) × In g hs × (g.0 ≡ place_list hs i)
place-In [] i h = absurd (omega arith)
place-In (x ∷ hs) zero h = (x, inl refl, refl)
place-In (x ∷ hs) (suc i) h = let (g, has, is) = place-In hs i (omega arith) in (g, inr has, is)

-- Of two places of kept lists that stand in order, the earlier one holds a list that is not after the other's. The search compares
-- places, which are numbers, instead of lists; this lemma, and `before-sorted` behind it, turn the one comparison into the other.
-- The proof walks both places down together until the earlier one is 0, where the head of an ordered list comes before every other
-- one.
pub place-sorted : {L : Type 0} (hs : List (Held L)) (i j : ℕ) → AreSorted hs → i ≤ j → j < length hs →
    IsNotAfter (place_list hs i) (place_list hs j)
place-sorted [] i j s h below = absurd (omega arith)
place-sorted (x ∷ hs) zero zero s h below = IsNotAfter-same x.0
place-sorted (x ∷ hs) zero (suc j) s h below =
    let (g, has, is) = place-In hs j (omega arith) in
    let P : List ℕ → Type 0 = λ l. IsNotAfter x.0 l in subst P is (s.0 g has)
place-sorted (x ∷ hs) (suc i) zero s h below = absurd (omega arith)
place-sorted (x ∷ hs) (suc i) (suc j) s h below = place-sorted hs i j s.1 (omega arith) (omega arith)

empty-first : (zs : List ℕ) → IsNotAfter [] zs
empty-first zs = elim (reverse zs) as (λ l. is_gt (slice_cmp nat_cmp [] l) ≡ false) [ [] ↦ refl | (y ∷ ys) ↦ refl ]

-- The same of the ranks that nodes have: rank 0 is the list of no items, from which a list of one item is made, and rank i + 1 is
-- the node at place i. The empty list comes first of all, so the order of ranks is the order of the lists that are extended. On it
-- rests that ties can be decided by the rank of the node before.
pub before-sorted : {L : Type 0} (hs : List (Held L)) (r s : ℕ) → AreSorted hs → r ≤ s → s ≤ length hs →
    IsNotAfter (list_before hs r) (list_before hs s)
before-sorted hs zero s sorted h below = empty-first (list_before hs s)
before-sorted hs (suc i) zero sorted h below = absurd (omega arith)
before-sorted hs (suc i) (suc j) sorted h below = place-sorted hs i j sorted (omega arith) (omega arith)

pub In-helds_at : {L : Type 0} (hs : List (Held L)) (ms : List (Node L)) (m : Node L) → In m ms → In (held_of hs m) (helds_at hs ms)
In-helds_at hs [] m has = has
In-helds_at hs (n ∷ ns) m has = elim has [ inl e ↦ inl (ap (held_of hs) e) | inr r ↦ inr (In-helds_at hs ns m r) ]

pub from-helds_at : {L : Type 0} (hs : List (Held L)) (ms : List (Node L)) (h : Held L) → In h (helds_at hs ms) →
    (m : Node L) × In m ms × (h ≡ held_of hs m)
from-helds_at hs [] h has = absurd has
from-helds_at hs (n ∷ ns) h has =
    elim has [ inl e ↦ (n, inl refl, e) | inr r ↦ (let (m, there, is) = from-helds_at hs ns h r in (m, inr there, is)) ]

pub AllEarly-from : {L : Type 0} (k : ℕ) (ms : List (Node L)) → ((m : Node L) → In m ms → m.before ≤ k) → AllEarly k ms
AllEarly-from k [] h = tt
AllEarly-from k (m ∷ ms) h = (h m (inl refl), AllEarly-from k ms (λ x has. h x (inr has)))

-- The lists of a level come in the order of ties, since their nodes come in the order of the nodes that they extend. Each list of
-- the level is a list before it and the level's item behind; lists are compared from their last items backwards, so the common last
-- item falls away and the order of the lists before decides (`IsNotAfter-append`), which is that of their ranks. This gives `sorted`
-- of the invariant.
pub helds_at-sorted : {L : Type 0} (hs : List (Held L)) (item : ℕ) (ms : List (Node L)) → AreSorted hs → AreRanked ms →
    ((m : Node L) → In m ms → (m.before ≤ length hs) × (m.item ≡ item)) → AreSorted (helds_at hs ms)
helds_at-sorted hs item [] s r h = tt
helds_at-sorted {L = L} hs item (n ∷ ns) s r h = (
  (λ g has.
      let (m, there, is) = from-helds_at hs ns g has in
      let early = h m (inr there) in
      let first = h n (inl refl) in
      let order = before-sorted hs n.before m.before s (r.0 m there) early.0 in
      let same : n.item ≡ m.item = first.1 ∙ sym early.1 in
      let P : Held L → Type 0 = λ x. IsNotAfter (list_before hs n.before ++ n.item ∷ []) x.0 in
      let Q : ℕ → Type 0 = λ x. IsNotAfter (list_before hs n.before ++ n.item ∷ []) (list_before hs m.before ++ x ∷ []) in
      subst P (sym is) (subst Q same (IsNotAfter-append (list_before hs n.before) (list_before hs m.before) (n.item ∷ []) order))),
  helds_at-sorted hs item ns s r.1 (λ m has. h m (inr has)),
)

-- The candidates of a level: the list of its item alone, and the extension of each kept list by the item, before any dominance. They
-- are made from the labels of the nodes so far, in the order of the nodes.
abbrev pub candidates : {L : Type 0} → Labelling L → ℕ → List (Held L) → List (Node L)
candidates w item hs = node_of item 0 (w.start item) ++ next_from w item 0 (held_labels hs)

node_of-ranked : {L : Type 0} (item before : ℕ) (o : Option L) → AreRanked (node_of item before o)
node_of-ranked item before None = tt
node_of-ranked item before (Some a) = ((λ m none. absurd none), tt)

pub next_from-ranked : {L : Type 0} (w : Labelling L) (item : ℕ) (gs rest : List (Held L)) →
    AreRanked (next_from w item (length gs) (held_labels rest))
next_from-ranked w item gs [] = tt
next_from-ranked {L = L} w item gs (r ∷ rest) =
    let longer : length (gs ++ r ∷ []) ≡ length gs + 1 = length-append {A = Held L} gs (r ∷ []) in
    let P : ℕ → Type 0 = λ k. AreRanked (next_from w item k (held_labels rest)) in
    AreRanked-append (node_of item (length gs + 1) (w.extend r.1 item)) (next_from w item (length gs + 1) (held_labels rest))
    (node_of-ranked item (length gs + 1) (w.extend r.1 item))
    (subst P longer (next_from-ranked w item (gs ++ r ∷ []) rest))
    (λ x y hx hy.
    let (made, item_is, before_is) = from-node_of item (length gs + 1) (w.extend r.1 item) x hx in
    let Q : ℕ → Type 0 = λ k. In y (next_from w item k (held_labels rest)) in
    let n = from-next w item (gs ++ r ∷ []) rest y (subst Q (sym longer) hy) in
    omega (arith, n.above))

-- The candidates of a level come in rising order of the nodes that they extend: the start has rank 0, and the extensions are made
-- node by node, each with a rank above those of the earlier ones. An insertion can therefore trust that what stands in the level
-- already is not later than the new node, so that in a tie the node that is there wins. No list is looked at for it.
pub candidates-ranked : {L : Type 0} (w : Labelling L) (item : ℕ) (hs : List (Held L)) → AreRanked (candidates w item hs)
candidates-ranked {L = L} w item hs =
    AreRanked-append (node_of item 0 (w.start item)) (next_from w item 0 (held_labels hs)) (node_of-ranked item 0 (w.start item))
    (let none : List (Held L) = [] in next_from-ranked w item none hs)
    (λ x y hx hy. let (made, item_is, before_is) = from-node_of item 0 (w.start item) x hx in omega arith)

-- What a candidate is: its last item is the level's, and it is either the start or the extension of a kept list, which its rank
-- names. The proofs below go through this record alone and never through the lists of candidates again.
pub record IsCandidate {L : Type 0} (w : Labelling L) (item : ℕ) (hs : List (Held L)) (c : Node L) : Type 0 where
  pub item_is : c.item ≡ item
  pub early : c.before ≤ length hs
  pub made : ((w.start item ≡ Some c.label) × (c.before ≡ 0)) ⊎ ((h : Held L) × In h hs × (w.extend h.1 item ≡ Some c.label)
      × (list_before hs c.before ≡ h.0))

pub from-candidates : {L : Type 0} (w : Labelling L) (item : ℕ) (hs : List (Held L)) (c : Node L) → In c (candidates w item hs) →
    IsCandidate w item hs c
from-candidates {L = L} w item hs c has =
    elim (In-split c (node_of item 0 (w.start item)) (next_from w item 0 (held_labels hs)) has) [
      | inl here ↦
          let (made, item_is, before_is) = from-node_of item 0 (w.start item) c here in
          record { item_is = item_is; early = omega arith; made = inl (made, before_is) }
      | inr later ↦
          let none : List (Held L) = [] in
          let n = from-next w item none hs c later in
          record { item_is = n.item_is; early = omega (arith, n.below); made = inr (n.from, n.there, n.made, n.list) }
    ]

-- A node that is left in a level after the insertions was one of its candidates: insertions drop nodes and never change one. So what
-- is known of all candidates is known of the level.
pub level-from : {L : Type 0} (w : Labelling L) (good : L → L → Bool) (value_at : L → ℤ) (item : ℕ) (hs : List (Held L)) (m : Node L) →
    In m (fold (insert_node good value_at) [] (candidates w item hs)) → IsCandidate w item hs m
level-from w good value_at item hs m has =
    elim (inserted-from good value_at (candidates w item hs) [] m has) [ inl none ↦ absurd none | inr c ↦ from-candidates w item hs m c ]

-- Dominance in a level loses nothing that counts: for each candidate the level keeps a list that beats the candidate's, that is, one
-- at least as good that has a smaller value or does not come later in the order of ties. The insertions give a node that is at least
-- as good and has a smaller value or an earlier rank (`inserted-covers`); as the kept lists are in order an earlier rank is an
-- earlier list, and it stays so with the level's item behind both. This is all that the steps of the invariant need of dominance.
pub level-beats : {L : Type 0} (w : Labelling L) (good : L → L → Bool) (value_at : L → ℤ) (close : L → Option ℤ) →
    IsKept w (GoodAs good) → IsValued w (GoodAs good) value_at close → (item : ℕ) (hs : List (Held L)) → AreSorted hs →
    (c : Node L) → In c (candidates w item hs) →
    (h : Held L) × In h (helds_at hs (fold (insert_node good value_at) [] (candidates w item hs)))
    × Beats (GoodAs good) value_at h (list_before hs c.before ++ item ∷ [], c.label)
level-beats {L = L} w good value_at close k v item hs sorted c has =
    let ms : List (Node L) = fold (insert_node good value_at) [] (candidates w item hs) in
    let (m, there, better) =
    inserted-covers w good value_at close k v (candidates w item hs) [] (candidates-ranked w item hs)
    (λ x y none hy. absurd none) c (inr has) in
    let mc = level-from w good value_at item hs m there in
    let cc' = from-candidates w item hs c has in (
      held_of hs m,
      In-helds_at hs ms m there,
      (
        better.0,
        elim better.1 [
          | inl less ↦ inl less
          | inr early ↦ inr (
              let order = IsNotAfter-append (list_before hs m.before) (list_before hs c.before) (item ∷ [])
              (before-sorted hs m.before c.before sorted early cc'.early) in
              let P : ℕ → Type 0 = λ x. IsNotAfter (list_before hs m.before ++ x ∷ []) (list_before hs c.before ++ item ∷ []) in
              subst P (sym mc.item_is) order)
        ],
      ),
    )

pub label_after-append : {L : Type 0} (w : Labelling L) (o : Option L) (xs ys : List ℕ) →
    label_after w o (xs ++ ys) ≡ label_after w (label_after w o xs) ys
label_after-append w None [] ys = refl
label_after-append w None (x ∷ xs) [] = refl
label_after-append w None (x ∷ xs) (y ∷ ys) = refl
label_after-append w (Some a) [] ys = refl
label_after-append w (Some a) (x ∷ xs) ys = label_after-append w (w.extend a x) xs ys

pub label_after-none : {L : Type 0} (w : Labelling L) (o : Option L) → label_after w o [] ≡ o
label_after-none w None = refl
label_after-none w (Some a) = refl

-- The label of a list with an item behind it is the list's label extended by the item, so a label that is made step by step is that
-- of its list. The proof goes over the list's first part with any label to start from, since labels are made from the front.
pub label_of-more : {L : Type 0} (w : Labelling L) (xs : List ℕ) (a : L) (item : ℕ) → label_of w xs ≡ Some a →
    label_of w (xs ++ item ∷ []) ≡ w.extend a item
label_of-more w [] a item e = absurd (cc)
label_of-more w (x ∷ xs) a item e =
    label_after-append w (w.start x) xs (item ∷ []) ∙ ap (λ o. label_after w o (item ∷ [])) e ∙ label_after-none w (w.extend a item)

-- The invariant of the search: what holds of the kept labels and their lists when the levels of all items below q are made. `starts`
-- and `steps` say that no list is lost: each list of one item, and each kept list with one item more, is beaten by a kept one.
-- Nothing is asked of lists that were dropped, since the laws of dominance carry over to all that follows them. `sorted` says that
-- the kept lists stand in the order of ties, `lasts` that each ends with the item that its label names, which is below q, and
-- `sound` that its label is its own.
pub record IsReached {L : Type 0} (w : Labelling L) (good : L → L → Bool) (value_at : L → ℤ) (last : L → ℕ) (q : ℕ)
    (hs : List (Held L)) : Type 0 where
  pub starts : (item : ℕ) (b : L) → item < q → w.start item ≡ Some b →
      (h : Held L) × In h hs × Beats (GoodAs good) value_at h (item ∷ [], b)
  pub steps : (g : Held L) (b : L) (item : ℕ) → In g hs → item < q → w.extend g.1 item ≡ Some b →
      (h : Held L) × In h hs × Beats (GoodAs good) value_at h (g.0 ++ item ∷ [], b)
  pub sorted : AreSorted hs
  pub lasts : (h : Held L) → In h hs → (last h.1 < q) × EndsWith (last h.1) h.0
  pub sound : (h : Held L) → In h hs → label_of w h.0 ≡ Some h.1

-- What is new in a level: each of its lists ends with the level's item, its label says so, and its label is that of the list. A node
-- of the level is a candidate, so it is a start or the extension of a kept list whose label is its own; one step more keeps that. It
-- is what `lasts` and `sound` of the invariant need for the level, and with `lasts` no list of the level can be extended by an item
-- of the levels so far.
pub new-held : {L : Type 0} (w : Labelling L) (good : L → L → Bool) (value_at : L → ℤ) (count : ℕ) (last : L → ℕ) →
    IsStepwise w count last →
    (q : ℕ) (hs : List (Held L)) → ((h : Held L) → In h hs → label_of w h.0 ≡ Some h.1) → (h : Held L) →
    In h (helds_at hs (fold (insert_node good value_at) [] (candidates w q hs))) →
    (last h.1 ≡ q) × EndsWith q h.0 × (label_of w h.0 ≡ Some h.1)
new-held {L = L} w good value_at count last st q hs sound h has =
    let ms : List (Node L) = fold (insert_node good value_at) [] (candidates w q hs) in
    let (m, there, is) = from-helds_at hs ms h has in
    let c = level-from w good value_at q hs m there in
    let list : h.0 ≡ list_before hs m.before ++ q ∷ [] =
    ap (λ (x : Held L). x.0) is ∙ ap (λ x. list_before hs m.before ++ x ∷ []) c.item_is in
    let label : h.1 ≡ m.label = ap (λ (x : Held L). x.1) is in
    let P : L → Type 0 = λ a. last a ≡ q in (
      subst P (sym label) (elim c.made [
        | inl start ↦ (st.starts q m.label start.0).1
        | inr (g, in_hs, made, before) ↦
            (st.steps g.1 m.label q made).2
      ]),
      (list_before hs m.before, list),
      ap (label_of w) list ∙
          elim c.made [
            | inl start ↦ ap (λ r. label_of w (list_before hs r ++ q ∷ [])) start.1 ∙ label_after-none w (w.start q)
                ∙ start.0 ∙ ap Some (sym label)
            | inr (g, in_hs, made, before) ↦ ap (λ l. label_of w (l ++ q ∷ [])) before ∙ label_of-more w g.0 g.1 q (sound g in_hs)
                ∙ made ∙ ap Some (sym label)
          ],
    )

-- One level more keeps the invariant. A start or an extension by an item below q was beaten before and still is, as nothing is taken
-- out of earlier levels. One by q itself is a candidate of the new level, where `level-beats` answers. A list of the new level has
-- no extension by q or an earlier item, because items rise. The order holds across the seam too: an earlier list ends with an item
-- below q, and lists are compared from their last items.
pub reached-step : {L : Type 0} (w : Labelling L) (good : L → L → Bool) (value_at : L → ℤ) (close : L → Option ℤ)
    (count : ℕ) (last : L → ℕ) →
    IsKept w (GoodAs good) → IsValued w (GoodAs good) value_at close → IsStepwise w count last → (q : ℕ) (hs : List (Held L)) →
    IsReached w good value_at last q hs →
    IsReached w good value_at last (suc q) (hs ++ helds_at hs (fold (insert_node good value_at) [] (candidates w q hs)))
reached-step {L = L} w good value_at close count last k v st q hs r =
    let ms : List (Node L) = fold (insert_node good value_at) [] (candidates w q hs) in
    let new : List (Held L) = helds_at hs ms in
    record {
      starts = λ item b below e.
          elim (cases_lt item q) [
            | inl before ↦ let (h, has, beats) = r.starts item b before e in (h, In-left h hs new has, beats)
            | inr past ↦
                let same : item ≡ q = omega arith in
                let start : w.start q ≡ Some b = ap w.start (sym same) ∙ e in
                let (c, there, is) = In-node_of q 0 (w.start q) b start in
                let (h, has, beats) = level-beats w good value_at close k v q hs r.sorted c
                (In-left c (node_of q 0 (w.start q)) (next_from w q 0 (held_labels hs)) there) in
                let P : Held L → Type 0 = λ x. Beats (GoodAs good) value_at h x in
                let list : list_before hs c.before ++ q ∷ [] ≡ item ∷ [] =
                ap (λ x. list_before hs x ++ q ∷ []) is.before_is ∙ ap (λ x. x ∷ []) (sym same) in
                let pair : list_and_label L (list_before hs c.before ++ q ∷ []) c.label ≡ list_and_label L (item ∷ []) b =
                ap (λ l. list_and_label L l c.label) list ∙ ap (list_and_label L (item ∷ [])) is.label in
                (h, In-right h hs new has, subst P pair beats)
          ];
      steps = λ g b item has below e.
          elim (In-split g hs new has) [
            | inl old ↦
                elim (cases_lt item q) [
                  | inl before ↦ let (h, there, beats) = r.steps g b item old before e in (h, In-left h hs new there, beats)
                  | inr past ↦
                      let same : item ≡ q = omega arith in
                      let none : List (Held L) = [] in
                      let made : w.extend g.1 q ≡ Some b = ap (w.extend g.1) (sym same) ∙ e in
                      let (c, there, label, item_is, list) = In-next w q none hs g b old made in
                      let (h, in_new, beats) =
                      level-beats w good value_at close k v q hs r.sorted c
                      (In-right c (node_of q 0 (w.start q)) (next_from w q 0 (held_labels hs)) there) in
                      let P : Held L → Type 0 = λ x. Beats (GoodAs good) value_at h x in
                      let all : list_before hs c.before ++ q ∷ [] ≡ g.0 ++ item ∷ [] =
                      ap (λ l. l ++ q ∷ []) list ∙ ap (λ x. g.0 ++ x ∷ []) (sym same) in
                      let pair : list_and_label L (list_before hs c.before ++ q ∷ []) c.label ≡ list_and_label L (g.0 ++ item ∷ []) b =
                      ap (λ l. list_and_label L l c.label) all ∙ ap (list_and_label L (g.0 ++ item ∷ [])) label in
                      (h, In-right h hs new in_new, subst P pair beats)
                ]
            | inr in_new ↦
                let (last_is, ends, sound) = new-held w good value_at count last st q hs r.sound g in_new in
                let up = (st.steps g.1 b item e).0 in
                absurd (omega arith)
          ];
      sorted = AreSorted-append hs new r.sorted
          (helds_at-sorted hs q ms r.sorted
          (inserted-ranked good value_at (candidates w q hs) [] (candidates-ranked w q hs) tt (λ x y none hy. absurd none))
          (λ m there. let c = level-from w good value_at q hs m there in (c.early, c.item_is)))
          (λ x y hx hy.
          let (below, (ys, front)) = r.lasts x hx in
          let (last_is, (zs, back), sound) = new-held w good value_at count last st q hs r.sound y hy in
          let less = backward_cmp-last ys zs (last x.1) q below in
          let P : List ℕ → Type 0 = λ l. is_gt (backward_cmp l y.0) ≡ false in
          let Q : List ℕ → Type 0 = λ l. is_gt (backward_cmp (ys ++ last x.1 ∷ []) l) ≡ false in
          subst P (sym front) (subst Q (sym back) (ap is_gt less)));
      lasts = λ h has.
          elim (In-split h hs new has) [
            | inl old ↦ let (below, ends) = r.lasts h old in (omega arith, ends)
            | inr in_new ↦
                let (last_is, ends, sound) = new-held w good value_at count last st q hs r.sound h in_new in
                let P : ℕ → Type 0 = λ x. EndsWith x h.0 in
                (omega arith, subst P (sym last_is) ends)
          ];
      sound = λ h has.
          elim (In-split h hs new has) [
            | inl old ↦ r.sound h old
            | inr in_new ↦ (new-held w good value_at count last st q hs r.sound h in_new).2
          ];
    }

pub reached-none : {L : Type 0} (w : Labelling L) (good : L → L → Bool) (value_at : L → ℤ) (last : L → ℕ) →
    IsReached w good value_at last 0 []
reached-none w good value_at last = record {
  starts = λ item b below e. absurd (omega arith);
  steps = λ g b item has below e. absurd has;
  sorted = tt;
  lasts = λ h has. absurd has;
  sound = λ h has. absurd has;
}

pub level_of-is : {L : Type 0} (w : Labelling L) (good : L → L → Bool) (value_at : L → ℤ) (nodes : List (Node L)) (item : ℕ) →
    level_of w good value_at nodes item ≡ fold (insert_node good value_at) [] (candidates w item (helds_from [] nodes))
level_of-is {L = L} w good value_at nodes item =
    let none : List (Held L) = [] in
    let labels : held_labels (helds_from none nodes) ≡ labels_of nodes = held_labels-from none nodes in
    ap (λ l. fold (insert_node good value_at) [] (node_of item 0 (w.start item) ++ l))
    (next_nodes-is w item 0 nodes ∙ ap (next_from w item 0) (sym labels))

-- The main theorem of the file: the nodes that the search has made for the items below q meet the invariant, for every q. The proof
-- is an induction on q. Nodes name the nodes that they extend by rank, so the lists of earlier nodes stay what they are when a level
-- is put behind them (`helds_from-level`); the lists of all nodes are then those so far and those of the level, and `reached-step`
-- applies. At the count of items the invariant speaks of all lists, and what follows draws the answer of a search from it.
pub reached : {L : Type 0} (w : Labelling L) (good : L → L → Bool) (value_at : L → ℤ) (close : L → Option ℤ) (count : ℕ) (last : L → ℕ) →
    IsKept w (GoodAs good) → IsValued w (GoodAs good) value_at close → IsStepwise w count last → (q : ℕ) →
    IsReached w good value_at last q (helds_from [] (nodes_below w good value_at q))
reached w good value_at close count last k v st zero = reached-none w good value_at last
reached {L = L} w good value_at close count last k v st (suc q) =
    let none : List (Held L) = [] in
    let nodes : List (Node L) = nodes_below w good value_at q in
    let hs : List (Held L) = helds_from none nodes in
    let ms : List (Node L) = fold (insert_node good value_at) [] (candidates w q hs) in
    let before = reached w good value_at close count last k v st q in
    let early : AllEarly (length hs) ms = AllEarly-from (length hs) ms (λ m there. (level-from w good value_at q hs m there).early) in
    let whole : helds_from none (nodes ++ level_of w good value_at nodes q) ≡ hs ++ helds_at hs ms =
    ap (λ l. helds_from none (nodes ++ l)) (level_of-is w good value_at nodes q) ∙
    helds_from-append none nodes ms ∙
    ap (λ l. helds_from l ms) (sym (append-nil hs)) ∙
    helds_from-level hs none ms early ∙
    ap (λ l. l ++ helds_at hs ms) (append-nil hs) in
    let P : List (Held L) → Type 0 = λ l. IsReached w good value_at last (suc q) l in
    subst P (sym whole) (reached-step w good value_at close count last k v st q hs before)

-- When all levels are made the kept lists are a cover of the labelling in which labels carry their lists, with `Beats` as the order:
-- the bound on items in the invariant falls away, since no start or step takes an item beyond the count. In this form `covers` and
-- `first_of_all` of cover_core apply, which hold for each labelling that keeps its dominance.
pub reached-cover : {L : Type 0} (w : Labelling L) (good : L → L → Bool) (value_at : L → ℤ) (count : ℕ) (last : L → ℕ) →
    IsStepwise w count last →
    (hs : List (Held L)) → IsReached w good value_at last count hs → IsCover (held w) (Beats (GoodAs good) value_at) (λ h. In h hs)
reached-cover {L = L} w good value_at count last st hs r = record {
  starts = λ item b e.
      let (made, list) = hold-Some (item ∷ []) (w.start item) b e in
      let (h, has, beats) = r.starts item b.1 (st.starts item b.1 made).0 made in
      let P : List ℕ → Type 0 = λ l. Beats (GoodAs good) value_at h (list_and_label L l b.1) in
      (h, has, subst P list beats);
  steps = λ a b item has e.
      let (made, list) = hold-Some (a.0 ++ item ∷ []) (w.extend a.1 item) b e in
      let (h, there, beats) = r.steps a b.1 item has (st.steps a.1 b.1 item made).1 made in
      let P : List ℕ → Type 0 = λ l. Beats (GoodAs good) value_at h (list_and_label L l b.1) in
      (h, there, subst P list beats);
}

-- The list that closes first among the kept nodes is the first least of all lists: none closes with less, and none with the same
-- value comes before it. Each list is beaten by a kept one, which closes with a smaller value, or with no greater one and no later
-- list; so the best of the kept ones is the best of all. The contract of the search rests on it where a list is found.
pub first_of_nodes : {L : Type 0} (w : Labelling L) (good : L → L → Bool) (value_at : L → ℤ) (close : L → Option ℤ)
    (count : ℕ) (last : L → ℕ) →
    IsKept w (GoodAs good) → IsValued w (GoodAs good) value_at close → IsStepwise w count last → (list : List ℕ) (least : ℤ) →
    IsFirstKept (λ (h : Held L). In h (helds_from [] (nodes_below w good value_at count))) close list least →
    IsFirstClosed w close list least
first_of_nodes {L = L} w good value_at close count last k v st list least first =
    let none : List (Held L) = [] in
    let hs : List (Held L) = helds_from none (nodes_below w good value_at count) in
    first_of_all w (GoodAs good) value_at close (λ h. In h hs) k v
    (reached-cover w good value_at count last st hs (reached w good value_at close count last k v st count)) list least first

-- Where no kept node closes, no list does: a list that closes is beaten by a kept one that is at least as good, and this would close
-- too. The contract of the search rests on it where nothing is found.
pub none_of_nodes : {L : Type 0} (w : Labelling L) (good : L → L → Bool) (value_at : L → ℤ) (close : L → Option ℤ)
    (count : ℕ) (last : L → ℕ) →
    IsKept w (GoodAs good) → IsValued w (GoodAs good) value_at close → IsStepwise w count last →
    ((h : Held L) (u : ℤ) → In h (helds_from [] (nodes_below w good value_at count)) → close h.1 ≡ Some u → ⊥) →
    (xs : List ℕ) (b : L) (z : ℤ) → label_of w xs ≡ Some b → close b ≡ Some z → ⊥
none_of_nodes {L = L} w good value_at close count last k v st none_closes xs b z e c =
    let none : List (Held L) = [] in
    let hs : List (Held L) = helds_from none (nodes_below w good value_at count) in
    let cover = reached-cover w good value_at count last st hs (reached w good value_at close count last k v st count) in
    let (h, has, beats) = covers (held w) (Beats (GoodAs good) value_at) (λ h. In h hs) (beats-kept w (GoodAs good) value_at close k v)
    cover xs (list_and_label L xs b) (label_of-held w xs ∙ ap (hold xs) e) in
    let (u, is, below, strict) = v.closes h.1 b z beats.0 c in
    none_closes h u has is
