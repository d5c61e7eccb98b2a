-- The best of the nodes is the first least of their lists.
use Rattle.std.proofs.Common.{◌≡◌, ℕ, ℤ, ◌+◌, ◌<◌, ◌≤ℤ◌, ◌⊎◌, inl, inr, true, false, cond, List, [], ◌∷◌, ◌++◌, length, get_or, take, refl, sym, ap, ◌∙◌, subst, arith, append_assoc, length-append}
use Rattle.std.specs.Prelude.{Option, Some, None, int_lt, unwrap_or}
use Rattle.std.proofs.lemmas.List.{append-nil, take_more, length-take-le}
use Rattle.std.proofs.lemmas.Int.{ints}
use lib.Signed.{◌<ℤ◌}
use Rattle.cover_core.specs.FirstLeast.{IsNotAfter}
use Rattle.cover_core.specs.Labels.{Held}
use Rattle.cover_core.proofs.Order.{IsNotAfter-same}
use Rattle.label_search.specs.declared.node.Node.{Node}
use Rattle.label_search.specs.declared.node.Best.{Best}
use Rattle.label_search.specs.Nodes.{better_of, best_from}
use Rattle.label_search.proofs.Insertions.{In, In-left, In-right, In-split}
use Rattle.label_search.specs.Lists.{place_list}
use Rattle.label_search.proofs.Helds.{place_list-append, place_list-seam, held_labels, labels_of}
use Rattle.label_search.proofs.Reached.{AreSorted}

pub best_from-append : {L : Type 0} (close : L → Option ℤ) (place : ℕ) (best : Option Best) (ns : List (Node L)) (n : Node L) →
    best_from close place best (ns ++ n ∷ []) ≡ better_of (best_from close place best ns) (close n.label) (place + length ns)
best_from-append close place best [] n = let here : place ≡ place + 0 = omega arith in ap (better_of best (close n.label)) here
best_from-append close place best (m ∷ ns) n =
    let here : place + 1 + length ns ≡ place + length (m ∷ ns) = omega arith in
    best_from-append close (place + 1) (better_of best (close m.label) place) ns n ∙
    ap (better_of (best_from close (place + 1) (better_of best (close m.label) place) ns) (close n.label)) here

pub best-step : {L : Type 0} (close : L → Option ℤ) (i place : ℕ) (nodes : List (Node L)) (n : Node L) (best : Option Best) (o : Option ℤ) →
    i < length nodes → n ≡ get_or nodes i n → place ≡ i → o ≡ close n.label → best ≡ best_from close 0 None (take i nodes) →
    better_of best o place ≡ best_from close 0 None (take (i + 1) nodes)
best-step {L = L} close i place nodes n best o below is at made so_far =
    let one : take (i + 1) nodes ≡ take i nodes ++ n ∷ [] = take_more nodes i n below ∙ ap (λ m. take i nodes ++ m ∷ []) (sym is) in
    let count : 0 + length (take i nodes) ≡ place = omega (arith, length-take-le i nodes) in
    ap (λ b. better_of b o place) so_far ∙ ap (λ v. better_of (best_from close 0 None (take i nodes)) v place) made ∙
    ap (better_of (best_from close 0 None (take i nodes)) (close n.label)) (sym count) ∙
    sym (best_from-append close 0 None (take i nodes) n) ∙ ap (best_from close 0 None) (sym one)

-- what the best so far is
pub record IsBest {L : Type 0} (close : L → Option ℤ) (hs : List (Held L)) (b : Best) : Type 0 where
  pub there : b.place < length hs
  pub label : L
  pub held : In (place_list hs b.place, label) hs
  pub closes : close label ≡ Some b.value
  pub at_least : (h : Held L) (u : ℤ) → In h hs → close h.1 ≡ Some u → b.value ≤ℤ u
  pub first : (h : Held L) → In h hs → close h.1 ≡ Some b.value → IsNotAfter (place_list hs b.place) h.0

abbrev pub BestOf : {L : Type 0} → (L → Option ℤ) → List (Held L) → Option Best → Type 0
BestOf {L} close hs None = (h : Held L) (u : ℤ) → In h hs → close h.1 ≡ Some u → ⊥
BestOf close hs (Some b) = IsBest close hs b

below : (v w u : ℤ) → int_lt v w ≡ true → w ≤ℤ u → v <ℤ u
below v w u h k = grind (arith, ints)

not_below : (v w u : ℤ) → int_lt v w ≡ false → v ≡ u → w ≤ℤ u
not_below v w u h e = grind (arith, ints)

one-more : {L : Type 0} (hs : List (Held L)) (r h : Held L) → In h (hs ++ r ∷ []) → In h hs ⊎ (h ≡ r)
one-more hs r h has = elim (In-split h hs (r ∷ []) has) [
  | inl old ↦ inl old
  | inr new ↦
      elim new [ inl e ↦ inr e | inr none ↦ absurd none ]
]

Some-value : (x y : ℤ) → Some x ≡ Some y → x ≡ y
Some-value x y e = let f : Option ℤ → ℤ = λ o. unwrap_or o x in ap f e

-- the best so far stays so where nothing better closes
pub best-stays : {L : Type 0} (close : L → Option ℤ) (hs : List (Held L)) (r : Held L) (b : Best) → IsBest close hs b →
    ((h : Held L) → In h hs → IsNotAfter h.0 r.0) →
    ((u : ℤ) → close r.1 ≡ Some u → b.value ≤ℤ u) → IsBest close (hs ++ r ∷ []) b
best-stays {L = L} close hs r b is before small =
    let longer = length-append {A = Held L} hs (r ∷ []) in
    let same : place_list (hs ++ r ∷ []) b.place ≡ place_list hs b.place = place_list-append hs (r ∷ []) b.place is.there in
    let P : List ℕ → Type 0 = λ l. In (l, is.label) (hs ++ r ∷ []) in
    let there = is.there in
    record {
      there = omega arith;
      label = is.label;
      held = subst P (sym same) (In-left (place_list hs b.place, is.label) hs (r ∷ []) is.held);
      closes = is.closes;
      at_least = λ h u has e. elim (one-more hs r h has) [
        | inl old ↦ is.at_least h u old e
        | inr new ↦ small u (ap (λ (x : Held L). close x.1) (sym new) ∙ e)
      ];
      first = λ h has e. rw same (elim (one-more hs r h has) [
        | inl old ↦ is.first h old e
        | inr new ↦ (let Q : Held L → Type 0 = λ x. IsNotAfter (place_list hs b.place) x.0 in
            subst Q (sym new) (before (place_list hs b.place, is.label) is.held))
      ]);
    }

-- a smaller value is the best from now on
pub best-new : {L : Type 0} (close : L → Option ℤ) (hs : List (Held L)) (r : Held L) (v : ℤ) → close r.1 ≡ Some v →
    ((h : Held L) (u : ℤ) → In h hs → close h.1 ≡ Some u → v <ℤ u) → IsBest close (hs ++ r ∷ []) (record { place = length hs; value = v })
best-new {L = L} close hs r v closes smaller =
    let longer = length-append {A = Held L} hs (r ∷ []) in
    let same : place_list (hs ++ r ∷ []) (length hs) ≡ r.0 = place_list-seam hs r [] in
    let P : List ℕ → Type 0 = λ l. In (l, r.1) (hs ++ r ∷ []) in
    record {
      there = omega arith;
      label = r.1;
      held = subst P (sym same) (In-right r hs (r ∷ []) (inl refl));
      closes = closes;
      at_least = λ h u has e. elim (one-more hs r h has) [
        | inl old ↦ (let less = smaller h u old e in omega (arith, ints))
        | inr new ↦ (let equal = Some-value v u (sym closes ∙ ap (λ (x : Held L). close x.1) (sym new) ∙ e) in omega (arith, ints))
      ];
      first = λ h has e. rw same (elim (one-more hs r h has) [
        | inl old ↦ (let less = smaller h v old e in absurd (omega (arith, ints)))
        | inr new ↦ (let Q : Held L → Type 0 = λ x. IsNotAfter r.0 x.0 in subst Q (sym new) (IsNotAfter-same r.0))
      ]);
    }

pub BestOf-step : {L : Type 0} (close : L → Option ℤ) (hs : List (Held L)) (r : Held L) (best : Option Best) (o : Option ℤ) →
    close r.1 ≡ o →
    ((h : Held L) → In h hs → IsNotAfter h.0 r.0) → BestOf close hs best → BestOf close (hs ++ r ∷ []) (better_of best o (length hs))
BestOf-step {L = L} close hs r None None closes before best = λ h u has e.
    elim (one-more hs r h has) [
      | inl old ↦ best h u old e
      | inr new ↦ (let bad : None ≡ Some u = sym closes ∙ ap (λ (x : Held L). close x.1) (sym new) ∙ e in cc)
    ]
BestOf-step close hs r (Some b) None closes before best =
    best-stays close hs r b best before (λ u e. absurd (let bad : None ≡ Some u = sym closes ∙ e in cc))
BestOf-step close hs r None (Some v) closes before best =
    best-new close hs r v closes (λ h u has e. absurd (best h u has e))
BestOf-step {L = L} close hs r (Some b) (Some v) closes before best =
    elim (int_lt v b.value) as (λ t. int_lt v b.value ≡ t →
    BestOf close (hs ++ r ∷ []) (cond t (Some (record { place = length hs; value = v })) (Some b))) [
      | true ↦ λ less. best-new close hs r v closes (λ h u has e. let bound = best.at_least h u has e in below v b.value u less bound)
      | false ↦ λ more. best-stays close hs r b best before (λ u e. let equal = Some-value v u (sym closes ∙ e) in
          not_below v b.value u more equal)
    ] refl

pub sorted-before : {L : Type 0} (gs : List (Held L)) (r : Held L) (rest : List (Held L)) → AreSorted (gs ++ r ∷ rest) →
    (h : Held L) → In h gs → IsNotAfter h.0 r.0
sorted-before [] r rest sorted h has = absurd has
sorted-before {L = L} (g ∷ gs) r rest sorted h has = elim has [
  | inl e ↦ (let P : Held L → Type 0 = λ x. IsNotAfter x.0 r.0 in subst P (sym e) (sorted.0 r (In-right r gs (r ∷ rest) (inl refl))))
  | inr later ↦ sorted-before gs r rest sorted.1 h later
]

-- One pass over all nodes in their order finds the one that closes with the least value, and of equal values the first. The
-- induction has the nodes that were passed (`gs`) with the best of them. A node with a smaller value is the best from now on; with
-- an equal one the earlier stays, which is right as the lists stand in the order of ties, so its own comes first. No list is
-- compared here either.
pub best-all : {L : Type 0} (close : L → Option ℤ) (gs rest : List (Held L)) (ns : List (Node L)) (best : Option Best) →
    AreSorted (gs ++ rest) → held_labels rest ≡ labels_of ns → BestOf close gs best →
    BestOf close (gs ++ rest) (best_from close (length gs) best ns)
best-all {L = L} close gs [] [] best sorted same is = let P : List (Held L) → Type 0 = λ l. BestOf close l best in
    subst P (sym (append-nil gs)) is
best-all close gs [] (n ∷ ns) best sorted same is = absurd (cc)
best-all close gs (r ∷ rest) [] best sorted same is = absurd (cc)
best-all {L = L} close gs (r ∷ rest) (n ∷ ns) best sorted same is =
    let regroup : (gs ++ r ∷ []) ++ rest ≡ gs ++ r ∷ rest = append_assoc gs (r ∷ []) rest in
    let label : r.1 ≡ n.label = cc in
    let others : held_labels rest ≡ labels_of ns = cc in
    let longer : length (gs ++ r ∷ []) ≡ length gs + 1 = length-append {A = Held L} gs (r ∷ []) in
    let step = BestOf-step close gs r best (close r.1) refl (λ h has. sorted-before gs r rest sorted h has) is in
    let S : List (Held L) → Type 0 = λ l. AreSorted l in
    let all = best-all close (gs ++ r ∷ []) rest ns (better_of best (close r.1) (length gs)) (subst S (sym regroup) sorted) others step in
    let P : List (Held L) → Type 0 =
    λ l. BestOf close l (best_from close (length (gs ++ r ∷ [])) (better_of best (close r.1) (length gs)) ns) in
    let Q : ℕ → Type 0 = λ k. BestOf close (gs ++ r ∷ rest) (best_from close k (better_of best (close r.1) (length gs)) ns) in
    let R : L → Type 0 = λ a. BestOf close (gs ++ r ∷ rest) (best_from close (length gs + 1) (better_of best (close a) (length gs)) ns) in
    subst R label (subst Q longer (subst P regroup all))
