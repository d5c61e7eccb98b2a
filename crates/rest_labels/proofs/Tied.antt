-- The labels of a rest are tied to its worths, group by group.
use Rattle.std.proofs.Common.{◌≡◌, ◌≢◌, ℕ, ℤ, pos, ◌*◌, ◌-ℤ◌, ◌<◌, ◌≤◌, ◌&&◌, ◌||◌, Bool, true, false, not, nat_lt, nat_le, nat_eq, zero, suc, List, [], ◌∷◌, ◌++◌, length, Option, Some, None, refl, sym, ap, subst, ◌∙◌, arith, slice_get}
use Rattle.std.specs.Option.{option_map}
use Rattle.std.proofs.lemmas.Bool.Decides.{nat_tests}
use Rattle.plan_core.specs.declared.Price.{Price}
use Rattle.cover_core.specs.Cover.{Problem}
use Rattle.cover_core.specs.Plans.{price_of, value_of}
use Rattle.cover_core.specs.FirstLeast.{InGroup}
use Rattle.cover_core.specs.Labels.{Labelling, label_after, label_of}
use Rattle.label_search.specs.Pricing.{IsTiedInGroup, of_group}
use Rattle.label_search.proofs.Pricing.{from-group, onto-group}
use Rattle.label_search.proofs.Reached.{label_after-append}
use Rattle.cover_rest.specs.declared.begun.Begun.{Begun}
use Rattle.cover_rest.specs.Rest.{all_below, body_at, is_empty, may_go_on, none_below, rest_worth, rises, written}
use Rattle.cover_rest.proofs.Lists.{both-true, from-cond, onto-cond, parts-rest, rest-parts, some-same, true-both}
use Rattle.rest_labels.specs.declared.label.RestLabel.{RestLabel}
use Rattle.rest_labels.specs.Labels.{ending, is_next, labels_of_rest, may_follow, may_start}
use Rattle.rest_labels.specs.Laws.{BeginWithin, IsTiedWithin}
use Rattle.rest_labels.specs.Kept.{after-none, parts-step, start-parts, step-parts}

not-head : (hs : List Begun) (k : ℕ) → length hs ≤ k → slice_get hs k ≡ None
not-head [] k h = refl
not-head (g ∷ gs) zero h = absurd (omega arith)
not-head (g ∷ gs) (suc k) h = not-head gs k (omega arith)

module _ {L : Type 0} (w : Labelling L) (heads : List Begun) (bs : List (List ℕ)) (may : ℕ → List ℕ → Bool)
    (class : ℕ) (begins more : ℕ → Bool)
    (begins-is : (x : ℕ) → x < length bs → begins x ≡ may_start may class (slice_get heads x) (body_at bs x))
    (more-is : (x : ℕ) → x < length bs → more x ≡ may_follow (slice_get heads x)) where
  abbrev r : Labelling (RestLabel L)
  r = labels_of_rest w bs (length heads) begins more

  earlier : (x y : ℕ) → nat_lt x y ≡ true → nat_lt y (length bs) ≡ true → x < length bs
  earlier x y up there =
      let rise : x < y = grind (arith, nat_tests) in
      let below : y < length bs = grind (arith, nat_tests) in
      omega arith

  -- what may stand behind an item of the rest
  record IsTail (x : ℕ) (xs : List ℕ) : Type 0 where
    pub up : rises (x ∷ xs) ≡ true
    pub below : all_below (length bs) xs ≡ true
    pub past : none_below (length heads) xs ≡ true
    pub follow : is_empty xs ≡ false → may_follow (slice_get heads x) ≡ true

  -- From labels of the rest to labels of written-out lists: each step of the rest puts all items behind that an item of the rest
  -- stands for, so the label behind some items of the rest is the label of the problem behind these, written out. The steps have
  -- tested that the items rise, are there, are no heads, and follow no finished head. `tail-onto` is the way back.
  tail-from : (a b : RestLabel L) (xs : List ℕ) → label_after r (Some a) xs ≡ Some b →
      IsTail a.item xs × (label_after w (Some a.label) (written bs xs) ≡ Some b.label)
  tail-from a b [] e = (
    record { up = refl; below = refl; past = refl; follow = λ h. absurd (cc) },
    ap (λ (a : RestLabel L). Some a.label) (some-same a b e),
  )
  tail-from a b (y ∷ ys) e =
      elim (r.extend a y) as (λ o. r.extend a y ≡ o → label_after r o ys ≡ Some b →
      IsTail a.item (y ∷ ys) × (label_after w (Some a.label) (written bs (y ∷ ys)) ≡ Some b.label)) [
        | None ↦ λ is e. absurd (after-none r ys b e)
        | Some c ↦ λ is e.
            let step = step-parts w bs (length heads) begins more a c y is in
            let (rest, ends) = tail-from c b ys e in
            let (front, back) = both-true (nat_lt a.item y && nat_lt y (length bs)) (nat_le (length heads) y && more a.item) step.next in
            let (up, there) = both-true (nat_lt a.item y) (nat_lt y (length bs)) front in
            let (past, on) = both-true (nat_le (length heads) y) (more a.item) back in
            let before : a.item < length bs = earlier a.item y up there in
            let follow = sym (more-is a.item before) ∙ on in
            let P : ℕ → Type 0 = λ y. rises (y ∷ ys) ≡ true in (
              record {
                up = true-both (nat_lt a.item y) (rises (y ∷ ys)) up (subst P step.item rest.up);
                below = true-both (nat_lt y (length bs)) (all_below (length bs) ys) there rest.below;
                past = true-both (nat_le (length heads) y) (none_below (length heads) ys) past rest.past;
                follow = λ h. follow;
              },
              label_after-append w (Some a.label) (body_at bs y) (written bs ys)
                  ∙ ap (λ o. label_after w o (written bs ys)) step.after ∙ ends,
            )
      ] refl e

  tail-onto : (a : RestLabel L) (l : L) (xs : List ℕ) → IsTail a.item xs → label_after w (Some a.label) (written bs xs) ≡ Some l →
      (b : RestLabel L) × (label_after r (Some a) xs ≡ Some b) × (b.label ≡ l)
  tail-onto a l [] tail e = (a, refl, some-same a.label l e)
  tail-onto a l (y ∷ ys) tail e =
      let split : label_after w (label_after w (Some a.label) (body_at bs y)) (written bs ys) ≡ Some l =
      sym (label_after-append w (Some a.label) (body_at bs y) (written bs ys)) ∙ e in
      let (up, rise) = both-true (nat_lt a.item y) (rises (y ∷ ys)) tail.up in
      let (there, below) = both-true (nat_lt y (length bs)) (all_below (length bs) ys) tail.below in
      let (at, past) = both-true (nat_le (length heads) y) (none_below (length heads) ys) tail.past in
      let before : a.item < length bs = earlier a.item y up there in
      let next : is_next (length heads) more (length bs) a.item y ≡ true =
      true-both (nat_lt a.item y && nat_lt y (length bs)) (nat_le (length heads) y && more a.item)
      (true-both (nat_lt a.item y) (nat_lt y (length bs)) up there)
      (true-both (nat_le (length heads) y) (more a.item) at (more-is a.item before ∙ tail.follow refl)) in
      let high : length heads ≤ y = grind (arith, nat_tests) in
      let none = not-head heads y high in
      elim (label_after w (Some a.label) (body_at bs y)) as (λ o. label_after w (Some a.label) (body_at bs y) ≡ o →
      label_after w o (written bs ys) ≡ Some l →
      (b : RestLabel L) × (label_after r (Some a) (y ∷ ys) ≡ Some b) × (b.label ≡ l)) [
        | None ↦ λ is e. absurd (after-none w (written bs ys) l e)
        | Some m ↦ λ is e.
            let (b, ends, same) = tail-onto (ending y m) l ys
            (record { up = rise; below = below; past = past; follow = λ h. ap may_follow none }) e in
            (b, ap (λ o. label_after r o ys) (parts-step w bs (length heads) begins more a m y next is) ∙ ends, same)
      ] refl split

  goes-start : (o : Option Begun) (body list xs : List ℕ) → may class list ≡ may class body → may_go_on may class o xs list ≡ true →
      (may_start may class o body ≡ true) × (is_empty xs ≡ false → may_follow o ≡ true)
  goes-start None body list xs same e = (sym same ∙ e, λ h. refl)
  goes-start (Some h) body list xs same e =
      let (one, ends) = both-true (nat_eq h.class class) (not h.finished || is_empty xs) e in
      (one, λ full. either (not h.finished) (is_empty xs) ends full)
    where
      either : (a b : Bool) → (a || b) ≡ true → b ≡ false → a ≡ true
      either true b e f = refl
      either false b e f = absurd (cc)

  start-goes : (o : Option Begun) (body list xs : List ℕ) → may class list ≡ may class body → may_start may class o body ≡ true →
      (is_empty xs ≡ false → may_follow o ≡ true) →
      may_go_on may class o xs list ≡ true
  start-goes None body list xs same e follow = same ∙ e
  start-goes (Some h) body list xs same e follow =
      true-both (nat_eq h.class class) (not h.finished || is_empty xs) e (or (not h.finished) (is_empty xs) follow)
    where
      or : (a b : Bool) → (b ≡ false → a ≡ true) → (a || b) ≡ true
      or true b f = refl
      or false true f = refl
      or false false f = f refl

  of-append : (xs ys : List ℕ) → xs ≢ [] → label_of w (xs ++ ys) ≡ label_after w (label_of w xs) ys
  of-append [] ys some = absurd (some refl)
  of-append (x ∷ xs) ys some = label_after-append w (w.start x) xs ys

  -- a list that begins with a body begins with the body's first item
  onto-body : {worth_of : List ℕ → Option ℕ} {close : L → Option ℤ} {prices : List Price} (first end : ℕ) (body more : List ℕ) (worth : ℕ) →
      IsTiedWithin first end w close prices worth_of → body ≢ [] → ((y : ℕ) (ys : List ℕ) → body ≡ y ∷ ys → (first ≤ y) × (y < end)) →
      worth_of (body ++ more) ≡ Some worth →
      (a : L) × (label_of w (body ++ more) ≡ Some a) × (close a ≡ Some (value_of prices worth (body ++ more)))
  onto-body first end [] more worth tied some begin e = absurd (some refl)
  onto-body first end (y ∷ ys) more worth tied some begin e =
      let (from, before) = begin y ys refl in tied.onto y (ys ++ more) worth from before e

  module _ (p : Problem) (close : L → Option ℤ) (prices spread : List Price) (group start end : ℕ) (begin : BeginWithin bs group start end)
      (tied : IsTiedWithin start end w close spread (p.worth class))
      (alike : (list : List ℕ) → all_below (length bs) list ≡ true → price_of spread (written bs list) ≡ price_of prices list)
      (first : (x : ℕ) (ys : List ℕ) → x < length bs → may class (body_at bs x ++ ys) ≡ may class (body_at bs x))
      (some : (x : ℕ) → x < length bs → body_at bs x ≢ []) where
    values : (worth : ℕ) (list : List ℕ) → all_below (length bs) list ≡ true →
        value_of spread worth (written bs list) ≡ value_of prices worth list
    values worth list below = ap (λ z. pos (1000 * worth) -ℤ z) (alike list below)

    onto : (list : List ℕ) (worth : ℕ) → rest_worth p heads bs may class list ≡ Some worth → InGroup group list →
        (a : RestLabel L) × (label_of r list ≡ Some a) × (close a.label ≡ Some (value_of prices worth list))
    onto [] worth e inside = let bad = (rest-parts p heads bs may class [] worth e).keeps in absurd (cc)
    onto (x ∷ xs) worth e inside =
        let parts = rest-parts p heads bs may class (x ∷ xs) worth e in
        let (there, below) = both-true (nat_lt x (length bs)) (all_below (length bs) xs) parts.below in
        let (past, goes) = both-true (none_below (length heads) xs)
        (may_go_on may class (slice_get heads x) xs (written bs (x ∷ xs))) parts.keeps in
        let within : x < length bs = grind (arith, nat_tests) in
        let (starts, follow) = goes-start (slice_get heads x) (body_at bs x) (written bs (x ∷ xs)) xs
        (first x (written bs xs) within) goes in
        let (l, is, closes) = onto-body start end (body_at bs x) (written bs xs) worth tied (some x within)
        (λ y ys is. begin x y ys inside is) parts.same in
        let split : label_after w (label_of w (body_at bs x)) (written bs xs) ≡ Some l =
        sym (of-append (body_at bs x) (written bs xs) (some x within)) ∙ is in
        let test = true-both (nat_lt x (length bs)) (begins x) there (begins-is x within ∙ starts) in
        elim (label_of w (body_at bs x)) as (λ o. label_of w (body_at bs x) ≡ o → label_after w o (written bs xs) ≡ Some l →
        (a : RestLabel L) × (label_of r (x ∷ xs) ≡ Some a) × (close a.label ≡ Some (value_of prices worth (x ∷ xs)))) [
          | None ↦ λ is e. absurd (after-none w (written bs xs) l e)
          | Some m ↦ λ is e.
              let (b, ends, same) = tail-onto (ending x m) l xs
              (record { up = parts.rises; below = below; past = past; follow = follow }) e in
              let begun : r.start x ≡ Some (ending x m) =
              onto-cond (nat_lt x (length bs) && begins x) (option_map (ending x) (label_of w (body_at bs x))) test
              ∙ ap (option_map (ending x)) is in
              (b, ap (λ o. label_after r o xs) begun ∙ ends, ap close same ∙ closes ∙ ap (λ z. Some z) (values worth (x ∷ xs) parts.below))
        ] refl split

    from : (list : List ℕ) (a : RestLabel L) (v : ℤ) → label_of r list ≡ Some a → close a.label ≡ Some v →
        (worth : ℕ) × (rest_worth p heads bs may class list ≡ Some worth) × (v ≡ value_of prices worth list)
    from [] a v e closes = absurd (cc)
    from (x ∷ xs) a v e closes =
        elim (r.start x) as (λ o. r.start x ≡ o → label_after r o xs ≡ Some a →
        (worth : ℕ) × (rest_worth p heads bs may class (x ∷ xs) ≡ Some worth) × (v ≡ value_of prices worth (x ∷ xs))) [
          | None ↦ λ is e. absurd (after-none r xs a e)
          | Some c ↦ λ is e.
              let (test, was) = from-cond (nat_lt x (length bs) && begins x) (option_map (ending x) (label_of w (body_at bs x))) c is in
              let (there, sets) = both-true (nat_lt x (length bs)) (begins x) test in
              let (within, item, begun) = start-parts w bs (length heads) begins more x c is in
              let starts = sym (begins-is x within) ∙ sets in
              let (tail, ends) = tail-from c a xs e in
              let whole : label_of w (written bs (x ∷ xs)) ≡ Some a.label =
              of-append (body_at bs x) (written bs xs) (some x within) ∙ ap (λ o. label_after w o (written bs xs)) begun ∙ ends in
              let (worth, has, value) = tied.from (written bs (x ∷ xs)) a.label v whole closes in
              let P : ℕ → Type 0 = λ x. rises (x ∷ xs) ≡ true in
              let Q : ℕ → Type 0 = λ x. is_empty xs ≡ false → may_follow (slice_get heads x) ≡ true in
              let below = true-both (nat_lt x (length bs)) (all_below (length bs) xs) there tail.below in
              let goes = start-goes (slice_get heads x) (body_at bs x) (written bs (x ∷ xs)) xs (first x (written bs xs) within) starts
              (subst Q item tail.follow) in (
                worth,
                parts-rest p heads bs may class (x ∷ xs) worth (record {
                  rises = subst P item tail.up;
                  below = below;
                  keeps = true-both (none_below (length heads) xs) (may_go_on may class (slice_get heads x) xs (written bs (x ∷ xs)))
                      tail.past goes;
                  same = has;
                }),
                value ∙ values worth (x ∷ xs) below,
              )
        ] refl e

    -- The labels of a rest are tied to its worths in a group: a list of the rest has a worth where it keeps the heads and its
    -- written-out list has one; it has a label that closes where its steps may be made and the written-out list closes. The tests of
    -- the steps are those of keeping the heads (`goes-start`, `start-goes`), the written-out list is tied by the problem's own
    -- labels, and the values agree as both lists have the same prices (`alike`). The contract of `rest_is_tied` is this.
    pub rest-tied : IsTiedInGroup (of_group r group) (λ a. close a.label) prices group (rest_worth p heads bs may class)
    rest-tied = record {
      onto = λ list worth e inside. let (a, has, closes) = onto list worth e inside in (a, onto-group r group list inside ∙ has, closes);
      from = λ list a v e closes. let (has, inside) = from-group r group list a e in
          let (worth, worth_is, value) = from list a v has closes in (inside, worth, worth_is, value);
    }
