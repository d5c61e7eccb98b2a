-- Promise: the laws of the labels of a rest.
use Rattle.std.proofs.Common.{◌≡◌, ℕ, ℤ, ◌<◌, ◌<ℤ◌, ◌&&◌, Bool, true, nat_lt, nat_le, nat_eq, List, [], ◌∷◌, length, Option, Some, None, refl, sym, ap, subst, ◌∙◌, arith}
use Rattle.std.specs.Option.{option_map}
use Rattle.std.proofs.lemmas.Bool.Decides.{nat_tests}
use Rattle.cover_core.specs.Labels.{IsKept, IsValued, Labelling, label_after, label_of}
use Rattle.label_search.specs.Laws.{GoodAs, HidesNone, IsSafe, IsStepwise}
use Rattle.cover_rest.specs.Rest.{body_at}
use Rattle.cover_rest.proofs.Lists.{both-true, from-cond, onto-cond, some-same, true-both}
use Rattle.rest_labels.specs.declared.label.RestLabel.{RestLabel}
use Rattle.rest_labels.specs.Labels.{RestSound, ending, is_next, labels_of_rest, last_of, rest_good}

pub map-some : {A B : Type 0} (f : A → B) (o : Option A) (y : B) → option_map f o ≡ Some y → (x : A) × (o ≡ Some x) × (f x ≡ y)
map-some f None y e = absurd (cc)
map-some f (Some x) y e = (x, refl, some-same (f x) y e)

module _ {L : Type 0} (w : Labelling L) where
  pub after-none : (xs : List ℕ) (b : L) → label_after w None xs ≡ Some b → ⊥
  after-none [] b e = absurd (cc)
  after-none (x ∷ xs) b e = absurd (cc)

  -- a fact that each step keeps
  after-all : (P : L → Type 0) → ((a b : L) (item : ℕ) → P a → w.extend a item ≡ Some b → P b) → (a b : L) (xs : List ℕ) → P a →
      label_after w (Some a) xs ≡ Some b → P b
  after-all P step a b [] h e = subst P (some-same a b e) h
  after-all P step a b (x ∷ xs) h e =
      elim (w.extend a x) as (λ o. w.extend a x ≡ o → label_after w o xs ≡ Some b → P b) [
        | None ↦ λ is e. absurd (after-none xs b e)
        | Some c ↦ λ is e. after-all P step c b xs (step a c x h is) e
      ] refl e

  -- a fact that each step keeps backwards, where labels are sound
  pub after-back : (P Q : L → Type 0) → ((a b : L) (item : ℕ) → Q a → w.extend a item ≡ Some b → Q b) →
      ((a b : L) (item : ℕ) → Q a → w.extend a item ≡ Some b → P b → P a) →
      (a b : L) (xs : List ℕ) → Q a → label_after w (Some a) xs ≡ Some b → P b → P a
  after-back P Q fits back a b [] q e h = subst P (sym (some-same a b e)) h
  after-back P Q fits back a b (x ∷ xs) q e h =
      elim (w.extend a x) as (λ o. w.extend a x ≡ o → label_after w o xs ≡ Some b → P a) [
        | None ↦ λ is e. absurd (after-none xs b e)
        | Some c ↦ λ is e. back a c x q is (after-back P Q fits back c b xs (fits a c x q is) e h)
      ] refl e

  module _ (good : L → L → Bool) (kept : IsKept w (GoodAs good)) where
    after-kept : (a b b' : L) (xs : List ℕ) → good a b ≡ true → label_after w (Some b) xs ≡ Some b' →
        (a' : L) × (label_after w (Some a) xs ≡ Some a') × (good a' b' ≡ true)
    after-kept a b b' [] h e = let P : L → Type 0 = λ b. good a b ≡ true in (a, refl, subst P (some-same b b' e) h)
    after-kept a b b' (x ∷ xs) h e =
        elim (w.extend b x) as (λ o. w.extend b x ≡ o → label_after w o xs ≡ Some b' →
        (a' : L) × (label_after w (Some a) (x ∷ xs) ≡ Some a') × (good a' b' ≡ true)) [
          | None ↦ λ is e. absurd (after-none xs b' e)
          | Some c ↦ λ is e.
              let (d, there, better) = kept.extended a b c x h is in
              let (a', ends, best) = after-kept d c b' xs better e in
              (a', ap (λ o. label_after w o xs) there ∙ ends, best)
        ] refl e

    after-apart : (value_at : L → ℤ) (close : L → Option ℤ) → IsValued w (GoodAs good) value_at close → (a b a' b' : L) (xs : List ℕ) →
        good a b ≡ true → value_at a <ℤ value_at b →
        label_after w (Some a) xs ≡ Some a' → label_after w (Some b) xs ≡ Some b' → value_at a' <ℤ value_at b'
    after-apart value_at close valued a b a' b' [] h less ea eb =
        let P : L → Type 0 = λ a. value_at a <ℤ value_at b' in
        let Q : L → Type 0 = λ b. value_at a <ℤ value_at b in
        subst P (some-same a a' ea) (subst Q (some-same b b' eb) less)
    after-apart value_at close valued a b a' b' (x ∷ xs) h less ea eb =
        elim (w.extend b x) as (λ o. w.extend b x ≡ o → label_after w o xs ≡ Some b' → value_at a' <ℤ value_at b') [
          | None ↦ λ is e. absurd (after-none xs b' e)
          | Some c ↦ λ is e.
              let (d, there, better) = kept.extended a b c x h is in
              let begun : label_after w (Some d) xs ≡ Some a' = ap (λ o. label_after w o xs) (sym there) ∙ ea in
              after-apart value_at close valued d c a' b' xs better (valued.apart a b d c x h less there is) begun e
        ] refl eb

  -- a label behind some items has the last of them
  after-last : (count : ℕ) (last : L → ℕ) → IsStepwise w count last → (a b : L) (x : ℕ) (xs : List ℕ) →
      label_after w (w.extend a x) xs ≡ Some b → last_of (x ∷ xs) ≡ Some (last b)
  after-last count last steps a b x [] e =
      elim (w.extend a x) as (λ o. w.extend a x ≡ o → label_after w o [] ≡ Some b → Some x ≡ Some (last b)) [
        | None ↦ λ is e. absurd (cc)
        | Some c ↦ λ is e. ap (λ t. Some t) (sym (steps.steps a c x is).2) ∙ ap (λ l. Some (last l)) (some-same c b e)
      ] refl e
  after-last count last steps a b x (y ∷ ys) e =
      elim (w.extend a x) as (λ o. label_after w o (y ∷ ys) ≡ Some b → last_of (x ∷ y ∷ ys) ≡ Some (last b)) [
        | None ↦ λ e. absurd (cc)
        | Some c ↦ λ e. after-last count last steps c b y ys e
      ] e

  of-last : (count : ℕ) (last : L → ℕ) → IsStepwise w count last → (b : L) (x : ℕ) (xs : List ℕ) → label_of w (x ∷ xs) ≡ Some b →
      last_of (x ∷ xs) ≡ Some (last b)
  of-last count last steps b x [] e =
      elim (w.start x) as (λ o. w.start x ≡ o → label_after w o [] ≡ Some b → Some x ≡ Some (last b)) [
        | None ↦ λ is e. absurd (cc)
        | Some c ↦ λ is e. ap (λ t. Some t) (sym (steps.starts x c is).1) ∙ ap (λ l. Some (last l)) (some-same c b e)
      ] refl e
  of-last count last steps b x (y ∷ ys) e =
      elim (w.start x) as (λ o. label_after w o (y ∷ ys) ≡ Some b → last_of (x ∷ y ∷ ys) ≡ Some (last b)) [
        | None ↦ λ e. absurd (cc)
        | Some c ↦ λ e. after-last count last steps c b y ys e
      ] e

  module _ (bs : List (List ℕ)) (heads : ℕ) (begins more : ℕ → Bool) where
    abbrev r : Labelling (RestLabel L)
    r = labels_of_rest w bs heads begins more

    -- what a step of the rest is
    pub record IsStep (a b : RestLabel L) (y : ℕ) : Type 0 where
      pub next : is_next heads more (length bs) a.item y ≡ true
      pub item : b.item ≡ y
      pub after : label_after w (Some a.label) (body_at bs y) ≡ Some b.label

    pub step-parts : (a b : RestLabel L) (y : ℕ) → r.extend a y ≡ Some b → IsStep a b y
    step-parts a b y e =
        let (test, is) = from-cond (is_next heads more (length bs) a.item y)
        (option_map (ending y) (label_after w (Some a.label) (body_at bs y))) b e in
        let (l, after, same) = map-some (ending y) (label_after w (Some a.label) (body_at bs y)) b is in
        record {
          next = test;
          item = ap (λ (b : RestLabel L). b.item) (sym same);
          after =
              after ∙ ap (λ (b : RestLabel L). Some b.label) same;
        }

    pub parts-step : (a : RestLabel L) (l : L) (y : ℕ) → is_next heads more (length bs) a.item y ≡ true →
        label_after w (Some a.label) (body_at bs y) ≡ Some l → r.extend a y ≡ Some (ending y l)
    parts-step a l y next after =
        onto-cond (is_next heads more (length bs) a.item y) (option_map (ending y) (label_after w (Some a.label) (body_at bs y))) next
        ∙ ap (option_map (ending y)) after

    good-parts : (good : L → L → Bool) (a b : RestLabel L) → rest_good good a b ≡ true → (a.item ≡ b.item) × (good a.label b.label ≡ true)
    good-parts good a b h = let (same, better) = both-true (nat_eq a.item b.item) (good a.label b.label) h in
        (grind (arith, nat_tests), better)

    parts-good : (good : L → L → Bool) (a b : RestLabel L) → a.item ≡ b.item → good a.label b.label ≡ true → rest_good good a b ≡ true
    parts-good good a b same better = let test : nat_eq a.item b.item ≡ true = grind (arith, nat_tests) in
        true-both (nat_eq a.item b.item) (good a.label b.label) test better

    pub rest-kept : (good : L → L → Bool) → IsKept w (GoodAs good) → IsKept r (GoodAs (rest_good good))
    rest-kept good kept = record {
      same = λ a. parts-good good a a refl (kept.same a.label);
      through = λ a b c h k.
          let (one, better) = good-parts good a b h in
          let (two, best) = good-parts good b c k in
          parts-good good a c (one ∙ two) (kept.through a.label b.label c.label better best);
      extended = λ a b b' y h e.
          let (same, better) = good-parts good a b h in
          let step = step-parts b b' y e in
          let (l, after, best) = after-kept good kept a.label b.label b'.label (body_at bs y) better step.after in
          let P : ℕ → Type 0 = λ x. is_next heads more (length bs) x y ≡ true in
          (ending y l, parts-step a l y (subst P (sym same) step.next) after, parts-good good (ending y l) b' (sym step.item) best);
    }

    pub rest-valued : (good : L → L → Bool) (value_at : L → ℤ) (close : L → Option ℤ) → IsKept w (GoodAs good) →
        IsValued w (GoodAs good) value_at close →
        IsValued r (GoodAs (rest_good good)) (λ a. value_at a.label) (λ a. close a.label)
    rest-valued good value_at close kept valued = record {
      at_most = λ a b h. valued.at_most a.label b.label (good-parts good a b h).1;
      apart = λ a b a' b' y h less ea eb.
          let (same, better) = good-parts good a b h in
          after-apart good kept value_at close valued a.label b.label a'.label b'.label (body_at bs y) better less
          (step-parts a a' y ea).after (step-parts b b' y eb).after;
      closes = λ a b v h e. valued.closes a.label b.label v (good-parts good a b h).1 e;
    }

    pub start-parts : (x : ℕ) (a : RestLabel L) → r.start x ≡ Some a →
        (x < length bs) × (a.item ≡ x) × (label_of w (body_at bs x) ≡ Some a.label)
    start-parts x a e =
        let (test, is) = from-cond (nat_lt x (length bs) && begins x) (option_map (ending x) (label_of w (body_at bs x))) a e in
        let (there, starts) = both-true (nat_lt x (length bs)) (begins x) test in
        let (l, begun, same) = map-some (ending x) (label_of w (body_at bs x)) a is in
        (grind (arith, nat_tests), ap (λ (a : RestLabel L). a.item) (sym same), begun ∙ ap (λ (a : RestLabel L). Some a.label) same)

    next-parts : (x y : ℕ) → is_next heads more (length bs) x y ≡ true → (x < y) × (y < length bs)
    next-parts x y e =
        let (front, rest) = both-true (nat_lt x y && nat_lt y (length bs)) (nat_le heads y && more x) e in
        let (up, there) = both-true (nat_lt x y) (nat_lt y (length bs)) front in
        (grind (arith, nat_tests), grind (arith, nat_tests))

    pub rest-stepwise : IsStepwise r (length bs) (λ a. a.item)
    rest-stepwise = record {
      starts = λ x a e. let (there, item, begun) = start-parts x a e in (there, item);
      steps = λ a b y e. let step = step-parts a b y e in let (up, there) = next-parts a.item y step.next in (up, there, step.item);
    }

    of-sound : (sound : L → Type 0) → IsSafe w sound → (xs : List ℕ) (a : L) → label_of w xs ≡ Some a → sound a
    of-sound sound safe [] a e = absurd (cc)
    of-sound sound safe (x ∷ xs) a e =
        elim (w.start x) as (λ o. w.start x ≡ o → label_after w o xs ≡ Some a → sound a) [
          | None ↦ λ is e. absurd (after-none xs a e)
          | Some c ↦ λ is e. after-all sound safe.steps c a xs (safe.starts x c is) e
        ] refl e

    pub rest-safe : (count : ℕ) (last : L → ℕ) (sound : L → Type 0) → IsStepwise w count last → IsSafe w sound →
        IsSafe r (RestSound bs last sound)
    rest-safe count last sound steps safe = record {
      starts = λ x a e.
          let (there, item, begun) = start-parts x a e in
          record {
            fits = of-sound sound safe (body_at bs x) a.label begun;
            ends = λ t is. begun-last (body_at bs x) a.label begun t (ap (λ x. last_of (body_at bs x)) (sym item) ∙ is);
          };
      steps = λ a b y h e.
          let step = step-parts a b y e in
          record {
            fits = after-all sound safe.steps a.label b.label (body_at bs y) h.fits step.after;
            ends = λ t is. behind-last (body_at bs y) a.label b.label step.after t (ap (λ x. last_of (body_at bs x)) (sym step.item) ∙ is);
          };
    }
      where
        begun-last : (xs : List ℕ) (b : L) → label_of w xs ≡ Some b → (t : ℕ) → last_of xs ≡ Some t → last b ≡ t
        begun-last [] b e t is = absurd (cc)
        begun-last (x ∷ xs) b e t is = some-same (last b) t (sym (of-last count last steps b x xs e) ∙ is)

        behind-last : (xs : List ℕ) (a b : L) → label_after w (Some a) xs ≡ Some b → (t : ℕ) → last_of xs ≡ Some t → last b ≡ t
        behind-last [] a b e t is = absurd (cc)
        behind-last (x ∷ xs) a b e t is = some-same (last b) t (sym (after-last count last steps a b x xs e) ∙ is)

    pub rest-hides : (good : L → L → Bool) (close : L → Option ℤ) (last : L → ℕ) (sound : L → Type 0) (may_close : ℤ → L → Bool) →
        IsSafe w sound → HidesNone w good close sound may_close →
        HidesNone r (rest_good good) (λ a. close a.label) (RestSound bs last sound) (λ limit a. may_close limit a.label)
    rest-hides good close last sound may_close safe hides = record {
      closes = λ limit a v h e low. hides.closes limit a.label v h.fits e low;
      steps = λ limit a b y h e passes.
          after-back (λ l. may_close limit l ≡ true) sound safe.steps (λ l m item q is h. hides.steps limit l m item q is h) a.label b.label
          (body_at bs y) h.fits (step-parts a b y e).after passes;
      ordered = λ limit a b h passes. hides.ordered limit a.label b.label (good-parts good a b h).1 passes;
    }
