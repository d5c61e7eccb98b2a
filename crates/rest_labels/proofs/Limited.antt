-- Labels that are tested at each step are those that are tested at the end.
use Rattle.std.proofs.Common.{◌≡◌, ℕ, ℤ, ◌≤◌, Bool, true, false, cond, List, [], ◌∷◌, length, drop, get_or, Option, Some, None, refl, sym, ap, ◌∙◌, arith}
use Rattle.std.specs.Prelude.{IfNone, IfSome}
use Rattle.std.specs.Option.{option_map}
use Rattle.cover_core.specs.Labels.{Labelling, label_after, label_of}
use Rattle.cover_rest.specs.Rest.{body_at}
use Rattle.rest_labels.specs.declared.label.RestLabel.{RestLabel}
use Rattle.rest_labels.specs.Labels.{ending, is_next, labels_of_rest}
use Rattle.label_search.specs.Laws.{HidesNone, IsSafe}
use Rattle.label_search.specs.Limits.{limited, passed}
use Rattle.rest_labels.specs.Kept.{after-back}

-- what holds of an answer, where it follows from what is known of it
pub if-some : {A : Type 0} (o : Option A) (P Q : A → Type 0) → ((x : A) → P x → Q x) → IfSome o P → IfSome o Q
if-some None P Q f h = h
if-some (Some x) P Q f h = f x h

pub if-none : {A : Type 0} (o : Option A) (P Q : Type 0) → (P → Q) → IfNone o P → IfNone o Q
if-none None P Q f h = f h
if-none (Some x) P Q f h = h

module _ {L : Type 0} (w : Labelling L) (good : L → L → Bool) (close : L → Option ℤ) (sound : L → Type 0) (may_close : ℤ → L → Bool)
    (safe : IsSafe w sound) (hides : HidesNone w good close sound may_close) (limit : ℤ) where
  none-after : (v : Labelling L) (xs : List ℕ) → label_after v None xs ≡ None
  none-after v [] = refl
  none-after v (x ∷ xs) = refl

  -- behind a label that does not pass none passes
  none-passes : (a : L) (xs : List ℕ) → sound a → may_close limit a ≡ false → passed (may_close limit) (label_after w (Some a) xs) ≡ None
  none-passes a xs fits low = elim (label_after w (Some a) xs) as (λ o. label_after w (Some a) xs ≡ o → passed (may_close limit) o ≡ None) [
    | None ↦ λ is. refl
    | Some b ↦ λ is. elim (may_close limit b) as (λ t. may_close limit b ≡ t → cond t (Some b) None ≡ None) [
      | true ↦ λ passes.
          let back = after-back w (λ l. may_close limit l ≡ true) sound safe.steps (λ l m item q e h. hides.steps limit l m item q e h)
          a b xs fits is passes in
          let bad : false ≡ true = sym low ∙ back in
          absurd (cc)
      | false ↦ λ fails. refl
    ] refl
  ] refl

  -- A body of several items may be put behind a label with the limit's test after each item, or with one test at the end: behind a
  -- label that does not pass none passes (`none-passes`), so a body that fails on the way would fail at its end. The labels of the
  -- problem are tested at each step, those of the rest once for each item of the rest; the lemma makes both the same.
  pub fold-passed : (a : L) (xs : List ℕ) → sound a → may_close limit a ≡ true →
      label_after (limited w (may_close limit)) (Some a) xs ≡ passed (may_close limit) (label_after w (Some a) xs)
  fold-passed a [] fits low = ap (λ t. cond t (Some a) None) (sym low)
  fold-passed a (x ∷ xs) fits low =
      elim (w.extend a x) as (λ o. w.extend a x ≡ o → label_after (limited w (may_close limit)) (passed (may_close limit) o) xs
      ≡ passed (may_close limit) (label_after w o xs)) [
        | None ↦ λ is. none-after (limited w (may_close limit)) xs ∙ ap (passed (may_close limit)) (sym (none-after w xs))
        | Some c ↦ λ is. elim (may_close limit c) as (λ t. may_close limit c ≡ t →
            label_after (limited w (may_close limit)) (cond t (Some c) None) xs ≡ passed (may_close limit) (label_after w (Some c) xs)) [
              | true ↦ λ passes. fold-passed c xs (safe.steps a c x fits is) passes
              | false ↦ λ fails. none-after (limited w (may_close limit)) xs ∙ sym (none-passes c xs (safe.steps a c x fits is) fails)
            ] refl
      ] refl

  pub fold-all : (o : Option L) (xs : List ℕ) → ((a : L) → o ≡ Some a → sound a) →
      label_after (limited w (may_close limit)) (passed (may_close limit) o) xs ≡ passed (may_close limit) (label_after w o xs)
  fold-all None xs fits = refl
  fold-all (Some a) xs fits =
      elim (may_close limit a) as (λ t. may_close limit a ≡ t → label_after (limited w (may_close limit)) (cond t (Some a) None) xs
      ≡ passed (may_close limit) (label_after w (Some a) xs)) [
        | true ↦ λ passes. fold-passed a xs (fits a refl) passes
        | false ↦ λ fails. sym (none-passes a xs (fits a refl) fails)
      ] refl

  -- the label of a list, from its first item and those behind it
  pub begun-with : (list tail : List ℕ) (o r : Option L) → 1 ≤ length list → tail ≡ drop 1 list →
      o ≡ passed (may_close limit) (w.start (get_or list 0 0)) →
      r ≡ label_after (limited w (may_close limit)) o tail → r ≡ passed (may_close limit) (label_of w list)
  begun-with [] tail o r some cut first rest = absurd (omega arith)
  begun-with (x ∷ xs) tail o r some cut first rest =
      rest ∙ ap (λ l. label_after (limited w (may_close limit)) o l) cut ∙ ap (λ o. label_after (limited w (may_close limit)) o xs) first
      ∙ fold-all (w.start x) xs (safe.starts x)

  -- the label of a list with items more, from the first of these and those behind it
  pub gone-on-with : (a : L) (list tail : List ℕ) (o r : Option L) → sound a → 1 ≤ length list → tail ≡ drop 1 list →
      o ≡ passed (may_close limit) (w.extend a (get_or list 0 0)) →
      r ≡ label_after (limited w (may_close limit)) o tail → r ≡ passed (may_close limit) (label_after w (Some a) list)
  gone-on-with a [] tail o r fits some cut first rest = absurd (omega arith)
  gone-on-with a (x ∷ xs) tail o r fits some cut first rest =
      rest ∙ ap (λ l. label_after (limited w (may_close limit)) o l) cut ∙ ap (λ o. label_after (limited w (may_close limit)) o xs) first
      ∙ fold-all (w.extend a x) xs (λ b is. safe.steps a b x fits is)

  -- where none with the first item passes, none with all of them does
  pub none-with : (a : L) (list : List ℕ) → sound a → 1 ≤ length list → passed (may_close limit) (w.extend a (get_or list 0 0)) ≡ None →
      passed (may_close limit) (label_after w (Some a) list) ≡ None
  none-with a [] fits some none = absurd (omega arith)
  none-with a (x ∷ xs) fits some none =
      sym (fold-all (w.extend a x) xs (λ b is. safe.steps a b x fits is)) ∙ ap (λ o. label_after (limited w (may_close limit)) o xs) none

  ended : (y : ℕ) (o : Option L) → passed (may_close limit) o ≡ None →
      passed (λ (a : RestLabel L). may_close limit a.label) (option_map (ending y) o) ≡ None
  ended y None e = refl
  ended y (Some b) e = elim (may_close limit b) as (λ t. cond t (Some b) None ≡ None → cond t (Some (ending y b)) None ≡ None) [
    | true ↦
        λ e. absurd (cc)
    | false ↦ λ e. refl
  ] e

  -- so none with an item of the rest does that stands for them
  pub none-extends : (bs : List (List ℕ)) (heads : ℕ) (begins more : ℕ → Bool) (a : RestLabel L) (y : ℕ) (list : List ℕ) →
      list ≡ body_at bs y → sound a.label → 1 ≤ length list →
      passed (may_close limit) (w.extend a.label (get_or list 0 0)) ≡ None →
      passed (λ (a : RestLabel L). may_close limit a.label) ((labels_of_rest w bs heads begins more).extend a y) ≡ None
  none-extends bs heads begins more a y list is fits some none =
      let all : passed (may_close limit) (label_after w (Some a.label) (body_at bs y)) ≡ None =
      ap (λ l. passed (may_close limit) (label_after w (Some a.label) l)) (sym is) ∙ none-with a.label list fits some none in
      elim (is_next heads more (length bs) a.item y) as
      (λ t. passed (λ (a : RestLabel L). may_close limit a.label)
      (cond t (option_map (ending y) (label_after w (Some a.label) (body_at bs y))) None) ≡ None) [
        | true ↦ ended y (label_after w (Some a.label) (body_at bs y)) all
        | false ↦ refl
      ]
