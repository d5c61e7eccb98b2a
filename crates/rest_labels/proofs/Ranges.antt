-- The tie of all lists is one of those that begin in a range of items.
use Rattle.std.proofs.Common.{◌≡◌, ℕ, ℤ, ◌<◌, ◌≤◌, true, false, cond, List, [], ◌∷◌, Option, Some, None, sym, ap, ◌∙◌, arith}
use Rattle.std.proofs.lemmas.Bool.Decides.{nat_tests}
use Rattle.plan_core.specs.declared.Price.{Price}
use Rattle.cover_core.specs.Labels.{Labelling, label_after, label_of}
use Rattle.label_search.specs.Pricing.{IsTied, is_between, of_range}
use Rattle.label_search.proofs.Pricing.{start-label}
use Rattle.rest_labels.specs.Kept.{after-none}
use Rattle.rest_labels.specs.Laws.{IsTiedWithin}

pub range-tied-within : {L : Type 0} (w : Labelling L) (first end : ℕ) (close : L → Option ℤ) (prices : List Price)
    (worth_of : List ℕ → Option ℕ) →
    IsTied w close prices worth_of → IsTiedWithin first end (of_range w first end) close prices worth_of
range-tied-within {L = L} w first end close prices worth_of tied = record {
  onto = λ x xs worth late early e. let (a, has, closes) = tied.onto (x ∷ xs) worth e in (a, onto x xs a late early has, closes);
  from = λ list a v e closes. tied.from list a v (back list a e) closes;
}
  where
    within : (x : ℕ) → first ≤ x → x < end → is_between first end x ≡ true
    within x late early = grind (arith, nat_tests)

    onto : (x : ℕ) (xs : List ℕ) (a : L) → first ≤ x → x < end → label_of w (x ∷ xs) ≡ Some a →
        label_of (of_range w first end) (x ∷ xs) ≡ Some a
    onto x xs a late early e =
        start-label w (is_between first end) x xs ∙ ap (λ t. label_after w (cond t (w.start x) None) xs) (within x late early) ∙ e

    back : (list : List ℕ) (a : L) → label_of (of_range w first end) list ≡ Some a → label_of w list ≡ Some a
    back [] a e = absurd (cc)
    back (x ∷ xs) a e =
        elim (is_between first end x) as (λ t. label_after w (cond t (w.start x) None) xs ≡ Some a →
        label_after w (w.start x) xs ≡ Some a) [
          | true ↦ λ e. e
          | false ↦ λ e. absurd (after-none w xs a e)
        ] (sym (start-label w (is_between first end) x xs) ∙ e)
