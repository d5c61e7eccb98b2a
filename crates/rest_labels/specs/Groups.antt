-- Promise: the labels of the lists of a rest in a group, by marks.
use Rattle.std.specs.Prelude.{ℕ, ℤ, Bool, List, length, Option}
use Rattle.cover_core.specs.Labels.{IsKept, IsValued, Labelling}
use Rattle.label_search.specs.Laws.{GoodAs, HidesNone, IsSafe, IsStepwise}
use Rattle.label_search.specs.Pricing.{of_group}
use Rattle.label_search.proofs.Pricing.{of_group-hides, of_group-kept, of_group-safe, of_group-stepwise, of_group-valued}
use Rattle.rest_labels.specs.declared.label.RestLabel.{RestLabel}
use Rattle.rest_labels.specs.Labels.{RestSound, is_set, labels_of_rest, more_after, rest_good}
use Rattle.rest_labels.specs.Kept.{rest-hides, rest-kept, rest-safe, rest-stepwise, rest-valued}

-- the labels of a rest whose first item is in a group: lists begin with items that are marked, and there is a mark for each head whether
-- it is finished
abbrev pub group_labels : {L : Type 0} → Labelling L → List (List ℕ) → List Bool → List Bool → ℕ → Labelling (RestLabel L)
group_labels w bs starts ended group = of_group (labels_of_rest w bs (length ended) (is_set starts) (more_after ended)) group

module _ {L : Type 0} (w : Labelling L) (bs : List (List ℕ)) (starts ended : List Bool) (group : ℕ) where
  abbrev r : Labelling (RestLabel L)
  r = labels_of_rest w bs (length ended) (is_set starts) (more_after ended)

  pub group-kept : (good : L → L → Bool) → IsKept w (GoodAs good) → IsKept (group_labels w bs starts ended group) (GoodAs (rest_good good))
  group-kept good kept = of_group-kept r (GoodAs (rest_good good)) group
      (rest-kept w bs (length ended) (is_set starts) (more_after ended) good kept)

  pub group-valued : (good : L → L → Bool) (value_at : L → ℤ) (close : L → Option ℤ) → IsKept w (GoodAs good) →
      IsValued w (GoodAs good) value_at close →
      IsValued (group_labels w bs starts ended group) (GoodAs (rest_good good)) (λ a. value_at a.label) (λ a. close a.label)
  group-valued good value_at close kept valued =
      of_group-valued r (GoodAs (rest_good good)) (λ a. value_at a.label) (λ a. close a.label) group
      (rest-valued w bs (length ended) (is_set starts) (more_after ended) good value_at close kept valued)

  pub group-stepwise : IsStepwise (group_labels w bs starts ended group) (length bs) (λ a. a.item)
  group-stepwise = of_group-stepwise r (length bs) (λ a. a.item) group
      (rest-stepwise w bs (length ended) (is_set starts) (more_after ended))

  pub group-safe : (count : ℕ) (last : L → ℕ) (sound : L → Type 0) → IsStepwise w count last → IsSafe w sound →
      IsSafe (group_labels w bs starts ended group) (RestSound bs last sound)
  group-safe count last sound steps safe =
      of_group-safe r (RestSound bs last sound) group
      (rest-safe w bs (length ended) (is_set starts) (more_after ended) count last sound steps safe)

  pub group-hides : (good : L → L → Bool) (close : L → Option ℤ) (last : L → ℕ) (sound : L → Type 0) (may_close : ℤ → L → Bool) →
      IsSafe w sound → HidesNone w good close sound may_close →
      HidesNone (group_labels w bs starts ended group) (rest_good good) (λ a. close a.label) (RestSound bs last sound)
      (λ limit a. may_close limit a.label)
  group-hides good close last sound may_close safe hides =
      of_group-hides r (rest_good good) (λ a. close a.label) (RestSound bs last sound) (λ limit a. may_close limit a.label) group
      (rest-hides w bs (length ended) (is_set starts) (more_after ended) good close last sound may_close safe hides)
