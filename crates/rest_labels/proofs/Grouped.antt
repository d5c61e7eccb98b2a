-- The labels of a rest in a group are tied to its worths.
use Rattle.std.proofs.Common.{ℕ, ℤ, List, Option, subst, sym}
use Rattle.cover_core.specs.Labels.{Labelling}
use Rattle.label_search.specs.Pricing.{IsTiedInGroup, of_group}
use Rattle.cover_rest.specs.Rest.{rest_worth}
use Rattle.rest_labels.specs.Labels.{is_set, labels_of_rest, more_after}
use Rattle.rest_labels.specs.Laws.{IsRestTied}
use Rattle.rest_labels.proofs.Tied.{rest-tied}

pub tied-in-group : {L : Type 0} (w : Labelling L) (close : L → Option ℤ) → IsRestTied w close
tied-in-group w close p heads bs may class starts ended prices spread group first end marks are begin tied =
    let worth_of : List ℕ → Option ℕ = rest_worth p heads bs may class in
    let P : ℕ → Type 0 = λ n. IsTiedInGroup (of_group (labels_of_rest w bs n (is_set starts) (more_after ended)) group)
    (λ a. close a.label) prices group worth_of in
    subst P (sym marks.each)
    (rest-tied w heads bs may class (is_set starts) (more_after ended) marks.starts_is marks.ended_is p close prices spread group first end
    begin tied are.alike are.first are.some)
