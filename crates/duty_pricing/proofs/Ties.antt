-- What ties labels to worths, where the parts of the labels are known by equations.
use Rattle.std.proofs.Common.{◌≡◌, ℕ, ◌+◌, ◌*◌, List, sym, subst}
use Rattle.std.specs.Prelude.{Some, slice_get}
use Rattle.plan_core.specs.declared.types.Price.{Price}
use Rattle.label_search.specs.Pricing.{IsTiedInGroup}
use Rattle.plan_params.specs.declared.rows.group.Group.{Group}
use Rattle.duty_network.specs.Duties.{DutyFacts, duty_worth}
use Rattle.duty_network.specs.Marks.{closed_value}
use Rattle.duty_network.specs.Ranges.{NetFits}
use Rattle.duty_pricing.specs.Laws.{duty-tied, duty_labels}

pub made-tied : (d net : DutyFacts) (prices own : List Price) (class label_class : ℕ) (g : Group) (group first end : ℕ) → net ≡ d →
    own ≡ prices → label_class ≡ class → first ≡ 16 * group →
    end ≡ 16 * group + 16 → slice_get d.params.groups class ≡ Some g → NetFits d →
    IsTiedInGroup (duty_labels net own label_class g first end) (closed_value net g) prices group (duty_worth d class)
made-tied d net prices own class label_class g group first end of_net of_prices of_class of_first of_end is_g f =
    let A : DutyFacts → Type 0 =
    λ n. IsTiedInGroup (duty_labels n own label_class g first end) (closed_value n g) prices group (duty_worth d class) in
    let B : List Price → Type 0 =
    λ p. IsTiedInGroup (duty_labels d p label_class g first end) (closed_value d g) prices group (duty_worth d class) in
    let C : ℕ → Type 0 = λ c. IsTiedInGroup (duty_labels d prices c g first end) (closed_value d g) prices group (duty_worth d class) in
    let D : ℕ → Type 0 = λ n. IsTiedInGroup (duty_labels d prices class g n end) (closed_value d g) prices group (duty_worth d class) in
    let E : ℕ → Type 0 = λ n. IsTiedInGroup (duty_labels d prices class g (16 * group) n) (closed_value d g) prices
    group (duty_worth d class) in
    subst A (sym of_net) (subst B (sym of_prices)
    (subst C (sym of_class) (subst D (sym of_first) (subst E (sym of_end) (duty-tied d prices class g group is_g f)))))
