-- What prices a rest of duties.
use Rattle.std.proofs.Common.{◌≡◌, ℕ, Bool, List, length, sym, subst, refl}
use Rattle.std.specs.Prelude.{Some, slice_get}
use Rattle.plan_core.specs.declared.types.Price.{Price}
use Rattle.cover_core.specs.Cover.{Problem}
use Rattle.plan_params.specs.declared.rows.group.Group.{Group}
use Rattle.cover_rest.specs.declared.begun.Begun.{Begun}
use Rattle.cover_rest.specs.Rest.{bodies, rest_of}
use Rattle.duty_network.specs.Duties.{DutyFacts, duties, duty_worth}
use Rattle.duty_network.specs.Marks.{closed_value, marking}
use Rattle.duty_network.specs.Ranges.{NetFits}
use Rattle.duty_network.proofs.Sizes.{timed-from}
use Rattle.duty_network.proofs.Tied.{marking-tied}
use Rattle.duty_pricing.specs.Laws.{duty_labels}
use Rattle.rest_labels.specs.Laws.{AreBodies, AreMarks, BeginWithin, IsTiedWithin, PricesRest}
use Rattle.rest_labels.proofs.Ranges.{range-tied-within}

-- Labels whose parts are known by equations are tied to worths as far as lists begin in their range.
made-tied-within : (d net : DutyFacts) (prices own : List Price) (class label_class : ℕ) (g : Group) (first end : ℕ) → net ≡ d →
    own ≡ prices → label_class ≡ class →
    slice_get d.params.groups class ≡ Some g → NetFits d →
    IsTiedWithin first end (duty_labels net own label_class g first end) (closed_value net g) prices (duty_worth d class)
made-tied-within d net prices own class label_class g first end of_net of_prices of_class is_g f =
    let A : DutyFacts → Type 0 =
    λ n. IsTiedWithin first end (duty_labels n own label_class g first end) (closed_value n g) prices (duty_worth d class) in
    let B : List Price → Type 0 =
    λ p. IsTiedWithin first end (duty_labels d p label_class g first end) (closed_value d g) prices (duty_worth d class) in
    let C : ℕ → Type 0 = λ c. IsTiedWithin first end (duty_labels d prices c g first end) (closed_value d g) prices (duty_worth d class) in
    subst A (sym of_net) (subst B (sym of_prices) (subst C (sym of_class)
    (range-tied-within (marking d prices class g) first end (closed_value d g) prices (duty_worth d class)
    (marking-tied d prices class g is_g (timed-from d.pieces f.shifts)))))

-- Labels whose parts are known by equations price a rest: its marks and what its items stand for are told, and where the lists of the group
-- begin.
pub priced : (d net : DutyFacts) (heads : List Begun) (may : ℕ → List ℕ → Bool) (class label_class group : ℕ) (rest : Problem)
    (bs : List (List ℕ)) (starts ended : List Bool) (g : Group) (from before first end : ℕ)
    (prices spread own : List Price) → rest ≡ rest_of (duties d) heads may → bs ≡ bodies heads (length d.pieces) →
    AreMarks heads bs may class starts ended → AreBodies bs may class prices spread →
    BeginWithin bs group from before → net ≡ d → own ≡ spread → label_class ≡ class → first ≡ from → end ≡ before →
    slice_get d.params.groups class ≡ Some g → NetFits d →
    PricesRest (duties d) heads may class group rest bs starts ended (duty_labels net own label_class g first end)
    (closed_value net g) prices own
priced d net heads may class label_class group rest bs starts ended g from before first end prices spread own rest_is bodies_are marks are
    begin of_net of_prices of_class of_first of_end is_g fits =
    let F : ℕ → Type 0 = λ n. BeginWithin bs group n end in
    let E : ℕ → Type 0 = BeginWithin bs group from in
    let T : List Price → Type 0 =
    λ l. PricesRest (duties d) heads may class group rest bs starts ended (duty_labels net l label_class g first end)
    (closed_value net g) prices l in
    subst T (sym of_prices) (record {
      rest_is = rest_is;
      bodies_are = bodies_are;
      marks = marks;
      are = are;
      first = first;
      end = end;
      begin = subst F (sym of_first) (subst E (sym of_end) begin);
      tied = made-tied-within d net spread spread class label_class g first end of_net refl of_class is_g fits;
    })
