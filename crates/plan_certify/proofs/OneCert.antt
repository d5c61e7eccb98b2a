-- A planned day has one certificate, and a day that is planned by fixed rounds has one text of it.
use Rattle.std.proofs.Common.{◌≡◌, ℕ, ℤ, Bool, true, false, List, [], ◌∷◌, refl, sym, ap, ◌∙◌, subst, arith}
use Rattle.std.proofs.lemmas.Cmp.{int_cmp_total, nat_cmp_total, on_total, then_total}
use Rattle.std.specs.Cmp.{IsTotalOrder, bool_cmp_total}
use Rattle.std.specs.declared.cmp.Ordering.{Ordering}
use Rattle.vdv451_text.specs.Plain.{text}
use Rattle.cover_core.specs.declared.Prices.{Prices}
use Rattle.cover_core.specs.declared.marks.BlockMark.{BlockMark}
use Rattle.cover_core.specs.declared.marks.Mark.{Mark}
use Rattle.dual_bound.specs.declared.kept.Kept.{Kept}
use Rattle.day_method.specs.Method.{DayEnding, SidePlan}
use Rattle.day_method.specs.Method.{answered, left_out, refused}
use Rattle.day_model.specs.Facts.{DayFacts}
use Rattle.mark_cover.specs.Marking.{Marking}
use Rattle.mark_cover.specs.Minimal.{AreMinimal}
use Rattle.depot_network.specs.BlockMarks.{block_marking}
use Rattle.duty_network.specs.Duties.{DutyFacts}
use Rattle.block_cover.specs.Seen.{mark_order as block_order}
use Rattle.label_cover.specs.Marked.{duty_marking, mark_order as duty_order}
use Rattle.plan_cert.specs.declared.cert.Cert.{Cert}
use Rattle.plan_cert.specs.declared.cert.CertPart.{CertPart}
use Rattle.plan_cert.specs.Shapes.{class_numbers_of}
use Rattle.plan_cert.specs.Writing.{tables_of}
use Rattle.plan_command.specs.declared.fault.PlanFault.{PlanFault}
use Rattle.plan_command.specs.declared.fault.PlanFault.TheVariants as faults
use Rattle.plan_command.specs.Once.{PlanEndsOnce}
use Rattle.plan_command.specs.Planning.{Asked, IsPlanCauseOver, PlanEndsAs}
use Rattle.plan_certify.specs.Certificate.{IsBlockPartOf, IsCertOf, IsDutyPartOf, duty_facts}
use Rattle.plan_certify.specs.Once.{CertifiesThePlan, HasCertOrCause, HasOneCert, HasOneCertText}
use Rattle.plan_certify.proofs.Rising.{no-ties, same-rising}

-- the orders of marks
block-total : IsTotalOrder block_order
block-total =
    then_total (on_total (λ (m : BlockMark). m.class) nat_cmp_total) (then_total (on_total (λ (m : BlockMark). m.trip) nat_cmp_total)
    (then_total (on_total (λ (m : BlockMark). m.driving) nat_cmp_total) (on_total (λ (m : BlockMark). m.value) int_cmp_total)))

duty-total : IsTotalOrder duty_order
duty-total =
    then_total (on_total (λ (m : Mark). m.class) nat_cmp_total) (then_total (on_total (λ (m : Mark). m.piece) nat_cmp_total)
    (then_total (on_total (λ (m : Mark). m.start.0) int_cmp_total) (then_total (on_total (λ (m : Mark). m.driving) nat_cmp_total)
    (then_total (on_total (λ (m : Mark). m.quarter) bool_cmp_total) (then_total (on_total (λ (m : Mark). m.total) nat_cmp_total)
    (then_total (on_total (λ (m : Mark). m.three) bool_cmp_total) (on_total (λ (m : Mark). m.value) int_cmp_total)))))))

-- Minimal marks in rising order are one list: two such lists have the same members.
-- What is minimal is fixed by the marking and not by how the cover was made: exactly the marks of open lists to which no other is as
-- good. In rising order such a set is one list (`same-rising`), as orders by all fields leave no ties. So workers or another order of
-- search change nothing.
one-least : {L : Type 0} (m : Marking L) (order : L → L → Ordering) (one other : List L) → IsTotalOrder order → AreMinimal m order one →
    AreMinimal m order other → one ≡ other
one-least m order one other total h k =
    same-rising order (no-ties order total) one other h.rising k.rising (λ a stands. k.all a (h.only a stands))
    (λ a stands. h.all a (k.only a stands))

-- a part from its fields
part-of : Prices → List ℤ → List Mark → List BlockMark → CertPart
part-of prices class_prices duties blocks = record {
  prices = prices;
  class_prices = class_prices;
  cover = record { marks = duties };
  blocks = record { marks = blocks };
}

same-fields : (one other : CertPart) → one.prices ≡ other.prices → one.class_prices ≡ other.class_prices →
    one.cover.marks ≡ other.cover.marks → one.blocks.marks ≡ other.blocks.marks → one ≡ other
unfolding part-of
same-fields one other prices class_prices duties blocks =
    ap (λ p. part-of p one.class_prices one.cover.marks one.blocks.marks) prices
    ∙ (ap (λ c. part-of other.prices c one.cover.marks one.blocks.marks) class_prices
    ∙ (ap (λ d. part-of other.prices other.class_prices d one.blocks.marks) duties
    ∙ ap (λ b. part-of other.prices other.class_prices other.cover.marks b) blocks))

one-block-part : (facts : DayFacts) (counts : Bool) (kept : Kept) (one other : CertPart) → IsBlockPartOf facts counts kept one →
    IsBlockPartOf facts counts kept other → one ≡ other
one-block-part facts counts kept one other h k =
    same-fields one other (h.prices ∙ sym k.prices) (h.class_prices ∙ sym k.class_prices) (h.none ∙ sym k.none)
    (one-least (block_marking facts counts kept.prices.items) block_order one.blocks.marks other.blocks.marks block-total h.least k.least)

one-duty-part : (over : DutyFacts) (kept : Kept) (one other : CertPart) → IsDutyPartOf over kept one → IsDutyPartOf over kept other →
    one ≡ other
one-duty-part over kept one other h k =
    same-fields one other (h.prices ∙ sym k.prices) (h.class_prices ∙ sym k.class_prices)
    (one-least (duty_marking over kept.prices.items) duty_order one.cover.marks other.cover.marks duty-total h.least k.least)
    (h.none ∙ sym k.none)

-- Two certificates of the same blocks and duties are the same, part by part.
-- Of each part prices and class prices are those of the kept offer, the marks of its own side are the least cover, and there are none
-- of the other side; so each field is fixed by the plan.
pub one-cert : (facts : DayFacts) → HasOneCert facts
one-cert facts = λ blocks duties one other h k.
    let a = one-block-part facts true blocks.count h.block_number k.block_number h.of_block_number k.of_block_number in
    let b = one-block-part facts false blocks.cost h.block_cost k.block_cost h.of_block_cost k.of_block_cost in
    let over = duty_facts facts blocks.columns in
    let c = one-duty-part (over true) duties.count h.duty_number k.duty_number h.of_duty_number k.of_duty_number in
    let d = one-duty-part (over false) duties.cost h.duty_cost k.duty_cost h.of_duty_cost k.of_duty_cost in
    let cert : List CertPart → Cert = λ parts. record { parts = parts } in
    ap cert (h.parts
    ∙ (ap (λ x. x ∷ h.block_cost ∷ h.duty_number ∷ h.duty_cost ∷ []) a
    ∙ (ap (λ x. k.block_number ∷ x ∷ h.duty_number ∷ h.duty_cost ∷ []) b
    ∙ (ap (λ x. k.block_number ∷ k.block_cost ∷ x ∷ h.duty_cost ∷ []) c
    ∙ (ap (λ x. k.block_number ∷ k.block_cost ∷ k.duty_number ∷ x ∷ []) d ∙ sym k.parts)))))

-- the parts of an ending
blocks_in : SidePlan → DayEnding → SidePlan
blocks_in d (answered blocks duties) = blocks
blocks_in d (refused side bound places) = d
blocks_in d (left_out side item columns) = d

duties_in : SidePlan → DayEnding → SidePlan
duties_in d (answered blocks duties) = duties
duties_in d (refused side bound places) = d
duties_in d (left_out side item columns) = d

-- 0 for an answer, else 1
kind_in : DayEnding → ℕ
kind_in (answered blocks duties) = 0
kind_in (refused side bound places) = 1
kind_in (left_out side item columns) = 1

same-blocks : (a b c d : SidePlan) → answered a b ≡ answered c d → a ≡ c
unfolding blocks_in
same-blocks a b c d h = ap (blocks_in a) h

same-duties : (a b c d : SidePlan) → answered a b ≡ answered c d → b ≡ d
unfolding duties_in
same-duties a b c d h = ap (duties_in b) h

module _ (facts : DayFacts) (once : PlanEndsOnce facts) where
  -- A day that is planned by fixed rounds ends with one pair of blocks and duties.
  one-end : (asked : Asked) → asked.numbers.climb ≡ false → (a b c d : SidePlan) → PlanEndsAs facts asked (answered a b) →
      PlanEndsAs facts asked (answered c d) →
      answered a b ≡ answered c d
  one-end asked fixed a b c d h k = once asked fixed (answered a b) (answered c d) h k

  -- Both texts speak of what the day's planning ends with, and fixed rounds end in one way. So the certificate is one of the plan that
  -- was written, though the two commands plan the day each for itself.
  pub certifies-plan : CertifiesThePlan facts
  certifies-plan = λ asked fixed table one other plan cert.
      let same = one-end asked fixed plan.blocks plan.duties cert.blocks cert.duties plan.plan.ends cert.plan.ends in
      (same-blocks plan.blocks plan.duties cert.blocks cert.duties same, same-duties plan.blocks plan.duties cert.blocks cert.duties same)

  -- The two endings are one, so both certificates are of the same blocks and duties, where there is one (`one-cert`); a text is a
  -- function of the certificate and of the numbers of the day's classes.
  pub one-cert-text : HasOneCertText facts
  one-cert-text = λ asked fixed one other h k.
      let same = one-end asked fixed h.blocks h.duties k.blocks k.duties h.plan.ends k.plan.ends in
      let P : SidePlan → Type 0 = λ s. IsCertOf facts s h.duties h.cert in
      let Q : SidePlan → Type 0 = λ s. IsCertOf facts k.blocks s h.cert in
      let first = subst P (same-blocks h.blocks h.duties k.blocks k.duties same) h.parts in
      let is = subst Q (same-duties h.blocks h.duties k.blocks k.duties same) first in
      let cert : h.cert ≡ k.cert = one-cert facts k.blocks k.duties h.cert k.cert is k.parts in
      h.written ∙ (ap (λ (c : Cert). text (tables_of (class_numbers_of facts) c)) cert ∙ sym k.written)

  cert-or-fault : (asked : Asked) → asked.numbers.climb ≡ false → (blocks duties : SidePlan) (fault : PlanFault) →
      PlanEndsAs facts asked (answered blocks duties) →
      IsPlanCauseOver facts asked fault → fault ≡ faults.Memory
  unfolding kind_in
  cert-or-fault asked fixed blocks duties (faults.NoPlan side bound places) ends cause =
      absurd (omega (arith, ap kind_in (once asked fixed (answered blocks duties) (refused side bound places) ends cause.0)))
  cert-or-fault asked fixed blocks duties (faults.NotPlaced side item name partial) ends cause =
      absurd (omega (arith, ap kind_in (once asked fixed (answered blocks duties) (left_out side item partial.columns) ends cause.0)))
  cert-or-fault asked fixed blocks duties faults.Memory ends cause = refl

  pub cert-or-cause : HasCertOrCause facts
  cert-or-cause = λ asked fixed bytes fault h. cert-or-fault asked fixed h.blocks h.duties fault h.plan.ends
