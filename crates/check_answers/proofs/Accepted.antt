-- The plan and the certificate that are written are accepted.
use Rattle.std.proofs.Common.{◌≡◌, ℕ, ℤ, pos, zero, ◌<◌, ◌≤◌, ◌≤ℤ◌, Bool, true, false, List, length, refl, sym, ap, ◌∙◌, subst, arith}
use Rattle.std.specs.Prelude.{None}
use Rattle.plan_command.specs.Planning.{IsDualFeasible}
use Rattle.plan_core.specs.declared.types.Piece.{Piece}
use Rattle.vdv451_text.specs.declared.table.Table.{Table}
use Rattle.cover_core.specs.declared.Prices.{Prices}
use Rattle.cover_core.specs.declared.Column.{Column}
use Rattle.cover_core.specs.Cover.{Problem}
use Rattle.cover_core.specs.Plans.{bound_of, number_at}
use Rattle.dual_bound.specs.declared.kept.Kept.{Kept}
use Rattle.day_method.specs.Method.{SidePlan}
use Rattle.day_model.specs.Facts.{DayFacts}
use Rattle.mark_cover.specs.Covers.{IsMarkCover}
use Rattle.depot_network.specs.BlockMarks.{block_marking}
use Rattle.depot_network.specs.Network.{blocks_of}
use Rattle.duty_network.specs.Duties.{DutyFacts, duties as duties_of}
use Rattle.block_cut.specs.Cuts.{pieces_of_plan}
use Rattle.label_cover.specs.Marked.{duty_marking}
use Rattle.plan_read.specs.ReadsBack.{PlanReadsBack}
use Rattle.plan_cert.specs.declared.cert.Cert.{Cert}
use Rattle.plan_cert.specs.declared.cert.CertPart.{CertPart}
use Rattle.plan_cert.specs.declared.shape.Shape.{Shape}
use Rattle.plan_cert.specs.Laws.{ReadsBack}
use Rattle.plan_certify.specs.Certificate.{IsBlockPartOf, IsCertOf, IsDutyPartOf, duty_facts}
use Rattle.cert_check.specs.declared.reason.Answered.TheVariants.{Yes, No}
use Rattle.cert_check.specs.Certified.{AcceptedHasNoReason}
use Rattle.cert_check.specs.Judging.{Case, IsBlockGap, IsDutyGap}
use Rattle.cert_check.specs.Reasons.{AllCharged, AreCharged, AreShown, IsAccepted, IsAnswer, NoGaps, caps_of, printed_pieces}
use Rattle.check_answers.specs.Accepted.{EachAnswerIsYes, IsYes, WrittenAreAccepted, YesIsAnAnswer, plan_of, written_text}
use Rattle.check_answers.specs.Checkable.{IsCheckable, case_of}
use Rattle.check_answers.proofs.Cert.{has-cert}
use Rattle.check_answers.proofs.Tables.{in-order}

-- The class prices of a paid offer are at least 0.
offer-charged : (p : Problem) (kept : Kept) (part : CertPart) → IsDualFeasible p kept → part.class_prices ≡ kept.class_prices →
    AreCharged part (length part.class_prices)
offer-charged p kept part paid same =
    let P : List ℤ → Type 0 = λ zs. (class : ℕ) → class < length zs → pos 0 ≤ℤ number_at zs class in
    let here : P kept.class_prices = λ class there. let below : class < length p.caps =
    omega (arith, there, paid.class_prices) in paid.paid.charged class below in
    subst P (sym same) here

-- The bound of a paid offer is the one that its part shows.
offer-bound : (p : Problem) (kept : Kept) (part : CertPart) (caps : List ℕ) → IsDualFeasible p kept → p.caps ≡ caps →
    part.prices ≡ kept.prices → part.class_prices ≡ kept.class_prices →
    kept.bound ≤ bound_of part.prices.items part.class_prices caps
offer-bound p kept part caps paid is prices class_prices =
    let same : kept.bound ≡ bound_of part.prices.items part.class_prices caps =
    paid.bound ∙ (ap (λ (cs : List ℕ). bound_of kept.prices.items kept.class_prices cs) is
    ∙ (ap (λ (q : Prices). bound_of q.items kept.class_prices caps) (sym prices)
    ∙ ap (λ (zs : List ℤ). bound_of part.prices.items zs caps) (sym class_prices))) in
    omega (arith, same)

-- The marks of a part are a cover under its own prices.
block-cover : (c : Case) (counts : Bool) (kept : Kept) (part : CertPart) → IsBlockPartOf c.day counts kept part →
    IsBlockGap c counts part None
block-cover c counts kept part is =
    let P : Prices → Type 0 = λ q. IsMarkCover (block_marking c.day counts q.items) part.blocks.marks kept.class_prices in
    let Q : List ℤ → Type 0 = λ zs. IsMarkCover (block_marking c.day counts part.prices.items) part.blocks.marks zs in
    subst Q (sym is.class_prices) (subst P (sym is.prices) is.covers)

duty-cover : (c : Case) (blocks : List Column) (counts : Bool) (kept : Kept) (part : CertPart) →
    IsDutyPartOf (duty_facts c.day blocks counts) kept part →
    IsDutyGap c (pieces_of_plan c.day blocks) counts part None
duty-cover c blocks counts kept part is =
    let over : DutyFacts = duty_facts c.day blocks counts in
    let P : Prices → Type 0 = λ q. IsMarkCover (duty_marking over q.items) part.cover.marks kept.class_prices in
    let Q : List ℤ → Type 0 = λ zs. IsMarkCover (duty_marking over part.prices.items) part.cover.marks zs in
    subst Q (sym is.class_prices) (subst P (sym is.prices) is.covers)

module _ (facts : DayFacts) (table : Table) (blocks duties : SidePlan) (cert : Cert) (is : IsCheckable facts table blocks duties)
    (certifies : IsCertOf facts blocks duties cert) where
  abbrev c : Case
  c = case_of facts table blocks duties cert

  abbrev over : Bool → DutyFacts
  over counts = duty_facts facts blocks.columns counts

  all-charged : AllCharged cert.parts
  all-charged =
      subst AllCharged (sym certifies.parts) (
        offer-charged (blocks_of facts true) blocks.count certifies.block_number is.paid.block_number
            certifies.of_block_number.class_prices,
        (
          offer-charged (blocks_of facts false) blocks.cost certifies.block_cost is.paid.block_cost certifies.of_block_cost.class_prices,
          (
            offer-charged (duties_of (over true)) duties.count certifies.duty_number is.paid.duty_number
                certifies.of_duty_number.class_prices,
            (
              offer-charged (duties_of (over false)) duties.cost certifies.duty_cost is.paid.duty_cost certifies.of_duty_cost.class_prices,
              tt,
            ),
          ),
        ),
      )

  duty-covered : (counts : Bool) (kept : Kept) (part : CertPart) → IsDutyPartOf (over counts) kept part →
      IsDutyGap c (printed_pieces c (plan_of blocks)) counts part None
  duty-covered counts kept part made =
      in-order facts table blocks duties cert is (λ (ps : List Piece). IsDutyGap c ps counts part None)
      (duty-cover c blocks.columns counts kept part made)

  no-gaps : NoGaps c (plan_of blocks) zero cert.parts
  no-gaps =
      subst (λ (parts : List CertPart). NoGaps c (plan_of blocks) zero parts) (sym certifies.parts) (
        block-cover c true blocks.count certifies.block_number certifies.of_block_number,
        (
          block-cover c false blocks.cost certifies.block_cost certifies.of_block_cost,
          (
            duty-covered true duties.count certifies.duty_number certifies.of_duty_number,
            (duty-covered false duties.cost certifies.duty_cost certifies.of_duty_cost, tt),
          ),
        ),
      )

  are-shown : AreShown c (plan_of blocks) (written_text facts blocks duties).bounds zero cert.parts
  are-shown =
      subst (λ (parts : List CertPart). AreShown c (plan_of blocks) (written_text facts blocks duties).bounds zero parts)
      (sym certifies.parts) (
        offer-bound (blocks_of facts true) blocks.count certifies.block_number
            (caps_of c (plan_of blocks) 0) is.paid.block_number refl certifies.of_block_number.prices
            certifies.of_block_number.class_prices,
        (
          offer-bound (blocks_of facts false) blocks.cost certifies.block_cost
              (caps_of c (plan_of blocks) 1) is.paid.block_cost refl certifies.of_block_cost.prices certifies.of_block_cost.class_prices,
          (
            offer-bound (duties_of (over true)) duties.count certifies.duty_number
                (caps_of c (plan_of blocks) 2) is.paid.duty_number refl certifies.of_duty_number.prices
                certifies.of_duty_number.class_prices,
            (
              offer-bound (duties_of (over false)) duties.cost certifies.duty_cost
                  (caps_of c (plan_of blocks) 3) is.paid.duty_cost refl certifies.of_duty_cost.prices certifies.of_duty_cost.class_prices,
              tt,
            ),
          ),
        ),
      )

  pub accepted : PlanReadsBack → ((shape : Shape) → ReadsBack shape) →
      IsAccepted c (written_text facts blocks duties) (plan_of blocks) (plan_of duties) cert
  accepted back cert_back = record {
    is_covered = record {
      is_charged = record {
        has_cert = has-cert facts table blocks duties cert is certifies back cert_back;
        charged = all-charged;
      };
      covered = no-gaps;
    };
    shown = are-shown;
  }

-- The checker asks four things, and each is one that the planner's offers have: tables and certificate are read back as they were
-- (`has-cert`); class prices are at least 0 and each bound is the one its part gives (`offer-charged`, `offer-bound`), since the
-- offers are paid; and the marks are a cover under the certificate's own prices, since those are the offers' (`block-cover`,
-- `duty-cover`).
pub written-accepted : PlanReadsBack → ((shape : Shape) → ReadsBack shape) → WrittenAreAccepted
written-accepted back cert_back facts table blocks duties cert is certifies =
    accepted facts table blocks duties cert is certifies back cert_back

-- So a yes with the plan's numbers is an answer.
pub yes-answer : PlanReadsBack → ((shape : Shape) → ReadsBack shape) → YesIsAnAnswer
yes-answer back cert_back facts table blocks duties cert is certifies = (
  written_text facts blocks duties,
  plan_of blocks,
  plan_of duties,
  cert,
  written-accepted back cert_back facts table blocks duties cert is certifies,
  refl,
  refl,
  refl,
  refl,
)

-- And since no reason holds against what is accepted, no answer is a no.
pub each-yes : PlanReadsBack → ((shape : Shape) → ReadsBack shape) → ((c : Case) → AcceptedHasNoReason c) → EachAnswerIsYes
each-yes back cert_back none facts table blocks duties cert is certifies answer answers =
    elim answer as (λ a. IsAnswer (case_of facts table blocks duties cert) a → IsYes a) [
      | Yes vehicles block_cost duty_count duty_cost ↦ λ yes. tt
      | No reason ↦ λ holds. none (case_of facts table blocks duties cert) (written_text facts blocks duties) (plan_of blocks)
          (plan_of duties) cert
          (written-accepted back cert_back facts table blocks duties cert is certifies) reason holds
    ] answers
