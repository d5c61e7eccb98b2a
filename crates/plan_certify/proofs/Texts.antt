-- From a plan and its certificate to the text of the day's certificate.
use Rattle.std.proofs.Common.{◌≡◌, ℕ, Bool, List, Result, Ok, Err, IfOk, sym, ap, ◌∙◌, subst}
use Rattle.plan_core.specs.declared.types.Piece.{Piece}
use Rattle.vdv451_text.specs.declared.table.Table.{Table}
use Rattle.vdv451_text.specs.Plain.{text}
use Rattle.dual_bound.specs.declared.kept.Kept.{Kept}
use Rattle.cover_core.specs.declared.Column.{Column}
use Rattle.day_method.specs.Method.{SidePlan}
use Rattle.day_model.specs.Facts.{DayFacts}
use Rattle.block_cut.specs.Cuts.{pieces_of_plan}
use Rattle.duty_network.specs.Duties.{duties as duties_of}
use Rattle.plan_cert.specs.declared.cert.Cert.{Cert}
use Rattle.plan_cert.specs.Shapes.{class_numbers_of}
use Rattle.plan_cert.specs.Writing.{tables_of}
use Rattle.plan_command.specs.Planning.{Asked, IsDayPlan, IsDualFeasible, duties_over}
use Rattle.plan_certify.specs.Certificate.{ArePaid, IsCertOf, IsCertTextOf, IsCertTextOver}

-- The offers that a plan keeps are paid, in each of its four passes.
pub plan-paid : (facts : DayFacts) (asked : Asked) (blocks duties : SidePlan) → IsDayPlan facts asked blocks duties →
    ArePaid facts blocks duties
plan-paid facts asked blocks duties plan = record {
  block_number = plan.blocks_are.count_paid;
  block_cost = plan.blocks_are.cost_paid;
  duty_number = plan.duties_are.count_paid;
  duty_cost = plan.duties_are.cost_paid;
}

-- an offer of duties over pieces that are those of blocks
pub paid-there : (facts : DayFacts) (blocks : List Column) (pieces : List Piece) (counts : Bool) (kept : Kept) →
    pieces ≡ pieces_of_plan facts blocks →
    IsDualFeasible (duties_over facts blocks counts) kept →
    IsDualFeasible (duties_of (record { pieces = pieces; params = facts.params; counts = counts })) kept
paid-there facts blocks pieces counts kept same paid =
    let P : List Piece → Type 0 = λ ps. IsDualFeasible (duties_of (record { pieces = ps; params = facts.params; counts = counts })) kept in
    subst P (sym same) paid

-- The text of the tables of a certificate is the text of the certificate.
pub ok-text : {E : Type 0} (facts : DayFacts) (blocks duties : SidePlan) (cert : Cert) (r : Result (List ℕ) E) (tables : List Table) →
    IsCertOf facts blocks duties cert →
    tables ≡ tables_of (class_numbers_of facts) cert → IfOk r (λ bytes. bytes ≡ text tables) → IfOk r (IsCertTextOf facts blocks duties)
ok-text facts blocks duties cert (Ok bytes) tables is same spelled = record { cert = cert; parts = is; written = spelled ∙ ap text same }
ok-text facts blocks duties cert (Err e) tables is same spelled = tt

-- The text of the certificate of the plan that the method ends with is the day's.
pub text-over : (facts : DayFacts) (asked : Asked) (blocks duties : SidePlan) (bytes : List ℕ) →
    IsDayPlan facts asked blocks duties → IsCertTextOf facts blocks duties bytes →
    IsCertTextOver facts asked bytes
text-over facts asked blocks duties bytes plan is = record {
  blocks = blocks;
  duties = duties;
  plan = plan;
  cert = is.cert;
  parts = is.parts;
  written = is.written;
}
