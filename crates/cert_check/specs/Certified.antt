-- Promise: what a yes of the checker means.
use Rattle.std.specs.Prelude.{◌≡◌, ℕ, false, length, None, Ok, slice_index}
use Rattle.cover_core.specs.declared.Plan.{Plan}
use Rattle.cover_core.specs.Plans.{cost}
use Rattle.umlauf_write.specs.declared.text.PlanText.{PlanText}
use Rattle.umlauf_write.specs.Printed.{printed}
use Rattle.plan_cert.specs.declared.cert.Cert.{Cert}
use Rattle.plan_check.specs.Shown.{IsShown}
use Rattle.cert_check.specs.declared.reason.Answered.TheVariants.{Yes}
use Rattle.cert_check.specs.declared.reason.Reason.{Reason}
use Rattle.cert_check.specs.Judging.{Case, blocks_in, duties_in, text_in}
use Rattle.cert_check.specs.Reasons.{IsAccepted, IsAnswer, IsReason, difference_in, duties_again, printed_pieces}

-- The plan is lawful, its tables are those of its blocks and duties, and no plan has fewer blocks or duties or lower costs than its bounds.
pub record IsCertified (c : Case) (vehicles block_cost duty_count duty_cost : ℕ) : Type 0 where
  pub text : PlanText
  pub blocks : Plan
  pub duties : Plan
  pub blocks_shown : IsShown (blocks_in c false) (printed blocks.columns) (slice_index text.bounds 0) (slice_index text.bounds 1)
  pub duties_shown : IsShown (duties_in c (printed_pieces c blocks) false) (duties_again c blocks duties) (slice_index text.bounds 2)
      (slice_index text.bounds 3)
  pub said : text_in c ≡ Ok text
  pub tables : difference_in c text blocks duties ≡ None
  pub vehicles_are : vehicles ≡ length blocks.columns
  pub block_cost_is : block_cost ≡ cost blocks.columns
  pub duties_are : duty_count ≡ length duties.columns
  pub duty_cost_is : duty_cost ≡ cost duties.columns

-- a yes implies it
abbrev pub YesIsCertified : Case → Type 0
YesIsCertified c = (vehicles block_cost duty_count duty_cost : ℕ) → IsAnswer c (Yes vehicles block_cost duty_count duty_cost) →
    IsCertified c vehicles block_cost duty_count duty_cost

-- where a plan and its certificate are accepted, no reason holds against them: the answer is a yes
abbrev pub AcceptedHasNoReason : Case → Type 0
AcceptedHasNoReason c =
    (text : PlanText) (blocks duties : Plan) (cert : Cert) → IsAccepted c text blocks duties cert →
    (reason : Reason) → IsReason c reason → ⊥
