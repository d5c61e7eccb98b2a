-- The tables that are made of blocks and duties in printed order.
use Rattle.std.proofs.Common.{◌≡◌, List, ap, ◌∙◌}
use Rattle.cover_core.specs.declared.Plan.{Plan}
use Rattle.vdv451_text.specs.declared.table.Table.{Table}
use Rattle.umlauf_write.specs.declared.answer.Answer.{Answer}
use Rattle.umlauf_write.specs.declared.text.PlanText.{PlanText}
use Rattle.umlauf_write.specs.Answers.{answer_tables}
use Rattle.umlauf_write.specs.Printed.{printed}
use Rattle.cert_check.specs.Judging.{Case, answer_in}
use Rattle.cert_check.specs.Reasons.{duties_again, tables_in}

-- the tables that are made of it
pub tables_made : (c : Case) (text : PlanText) (blocks duties : Plan) (answer : Answer) (made : List Table) →
    answer ≡ answer_in c (printed blocks.columns) (duties_again c blocks duties) text.bounds → made ≡ answer_tables c.day c.rec_frt answer →
    made ≡ tables_in c text blocks duties
tables_made c text blocks duties answer made answer_is made_are = made_are ∙ ap (λ (a : Answer). answer_tables c.day c.rec_frt a) answer_is
