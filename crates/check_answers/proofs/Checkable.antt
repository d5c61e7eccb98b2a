-- The blocks and duties that the method ends with can be checked.
use Rattle.std.proofs.Common.{◌≡◌, List, sym, ap, ◌∙◌}
use Rattle.vdv451_text.specs.declared.table.Table.{Table}
use Rattle.cover_core.specs.declared.Column.{Column}
use Rattle.day_model.specs.Facts.{DayFacts}
use Rattle.umlauf_write.specs.Printed.{printed}
use Rattle.plan_read.specs.Laws.{IsPrintedOnce}
use Rattle.check_answers.specs.Checkable.{DayPlansAreCheckable}

-- columns in printed order stay so
stays : IsPrintedOnce → (columns made : List Column) → columns ≡ printed made → printed columns ≡ columns
stays once columns made order = ap printed order ∙ (once made ∙ sym order)

-- What the method promises of its ending is nearly what the checker asks. One thing is to be shown: the columns, which were put in
-- printed order once, stay as they are when that is done again (`stays`), so that tables made of what was read are those that were
-- written.
pub plans-checkable : IsPrintedOnce → (facts : DayFacts) (table : Table) → DayPlansAreCheckable facts table
plans-checkable once facts table = λ numbers blocks duties day plan. record {
  day = day;
  blocks_are = plan.blocks_are.plan;
  blocks_order = stays once blocks.columns plan.blocks_are.columns plan.blocks_are.order;
  duties_are = plan.duties_are.plan;
  duties_order = stays once duties.columns plan.duties_are.columns plan.duties_are.order;
  paid = record {
    block_number = plan.blocks_are.count_paid;
    block_cost = plan.blocks_are.cost_paid;
    duty_number = plan.duties_are.count_paid;
    duty_cost = plan.duties_are.cost_paid;
  };
}
