use Rattle.std.proofs.Common.{◌∙◌, List, sym, subst, true, ◌≡◌}
use Rattle.vdv451_text.specs.declared.table.Table.{Table}
use Rattle.vdv451_text.specs.Plain.{are_plain}
use Rattle.day_maker.specs.Made.{made_tables}
use Rattle.planner_run.proofs.MadeLemmas.{made_plain}
use Rattle.planner_run.proofs.PlanLemmas.{text_of_tables}
use Rattle.planner_run.proofs.made.tables_text.Goals as goal

pub write_tables-requires : goal.write_tables-requires
write_tables-requires c =
    let P : List Table → Type 0 = λ ts. are_plain ts ≡ true in
    subst P (sym (c.as_slice.ensures ∙ c.in_ok-tables.ensures)) (made_plain c.args.making.seed c.args.making.trips)

pub returns : goal.returns
returns c = text_of_tables c.write_tables.result c.as_slice.result.now (made_tables c.args.making.seed c.args.making.trips)
    c.write_tables.ensures.spelling (c.as_slice.ensures ∙ c.in_ok-tables.ensures)
