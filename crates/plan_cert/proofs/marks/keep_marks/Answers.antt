use Rattle.plan_cert.proofs.MarkLists.{cost-start, none-start, number-start}
use Rattle.plan_cert.proofs.marks.keep_marks.Goals as goal

pub loop-place-init : goal.loop-place-init
loop-place-init g c =
    let kept = g.M.MarkRow.kept_in in
    let entry = g.M.MarkRow.entry_of c.args.shape.now c.args.columns.now in
    let rows = c.args.rows.now in
    record {
      wrong = none-start entry rows;
      of_number = number-start kept entry rows _ c.requires.none;
      of_cost = cost-start kept entry rows _ c.requires.none;
    }
