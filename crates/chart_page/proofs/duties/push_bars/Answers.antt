use Rattle.chart_page.proofs.PageLemmas.{flat_step, then_ok, two_steps}
use Rattle.std.specs.List.{enumerate_from}
use Rattle.chart_page.specs.Duties.{duty_at, piece_parts}
use Rattle.chart_page.proofs.duties.push_bars.Goals as goal

pub returns : goal.returns
returns c =
    let sheet = c.args.sheet.now in
    then_ok c.push_pieces.result _ _
    (λ last. two_steps _ _ _ _ _ _ (flat_step c.args.table.now (duty_at c.args.lanes.now)
    (enumerate_from 0 sheet.duties) _ _ (rw c.as_slice.ensures at c.in_ok-push_duties.ensures))
    (two_steps _ _ _ _ _ _ (rw c.as_slice-pieces.ensures at c.in_ok-push_all_pauses.ensures)
    (flat_step c.args.table.now (piece_parts c.args.lanes.now) sheet.pieces _ _ (rw c.as_slice-pieces.ensures at last))))
    c.push_pieces.ensures
