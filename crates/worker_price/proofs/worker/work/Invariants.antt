use Rattle.std.proofs.Common.{◌≡◌, ◌-◌}
use Rattle.task_board.specs.Desks.{sheet_of, extent_of, IsDeskOf}
use Rattle.worker_price.specs.Work.{above, HasPriced, AreSoundFor}
use Rattle.worker_price.proofs.worker.work.Given as goal

abbrev pub invariant-loop-task : goal.invariant-loop-task
invariant-loop-task g l = record {
  desk : IsDeskOf l.board l.desk;
  over : (sheet_of l.desk).over ≡ (sheet_of l.fn.desk).over;
  worked : HasPriced (g.P.Columns.problem l.pricer) l.prices.items (sheet_of l.fn.desk) (sheet_of l.desk) l.found.items;
  sound : AreSoundFor (g.P.Columns.problem l.pricer) l.prices.items l.found.items;
}

abbrev pub decreases-loop-task : goal.decreases-loop-task
decreases-loop-task g l = (extent_of l.board).tasks - above (sheet_of l.desk).drawn
