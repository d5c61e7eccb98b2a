use Rattle.std.proofs.Common.{◌≡◌, ◌-◌, All, vec_len}
use Rattle.task_board.specs.Sheets.{whole}
use Rattle.task_board.specs.Desks.{sheet_of, extent_of, IsDeskOf}
use Rattle.worker_price.specs.Work.{idle, IsHelper}
use Rattle.worker_price.proofs.workers.desks_of_workers.Given as goal

abbrev pub invariant-loop-made : goal.invariant-loop-made
invariant-loop-made l = record {
  board : IsDeskOf l.board l.home;
  home : sheet_of l.home ≡ idle (extent_of l.board).tasks (whole - l._made);
  len : vec_len l.helpers ≡ l._made;
  helpers : All (IsHelper l.board) l.helpers.items;
}
