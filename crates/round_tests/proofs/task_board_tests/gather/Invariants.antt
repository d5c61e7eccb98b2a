use Rattle.std.proofs.Common.{◌≡◌, ◌+◌, All, vec_len}
use Rattle.task_board.specs.Desks.{sheet_of, IsDeskOf, IsPartOf}
use Rattle.round_tests.proofs.task_board_tests.gather.Given as goal

-- The same sum read backwards: each desk that is joined has one share and leaves the list, so at the end the desk at home has them
-- all.
abbrev pub invariant-loop-desk : goal.invariant-loop-desk
invariant-loop-desk l = record {
  board : IsDeskOf l.board l.home;
  share : (sheet_of l.home).share + vec_len l.desks ≡ (sheet_of l.initial.home).share + vec_len l.initial.desks;
  parts : All (IsPartOf l.board) l.desks.items;
}

abbrev pub decreases-loop-desk : goal.decreases-loop-desk
decreases-loop-desk l = vec_len l.desks
