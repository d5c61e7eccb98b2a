use Rattle.std.proofs.Common.{◌≡◌, ◌+◌, All, vec_len}
use Rattle.task_board.specs.Sheets.{whole}
use Rattle.task_board.specs.Desks.{sheet_of, IsDeskOf, IsPartOf}
use Rattle.round_tests.proofs.task_board_tests.desks_of_parts.Given as goal

-- Shares are conserved: each split takes one from the first desk and gives it to a part, so the first desk's share and the number of
-- parts are the whole at any time. By this the desks that threads have worked with may be joined again to one that closes the board.
abbrev pub invariant-loop-made : goal.invariant-loop-made
invariant-loop-made l = record {
  board : IsDeskOf l.board l.home;
  unspent : (sheet_of l.home).over ≡ 0;
  share : (sheet_of l.home).share + vec_len l.desks ≡ whole;
  len : vec_len l.desks ≡ l._made;
  parts : All (IsPartOf l.board) l.desks.items;
}
