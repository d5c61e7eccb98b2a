use Rattle.task_board.specs.Desks.{IsPartOf}
use Rattle.round_tests.proofs.task_board_tests.claim_all.Given as goal

abbrev pub invariant-loop-claim : goal.invariant-loop-claim
invariant-loop-claim l = IsPartOf l.board l.desk
