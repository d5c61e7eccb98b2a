use Rattle.std.proofs.Common.{◌≡◌, ◌+◌, ◌<◌, All, vec_len}
use Rattle.task_board.specs.Sheets.{whole, IfWhole}
use Rattle.task_board.specs.Desks.{sheet_of}
use Rattle.worker_price.specs.Gathered.{IsJoined, IfDone}
use Rattle.worker_price.proofs.workers.gather.Given as goal

abbrev pub invariant-loop-result : goal.invariant-loop-result
invariant-loop-result g l = record {
  joined : IsJoined l.board (g.P.Columns.problem l.pricer) l.prices.items l.all;
  share : (sheet_of l.all.desk).share + vec_len l.results ≡ whole;
  ended : vec_len l.results < vec_len l.initial.results → 0 < (sheet_of l.all.desk).over;
  whole : vec_len l.results < vec_len l.initial.results → IfWhole (sheet_of l.all.desk);
  each : All (IfDone l.board (g.P.Columns.problem l.pricer) l.prices.items) l.results.items;
}

abbrev pub decreases-loop-result : goal.decreases-loop-result
decreases-loop-result g l = vec_len l.results
