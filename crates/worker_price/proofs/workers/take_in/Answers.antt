use Rattle.std.proofs.Common.{◌∙◌, ◌+◌, ap, arith}
use Rattle.worker_price.proofs.Working.{sound_append}
use Rattle.task_board.specs.declared.sheet.Sheet.{Sheet}
use Rattle.worker_price.proofs.Gathering.{gathered_join}
use Rattle.worker_price.proofs.workers.take_in.Goals as goal

pub returns-clause-joined : goal.returns-clause-joined
returns-clause-joined g c =
    let both = gathered_join _ _ _ _ _ _ _ c.requires.mine.gathered c.requires.theirs.gathered in
    record {
      of_board = c.join-desk.ensures.board;
      gathered = rw (c.in_ok-append.ensures.items, c.join-desk.ensures.both) both;
      sound = rw c.in_ok-append.ensures.items
          (sound_append (g.P.Columns.problem c.args._pricer.now) c.args._prices.now.items c.args.mine.found.items c.args.theirs.found.items
          c.requires.mine.sound c.requires.theirs.sound);
    }

pub returns-clause-share : goal.returns-clause-share
returns-clause-share g c =
    ap (λ (v : Sheet). v.share) c.join-desk.ensures.both ∙ ap (λ n. c.args.mine.desk.seat.me.0.share + n) c.requires.theirs.share

pub returns-clause-ended : goal.returns-clause-ended
returns-clause-ended g c = let e = ap (λ (v : Sheet). v.over) c.join-desk.ensures.both in let l = c.requires.theirs.ended in omega arith
