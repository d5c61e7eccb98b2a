use Rattle.std.proofs.Common.{sym, ◌∙◌}
use Rattle.plan_read.specs.Gathering.{more_parts, no_parts}
use Rattle.plan_read.proofs.Gathered.{change-beyond, change-there}
use Rattle.plan_read.proofs.gathering.put_part.Goals as goal

pub returns-in_ok-put_piece : goal.returns-in_ok-put_piece
returns-in_ok-put_piece c =
    let entry = c.args.entry in
    c.in_ok-put_piece.ensures ∙ sym (change-there (more_parts entry.1) entry.0 c.args.duties.now (no_parts 0) c.if-duty-duties.true)

pub returns-else-duty-duties : goal.returns-else-duty-duties
returns-else-duty-duties c =
    let entry = c.args.entry in
    sym (change-beyond (more_parts entry.1) entry.0 c.args.duties.now c.if-duty-duties.false)
