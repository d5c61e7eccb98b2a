use Rattle.std.proofs.Common.{ap, ◌∙◌}
use Rattle.vdv452_tables.specs.Calendar.{Net}
use Rattle.vdv452_tables.specs.Keys.{named}
use Rattle.vdv452_tables.specs.LookUps.{course_on}
use Rattle.vdv452_tables.proofs.network.Network.points.Goals as goal

pub returns : goal.returns
returns c = (rw c.deref.ensures at c.course_in.ensures)
    ∙ c.self.invariant.0.lines.courses (named c.args.version c.args.line c.args.variant.now)
    ∙ ap (λ (n : Net). course_on n c.args.version c.args.line c.args.variant.now) c.self.view_is
