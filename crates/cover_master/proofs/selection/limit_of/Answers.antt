use Rattle.std.proofs.Common.{◌∙◌, ◌≤◌, length, pos, get_or, sym, arith, rules, w64, to_z-of_z, FitsSigned}
use Rattle.cover_core.proofs.Values.{number_at-get}
use Rattle.cover_master.proofs.Walks.{number_at-past}
use Rattle.cover_master.proofs.selection.limit_of.Goals as goal

pub returns-then-class-limits : goal.returns-then-class-limits
returns-then-class-limits c =
    let fits : FitsSigned w64 (get_or c.args.limits.now c.args.class (pos 0)) = search rules in
    to_z-of_z fits ∙ number_at-get c.args.limits.now c.args.class (pos 0) c.if-class-limits.true

pub returns-else-class-limits : goal.returns-else-class-limits
returns-else-class-limits c =
    let none = c.if-class-limits.false in
    let past : length c.args.limits.now ≤ c.args.class = omega arith in
    sym (number_at-past c.args.limits.now c.args.class past)
