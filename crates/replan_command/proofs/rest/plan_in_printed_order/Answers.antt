use Rattle.std.proofs.Common.{List, sym, subst}
use Rattle.cover_core.specs.declared.Column.{Column}
use Rattle.cover_core.specs.FirstLeast.{AreCheap}
use Rattle.replan_command.proofs.Kept.{written-cheap}
use Rattle.replan_command.proofs.rest.plan_in_printed_order.Goals as goal

pub returns-clause-cheap : goal.returns-clause-cheap
returns-clause-cheap g c =
    let P : List Column → Type 0 = λ columns. AreCheap columns in
    c.in_printed_order.ensures.cheap
    (subst P (sym c.in_ok-written_out.ensures) (written-cheap (g.P.Rest.items_of c.args.rest.now) c.args.plan.now.columns c.requires.cheap))
