use Rattle.std.proofs.Common.{List, sym, ap, ◌∙◌, subst}
use Rattle.std.proofs.Math.ListN.{set}
use Rattle.cover_core.specs.declared.Column.{Column}
use Rattle.cover_core.specs.FirstLeast.{AreCheap}
use Rattle.cover_core.proofs.Values.{AreCheap-set}
use Rattle.tail_exchange.specs.Exchange.{without_empty}
use Rattle.tail_exchange.proofs.Moderate.{AreCheap-without}
use Rattle.tail_exchange.proofs.moves.swap.Goals as goal

pub returns-clause-cheap : goal.returns-clause-cheap
returns-clause-cheap g c =
    let plan = c.args.plan.now in
    let s = c.args.step in
    let first : Column = c.in_ok-first.first in
    let second : Column = c.in_ok-second.second in
    let is = c.remove_empty.ensures ∙ ap without_empty (c.set-2.ensures ∙ ap (λ (l : List Column). set l s.b second) c.set.ensures) in
    subst AreCheap (sym is)
    (AreCheap-without _ (AreCheap-set (set plan s.a first) s.b second
    (AreCheap-set plan s.a first c.requires.ready.cheap c.in_ok-first.ensures.cheap) c.in_ok-second.ensures.cheap))
