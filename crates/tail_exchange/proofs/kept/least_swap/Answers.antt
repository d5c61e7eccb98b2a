use Rattle.std.proofs.Common.{Option, sym, subst}
use Rattle.rayon.specs.Lists.{IsLeast}
use Rattle.tail_exchange.specs.declared.candidate.Candidate.{Candidate}
use Rattle.tail_exchange.specs.Order.{candidate_cmp}
use Rattle.tail_exchange.specs.Exchange.{all_swaps_of}
use Rattle.tail_exchange.proofs.Folds.{least_from-least}
use Rattle.tail_exchange.proofs.kept.least_swap.Goals as goal

pub returns : goal.returns
returns g c =
    let all = all_swaps_of (g.C.Columns.problem c.args.columns.now) c.args.plan.now c.args.place in
    let P : Option Candidate → Type 0 = λ o. IsLeast candidate_cmp all o in
    subst P (sym c.all_swaps_of.ensures) (least_from-least all)
