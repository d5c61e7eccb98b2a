use Rattle.std.proofs.Common.{Option, sym, subst}
use Rattle.rayon.specs.Lists.{IsLeast}
use Rattle.tail_exchange.specs.declared.candidate.Candidate.{Candidate}
use Rattle.tail_exchange.specs.Order.{candidate_cmp}
use Rattle.tail_exchange.specs.Exchange.{all_swaps_of, cuts_of, steps_of}
use Rattle.tail_exchange.proofs.Folds.{least_from-append_least}
use Rattle.tail_exchange.proofs.search.least_of.Goals as goal

pub returns : goal.returns
returns g c =
    let p = g.C.Columns.problem c.args.columns.now in
    let plan = c.args.plan.now in
    let a = c.args.place in
    let P : Option Candidate → Type 0 = λ o. IsLeast candidate_cmp (steps_of p plan a) o in
    subst P (sym c.cuts_of.ensures)
    (least_from-append_least (all_swaps_of p plan a) (cuts_of p plan a) _ (c.requires.leasts.shown a c.requires.below))
