use Rattle.std.proofs.Common.{◌≡◌, ◌∙◌, Option, false, ap, sym, subst, rules}
use Rattle.rayon.specs.Lists.{IsLeast}
use Rattle.tail_exchange.specs.declared.candidate.Candidate.{Candidate}
use Rattle.tail_exchange.specs.Order.{candidate_cmp}
use Rattle.tail_exchange.specs.Exchange.{all_swaps_of}
use Rattle.tail_exchange.specs.Leasts.{least_from}
use Rattle.tail_exchange.specs.Kept.{is_stale, swaps_behind}
use Rattle.tail_exchange.proofs.Renewals.{renewed-least}
use Rattle.tail_exchange.proofs.kept.least_after_change.Goals as goal

pub returns : goal.returns
returns g c =
    let p = g.C.Columns.problem c.args.columns.now in
    let plan = c.args.plan.now in
    let a = c.args.place in
    let fresh : is_stale c.args.x c.args.y a c.args.least ≡ false = search rules in
    let P : Option Candidate → Type 0 = λ o. IsLeast candidate_cmp (all_swaps_of p plan a) o in
    let is = c.swaps_behind.ensures
    ∙ ap (λ (o : Option Candidate). least_from o (swaps_behind p plan a c.args.y)) c.swaps_behind-with_first.ensures in
    subst P (sym is) (renewed-least p plan c.args.x c.args.y a c.args.least c.requires.first c.requires.second (c.requires.kept fresh))
