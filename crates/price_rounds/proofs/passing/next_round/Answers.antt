use Rattle.std.proofs.Common.{◌∙◌, rules, FitsSigned, w64, to_z, of_z, to_z-of_z}
use Rattle.price_rounds.proofs.Passes.{next_round_done}
use Rattle.price_rounds.proofs.passing.next_round.Goals as goal

pub returns : goal.returns
returns g c =
    let greatest_fits : FitsSigned w64 c.args.greatest = search rules in
    let size_fits : FitsSigned w64 c.size_of-size.result = search rules in
    next_round_done (g.P.Columns.problem c.args.pricer.now) c.args.done c.args.progress
    (record { pool = c.add_all.new.pool; prices = c.in_ok-prices.prices; kept = c.next_offer.new.kept }) c.requires.progress
    (record {
      columns = c.in_ok-columns.columns;
      priced = c.in_ok-columns.ensures.columns;
      added = c.in_ok-add_all.ensures.pool;
      greatest = to_z w64 (of_z w64 c.args.greatest);
      greatest_is = to_z-of_z greatest_fits ∙ c.requires.greatest;
      size = to_z w64 (of_z w64 c.size_of-size.result);
      sized = to_z-of_z size_fits ∙ c.size_of-size.ensures.value;
      turned = c.in_ok-prices.ensures.turned;
    })
    c.in_ok-columns.ensures.kept
    (record { prices = c.in_ok-prices.ensures.ready; pool = c.in_ok-add_all.ensures.ready; kept = c.in_ok-columns.ensures.offer })
