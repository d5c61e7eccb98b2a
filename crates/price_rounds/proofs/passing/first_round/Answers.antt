use Rattle.std.proofs.Common.{List, ap, ◌∙◌, rules, FitsSigned, w64, to_z, of_z, to_z-of_z}
use Rattle.cover_core.specs.declared.Column.{Column}
use Rattle.price_rounds.specs.Rounds.{pool_with}
use Rattle.price_rounds.proofs.Passes.{first_round_done}
use Rattle.price_rounds.proofs.passing.first_round.Goals as goal

pub returns : goal.returns
returns g c =
    let greatest_fits : FitsSigned w64 c.args.greatest = search rules in
    let size_fits : FitsSigned w64 c.size_of-size.result = search rules in
    first_round_done (g.P.Columns.problem c.args.pricer.now) c.args.start.items
    (record { pool = c.add_all.new.pool; prices = c.in_ok-prices.prices; kept = c.in_ok-kept.kept }) c.requires.start
    (record {
      columns = c.in_ok-kept.columns;
      priced = c.in_ok-kept.ensures.columns;
      added = c.in_ok-add_all.ensures.pool ∙ ap (λ (l : List Column). pool_with l c.in_ok-kept.columns) c.new-pool.ensures;
      greatest = to_z w64 (of_z w64 c.args.greatest);
      greatest_is = to_z-of_z greatest_fits ∙ c.requires.greatest;
      size = to_z w64 (of_z w64 c.size_of-size.result);
      sized = to_z-of_z size_fits ∙ c.size_of-size.ensures.value;
      turned = c.in_ok-prices.ensures.turned;
    })
    c.in_ok-kept.ensures.kept
    (record {
      prices = c.in_ok-prices.ensures.ready;
      pool = c.in_ok-add_all.ensures.ready;
      kept = record { prices = c.args.start.items; ready = c.requires.prices; is = c.in_ok-kept.ensures.kept };
    })
