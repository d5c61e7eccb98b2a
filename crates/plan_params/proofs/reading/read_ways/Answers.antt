use Rattle.std.proofs.Common.{◌∙◌}
use Rattle.plan_params.proofs.RangeLemmas.{ways_all}
use Rattle.plan_params.proofs.reading.read_ways.Goals as goal

pub returns-clause-ranges : goal.returns-clause-ranges
returns-clause-ranges c =
    ways_all c.args.net.now c.extra.result.now c.from_vec.result c.extra.ensures.fits (c.from_vec.ensures ∙ c.in_ok-read_rows.ensures)
