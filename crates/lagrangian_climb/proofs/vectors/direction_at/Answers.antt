use Rattle.std.proofs.Common.{pos, get_or, ◌∙◌, arith, FitsSigned, w64, to_z-of_z}
use Rattle.std.proofs.lemmas.Int.{ints}
use Rattle.cover_core.proofs.Values.{number_at-get}
use Rattle.lagrangian_climb.proofs.Ranges.{near-get}
use Rattle.lagrangian_climb.proofs.vectors.direction_at.Goals as goal

pub returns-clause-value : goal.returns-clause-value
returns-clause-value c =
    let near = near-get 1600000 c.args.directions.now c.args.item (pos 0) c.requires.inside c.requires.near in
    let fits : FitsSigned w64 (get_or c.args.directions.now c.args.item (pos 0)) = omega (arith, ints, near.low, near.high) in
    to_z-of_z fits ∙ number_at-get c.args.directions.now c.args.item (pos 0) c.requires.inside

pub returns-clause-low : goal.returns-clause-low
returns-clause-low c =
    let near = near-get 1600000 c.args.directions.now c.args.item (pos 0) c.requires.inside c.requires.near in
    omega (arith, ints, near.low, near.high)

pub returns-clause-high : goal.returns-clause-high
returns-clause-high c =
    let near = near-get 1600000 c.args.directions.now c.args.item (pos 0) c.requires.inside c.requires.near in
    omega (arith, ints, near.low, near.high)
