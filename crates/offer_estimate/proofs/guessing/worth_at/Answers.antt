use Rattle.std.proofs.Common.{pos, get_or, ◌∙◌, arith, FitsSigned, w64, to_z-of_z}
use Rattle.std.proofs.lemmas.Int.{ints}
use Rattle.cover_core.proofs.Values.{number_at-get}
use Rattle.offer_estimate.proofs.Ranges.{worth-get}
use Rattle.offer_estimate.proofs.guessing.worth_at.Goals as goal

pub returns-clause-value : goal.returns-clause-value
returns-clause-value c =
    let is = worth-get c.args.worths.now c.args.class (pos 0) c.requires.inside c.requires.worths in
    let fits : FitsSigned w64 (get_or c.args.worths.now c.args.class (pos 0)) = omega (arith, ints, is.low, is.high) in
    to_z-of_z fits ∙ number_at-get c.args.worths.now c.args.class (pos 0) c.requires.inside

pub returns-clause-low : goal.returns-clause-low
returns-clause-low c =
    let is = worth-get c.args.worths.now c.args.class (pos 0) c.requires.inside c.requires.worths in
    omega (arith, ints, is.low, is.high)

pub returns-clause-high : goal.returns-clause-high
returns-clause-high c =
    let is = worth-get c.args.worths.now c.args.class (pos 0) c.requires.inside c.requires.worths in
    omega (arith, ints, is.low, is.high)
