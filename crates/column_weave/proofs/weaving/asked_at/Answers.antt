use Rattle.std.proofs.Common.{pos, get_or, ◌∙◌, arith, FitsSigned, w64, to_z-of_z}
use Rattle.std.proofs.lemmas.Int.{ints}
use Rattle.cover_core.proofs.Values.{number_at-get}
use Rattle.column_weave.proofs.Lists.{asked-get}
use Rattle.column_weave.proofs.weaving.asked_at.Goals as goal

pub returns-clause-value : goal.returns-clause-value
returns-clause-value c =
    let is = asked-get c.args.asked.now c.args.class (pos 0) c.requires.inside c.requires.asked in
    let fits : FitsSigned w64 (get_or c.args.asked.now c.args.class (pos 0)) = omega (arith, ints, is.low, is.high) in
    to_z-of_z fits ∙ number_at-get c.args.asked.now c.args.class (pos 0) c.requires.inside

pub returns-clause-low : goal.returns-clause-low
returns-clause-low c =
    let is = asked-get c.args.asked.now c.args.class (pos 0) c.requires.inside c.requires.asked in
    omega (arith, ints, is.low, is.high)

pub returns-clause-high : goal.returns-clause-high
returns-clause-high c =
    let is = asked-get c.args.asked.now c.args.class (pos 0) c.requires.inside c.requires.asked in
    omega (arith, ints, is.low, is.high)
