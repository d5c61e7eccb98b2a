use Rattle.std.proofs.Common.{arith, ap, ◌∙◌, SFits, w64, to_z-of_z}
use Rattle.std.specs.Prelude.{sum_by}
use Rattle.std.proofs.lemmas.List.{take_all}
use Rattle.week_check.specs.Denials as spec
use Rattle.week_check.proofs.weeks.week_sum.Goals as goal

pub returns-clause-value : goal.returns-clause-value
returns-clause-value c =
    let f : SFits w64 c.args.monday = c.ranges.monday in
    let sum = simp to_z-of_z at c.loop-turn.invariant.sum in
    sum ∙ ap (λ ts. sum_by (spec.driving_in c.args.monday) ts) (take_all c.loop-turn.turn-index c.args.turns.now (omega arith))
