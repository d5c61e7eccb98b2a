use Rattle.std.proofs.Common.{◌≡◌, arith, All, sym, ap, subst, ◌∙◌, ◌++◌}
use Rattle.std.proofs.lemmas.List.{append-nil, drop_all}
use Rattle.week_check.specs.Denials as spec
use Rattle.week_check.specs.Duties as duties
use Rattle.week_check.proofs.Lists.{rests_days}
use Rattle.week_check.proofs.rests.rests_of.Goals as goal

pub returns-clause-days : goal.returns-clause-days
returns-clause-days c =
    let turns = c.args.turns.now in
    let rests = c.loop-place.rests.items in
    let done = drop_all c.loop-place.place turns (omega arith) in
    let e : rests ≡ duties.rests_of turns =
    sym (append-nil rests) ∙ ap (λ ys. rests ++ duties.rests_of ys) (sym done) ∙ c.loop-place.invariant.rests in
    subst (λ rs. All spec.HasRestDays rs) (sym e) (rests_days turns c.requires)
