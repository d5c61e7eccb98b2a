use Rattle.std.proofs.Common.{◌≡◌, ◌∙◌, ap, sym, subst, ℕ}
use Rattle.eu561_rules.specs.declared.rules.Limits.{Limits}
use Rattle.eu561_rules.specs.Duty.{Judged}
use Rattle.duty_network.specs.Duties.{limits_of}
use Rattle.point_grid.proofs.Flat.{there}
use Rattle.duty_network.proofs.net.DutyNet.verdict.Goals as goal

pub returns-clause-some : goal.returns-clause-some
returns-clause-some c =
    let d = c.args.self.now in
    let course = c.in_ok-course.course in
    let g = there d.params.groups c.args.class c.requires.class in
    let x = c.in_ok-course.ensures.some g.0 g.1 in
    let J : ℕ → Type 0 = λ s. Judged x.0.drives s course.tally.limits c.close.result in
    let K : Limits → Type 0 = λ l. Judged x.0.drives x.0.spread l c.close.result in
    let limits : course.tally.limits ≡ limits_of x.0.group = x.2.limits ∙ ap limits_of (sym x.2.group) in
    record { duty = x.0; is = x.1; judged = subst K limits (subst J x.2.spread (c.close.ensures x.0.drives x.2.stands)) }
