use Rattle.std.proofs.Common.{◌≡◌, ◌∙◌, sym, ap, subst, ℕ, Bool, Some, cond, ◌+◌, ◌*◌}
use Rattle.eu561_rules.specs.declared.rules.Verdict.{Verdict}
use Rattle.eu561_rules.specs.Duty.{Judged}
use Rattle.duty_network.proofs.Walked.{worth-lawful, worth-unlawful}
use Rattle.duty_network.proofs.net.DutyNet.duty_worth.Goals as goal

pub returns-in-Lawful-clause-value : goal.returns-in-Lawful-clause-value
returns-in-Lawful-clause-value c =
    let d = c.args.self.now in
    let g = c.group-group.result.now in
    let course = c.in_ok-course.course in
    let x = c.in_ok-course.ensures.some g c.group-group.ensures.group in
    let J : Verdict → Type 0 = λ v. Judged x.0.drives course.spread course.tally.limits v in
    let judged = subst J c.in-Lawful.is (c.close.ensures x.0.drives x.2.stands) in
    let counts : c.counts.result ≡ d.counts = c.counts.ensures in
    let cost : c.cost.result ≡ cond d.counts 1 (g.fixed + g.rate * course.spread) =
    c.cost.ensures.value ∙ ap (λ (b : Bool). cond b 1 (g.fixed + g.rate * course.spread)) counts in
    ap (λ (n : ℕ). Some n) cost ∙ sym (worth-lawful d c.args.class c.args.list.now g x.0 course x.1 x.2 judged)

pub returns-in_default-clause-value : goal.returns-in_default-clause-value
returns-in_default-clause-value c =
    let d = c.args.self.now in
    let g = c.group-group.result.now in
    let course = c.in_ok-course.course in
    let x = c.in_ok-course.ensures.some g c.group-group.ensures.group in
    sym (worth-unlawful d c.args.class c.args.list.now g x.0 course c.close.result x.1 x.2 (c.close.ensures x.0.drives x.2.stands)
    c.in_default.not-Lawful)
