use Rattle.week_check.proofs.Adding.{adds_one}
use Rattle.week_check.proofs.denial.add.Goals as goal

pub returns-in_ok-push : goal.returns-in_ok-push
returns-in_ok-push c = adds_one c.args.out.now.items c.push.new.self.items c.args.denial c.args.is_denied c.if-is_denied.true
    c.in_ok-push.ensures.items c.requires
