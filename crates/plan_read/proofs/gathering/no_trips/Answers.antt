use Rattle.std.proofs.Common.{List, ℕ, [], ◌∷◌, ◌++◌, ap, ◌∙◌}
use Rattle.plan_read.proofs.Gathered.{no-more}
use Rattle.plan_read.proofs.gathering.no_trips.Goals as goal

pub loop-class-preserved : goal.loop-class-preserved
loop-class-preserved c =
    let lists = c.loop-class.lists.items in
    no-more c.loop-class._class-index c.args.classes.now lists c.push.new.self.items c.loop-class-test.true
    (c.in_ok-push.ensures.items ∙ ap (λ (l : List ℕ). lists ++ l ∷ []) c.new.ensures) c.loop-class.invariant
