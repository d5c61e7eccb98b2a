use Rattle.cover_rest.proofs.Steps.{not-after}
use Rattle.cover_rest.proofs.member.may_follow.Goals as goal

pub returns-then-not-comes_after : goal.returns-then-not-comes_after
returns-then-not-comes_after c =
    not-after c.args.heads c.args.items c.loop-item.last c.args.rest.now c.loop-item.item-index _ c.loop-item-test.true
    c.if-not-comes_after.ensures c.loop-item.invariant
