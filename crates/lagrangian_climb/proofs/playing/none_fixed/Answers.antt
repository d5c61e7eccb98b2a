use Rattle.cover_core.proofs.Values.{AllBelow-get}
use Rattle.lagrangian_climb.proofs.playing.none_fixed.Goals as goal

pub bounds-fixed-item : goal.bounds-fixed-item
bounds-fixed-item c = AllBelow-get _ c.args.list.now c.loop-item.item-index c.requires c.loop-item-test.true
