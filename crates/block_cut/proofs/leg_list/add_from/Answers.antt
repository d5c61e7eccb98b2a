use Rattle.std.proofs.Common.{rules}
use Rattle.cover_core.proofs.Values.{AllBelow-get}
use Rattle.block_cut.proofs.LegLists.{legs_more, splits_at}
use Rattle.block_cut.proofs.leg_list.add_from.Goals as goal

pub add_until_next-requires-clause-next : goal.add_until_next-requires-clause-next
add_until_next-requires-clause-next c = AllBelow-get _ c.args.rest.now c.loop-next.next-index c.requires.rest (search rules)

pub add_until_next-requires-clause-there : goal.add_until_next-requires-clause-there
add_until_next-requires-clause-there c =
    (splits_at c.args.day.now c.args.pool.now c.loop-next.last c.loop-next.next-index c.args.rest.now (search rules)
    c.loop-next.invariant.some).first

pub loop-next-preserved : goal.loop-next-preserved
loop-next-preserved c = record {
  there = AllBelow-get _ c.args.rest.now c.loop-next.next-index c.requires.rest (search rules);
  some = (splits_at c.args.day.now c.args.pool.now c.loop-next.last c.loop-next.next-index c.args.rest.now (search rules)
      c.loop-next.invariant.some).rest;
  made = legs_more c.args.day.now c.args.pool.now c.loop-next.last c.loop-next.next-index c.args.rest.now c.loop-next.legs
      c.add_until_next.new.legs _ (search rules) c.loop-next.invariant.some (search rules) c.loop-next.invariant.made;
  timed = search rules;
}
