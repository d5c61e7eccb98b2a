use Rattle.std.proofs.Common.{◌<◌, length, refl, rules}
use Rattle.tail_exchange.proofs.Lists.{meets, parts}
use Rattle.tail_exchange.proofs.joins.may_join.Goals as goal

pub returns-else-is_empty-2-clause-rises : goal.returns-else-is_empty-2-clause-rises
returns-else-is_empty-2-clause-rises c =
    let some : 0 < length c.args.front.now = search rules in
    let more : 0 < length c.args.tail.now = search rules in
    meets c.args.front.now c.args.tail.now _ c.requires.front c.requires.tail some more refl

pub returns-else-is_empty-2-clause-apart : goal.returns-else-is_empty-2-clause-apart
returns-else-is_empty-2-clause-apart c =
    let some : 0 < length c.args.front.now = search rules in
    let more : 0 < length c.args.tail.now = search rules in
    parts c.args.front.now c.args.tail.now _ some more refl
