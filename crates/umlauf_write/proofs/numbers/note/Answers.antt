use Rattle.std.proofs.Common.{◌≡◌, length, arith, rules}
use Rattle.cover_core.proofs.Values.{AllBelow-get}
use Rattle.umlauf_write.proofs.Noted.{note_more}
use Rattle.umlauf_write.proofs.numbers.note.Goals as goal

pub bounds-numbers-item : goal.bounds-numbers-item
bounds-numbers-item c =
    let below = AllBelow-get (length c.args.numbers.now) c.args.items.now c.loop-item.item-index c.requires (search rules) in
    let same : length c.loop-item.numbers ≡ length c.args.numbers.now = search rules in
    omega (arith, below, same)

pub loop-item-preserved : goal.loop-item-preserved
loop-item-preserved c = λ trip within.
    let below = AllBelow-get (length c.args.numbers.now) c.args.items.now c.loop-item.item-index c.requires (search rules) in
    let same : length c.loop-item.numbers ≡ length c.args.numbers.now = search rules in
    note_more c.args.items.now c.loop-item.numbers c.loop-item.item-index c.args.number trip _ (search rules) (omega (arith, below, same))
    (c.loop-item.invariant trip (search rules))
