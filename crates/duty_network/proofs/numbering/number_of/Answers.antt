use Rattle.std.proofs.Common.{◌<◌, arith, length}
use Rattle.duty_network.proofs.Entries.{entry-read}
use Rattle.duty_network.proofs.numbering.number_of.Goals as goal

pub returns-then-place-item : goal.returns-then-place-item
returns-then-place-item c =
    let before = c.if-place-item.true in
    let count = c.requires.count in
    let small = c.requires.below c.first_alike-place.result before in
    let there : c.first_alike-place.result < length c.args.numbers.now = omega arith in
    let read = entry-read c.args.numbers.now c.first_alike-place.result 0 there in
    omega arith
