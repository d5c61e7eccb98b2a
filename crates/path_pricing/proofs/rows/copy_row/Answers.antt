use Rattle.std.proofs.Common.{◌≡◌, ◌+◌, ◌<◌, arith, length, rules, w64}
use Rattle.std.proofs.lemmas.Int.{to_z-of_z}
use Rattle.std.specs.Prelude.{FitsSigned}
use Rattle.cover_core.specs.Plans.{number_at}
use Rattle.path_pricing.proofs.Cells.{copied_more, number_read}
use Rattle.path_pricing.proofs.rows.copy_row.Goals as goal

pub loop-place-preserved : goal.loop-place-preserved
loop-place-preserved c =
    let cells = c.loop-place.cells.items in
    let at = c.args.base + c.loop-place.place in
    let less = c.loop-place-test.true in
    let room = c.requires in
    let count = c.loop-place.invariant.count in
    let there : at < length cells = omega (arith, less, room, count) in
    let fits : FitsSigned w64 c.index.result.now = search rules in
    let read = number_read cells at c.index.result.now there in
    let is : c.index.result.now ≡ number_at cells at = search (rules, read) in
    rw (to_z-of_z w64 _ fits)
    (copied_more c.args.cells.now.items cells c.args.base c.args.width c.loop-place.place c.index.result.now less
    room is c.loop-place.invariant)
