use Rattle.std.proofs.Common.{ℕ, List, length, sym, subst, slice_index_or}
use Rattle.cover_core.specs.Cover.{AllBelow}
use Rattle.rest_labels.proofs.Stands.{body-below}
use Rattle.block_rest.proofs.begins.begins.Goals as goal

pub leaves_later-requires-clause-trips : goal.leaves_later-requires-clause-trips
leaves_later-requires-clause-trips c =
    let n : ℕ = length c.args.day.now.trips in
    let P : List ℕ → Type 0 = AllBelow n in
    subst P (sym c.body.ensures) (body-below n c.args.bodies.now (slice_index_or c.args.list.now 0 0) c.requires.bodies.below)
