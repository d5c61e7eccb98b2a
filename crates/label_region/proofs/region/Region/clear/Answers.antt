use Rattle.std.specs.Vec.{vec_capacity}
use Rattle.label_region.specs.Shelf.{Shelf, shelf}
use Rattle.label_region.proofs.Holding.{held_cleared}
use Rattle.label_region.proofs.region.Region.clear.Goals as goal

pub invariant_of-self : goal.invariant_of-self
invariant_of-self g c =
    let r = c.self.inside in
    let s : Shelf g.row.T.Denot = shelf r.cells.items r.back.items r.spare in
    let held = held_cleared s r.cells.room (vec_capacity r.back) c.self.invariant in
    let cells = c.clear.ensures in let back = c.clear-2.ensures in
    rw (cells, back.items, back.capacity) held
