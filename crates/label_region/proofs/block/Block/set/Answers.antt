use Rattle.std.proofs.Common.{◌≡◌, ◌<◌, List, arith, length, set, sym, subst}
use Rattle.std.specs.Prelude.{Option, Some}
use Rattle.label_region.specs.Rows.{Row, row, places_of, labels_of, IsFilledTo}
use Rattle.label_region.proofs.Fills.{set_filled, row-set, none_filled, length-labels_of}
use Rattle.label_region.proofs.block.Block.set.Goals as goal
use Rattle.label_region.proofs.block.Block.set.Goals.{in-Some, in_default}

pub invariant_of-self : goal.invariant_of-self
invariant_of-self g c = elim c.match-self.branch [
  | in-Some w ↦
      let n = c.self.inside.len in
      let was : IsFilledTo n w.in-Some.places =
      subst (λ (o : Option (List (Option g.row.T.Denot))). IsFilledTo n (places_of o)) w.in-Some.is c.self.invariant in
      rw (w.self-inside-is, w.write.ensures) (set_filled n w.in-Some.places c.args.index c.args.label was)
  | in_default w ↦ rw w.self-inside-is c.self.invariant
]

pub returns : goal.returns
returns g c = elim c.match-self.branch [
  | in-Some w ↦
      let n = c.self.inside.len in let ps = w.in-Some.places in
      let was : IsFilledTo n ps =
      subst (λ (o : Option (List (Option g.row.T.Denot))). IsFilledTo n (places_of o)) w.in-Some.is c.self.invariant in
      let before : row (labels_of n ps) (length ps) ≡ c.args.self.now =
      subst (λ (o : Option (List (Option g.row.T.Denot))). row (labels_of n (places_of o)) (length (places_of o)) ≡ c.args.self.now)
      w.in-Some.is c.self.view_is in
      rw (w.self-inside-is, w.write.ensures)
      (subst (λ (r : Row g.row.T.Denot). row (labels_of n (set ps c.args.index (Some c.args.label)))
      (length (set ps c.args.index (Some c.args.label))) ≡ row (set r.items c.args.index c.args.label) r.room) before
      (row-set n ps c.args.index c.args.label was))
  | in_default w ↦
      let n = c.self.inside.len in
      let none = none_filled n c.self.inside.places w.in_default.is c.self.invariant in
      let long = length-labels_of n (places_of c.self.inside.places) c.self.invariant in
      let within : c.args.index < length (labels_of n (places_of c.self.inside.places)) =
      subst (λ (r : Row g.row.T.Denot). c.args.index < length r.items) (sym c.self.view_is) c.requires in
      absurd (omega arith)
]
