use Rattle.std.proofs.Common.{◌≡◌, ◌<◌, ◌+◌, ◌++◌, ◌∷◌, [], List, arith, length, set, sym, subst}
use Rattle.std.specs.Prelude.{Option, Some}
use Rattle.label_region.specs.Rows.{Row, row, places_of, labels_of, IsFilledTo}
use Rattle.label_region.proofs.Fills.{push_filled, row-push, no_places, length-labels_of}
use Rattle.label_region.proofs.block.Block.push.Goals as goal
use Rattle.label_region.proofs.block.Block.push.Goals.{in-Some, in_default}

pub overflow_add-self : goal.overflow_add-self
overflow_add-self g c =
    let n = c.self.inside.len in let ps = places_of c.self.inside.places in
    let long = length-labels_of n ps c.self.invariant in
    let few : length (labels_of n ps) < 4294967296 =
    subst (λ (r : Row g.row.T.Denot). length r.items < 4294967296) (sym c.self.view_is) c.requires.few in
    elim c.match-self.branch [ in-Some w ↦ rw w.self-inside-is (omega arith) | in_default w ↦ rw w.self-inside-is (omega arith) ]

pub invariant_of-self : goal.invariant_of-self
invariant_of-self g c =
    let n = c.self.inside.len in
    let long = length-labels_of n (places_of c.self.inside.places) c.self.invariant in
    let room : length (labels_of n (places_of c.self.inside.places)) < length (places_of c.self.inside.places) =
    subst (λ (r : Row g.row.T.Denot). length r.items < r.room) (sym c.self.view_is) c.requires.room in
    let left : n < length (places_of c.self.inside.places) = omega arith in
    elim c.match-self.branch [
      | in-Some w ↦
          let was : IsFilledTo n w.in-Some.places =
          subst (λ (o : Option (List (Option g.row.T.Denot))). IsFilledTo n (places_of o)) w.in-Some.is c.self.invariant in
          let space : n < length w.in-Some.places =
          subst (λ (o : Option (List (Option g.row.T.Denot))). n < length (places_of o)) w.in-Some.is left in
          rw (w.self-inside-is, w.write.ensures) (push_filled n w.in-Some.places c.args.label was space)
      | in_default w ↦ let none = no_places c.self.inside.places w.in_default.is in absurd (omega arith)
    ]

pub returns : goal.returns
returns g c =
    let n = c.self.inside.len in
    let long = length-labels_of n (places_of c.self.inside.places) c.self.invariant in
    let room : length (labels_of n (places_of c.self.inside.places)) < length (places_of c.self.inside.places) =
    subst (λ (r : Row g.row.T.Denot). length r.items < r.room) (sym c.self.view_is) c.requires.room in
    let left : n < length (places_of c.self.inside.places) = omega arith in
    elim c.match-self.branch [
      | in-Some w ↦
          let ps = w.in-Some.places in
          let was : IsFilledTo n ps =
          subst (λ (o : Option (List (Option g.row.T.Denot))). IsFilledTo n (places_of o)) w.in-Some.is c.self.invariant in
          let space : n < length ps = subst (λ (o : Option (List (Option g.row.T.Denot))). n < length (places_of o)) w.in-Some.is left in
          let before : row (labels_of n ps) (length ps) ≡ c.args.self.now =
          subst (λ (o : Option (List (Option g.row.T.Denot))). row (labels_of n (places_of o)) (length (places_of o)) ≡ c.args.self.now)
          w.in-Some.is c.self.view_is in
          rw (w.self-inside-is, w.write.ensures)
          (subst (λ (r : Row g.row.T.Denot). row (labels_of (n + 1) (set ps n (Some c.args.label))) (length (set ps n (Some c.args.label)))
          ≡ row (r.items ++ c.args.label ∷ []) r.room) before
          (row-push n ps c.args.label was space))
      | in_default w ↦ let none = no_places c.self.inside.places w.in_default.is in absurd (omega arith)
    ]
