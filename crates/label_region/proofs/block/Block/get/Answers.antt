use Rattle.std.proofs.Common.{◌≡◌, ◌<◌, List, arith, length, sym, subst, ◌∙◌}
use Rattle.std.specs.Prelude.{Option, Some, slice_get}
use Rattle.label_region.specs.Rows.{Row, row, places_of, labels_of, IsFilledTo}
use Rattle.label_region.proofs.Fills.{place_filled, place_is, length-labels_of}
use Rattle.label_region.proofs.block.Block.get.Goals as goal

pub get-requires : goal.get-requires
get-requires g c =
    let n = c.self.inside.len in let ps = c.in-Some.places in
    let was : IsFilledTo n ps =
    subst (λ (o : Option (List (Option g.row.T.Denot))). IsFilledTo n (places_of o)) c.in-Some.is c.self.invariant in
    let long = length-labels_of n (places_of c.self.inside.places) c.self.invariant in
    let below : c.args.index < length (labels_of n (places_of c.self.inside.places)) =
    subst (λ (r : Row g.row.T.Denot). c.args.index < length r.items) (sym c.self.view_is) c.requires in
    place_filled n ps c.args.index was (omega arith)

pub returns : goal.returns
returns g c =
    let n = c.self.inside.len in let ps = c.in-Some.places in
    let was : IsFilledTo n ps =
    subst (λ (o : Option (List (Option g.row.T.Denot))). IsFilledTo n (places_of o)) c.in-Some.is c.self.invariant in
    let before : row (labels_of n ps) (length ps) ≡ c.args.self.now =
    subst (λ (o : Option (List (Option g.row.T.Denot))). row (labels_of n (places_of o)) (length (places_of o)) ≡ c.args.self.now)
    c.in-Some.is c.self.view_is in
    let long = length-labels_of n ps was in
    let below : c.args.index < length (labels_of n ps) =
    subst (λ (r : Row g.row.T.Denot). c.args.index < length r.items) (sym before) c.requires in
    subst (λ (r : Row g.row.T.Denot). slice_get r.items c.args.index ≡ Some c.get.result.now) before
    (sym (place_is n ps c.args.index was (omega arith)) ∙ c.get.ensures)
