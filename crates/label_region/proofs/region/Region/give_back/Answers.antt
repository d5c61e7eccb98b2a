use Rattle.std.proofs.Common.{◌≡◌, ◌+◌, ◌++◌, ◌∷◌, [], arith, sym, subst}
use Rattle.std.specs.Vec.{vec_capacity}
use Rattle.label_region.specs.Shelf.{Shelf, IsLive, shelf, label_at}
use Rattle.label_region.proofs.Holding.{back_room_left, spare_small, held_given_back}
use Rattle.label_region.proofs.Labels.{label_gone, label_stays}
use Rattle.label_region.proofs.region.Region.give_back.Goals as goal

pub push_reserved-requires : goal.push_reserved-requires
push_reserved-requires g c =
    let r = c.self.inside in
    let s : Shelf g.row.T.Denot = shelf r.cells.items r.back.items r.spare in
    let live : IsLive s c.args.id = subst (λ (s : Shelf g.row.T.Denot). IsLive s c.args.id) (sym c.self.view_is) c.requires in
    let left = back_room_left s r.cells.room (vec_capacity r.back) c.args.id c.self.invariant live in
    omega (arith, left, r.back.ok)

pub overflow_add-self : goal.overflow_add-self
overflow_add-self g c =
    let r = c.self.inside in
    let s : Shelf g.row.T.Denot = shelf r.cells.items r.back.items r.spare in
    let live : IsLive s c.args.id = subst (λ (s : Shelf g.row.T.Denot). IsLive s c.args.id) (sym c.self.view_is) c.requires in
    let small = spare_small s r.cells.room (vec_capacity r.back) c.args.id c.self.invariant live in
    omega (arith, small)

pub invariant_of-self : goal.invariant_of-self
invariant_of-self g c =
    let r = c.self.inside in
    let s : Shelf g.row.T.Denot = shelf r.cells.items r.back.items r.spare in
    let live : IsLive s c.args.id = subst (λ (s : Shelf g.row.T.Denot). IsLive s c.args.id) (sym c.self.view_is) c.requires in
    let held = held_given_back s r.cells.room (vec_capacity r.back) c.args.id c.self.invariant live in
    rw (c.push_reserved.ensures.items, c.push_reserved.ensures.capacity) held

pub returns-clause-gone : goal.returns-clause-gone
returns-clause-gone g c =
    let r = c.self.inside in
    rw c.push_reserved.ensures.items (label_gone r.cells.items r.back.items c.args.id (r.spare + 1))

pub returns-clause-others : goal.returns-clause-others
returns-clause-others g c =
    let r = c.self.inside in
    λ other apart. rw c.push_reserved.ensures.items
    (subst (λ (s : Shelf g.row.T.Denot). label_at (shelf r.cells.items (r.back.items ++ c.args.id ∷ []) (r.spare + 1)) other
    ≡ label_at s other) c.self.view_is (label_stays r.cells.items r.back.items c.args.id (r.spare + 1) r.spare other apart))
