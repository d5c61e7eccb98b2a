use Rattle.std.proofs.Common.{ℕ, List, length, ap, arith}
use Rattle.cover_core.proofs.Values.{AllBelow-get}
use Rattle.lagrangian_climb.proofs.covers.count_all.Goals as goal

pub bounds-as_slice-place : goal.bounds-as_slice-place
bounds-as_slice-place c =
    let below = AllBelow-get _ c.args.places.now c.loop-place.place-index c.requires c.loop-place-test.true in
    let len = c.loop-place.invariant in
    let same = ap (λ (l : List ℕ). length l) c.as_slice.ensures in
    omega arith

pub set-requires : goal.set-requires
set-requires c =
    let below = AllBelow-get _ c.args.places.now c.loop-place.place-index c.requires c.loop-place-test.true in
    let len = c.loop-place.invariant in
    omega arith
