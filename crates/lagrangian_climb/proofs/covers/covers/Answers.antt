use Rattle.std.proofs.Common.{◌≡◌, ◌<◌, ◌≤◌, ℕ, List, length, get_or, sym, ap, ◌∙◌, subst, arith}
use Rattle.cover_core.specs.declared.Column.{Column}
use Rattle.cover_core.specs.Cover.{AllBelow}
use Rattle.cover_core.specs.Plans.{times}
use Rattle.cover_core.proofs.Values.{AllBelow-get, Rises-length}
use Rattle.cover_core.proofs.Parts.{Rises-once}
use Rattle.cover_core.proofs.Fits.{fit-at}
use Rattle.lagrangian_climb.proofs.covers.covers.Goals as goal

pub bounds-pool-place : goal.bounds-pool-place
bounds-pool-place c = AllBelow-get _ c.args.places.now c.loop-place.place-index c.requires.below c.loop-place-test.true

pub add_items-requires-clause-items : goal.add_items-requires-clause-items
add_items-requires-clause-items c =
    let place = get_or c.args.places.now c.loop-place.place-index 0 in
    let inside : place < length c.args.pool.now =
    AllBelow-get _ c.args.places.now c.loop-place.place-index c.requires.below c.loop-place-test.true in
    let fit = fit-at c.args.items 32 c.args.pool.now place c.index-pool-place.result inside c.index-pool-place.is c.requires.fit in
    let same : c.as_slice.result.now ≡ c.index-pool-place.result.items =
    c.as_slice.ensures ∙ ap (λ (x : Column). x.items) (sym c.index-pool-place.is) in
    let P : ℕ → Type 0 = λ n. AllBelow n c.index-pool-place.result.items in
    let there : AllBelow (length c.loop-place.cover) c.index-pool-place.result.items = subst P (sym c.loop-place.invariant.len) fit.items in
    subst (AllBelow (length c.loop-place.cover)) (sym same) there

pub add_items-requires-clause-short : goal.add_items-requires-clause-short
add_items-requires-clause-short c =
    let place = get_or c.args.places.now c.loop-place.place-index 0 in
    let inside : place < length c.args.pool.now =
    AllBelow-get _ c.args.places.now c.loop-place.place-index c.requires.below c.loop-place-test.true in
    let fit = fit-at c.args.items 32 c.args.pool.now place c.index-pool-place.result inside c.index-pool-place.is c.requires.fit in
    let room = Rises-length c.args.items c.index-pool-place.result.items fit.rises fit.items in
    let same = ap (λ (l : List ℕ). length l) (c.as_slice.ensures ∙ ap (λ (x : Column). x.items) (sym c.index-pool-place.is)) in
    let few = c.requires.items in
    omega arith

pub loop-place-preserved : goal.loop-place-preserved
loop-place-preserved c =
    let place = get_or c.args.places.now c.loop-place.place-index 0 in
    let inside : place < length c.args.pool.now =
    AllBelow-get _ c.args.places.now c.loop-place.place-index c.requires.below c.loop-place-test.true in
    let fit = fit-at c.args.items 32 c.args.pool.now place c.index-pool-place.result inside c.index-pool-place.is c.requires.fit in
    record {
      order = omega arith;
      len = c.add_items.ensures.len ∙ c.loop-place.invariant.len;
      few = λ i.
          let once : times i c.index-pool-place.result.items ≤ 1 = Rises-once i c.index-pool-place.result.items fit.rises in
          let same : times i c.as_slice.result.now ≡ times i c.index-pool-place.result.items =
          ap (λ (l : List ℕ). times i l) (c.as_slice.ensures ∙ ap (λ (x : Column). x.items) (sym c.index-pool-place.is)) in
          omega (arith, c.add_items.ensures.added i, c.loop-place.invariant.few i);
    }
