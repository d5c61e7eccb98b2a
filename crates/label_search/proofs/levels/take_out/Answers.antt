use Rattle.std.proofs.Common.{◌≡◌, ◌<◌, ◌+◌, ◌-◌, ◌++◌, ◌∙◌, ℕ, List, arith, drop, length, subst, take}
use Rattle.std.specs.Prelude.{filter}
use Rattle.label_search.specs.Nodes.{stays_beside}
use Rattle.label_search.specs.declared.node.Node.{Node}
use Rattle.label_search.proofs.Places.{out-step, out-within}
use Rattle.label_search.proofs.levels.take_out.Goals as goal

pub loop-place-preserved : goal.loop-place-preserved
loop-place-preserved g c =
    let s = c.args.labels.now in
    let p = stays_beside (g.W.Labels.good s) (g.W.Labels.value_at s) c.args.label.now in
    let xs : List (Node g.row.W-Label.Denot) = c.args.stock.now.made in
    let made : List (Node g.row.W-Label.Denot) = c.loop-place.stock.made in
    let within = c.loop-place.invariant.within in
    let some = c.loop-place-test.true in
    let below : c.loop-place.place - 1 < length xs = omega arith in
    let same : c.loop-place.place ≡ (c.loop-place.place - 1) + 1 = omega arith in
    let P : ℕ → Type 0 = λ n. made ≡ take n xs ++ filter p (drop n xs) in
    let so_far : made ≡ take ((c.loop-place.place - 1) + 1) xs ++ filter p (drop ((c.loop-place.place - 1) + 1) xs) =
    subst P same c.loop-place.invariant.made in
    record {
      within = omega arith;
      kept = c.take_beaten.ensures.kept ∙ c.loop-place.invariant.kept;
      made = out-step p xs made c.take_beaten.new.stock.made (c.loop-place.place - 1) below so_far c.take_beaten.ensures.made;
    }

pub take_beaten-requires : goal.take_beaten-requires
take_beaten-requires g c =
    let s = c.args.labels.now in
    let p = stays_beside (g.W.Labels.good s) (g.W.Labels.value_at s) c.args.label.now in
    let xs : List (Node g.row.W-Label.Denot) = c.args.stock.now.made in
    let made : List (Node g.row.W-Label.Denot) = c.loop-place.stock.made in
    let within = c.loop-place.invariant.within in
    let some = c.loop-place-test.true in
    let below : c.loop-place.place - 1 < length xs = omega arith in
    let same : c.loop-place.place ≡ (c.loop-place.place - 1) + 1 = omega arith in
    let P : ℕ → Type 0 = λ n. made ≡ take n xs ++ filter p (drop n xs) in
    let so_far : made ≡ take ((c.loop-place.place - 1) + 1) xs ++ filter p (drop ((c.loop-place.place - 1) + 1) xs) =
    subst P same c.loop-place.invariant.made in
    out-within p xs made (c.loop-place.place - 1) below so_far
