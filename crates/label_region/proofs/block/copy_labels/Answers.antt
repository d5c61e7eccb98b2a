use Rattle.std.proofs.Common.{◌<◌, arith, length, ◌∙◌}
use Rattle.std.proofs.lemmas.List.{length-set}
use Rattle.std.specs.Prelude.{Some}
use Rattle.label_region.proofs.Fills.{place_filled, copied_more}
use Rattle.label_region.proofs.block.copy_labels.Goals as goal

pub get-requires : goal.get-requires
get-requires g c = place_filled c.args.len c.args.from.now c.loop-index.index c.requires.filled c.loop-index-test.true

pub loop-index-preserved : goal.loop-index-preserved
loop-index-preserved g c =
    let i = c.loop-index.index in let from = c.args.from.now in let to = c.loop-index.to in
    let below = c.loop-index-test.true in let kept = c.loop-index.invariant in
    let read : i < length from = omega (arith, below, c.requires.filled.within) in
    let written : i < length to = omega (arith, below, c.requires.room, kept.count) in
    rw c.write.ensures record {
      same = copied_more i from to c.get.result.now kept.same read written c.get.ensures;
      count = length-set to i (Some c.get.result.now) ∙ kept.count;
    }
