use Rattle.std.proofs.Common.{◌≡◌, ◌≤ℤ◌, ◌<◌, arith, length, pos, rules, to_z, w64}
use Rattle.std.proofs.lemmas.Int.{ints, to_z-of_z}
use Rattle.std.specs.Prelude.{FitsSigned}
use Rattle.label_search.proofs.Values.{least-step, values-step}
use Rattle.label_search.proofs.levels.keep_values.Goals as goal

pub loop-place-preserved : goal.loop-place-preserved
loop-place-preserved g c =
    let value_at = g.W.Labels.value_at c.args.labels.now in
    let label = c.made_at.result.now.label in
    let fits : FitsSigned w64 c.lower-least.result = search rules in
    let value_fits : FitsSigned w64 c.value-value.result = search rules in
    let first : c.lower-least.result ≤ℤ to_z w64 c.loop-place.least-bits = search rules in
    let second : c.lower-least.result ≤ℤ value_at label = search rules in
    let value : c.value-value.result ≡ value_at label = c.value-value.ensures in
    let held : value_at label ≤ℤ pos 9223372036854775807 = omega (arith, ints, value_fits, value) in
    let below : c.loop-place.place < length c.args.stock.now.made = (let inside = c.loop-place-test.true in omega arith) in
    record {
      order = (omega arith);
      values = values-step value_at c.args.values.now.items c.loop-place.values.items c.push_value.new.values.items c.loop-place.place
          c.args.stock.now.made c.made_at.result.now c.value-value.result
          below c.made_at.ensures c.loop-place.invariant.values value (rw (to_z-of_z w64 _ value_fits) at c.in_ok-push_value.ensures);
      least = rw (to_z-of_z w64 _ fits)
          (least-step value_at c.loop-place.place c.args.stock.now.made c.made_at.result.now
          (to_z w64 c.loop-place.least-bits) c.lower-least.result
          below c.made_at.ensures c.loop-place.invariant.least first (second, held));
    }
