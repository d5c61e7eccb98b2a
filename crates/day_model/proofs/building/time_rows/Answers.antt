use Rattle.std.proofs.Common.{◌≡◌, ◌∷◌, [], ◌++◌, List, All, ap, inr, sym, arith, rules, subst, length}
use Rattle.std.proofs.lemmas.List.{length_push}
use Rattle.std.proofs.lemmas.List.Elements.{All-push}
use Rattle.std.proofs.lemmas.Result.{err_from_is_err_and}
use Rattle.trip_times.specs.declared.trip.Trip.{Trip}
use Rattle.day_model.specs.Ranges.{IsDaily}
use Rattle.day_model.proofs.Timed.{more_at, wrong_at}
use Rattle.day_model.proofs.building.time_rows.Goals as goal

pub returns-in_err-time_row-clause-fault : goal.returns-in_err-time_row-clause-fault
returns-in_err-time_row-clause-fault c =
    let so = wrong_at c.args.net.now c.args.version c.trip_rows-rows.result.now c.args.places.now c.loop-place.place-index
    c.index-rows-place.result c.loop-place.trips c.in_err-time_row.field-0.0 (search rules) (search rules) c.index-rows-place.is
    c.in_err-time_row.ensures.value c.loop-place.invariant.so_far in
    let p = err_from_is_err_and c.from_residual.result c.from_residual.ensures.1 in
    rw (p.1, p.2, ← c.trip_rows-rows.ensures.rows) (inr so)

pub loop-place-preserved : goal.loop-place-preserved
loop-place-preserved c =
    let pushed : c.push.new.self ≡ c.loop-place.trips ++ c.in_ok-time_row.field-0 ∷ [] = c.in_ok-push.ensures.ok in
    record {
      so_far = more_at c.args.net.now c.args.version c.trip_rows-rows.result.now c.args.places.now c.loop-place.place-index
          c.index-rows-place.result c.loop-place.trips c.push.new.self c.in_ok-time_row.field-0 (search rules) (search rules)
          c.index-rows-place.is c.in_ok-time_row.ensures.value pushed c.loop-place.invariant.so_far;
      daily = let P : List Trip → Type 0 = λ ts. All IsDaily ts in
          subst P (sym pushed) (All-push IsDaily c.loop-place.trips c.in_ok-time_row.field-0 c.loop-place.invariant.daily
          c.in_ok-time_row.ensures.daily);
      count = omega (
        arith,
        ap (λ (ts : List Trip). length ts) pushed,
        length_push c.loop-place.trips c.in_ok-time_row.field-0,
        c.loop-place.invariant.count,
      );
    }
