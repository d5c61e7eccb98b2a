use Rattle.std.proofs.Common.{rules, ◌+ℤ◌, pos, w64}
use Rattle.std.proofs.lemmas.Int.{to_z-of_z}
use Rattle.std.specs.Prelude.{FitsSigned}
use Rattle.duty_pricing.proofs.labels.DutyLabels.new.Goals as goal

pub invariant_of-result : goal.invariant_of-result
invariant_of-result c =
    let latest = c.latest_start-latest.result in
    let latest_fits : FitsSigned w64 latest = search rules in
    let until_fits : FitsSigned w64 (latest +ℤ pos 54000) = search rules in
    record {
      fits = c.fits.ensures;
      of_class = c.group.ensures.group;
      ranges = c.group.ensures.ranges;
      of_day = c.day_of-day.ensures;
      count = c.requires.prices;
      moderate = c.requires.moderate;
      in_reach = c.reach_of-reach.ensures.reach;
      starts = rw (to_z-of_z w64 latest latest_fits) c.latest_start-latest.ensures.latest;
      ends = rw (to_z-of_z w64 latest latest_fits)
          (rw (to_z-of_z w64 latest latest_fits, to_z-of_z w64 (latest +ℤ pos 54000) until_fits) at c.reach_of-reach.ensures.until);
      bound = c.in_ok-rows.ensures;
    }
