use Rattle.plan_read.proofs.Outcomes.{none-both}
use Rattle.plan_read.proofs.reading.rows_found.Goals as goal

pub returns : goal.returns
returns c =
    let trips = c.in_ok-trips.ensures in
    let blocks = c.in_ok-blocks.ensures in
    let duties = c.in_ok-duties.ensures in
    let parts = c.in_ok-parts.ensures in
    let bounds = c.in_ok-bounds.ensures in
    record {
      sized = record { trips = trips.2; blocks = blocks.2; duties = duties.2; parts = parts.2; bounds = bounds.2 };
      none = none-both _ _ (none-both _ _ (none-both _ _ (none-both _ _ trips.0 blocks.0) duties.0) parts.0) bounds.0;
      trips = trips.1;
      blocks = blocks.1;
      duties = duties.1;
      parts = parts.1;
      bounds = bounds.1;
    }
