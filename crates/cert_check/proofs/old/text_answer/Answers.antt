use Rattle.std.proofs.Common.{◌≤◌, List, length, subst}
use Rattle.trip_times.specs.declared.trip.Trip.{Trip}
use Rattle.cert_check.specs.Old.{IsOldPlan}
use Rattle.cert_check.proofs.OldPlans.{old-few, old-lists, old-worths, step-passed}
use Rattle.cert_check.proofs.old.text_answer.Goals as goal

pub returns-in-None-clause-lists : goal.returns-in-None-clause-lists
returns-in-None-clause-lists c =
    let day = c.args.day.now in
    let text = c.args.text in
    let good = step-passed day text (IsOldPlan day text) c.in_ok-reason.field-0 c.in_ok-reason.ensures c.in-None.is in
    old-lists day text.blocks.columns good.blocks

pub returns-in-None-clause-worths : goal.returns-in-None-clause-worths
returns-in-None-clause-worths c =
    let day = c.args.day.now in
    let text = c.args.text in
    let good = step-passed day text (IsOldPlan day text) c.in_ok-reason.field-0 c.in_ok-reason.ensures c.in-None.is in
    old-worths day text.blocks.columns good.blocks

pub returns-in-None-clause-few : goal.returns-in-None-clause-few
returns-in-None-clause-few c =
    let day = c.args.day.now in
    let text = c.args.text in
    let few = subst (λ (l : List Trip). length l ≤ 3000) c.trips.ensures.trips c.trips.ensures.few in
    let good = step-passed day text (IsOldPlan day text) c.in_ok-reason.field-0 c.in_ok-reason.ensures c.in-None.is in
    (old-few day text.blocks.columns few good.trips good.blocks).0
