use Rattle.std.proofs.Common.{◌≤◌, subst, length, List}
use Rattle.trip_times.specs.declared.trip.Trip.{Trip}
use Rattle.cert_check.proofs.LawfulLists.{few-pieces}
use Rattle.cert_check.proofs.OldPlans.{old-few, old-worths}
use Rattle.cert_check.proofs.old.text_pieces.Goals as goal

pub cut-requires-clause-few : goal.cut-requires-clause-few
cut-requires-clause-few c =
    let few = subst (λ (l : List Trip). length l ≤ 3000) c.trips.ensures.trips c.trips.ensures.few in
    (old-few c.args.day.now c.args.text.now.blocks.columns few c.requires.trips c.requires.blocks).0

pub cut-requires-clause-worths : goal.cut-requires-clause-worths
cut-requires-clause-worths c = old-worths c.args.day.now c.args.text.now.blocks.columns c.requires.blocks

pub returns-clause-few : goal.returns-clause-few
returns-clause-few c =
    let few = subst (λ (l : List Trip). length l ≤ 3000) c.trips.ensures.trips c.trips.ensures.few in
    few-pieces c.cut.result _ (old-few c.args.day.now c.args.text.now.blocks.columns few c.requires.trips c.requires.blocks).1
    c.cut.ensures.few
