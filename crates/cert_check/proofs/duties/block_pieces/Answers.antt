use Rattle.std.proofs.Common.{◌≡◌, ◌≤◌, All, List, false, length, ap, ◌∙◌, subst, sym}
use Rattle.trip_times.specs.declared.trip.Trip.{Trip}
use Rattle.depot_network.specs.Network.{blocks_of}
use Rattle.depot_network.specs.Listed.{blocks_listed}
use Rattle.block_cut.specs.Legs.{HasWorth}
use Rattle.cert_check.specs.Judging.{Case}
use Rattle.cert_check.proofs.LawfulLists.{few-blocks, few-pieces, plan-worths}
use Rattle.cert_check.proofs.duties.block_pieces.Goals as goal

pub cut-requires-clause-few : goal.cut-requires-clause-few
cut-requires-clause-few c =
    let facts = c.args.case.now.day in
    let trips : c.trips.result.now ≡ facts.trips = c.trips.ensures.trips ∙ ap (λ (x : Case). x.day.trips) c.case.view_is in
    let few = subst (λ (l : List Trip). length l ≤ 3000) trips c.trips.ensures.few in
    few-blocks facts c.args.blocks.now.columns few c.requires

pub cut-requires-clause-worths : goal.cut-requires-clause-worths
cut-requires-clause-worths c =
    subst (λ (x : Case). All (HasWorth x.day) c.args.blocks.now.columns) (sym c.case.view_is)
    (plan-worths c.args.case.now.day c.args.blocks.now.columns c.requires)

pub returns-clause-few : goal.returns-clause-few
returns-clause-few c =
    let facts = c.args.case.now.day in
    let trips : c.trips.result.now ≡ facts.trips = c.trips.ensures.trips ∙ ap (λ (x : Case). x.day.trips) c.case.view_is in
    let few = subst (λ (l : List Trip). length l ≤ 3000) trips c.trips.ensures.few in
    few-pieces c.cut.result (length facts.trips) few (c.cut.ensures.plan (blocks_of facts false)
    (blocks_listed (record { day = facts; counts = false })) c.requires)
