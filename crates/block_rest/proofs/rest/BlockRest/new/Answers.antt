use Rattle.std.proofs.Common.{◌≡◌, ℕ, List, length, sym, subst, ap, ◌∙◌}
use Rattle.cover_rest.specs.declared.begun.Begun.{Begun}
use Rattle.cover_rest.specs.Laws.{StandForAll}
use Rattle.cover_rest.specs.Rest.{bodies}
use Rattle.depot_network.specs.Network.{blocks_of, is_count}
use Rattle.trip_times.specs.declared.trip.Trip.{Trip}
use Rattle.day_model.specs.Facts.{DayFacts}
use Rattle.block_rest.specs.Rest.{IsMade, begun_of}
use Rattle.block_rest.proofs.rest.BlockRest.new.Goals as goal

pub invariant_of-result : goal.invariant_of-result
invariant_of-result c =
    let day = c.args.day.now in
    let heads = c.args.heads in
    let bs : List (List ℕ) = c.in_ok-bodies.bodies in
    let same : c.in_ok-begun.begun ≡ begun_of heads = c.in_ok-begun.ensures ∙ ap begun_of c.as_slice.ensures in
    let stand : bs ≡ bodies (begun_of heads) (length day.trips) =
    c.in_ok-bodies.ensures ∙ ap (λ (hs : List Begun). bodies hs (length c.trips.result.now)) (c.as_slice-2.ensures ∙ same)
    ∙ ap (λ (ts : List Trip). bodies (begun_of heads) (length ts)) c.trips.ensures.trips in
    let P : List (List ℕ) → Type 0 = StandForAll (length day.trips) in
    let stands = c.bodies_stand_for_all.ensures (blocks_of day (is_count c.args.worth)) (begun_of heads) c.requires in
    let all : StandForAll (length day.trips) bs = subst P (sym stand) stands in
    let Q : DayFacts → Type 0 = λ d. IsMade d heads c.in_ok-begun.begun bs in
    subst Q (sym c.new.ensures.day) (record { same = same; stand = stand; all = all })
