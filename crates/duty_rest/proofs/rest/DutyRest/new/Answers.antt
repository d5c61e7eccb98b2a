use Rattle.std.proofs.Common.{◌≡◌, ℕ, List, length, sym, subst, ap, ◌∙◌}
use Rattle.plan_core.specs.declared.types.Piece.{Piece}
use Rattle.cover_rest.specs.declared.begun.Begun.{Begun}
use Rattle.cover_rest.specs.Laws.{StandForAll}
use Rattle.cover_rest.specs.Rest.{bodies}
use Rattle.duty_network.specs.Duties.{duties}
use Rattle.duty_rest.specs.Rest.{begun_of}
use Rattle.duty_rest.proofs.rest.DutyRest.new.Goals as goal

pub invariant_of-result : goal.invariant_of-result
invariant_of-result c =
    let net = c.args.net.now in
    let heads = c.args.heads in
    let bs : List (List ℕ) = c.in_ok-bodies.bodies in
    let same : c.in_ok-begun.begun ≡ begun_of heads = c.in_ok-begun.ensures ∙ ap begun_of c.as_slice.ensures in
    let stand : bs ≡ bodies (begun_of heads) (length net.pieces) =
    c.in_ok-bodies.ensures ∙ ap (λ (hs : List Begun). bodies hs (length c.pieces.result.now)) (c.as_slice-2.ensures ∙ same)
    ∙ ap (λ (ps : List Piece). bodies (begun_of heads) (length ps)) c.pieces.ensures.pieces in
    let P : List (List ℕ) → Type 0 = StandForAll (length net.pieces) in
    let stands = c.bodies_stand_for_all.ensures (duties net) (begun_of heads) c.requires in
    let all : StandForAll (length net.pieces) bs = subst P (sym stand) stands in
    record { same = same; stand = stand; all = all }
