use Rattle.std.proofs.Common.{ℕ, ◌<◌, List, length, sym, subst, slice_index_or}
use Rattle.duty_network.specs.Duties.{DutyFacts}
use Rattle.cover_rest.specs.Rest.{body_at}
use Rattle.rest_labels.proofs.Stands.{body-below}
use Rattle.replan_command.specs.Steps.{items_of_duties}
use Rattle.replan_command.proofs.Problems.{first-there}
use Rattle.replan_command.proofs.duties.piece_name.Goals as goal

pub piece-piece-requires : goal.piece-piece-requires
piece-piece-requires c =
    let rest = c.args.rest.now in
    let items = items_of_duties rest in
    let n = length rest.net.pieces in
    let P : List ℕ → Type 0 = λ pieces. slice_index_or pieces 0 0 < n in
    let Q : DutyFacts → Type 0 = λ net. slice_index_or c.pieces_of.result.now 0 0 < length net.pieces in
    subst Q (sym c.net.ensures)
    (subst P (sym c.pieces_of.ensures)
    (first-there n (body_at items c.args.item) (body-below n items c.args.item c.requires.stand.below)
    (c.requires.stand.some c.args.item c.requires.item)))
