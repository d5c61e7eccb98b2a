use Rattle.std.proofs.Common.{◌≡◌, length, rules, tests}
use Rattle.std.proofs.lemmas.Iterator.{YieldsList-from_slice}
use Rattle.std.proofs.lemmas.Iterator.Search.{position_from_yields_List}
use Rattle.std.specs.List.{position}
use Rattle.cert_check.specs.Judging.{is_piece_of}
use Rattle.cert_check.proofs.Placed.{none-found, place-found}
use Rattle.cert_check.proofs.duties.piece_number.Goals as goal

pub returns-in-Some : goal.returns-in-Some
returns-in-Some c =
    let pieces = c.args.pieces.now in
    let test = is_piece_of c.args.block c.args.index in
    let found : c.position.result ≡ position test pieces = position_from_yields_List test _ _ _ c.position.ensures.ran
    (YieldsList-from_slice pieces cc) (λ x b q k. search (rules, tests)) in
    record { number = place-found test pieces (length pieces) c.in-Some.place c.position.result found c.in-Some.is }

pub returns-in-None : goal.returns-in-None
returns-in-None c =
    let pieces = c.args.pieces.now in
    let test = is_piece_of c.args.block c.args.index in
    let found : c.position.result ≡ position test pieces = position_from_yields_List test _ _ _ c.position.ensures.ran
    (YieldsList-from_slice pieces cc) (λ x b q k. search (rules, tests)) in
    record { number = none-found test pieces (length pieces) c.position.result found c.in-None.is }
