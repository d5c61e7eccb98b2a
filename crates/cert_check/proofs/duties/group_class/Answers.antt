use Rattle.std.proofs.Common.{◌≡◌, rules, tests}
use Rattle.std.proofs.lemmas.Iterator.{YieldsList-from_slice}
use Rattle.std.proofs.lemmas.Iterator.Search.{position_from_yields_List}
use Rattle.std.specs.List.{position}
use Rattle.cert_check.specs.Judging.{has_number}
use Rattle.cert_check.proofs.Placed.{none-found, place-found}
use Rattle.cert_check.proofs.duties.group_class.Goals as goal

pub returns-in-Some : goal.returns-in-Some
returns-in-Some c =
    let groups = c.args.groups.now in
    let test = has_number c.args.number in
    let found : c.position.result ≡ position test groups = position_from_yields_List test _ _ _ c.position.ensures.ran
    (YieldsList-from_slice groups cc) (λ x b q k. search (rules, tests)) in
    place-found test groups 0 c.in-Some.place c.position.result found c.in-Some.is

pub returns-in-None : goal.returns-in-None
returns-in-None c =
    let groups = c.args.groups.now in
    let test = has_number c.args.number in
    let found : c.position.result ≡ position test groups = position_from_yields_List test _ _ _ c.position.ensures.ran
    (YieldsList-from_slice groups cc) (λ x b q k. search (rules, tests)) in
    none-found test groups 0 c.position.result found c.in-None.is
