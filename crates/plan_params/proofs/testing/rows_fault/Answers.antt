use Rattle.std.proofs.Common.{◌≡◌, ◌+◌, ◌∷◌, Some, drop, sym, ap, ◌∙◌}
use Rattle.plan_params.specs.Faults.{fault}
use Rattle.plan_params.specs.Rules.{rule_of}
use Rattle.plan_params.proofs.FaultLemmas.{row_first}
use Rattle.vdv452_rows.proofs.RowSteps.{drop_item}
use Rattle.plan_params.proofs.testing.rows_fault.Goals as goal

pub returns-in-Some : goal.returns-in-Some
returns-in-Some c =
    let rows = c.args.rows.now in
    let place = c.loop-place.place in
    let rule = rule_of c.args.rule.now in
    let row = c.as_slice.result.now in
    let at : drop place rows ≡ row ∷ drop (place + 1) rows =
    drop_item rows place c.index-rows-place.result c.loop-place-test.true c.index-rows-place.is
    ∙ ap (λ r. r ∷ drop (place + 1) rows) (sym c.as_slice.ensures) in
    ap (λ n. Some (fault c.in-Some.kind rule.name n)) c.number_of.ensures
    ∙ sym (row_first c.args.net.now c.args.version rule place row (drop place rows) (drop (place + 1) rows)
    c.in-Some.kind at (sym c.in-Some.ensures))
    ∙ c.loop-place.invariant
