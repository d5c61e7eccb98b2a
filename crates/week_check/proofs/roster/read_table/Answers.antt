use Rattle.std.proofs.Common.{◌≡◌, [], ◌∙◌, IfOk, None, map, subst, sym}
use Rattle.std.specs.Prelude.{IfErr, OnOk}
use Rattle.week_check.specs.Roster.{missing_column, row_turn}
use Rattle.week_check.specs.RosterAnswers.{IsFirstOf}
use Rattle.week_check.proofs.Columns.{table_faults, table_rows}
use Rattle.week_check.proofs.roster.read_table.Goals as goal

pub returns-clause-value : goal.returns-clause-value
returns-clause-value c =
    let none : missing_column c.as_slice-heads.result.now ≡ None = sym c.missing_column.ensures ∙ c.in_default.is in
    let rows = table_rows c.args.table.now c.as_slice-heads.result.now c.places_in-places.result c.as_slice.result.now
    c.as_slice-heads.ensures c.as_slice.ensures c.places_in-places.ensures none in
    subst (λ fs. IfOk c.read_rows.result (λ turns. turns.items ≡ map row_turn fs)) rows c.read_rows.ensures.value

pub returns-clause-right : goal.returns-clause-right
returns-clause-right c =
    let none : missing_column c.as_slice-heads.result.now ≡ None = sym c.missing_column.ensures ∙ c.in_default.is in
    let faults = table_faults c.args.table.now c.as_slice-heads.result.now c.places_in-places.result c.as_slice.result.now
    c.as_slice-heads.ensures c.as_slice.ensures c.places_in-places.ensures none in
    subst (λ fs. OnOk c.read_rows.result (fs ≡ [])) (sym faults) c.read_rows.ensures.right

pub returns-clause-wrong : goal.returns-clause-wrong
returns-clause-wrong c =
    let none : missing_column c.as_slice-heads.result.now ≡ None = sym c.missing_column.ensures ∙ c.in_default.is in
    let faults = table_faults c.args.table.now c.as_slice-heads.result.now c.places_in-places.result c.as_slice.result.now
    c.as_slice-heads.ensures c.as_slice.ensures c.places_in-places.ensures none in
    subst (λ fs. IfErr c.read_rows.result (IsFirstOf fs)) (sym faults) c.read_rows.ensures.wrong
