use Rattle.std.proofs.Common.{◌≡◌, ◌∷◌, ◌+◌, ap, drop, map, ◌∙◌, sym, List}
use Rattle.std.proofs.lemmas.Result.{err_from_is_err_and}
use Rattle.vdv451_text.specs.declared.table.Field.{Field}
use Rattle.week_check.specs.Roster.{fields_at}
use Rattle.week_check.proofs.Adding.{rest_at}
use Rattle.week_check.proofs.RosterFaults.{row_refused}
use Rattle.week_check.proofs.roster.read_rows.Goals as goal

pub returns-in_err-read_row-clause-wrong : goal.returns-in_err-read_row-clause-wrong
returns-in_err-read_row-clause-wrong c =
    let p = err_from_is_err_and c.from_residual-in_err-read_row.result c.from_residual-in_err-read_row.ensures.1 in
    let rows : List (List Field) = c.args.rows.now in
    let row : List Field = c.as_slice.result.now in
    let later : List (List Field) = drop (c.loop-place.place + 1) c.args.rows.now in
    let at : drop c.loop-place.place c.args.rows.now ≡ c.as_slice.result.now ∷ drop (c.loop-place.place + 1) c.args.rows.now =
    rest_at c.args.rows.now c.loop-place.place c.index-rows-place.result c.loop-place-test.true c.index-rows-place.is
    ∙ ap (λ (r : List Field). r ∷ drop (c.loop-place.place + 1) c.args.rows.now) (sym c.as_slice.ensures) in
    rw (p.1, p.2) (row_refused (map (fields_at c.args.places.now) (drop c.loop-place.place rows)) (fields_at c.args.places.now row)
    (map (fields_at c.args.places.now) later)
    (ap (λ rs. map (fields_at c.args.places.now) rs) at) (c.loop-place.place + 1)
    c.loop-place.keys.keys _ c.loop-place.invariant.faults _ c.in_err-read_row.ensures.wrong)
