use Rattle.std.proofs.Common.{◌+◌, ap, drop, sym, ◌∙◌, rules}
use Rattle.table_differences.specs.Differences.{difference_on, found_or}
use Rattle.table_differences.proofs.Walks.{one-more}
use Rattle.table_differences.proofs.tables.first_difference.Goals as goal

pub returns-in-Some-clause-difference : goal.returns-in-Some-clause-difference
returns-in-Some-clause-difference c =
    let table = c.args.aside.now.table.now in
    let column = c.args.aside.now.column.now in
    let given = c.args.given.now in
    let made = c.args.made.now in
    let place = c.loop-table.table in
    sym (c.loop-table.invariant
    ∙ (one-more table column given made place c.index-made-table.result c.difference_among.result (search rules) c.index-made-table.is
    c.difference_among.ensures.difference
    ∙ ap (λ o. found_or place o (difference_on table column given (place + 1) (drop (place + 1) made))) c.in-Some.is))

pub loop-table-preserved : goal.loop-table-preserved
loop-table-preserved c =
    let table = c.args.aside.now.table.now in
    let column = c.args.aside.now.column.now in
    let given = c.args.given.now in
    let made = c.args.made.now in
    let place = c.loop-table.table in
    c.loop-table.invariant
    ∙ (one-more table column given made place c.index-made-table.result c.difference_among.result (search rules) c.index-made-table.is
    c.difference_among.ensures.difference
    ∙ ap (λ o. found_or place o (difference_on table column given (place + 1) (drop (place + 1) made))) c.in_default.is)
