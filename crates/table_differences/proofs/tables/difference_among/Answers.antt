use Rattle.std.proofs.Common.{◌≡◌, ap, sym, ◌∙◌}
use Rattle.std.specs.Option.{option_copied}
use Rattle.std.specs.Prelude.{Some}
use Rattle.number_tables.specs.Single.{single_in}
use Rattle.table_differences.specs.Differences.{aside_in, difference_from, table_difference}
use Rattle.table_differences.proofs.tables.difference_among.Goals as goal

-- the table that is found is the only one of the name
pub returns-in-Some-clause-difference : goal.returns-in-Some-clause-difference
returns-in-Some-clause-difference c =
    let made = c.args.made.now in
    let given = c.args.given.now in
    let aside = aside_in c.args.aside.now.table.now c.args.aside.now.column.now made in
    let found : single_in made.name given ≡ Some c.in-Some.table.now =
    sym (ap (λ name. single_in name given) c.as_slice.ensures) ∙ (sym c.single_table.ensures.once ∙ ap option_copied c.in-Some.is) in
    c.table_difference.ensures.difference
    ∙ (ap (λ a. table_difference a c.in-Some.table.now made) c.aside_in.ensures
    ∙ ap (λ o. difference_from aside made o) (sym found))
