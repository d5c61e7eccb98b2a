use Rattle.std.proofs.Common.{◌<◌, rules}
use Rattle.cover_core.proofs.Fits.{IsFit}
use Rattle.cover_tests.proofs.Fitting.{IsFit-made, fits_if}
use Rattle.cover_tests.proofs.column_pool_tests.add_fit.Goals as goal

pub returns : goal.returns
returns c =
    let column = c.in_ok-column.column in
    let made = c.in_ok-column.ensures in
    let zero_below : 0 < 32 = search rules in
    let fit : IsFit 3 32 column =
    IsFit-made 3 32 column 0 c.args.worth c.args.list.now made.class made.worth made.items zero_below c.requires.cheap
    c.requires.rises c.requires.items in
    fits_if 3 32 c.args.pool.now column c.add.new.self c.add.result c.requires.fit fit c.add.ensures.pool
