use Rattle.plan_cert.proofs.GivesPrices.{gives-prices}
use Rattle.plan_cert.proofs.prices.read_prices.Goals as goal

pub returns : goal.returns
returns c =
    gives-prices c.args.kind c.args.shape.now c.args.tables.now c.in_ok-table.table.now c.in_ok-columns.columns c.as_slice.result.now
    c.table_for.result c.prices_in.result
    c.table_for.ensures c.in_ok-table.ensures c.in_ok-columns.ensures c.as_slice.ensures c.prices_in.ensures
