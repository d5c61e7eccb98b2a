-- What the steps of reading prices give together.
use Rattle.std.proofs.Common.{◌≡◌, List, ap, ◌∙◌, sym, subst}
use Rattle.std.specs.Prelude.{Result, Ok}
use Rattle.vdv451_text.specs.declared.table.Field.{Field}
use Rattle.vdv451_text.specs.declared.table.Table.{Table}
use Rattle.plan_cert.specs.declared.columns.PriceColumns.{PriceColumns}
use Rattle.plan_cert.specs.declared.fault.CertFault.{CertFault}
use Rattle.plan_cert.specs.declared.fault.CertTable.{CertTable}
use Rattle.plan_cert.specs.declared.fault.Place.{Place}
use Rattle.plan_cert.specs.declared.prices.FourLists.{FourLists}
use Rattle.plan_cert.specs.declared.prices.Priced.{Priced}
use Rattle.plan_cert.specs.declared.shape.Shape.{Shape}
use Rattle.plan_cert.specs.Columns.{price_columns}
use Rattle.plan_cert.specs.Places.{◌>>=◌, Gives, needed, table_of}
use Rattle.plan_cert.specs.Prices.{number_column, table_for}
use Rattle.plan_cert.specs.PriceTables.{prices_in, prices_of}

pub gives-prices : (kind : Priced) (s : Shape) (tables : List Table) (table : Table) (columns : PriceColumns) (rows : List (List Field))
    (t : CertTable) (r : Result FourLists CertFault) → t ≡ table_for kind →
    table_of t tables ≡ Ok table → needed (table_for kind) (price_columns table.columns (number_column kind)) ≡ Ok columns →
    rows ≡ table.rows → Gives r (prices_in kind s columns rows) → Gives r (prices_of kind s tables)
gives-prices kind s tables table columns rows t r same found there all gives =
    let f : Result Table Place → Result FourLists Place =
    λ x. x >>= λ table. needed (table_for kind) (price_columns table.columns (number_column kind)) >>= λ columns.
    prices_in kind s columns table.rows in
    let g : Result PriceColumns Place → Result FourLists Place = λ x. x >>= λ columns. prices_in kind s columns table.rows in
    let whole : prices_of kind s tables ≡ prices_in kind s columns rows =
    ap f (ap (λ (u : CertTable). table_of u tables) (sym same) ∙ found) ∙ (ap g there ∙ ap (prices_in kind s columns) (sym all)) in
    subst (Gives r) (sym whole) gives
