-- Promise: the table X_URTEIL.
use Rattle.std.specs.Prelude.{ℕ, ℤ, pos, List, [], ◌∷◌, map, Option, Some, codes}
use Rattle.vdv451_text.specs.declared.table.Table.{Table}
use Rattle.number_tables.specs.Signed.{signed_table}
use Rattle.week_check.specs.declared.denial.Denial.{Denial}

abbrev pub verdict_columns : List (List ℕ)
verdict_columns = codes "FAHRER_NR" ∷ codes "ARTIKEL" ∷ codes "VON_TAG" ∷ codes "BIS_TAG" ∷ codes "WERT" ∷ []

-- the driver, the article, the first and the last day, and the value of a denial
abbrev pub verdict_numbers : Denial → List (Option ℤ)
verdict_numbers d = Some (pos d.driver) ∷ Some (pos d.article) ∷ Some (pos d.from) ∷ Some (pos d.to) ∷ Some d.value ∷ []

abbrev pub verdict_rows : List Denial → List (List (Option ℤ))
verdict_rows denials = map verdict_numbers denials

-- a row for each denial, in their order
abbrev pub verdict_table : List Denial → Table
verdict_table denials = signed_table (codes "X_URTEIL") verdict_columns (verdict_rows denials)
