-- Promise: the names of the kinds of faults of tables.
use Rattle.std.specs.Prelude.{ℕ, List, codes}
use Rattle.vdv452_rows.specs.declared.fault.TableKind.{TableKind}
use Rattle.vdv452_rows.specs.declared.fault.TableKind.TheVariants as kinds

abbrev pub name_of : TableKind → List ℕ
name_of kinds.TableTwice = codes "TableTwice"
name_of kinds.NoTable = codes "NoTable"
name_of kinds.NoColumn = codes "NoColumn"
name_of kinds.NoValue = codes "NoValue"
name_of kinds.Range = codes "Range"
name_of kinds.KeyTwice = codes "KeyTwice"
name_of kinds.Memory = codes "Memory"
