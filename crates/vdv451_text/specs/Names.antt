-- Promise: the names of the kinds of faults of a text.
use Rattle.std.specs.Prelude.{ℕ, List, codes}
use Rattle.vdv451_text.specs.declared.fault.TextKind.{TextKind}
use Rattle.vdv451_text.specs.declared.fault.TextKind.TheVariants as kinds

abbrev pub name_of : TextKind → List ℕ
name_of kinds.Keyword = codes "Keyword"
name_of kinds.Order = codes "Order"
name_of kinds.Field = codes "Field"
name_of kinds.Count = codes "Count"
name_of kinds.EndCount = codes "EndCount"
name_of kinds.EofCount = codes "EofCount"
name_of kinds.Unended = codes "Unended"
name_of kinds.TooLarge = codes "TooLarge"
name_of kinds.Memory = codes "Memory"
