-- Promise: the names of the kinds of faults of settings.
use Rattle.std.specs.Prelude.{ℕ, List, codes}
use Rattle.plan_params.specs.declared.fault.ParamKind.{ParamKind}
use Rattle.plan_params.specs.declared.fault.ParamKind.TheVariants as kinds

abbrev pub name_of : ParamKind → List ℕ
name_of kinds.NotOne = codes "NotOne"
name_of kinds.TooMany = codes "TooMany"
name_of kinds.UnknownPoint = codes "UnknownPoint"
name_of kinds.UnknownType = codes "UnknownType"
name_of kinds.Memory = codes "Memory"
