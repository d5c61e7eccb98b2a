-- Promise: printed order.
use Rattle.std.specs.Prelude.{◌≡◌, List}
use Rattle.cover_core.specs.declared.Column.{Column}
use Rattle.umlauf_write.specs.Printed.{printed}

-- printing columns that stand in printed order gives themselves
abbrev pub IsPrintedOnce : Type 0
IsPrintedOnce = (columns : List Column) → printed (printed columns) ≡ printed columns
