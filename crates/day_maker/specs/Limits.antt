-- Inner: numbers that a field can hold.
use Rattle.std.specs.Prelude.{◌<◌, ◌^◌, List, [], ◌∷◌}
use Rattle.day_maker.specs.declared.cells.Cell.{Cell}
use Rattle.day_maker.specs.declared.cells.Cell.TheVariants.{Number, Variant, Nothing}

abbrev pub IsSmall : Cell → Type 0
IsSmall (Number n) = n < 2 ^ 63
IsSmall (Variant out) = Unit {0}
IsSmall Nothing = Unit {0}

abbrev pub AreSmall : List Cell → Type 0
AreSmall [] = Unit {0}
AreSmall (cell ∷ cells) = IsSmall cell × AreSmall cells
