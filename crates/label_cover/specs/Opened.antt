-- Promise: marks with numbers that are wide enough, as marks.
use Rattle.std.specs.Prelude.{ℤ, ◌-ℤ◌}
use Rattle.cover_core.specs.declared.marks.Mark.{Mark}
use Rattle.label_cover.specs.declared.open_mark.OpenMark.{OpenMark}

abbrev pub seen_mark : OpenMark → Mark
seen_mark m = record {
  class = m.class;
  piece = m.piece;
  start = m.start;
  driving = m.driving;
  quarter = m.quarter;
  total = m.total;
  three = m.three;
  value = m.value;
}

-- a mark with a price taken off its value
abbrev pub less_price : Mark → ℤ → Mark
less_price m price = record {
  class = m.class;
  piece = m.piece;
  start = m.start;
  driving = m.driving;
  quarter = m.quarter;
  total = m.total;
  three = m.three;
  value = m.value -ℤ price;
}
