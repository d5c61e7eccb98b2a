-- Promise: the marks of open lists of pieces, in all classes, and their order.
use Rattle.std.specs.Prelude.{ℕ, List, length}
use Rattle.std.specs.declared.cmp.Ordering.{Ordering}
use Rattle.std.specs.Ordering.{nat_cmp, int_cmp, bool_cmp, ordering_then}
use Rattle.plan_core.specs.declared.types.Price.{Price}
use Rattle.cover_core.specs.declared.marks.Mark.{Mark}
use Rattle.mark_cover.specs.Marking.{Marking}
use Rattle.duty_network.specs.Duties.{DutyFacts, with_group}
use Rattle.duty_network.specs.Marks.{first_mark, extended_mark, closed_value, is_as_good}

-- The marks of the duties of a day. A mark knows its class, and what follows from it is read in the limits of that class's group.
abbrev pub duty_marking : DutyFacts → List Price → Marking Mark
duty_marking d prices = record {
  items = length d.pieces;
  classes = length d.params.groups;
  start = λ class k. with_group d class (λ g. first_mark d prices class g k);
  extend = λ m k. with_group d m.class (λ g. extended_mark d g prices m k);
  close = λ m. with_group d m.class (λ g. closed_value d g m);
  good = is_as_good;
  class_of = λ m. m.class;
  last = λ m. m.piece;
}

-- marks are ordered by their fields
abbrev pub mark_order : Mark → Mark → Ordering
mark_order a b =
    ordering_then (nat_cmp a.class b.class) (ordering_then (nat_cmp a.piece b.piece) (ordering_then (int_cmp a.start.0 b.start.0)
    (ordering_then (nat_cmp a.driving b.driving) (ordering_then (bool_cmp a.quarter b.quarter) (ordering_then (nat_cmp a.total b.total)
    (ordering_then (bool_cmp a.three b.three) (int_cmp a.value b.value)))))))
