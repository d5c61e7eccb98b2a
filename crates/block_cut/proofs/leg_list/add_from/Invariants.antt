use Rattle.std.proofs.Common.{◌≡◌, ◌<◌, ◌++◌, drop, length, pos, is_some, true}
use Rattle.day_model.specs.Pieces.{shown}
use Rattle.block_cut.specs.Legs.{AreTimed, begin_of, legs_at, legs_or}
use Rattle.block_cut.proofs.leg_list.add_from.Given as goal

-- the legs so far, and those from the last trip on, are all
abbrev pub invariant-loop-next : goal.invariant-loop-next
invariant-loop-next l = record {
  there : l.last < length l.day.trips;
  some : is_some (legs_at l.day l.pool l.last (drop l.next-index l.rest)) ≡ true;
  made : l.legs ++ shown (legs_or (legs_at l.day l.pool l.last (drop l.next-index l.rest)))
      ≡ l.fn.legs ++ shown (legs_or (legs_at l.day l.pool l.first l.rest));
  timed : AreTimed (pos 0) (begin_of l.day l.last) l.legs;
}
