use Rattle.std.proofs.Common.{◌≡◌, ◌<◌, ◌≤◌, drop, length}
use Rattle.day_model.specs.Pieces.{longest_driving}
use Rattle.depot_network.specs.Walk.{IsCheapUntil, stepped}
use Rattle.depot_network.proofs.cost.cost_with_trips.Given as goal

-- the trips that are passed are walked
abbrev pub invariant-loop-next : goal.invariant-loop-next
invariant-loop-next l = record {
  there : l.last < length l.day.trips;
  driving : l.so_far ≤ longest_driving;
  cheap : IsCheapUntil l.day l.last l.cost;
  walked : stepped l.day l.pool l.begin l.driving l.first l.rest ≡ stepped l.day l.pool l.cost l.so_far l.last (drop l.next-index l.rest);
}
