use Rattle.std.proofs.Common.{◌≡◌, ◌≤◌, ◌<◌, ℕ, pos, take, length, get_or}
use Rattle.worker_price.specs.Work.{lowerings}
use Rattle.worker_price.specs.Gathered.{least_lowered}
use Rattle.worker_price.proofs.order.least_found.Given as goal

abbrev pub invariant-loop-one : goal.invariant-loop-one
invariant-loop-one l = record {
  order : l.one-index ≤ length l.found;
  len : length l.least ≡ l.classes;
  least : (class : ℕ) → class < l.classes →
      get_or l.least class (pos 0) ≡ least_lowered (lowerings l.prices.items l.groups (take l.one-index l.found)) class;
}
