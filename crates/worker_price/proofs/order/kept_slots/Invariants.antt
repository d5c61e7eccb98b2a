use Rattle.std.proofs.Common.{◌≡◌, ◌*◌, ◌⊎◌, All, Contains, vec_len, length}
use Rattle.cover_core.specs.Best.{best_of}
use Rattle.worker_price.specs.declared.found.Found.{Found}
use Rattle.worker_price.specs.Work.{IsSoundFound}
use Rattle.worker_price.specs.Order.{IsKeptAsBest, IsPlaced}
use Rattle.worker_price.proofs.order.kept_slots.Given as goal

abbrev pub invariant-loop-one : goal.invariant-loop-one
invariant-loop-one g l = record {
  len : length l.slots ≡ l.classes * l.groups;
  sound : All (IsSoundFound l.prices.items l.classes l.groups) l.found.items;
  kept : All (IsKeptAsBest (best_of (g.P.Columns.problem l._pricer) l.prices.items) l.prices.items l.groups l.least) l.found.items;
  placed : (f : Found) → Contains l.fn.found.items f →
      Contains l.found.items f ⊎ IsPlaced (best_of (g.P.Columns.problem l._pricer) l.prices.items) l.prices.items
      l.groups l.least l.slots f;
}

abbrev pub decreases-loop-one : goal.decreases-loop-one
decreases-loop-one g l = vec_len l.found
