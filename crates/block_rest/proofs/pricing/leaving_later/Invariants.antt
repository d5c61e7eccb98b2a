use Rattle.std.proofs.Common.{◌≡◌, ℕ, ◌<◌, length}
use Rattle.cover_rest.specs.Rest.{body_at}
use Rattle.rest_labels.specs.Labels.{is_set}
use Rattle.block_rest.specs.Rest.{may_begin}
use Rattle.block_rest.proofs.pricing.leaving_later.Given as goal

-- the items before this one are marked
abbrev pub invariant-loop-item : goal.invariant-loop-item
invariant-loop-item l = record {
  each : length l.free.items ≡ l.item;
  marks : (x : ℕ) → x < length l.free.items → is_set l.free.items x ≡ may_begin l.day l.moment l.class (body_at l.bodies x);
}
