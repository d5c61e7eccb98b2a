use Rattle.std.proofs.Common.{◌≡◌, ◌≤◌, ◌<◌, ◌/◌, ◌∷◌, ℕ, List}
use Rattle.cover_rest.specs.Rest.{body_at}
use Rattle.rest_labels.proofs.begins.first_items.Given as goal

-- what the items of the group before this one stand for begins in the range
abbrev pub invariant-loop-item : goal.invariant-loop-item
invariant-loop-item l = record {
  few : l.range.first ≤ l.items;
  within : (x y : ℕ) (ys : List ℕ) → x < l.item → x / 16 ≡ l.group → body_at l.bodies x ≡ y ∷ ys → (l.range.first ≤ y) × (y < l.range.end);
}
