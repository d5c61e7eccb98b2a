use Rattle.std.proofs.Common.{◌≡◌, ℕ, ◌+◌, take, length}
use Rattle.std.specs.Prelude.{slice_index}
use Rattle.cover_core.specs.Plans.{times}
use Rattle.cover_core.proofs.tally.add_items.Given as goal

abbrev pub invariant-loop-item : goal.invariant-loop-item
invariant-loop-item l = record {
  len : length l.cover ≡ length l.initial.cover;
  added : (i : ℕ) → slice_index l.cover i ≡ slice_index l.initial.cover i + times i (take l.item-index l.list);
}
