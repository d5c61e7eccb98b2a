use Rattle.std.proofs.Common.{◌≡◌, ◌==◌, ◌<◌, ◌≤◌, ℕ, take, length}
use Rattle.std.specs.Prelude.{slice_index}
use Rattle.std.specs.List.{count_by, sum_by}
use Rattle.cover_master.specs.Method.{keys_of, chosen_times}
use Rattle.cover_master.proofs.turns.cover.Given as goal

abbrev pub invariant-loop-key : goal.invariant-loop-key
invariant-loop-key l = record {
  order : l.key-index ≤ length l.keys;
  len : length l.cover ≡ length l.prices.items;
  classes : length l.counts ≡ length l.caps;
  counted : (class : ℕ) → class < length l.counts → slice_index l.counts class ≡ count_by (λ x. x.class == class) (take l.key-index l.keys);
  covered : (item : ℕ) → slice_index l.cover item ≡ sum_by (chosen_times l.pool (keys_of l.prices.items l.pool) l.caps item)
      (take l.key-index l.keys);
  few : (item : ℕ) → slice_index l.cover item ≤ l.key-index;
}
