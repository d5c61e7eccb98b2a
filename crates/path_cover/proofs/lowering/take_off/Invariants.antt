use Rattle.std.proofs.Common.{◌≡◌, ◌-◌, ◌<◌, ◌≤◌, ℕ, None, length}
use Rattle.std.specs.Prelude.{slice_index_or}
use Rattle.std.specs.Option.{option_map}
use Rattle.path_cover.proofs.lowering.take_off.Given as goal

abbrev pub invariant-loop-i : goal.invariant-loop-i
invariant-loop-i l = (length l.least.items ≡ length l.fn.least.items)
    × ((k : ℕ) → k < l.i → slice_index_or l.least.items k None ≡ option_map (λ d. d - l.by) (slice_index_or l.fn.least.items k None))
    × ((k : ℕ) → l.i ≤ k → slice_index_or l.least.items k None ≡ slice_index_or l.fn.least.items k None)
