-- Inner: prices that were not read, and a price that is set.
use Rattle.std.specs.Prelude.{ℕ, ℤ, Bool, List, map, Option, Some, None, slice_set, if◌then◌else◌}
use Rattle.std.specs.List.{range_with_len}

-- so many prices that were not read
abbrev pub unset : ℕ → List (Option ℤ)
unset count = map (λ (n : ℕ). None) (range_with_len 0 count)

-- the prices after one was set, if it was
abbrev pub filled : Bool → List (Option ℤ) → ℕ → ℤ → List (Option ℤ)
filled was_free slots number price = if was_free then slice_set slots number (Some price) else slots
