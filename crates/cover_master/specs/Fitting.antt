-- Inner: which columns of a pool a price step looks at.
use Rattle.std.specs.Prelude.{ℕ, pos, int_lt, ◌≤◌, Bool, Option, Some, None}
use Rattle.plan_core.specs.Limits.{most_worth}
use Rattle.cover_core.specs.declared.column_keys.ColumnKey.{ColumnKey}

-- whether a value is below 0
abbrev pub is_gain : ColumnKey → Bool
is_gain key = int_lt key.value (pos 0)

-- a worth is at most 4,000,000,000
abbrev pub IsModerate : Option ℕ → Type 0
IsModerate None = Unit {0}
IsModerate (Some worth) = worth ≤ most_worth
