-- Promise: what a call needs of columns that it looks at together with prices.
use Rattle.std.specs.Prelude.{ℕ, ◌<◌, ◌≤◌, List, [], ◌∷◌}
use Rattle.plan_core.specs.Limits.{most_worth}
use Rattle.cover_core.specs.declared.Column.{Column}
use Rattle.cover_core.specs.Cover.{Rises, AllBelow}

-- columns whose lists rise, of items below n and classes below k, and worth at most 4,000,000,000
abbrev pub AreFit : ℕ → ℕ → List Column → Type 0
AreFit n k [] = Unit {0}
AreFit n k (c ∷ cs) = (Rises c.items × AllBelow n c.items × (c.worth ≤ most_worth) × (c.class < k)) × AreFit n k cs
