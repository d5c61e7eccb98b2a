-- Inner: the nearest later items of an item.
use Rattle.std.specs.Prelude.{ℕ, ℤ, ◌<◌, int_lt, Bool, true, cond, Option, Some, None, IfSome}
use Rattle.column_weave.specs.declared.nearest.Near.{Near}
use Rattle.column_weave.specs.declared.nearest.Nearest.{Nearest}

-- an item is a later one, where there is one
pub record IsLater (from items : ℕ) (near : Near) : Type 0 where
  pub after : from < near.item
  pub there : near.item < items

-- so are all three
pub record AreNearest (from items : ℕ) (nearest : Nearest) : Type 0 where
  pub first : IfSome nearest.first (IsLater from items)
  pub second : IfSome nearest.second (IsLater from items)
  pub third : IfSome nearest.third (IsLater from items)

-- whether a rise is less than that to an item, where there is one
abbrev pub is_nearer : ℤ → Option Near → Bool
is_nearer rise None = true
is_nearer rise (Some near) = int_lt rise near.rise

-- the three nearest, where one more item comes behind all others
abbrev pub with_next : Nearest → Near → Nearest
with_next nearest next =
    cond (is_nearer next.rise nearest.first) (record { first = Some next; second = nearest.first; third = nearest.second })
    (cond (is_nearer next.rise nearest.second) (record { first = nearest.first; second = Some next; third = nearest.second })
    (cond (is_nearer next.rise nearest.third) (record { first = nearest.first; second = nearest.second; third = Some next }) nearest))
