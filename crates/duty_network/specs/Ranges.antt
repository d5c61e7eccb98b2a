-- Promise: the ranges of the numbers of pieces and marks.
use Rattle.std.specs.Prelude.{ℕ, ℤ, pos, neg_ℤ, ◌≤◌, ◌<◌, ◌≤ℤ◌, ◌+◌, ◌*◌, ◌-ℤ◌, ◌*ℤ◌, Bool, cond, All, List, [], ◌∷◌, length}
use Rattle.plan_core.specs.Limits.{most_items}
use Rattle.plan_core.specs.declared.types.Piece.{Piece}
use Rattle.cover_core.specs.declared.marks.Mark.{Mark}
use Rattle.plan_params.specs.declared.rows.group.Group.{Group}
use Rattle.plan_params.specs.Limits.{HaveRanges}
use Rattle.duty_network.specs.Duties.{DutyFacts}

-- a piece begins at 0 or later, ends not before that and within four days, and drives no longer than it lasts
pub record IsShift (p : Piece) : Type 0 where
  pub begins : pos 0 ≤ℤ p.begin.0
  pub order : p.begin.0 ≤ℤ p.end.0
  pub ends : p.end.0 ≤ℤ pos 345600
  pub driving : pos p.driving ≤ℤ (p.end.0 -ℤ p.begin.0)

-- the pieces and settings of a net are in their ranges
pub record NetFits (d : DutyFacts) : Type 0 where
  pub few : length d.pieces ≤ most_items
  pub shifts : All IsShift d.pieces
  pub params : HaveRanges d.params

-- what the order of sign-on, driving and sign-off hangs on
pub record IsTimed (p : Piece) : Type 0 where
  pub begins : pos 0 ≤ℤ p.begin.0
  pub order : p.begin.0 ≤ℤ p.end.0
  pub driving : p.driving ≤ 4294967295

abbrev pub AreTimed : List Piece → Type 0
AreTimed [] = Unit {0}
AreTimed (p ∷ ps) = IsTimed p × AreTimed ps

-- the numbers of the mark of an open list; of `count` pieces
pub record MarkFits (count : ℕ) (m : Mark) : Type 0 where
  pub piece : m.piece < count
  pub few : count ≤ most_items
  pub early : neg_ℤ (pos 345600) ≤ℤ m.start.0
  pub late : m.start.0 ≤ℤ pos 345600
  pub driving : m.driving ≤ 16200
  pub total : m.total ≤ 36000
  pub low : neg_ℤ (pos (20000000000000 * (m.piece + 1))) ≤ℤ m.value
  pub high : m.value ≤ℤ pos (20000000000000 * (m.piece + 1))

-- what sign-on and sign-off add to the value
abbrev pub on_value : Bool → Group → ℤ → ℤ
on_value counts g on = cond counts (pos 1000) (pos 1000 *ℤ (pos g.fixed -ℤ (pos g.rate *ℤ on)))

abbrev pub off_value : Bool → Group → ℤ → ℤ
off_value counts g off = cond counts (pos 0) (pos 1000 *ℤ (pos g.rate *ℤ off))
