-- Promise: what is woven.
use Rattle.std.specs.Prelude.{◌≡◌, ℕ, ℤ, neg_ℤ, ◌<ℤ◌, ◌<◌, ◌≤◌, List, length, slice_index, All}
use Rattle.plan_core.specs.Limits.{most_worth}
use Rattle.plan_core.specs.declared.Price.{Price}
use Rattle.cover_core.specs.declared.Column.{Column}
use Rattle.cover_core.specs.Cover.{Problem, Rises, AllBelow}
use Rattle.cover_core.specs.Plans.{IsColumn, AreColumns, number_at}
use Rattle.cover_core.specs.FirstLeast.{value}
use Rattle.cover_core.specs.Fitting.{AreFit}

-- a column of a problem and of a class, whose value is below minus what its class asks
pub record IsWoven (p : Problem) (prices : List Price) (class : ℕ) (asked : ℤ) (c : Column) : Type 0 where
  pub of_class : c.class ≡ class
  pub column : IsColumn p c
  pub rises : Rises c.items
  pub items : AllBelow p.items c.items
  pub cheap : c.worth ≤ most_worth
  pub loss : value prices c <ℤ neg_ℤ asked

-- a column whose class has a place, and whose value is below minus what its class asks
pub record IsGain (prices : List Price) (free : List ℕ) (asked : List ℤ) (c : Column) : Type 0 where
  pub place : 0 < slice_index free c.class
  pub loss : value prices c <ℤ neg_ℤ (number_at asked c.class)

-- columns of a problem that may be valued, each a gain
pub record AreWoven (p : Problem) (prices : List Price) (free : List ℕ) (asked : List ℤ) (columns : List Column) : Type 0 where
  pub are : AreColumns p columns
  pub fit : AreFit p.items (length p.caps) columns
  pub gains : All (IsGain prices free asked) columns
