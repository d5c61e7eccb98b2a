-- Inner: the ways of drivers between the points of a day, laid out flat.
use Rattle.std.specs.Prelude.{◌≡◌, ℕ, List, Some, length, slice_get, slice_index}
use Rattle.plan_core.specs.declared.types.Piece.{Piece}
use Rattle.plan_params.specs.declared.rows.ParamRows.{ParamRows}
use Rattle.plan_params.specs.declared.rows.group.Group.{Group}
use Rattle.plan_params.specs.LookUps.{way_in}
use Rattle.point_grid.specs.Grid.{IsCell}
use Rattle.duty_network.specs.declared.layout.Layout.{Layout}

-- all that is asked of groups and pieces by their numbers stands in the layout
pub record AreLaidOut (pieces : List Piece) (params : ParamRows) (layout : Layout) : Type 0 where
  pub begins : length layout.begins ≡ length pieces
  pub ends : length layout.ends ≡ length pieces
  pub between : (p q : ℕ) (piece next : Piece) → slice_get pieces p ≡ Some piece → slice_get pieces q ≡ Some next →
      IsCell layout.between (slice_index layout.ends p) (slice_index layout.begins q) (way_in params piece.to next.from)
  pub outward : (class q : ℕ) (group : Group) (next : Piece) → slice_get params.groups class ≡ Some group → slice_get pieces q ≡ Some next →
      IsCell layout.outward class (slice_index layout.begins q) (way_in params group.home next.from)
  pub inward : (class p : ℕ) (group : Group) (piece : Piece) → slice_get params.groups class ≡ Some group →
      slice_get pieces p ≡ Some piece →
      IsCell layout.inward (slice_index layout.ends p) class (way_in params piece.to group.home)
