-- What is read in the layout of a net is what the settings say.
use Rattle.std.proofs.Common.{◌≡◌, ℕ, ◌+◌, ◌*◌, ◌<◌, List, length, map, refl, sym, subst, ◌∙◌, slice_index}
use Rattle.std.proofs.lemmas.List.{length-map}
use Rattle.plan_core.specs.declared.types.Point.{Point}
use Rattle.plan_core.specs.declared.types.Piece.{Piece}
use Rattle.plan_params.specs.declared.rows.ParamRows.{ParamRows}
use Rattle.plan_params.specs.declared.rows.group.Group.{Group}
use Rattle.plan_params.specs.LookUps.{way_in}
use Rattle.duty_network.specs.declared.layout.Layout.{Layout}
use Rattle.point_grid.specs.declared.grid.Grid.{Grid}
use Rattle.point_grid.specs.declared.numbering.Numbering.{Numbering}
use Rattle.point_grid.specs.Grid.{IsGrid, told}
use Rattle.point_grid.specs.Numbering.{AreNumbered}
use Rattle.point_grid.proofs.Flat.{cell_told, cell_within, grid_cell, mapped_at, there}
use Rattle.duty_network.specs.Duties.{DutyFacts, to_home_at, with_group, with_piece}
use Rattle.duty_network.specs.Layout.{AreLaidOut}

-- a layout is made of its parts
laid_of : (pieces : List Piece) (params : ParamRows) (begins ends : Numbering) (between outward inward : Grid) →
    AreNumbered (map (λ (piece : Piece). piece.from) pieces) begins → AreNumbered (map (λ (piece : Piece). piece.to) pieces) ends →
    IsGrid (way_in params) ends.points begins.points between →
    IsGrid (way_in params) (map (λ (group : Group). group.home) params.groups) begins.points outward →
    IsGrid (way_in params) ends.points (map (λ (group : Group). group.home) params.groups) inward →
    AreLaidOut pieces params
    (record { begins = begins.numbers; ends = ends.numbers; between = between; outward = outward; inward = inward })
laid_of pieces params begins ends between outward inward first last are_between are_outward are_inward =
    let from : Piece → Point = λ piece. piece.from in
    let to : Piece → Point = λ piece. piece.to in
    let home : Group → Point = λ group. group.home in
    record {
      begins = first.count ∙ length-map pieces from;
      ends = last.count ∙ length-map pieces to;
      between = λ t u piece next at at'. grid_cell (way_in params) ends.points begins.points between (slice_index ends.numbers t)
          (slice_index begins.numbers u) piece.to next.from are_between (last.points t piece.to (mapped_at to pieces t piece at))
          (first.points u next.from (mapped_at from pieces u next at'));
      outward = λ class u group next at at'. grid_cell (way_in params) (map home params.groups) begins.points outward class
          (slice_index begins.numbers u) group.home next.from are_outward (mapped_at home params.groups class group at)
          (first.points u next.from (mapped_at from pieces u next at'));
      inward = λ class t group piece at at'. grid_cell (way_in params) ends.points (map home params.groups) inward
          (slice_index ends.numbers t) class piece.to group.home are_inward (last.points t piece.to (mapped_at to pieces t piece at'))
          (mapped_at home params.groups class group at);
    }

-- the same, where its parts are over lists of points that are read first
pub laid_out : (pieces : List Piece) (params : ParamRows) (begins ends : Numbering) (between outward inward : Grid)
    (firsts lasts homes from to : List Point) →
    firsts ≡ map (λ (piece : Piece). piece.from) pieces → lasts ≡ map (λ (piece : Piece). piece.to) pieces →
    homes ≡ map (λ (group : Group). group.home) params.groups →
    from ≡ begins.points → to ≡ ends.points →
    AreNumbered firsts begins → AreNumbered lasts ends → IsGrid (way_in params) to from between →
    IsGrid (way_in params) homes from outward → IsGrid (way_in params) to homes inward →
    AreLaidOut pieces params
    (record { begins = begins.numbers; ends = ends.numbers; between = between; outward = outward; inward = inward })
laid_out pieces params begins ends between outward inward firsts lasts homes from to e1 e2 e3 e4 e5 first last
    are_between are_outward are_inward =
    laid_of pieces params begins ends between outward inward
    (let P : List Point → Type 0 = λ ps. AreNumbered ps begins in subst P e1 first)
    (let P : List Point → Type 0 = λ ps. AreNumbered ps ends in subst P e2 last)
    (let P : List Point → Type 0 = λ ps. IsGrid (way_in params) ends.points ps between in let Q : List Point → Type 0 =
    λ ps. IsGrid (way_in params) ps from between in subst P e4 (subst Q e5 are_between))
    (let P : List Point → Type 0 = λ ps. IsGrid (way_in params) (map (λ (group : Group). group.home) params.groups) ps outward in
    let Q : List Point → Type 0 = λ ps. IsGrid (way_in params) ps from outward in subst P e4 (subst Q e3 are_outward))
    (let P : List Point → Type 0 = λ ps. IsGrid (way_in params) ends.points ps inward in let Q : List Point → Type 0 =
    λ ps. IsGrid (way_in params) ps homes inward in subst P e3 (subst Q e5 are_inward))

abbrev pub place : Grid → ℕ → ℕ → ℕ
place grid row column = row * grid.columns + column

-- from a piece to another
pub between_within : (pieces : List Piece) (params : ParamRows) (layout : Layout) (t u : ℕ) → AreLaidOut pieces params layout →
    t < length pieces → u < length pieces →
    place layout.between (slice_index layout.ends t) (slice_index layout.begins u) < length layout.between.cells
between_within pieces params layout t u laid below below' =
    let piece = there pieces t below in
    let next = there pieces u below' in
    cell_within layout.between _ _ _ (laid.between t u piece.0 next.0 piece.1 next.1)

pub between_is : (d : DutyFacts) (layout : Layout) (t u : ℕ) → AreLaidOut d.pieces d.params layout →
    t < length d.pieces → u < length d.pieces →
    told (slice_index layout.between.cells (place layout.between (slice_index layout.ends t) (slice_index layout.begins u)))
    ≡ with_piece d t (λ piece. with_piece d u (λ next. way_in d.params piece.to next.from))
between_is d layout t u laid below below' =
    let piece = there d.pieces t below in
    let next = there d.pieces u below' in
    let e : with_piece d t (λ piece. with_piece d u (λ next. way_in d.params piece.to next.from))
    ≡ way_in d.params (piece.0).to (next.0).from = rw (piece.1, next.1) refl in
    cell_told layout.between _ _ _ (laid.between t u piece.0 next.0 piece.1 next.1) ∙ sym e

-- from a home to a piece
pub outward_within : (pieces : List Piece) (params : ParamRows) (layout : Layout) (class u : ℕ) → AreLaidOut pieces params layout →
    class < length params.groups → u < length pieces →
    place layout.outward class (slice_index layout.begins u) < length layout.outward.cells
outward_within pieces params layout class u laid below below' =
    let group = there params.groups class below in
    let next = there pieces u below' in
    cell_within layout.outward _ _ _ (laid.outward class u group.0 next.0 group.1 next.1)

pub outward_is : (d : DutyFacts) (layout : Layout) (class u : ℕ) → AreLaidOut d.pieces d.params layout →
    class < length d.params.groups → u < length d.pieces →
    told (slice_index layout.outward.cells (place layout.outward class (slice_index layout.begins u)))
    ≡ with_group d class (λ group. with_piece d u (λ next. way_in d.params group.home next.from))
outward_is d layout class u laid below below' =
    let group = there d.params.groups class below in
    let next = there d.pieces u below' in
    let e : with_group d class (λ group. with_piece d u (λ next. way_in d.params group.home next.from))
    ≡ way_in d.params (group.0).home (next.0).from = rw (group.1, next.1) refl in
    cell_told layout.outward _ _ _ (laid.outward class u group.0 next.0 group.1 next.1) ∙ sym e

-- from a piece to a home
pub inward_within : (pieces : List Piece) (params : ParamRows) (layout : Layout) (class t : ℕ) → AreLaidOut pieces params layout →
    class < length params.groups → t < length pieces →
    place layout.inward (slice_index layout.ends t) class < length layout.inward.cells
inward_within pieces params layout class t laid below below' =
    let group = there params.groups class below in
    let piece = there pieces t below' in
    cell_within layout.inward _ _ _ (laid.inward class t group.0 piece.0 group.1 piece.1)

pub inward_is : (d : DutyFacts) (layout : Layout) (class t : ℕ) → AreLaidOut d.pieces d.params layout →
    class < length d.params.groups → t < length d.pieces →
    told (slice_index layout.inward.cells (place layout.inward (slice_index layout.ends t) class)) ≡ to_home_at d class t
inward_is d layout class t laid below below' =
    let group = there d.params.groups class below in
    let piece = there d.pieces t below' in
    let e : to_home_at d class t ≡ way_in d.params (piece.0).to (group.0).home = rw (group.1, piece.1) refl in
    cell_told layout.inward _ _ _ (laid.inward class t group.0 piece.0 group.1 piece.1) ∙ sym e
