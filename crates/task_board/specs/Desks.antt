-- Promise: what contracts see of a board and of a desk.
use Rattle.std.specs.Prelude.{◌≡◌}
use Rattle.atomic_table.specs.Seated.{TableId}
use Rattle.task_board.specs.declared.sheet.Extent.{Extent}
use Rattle.task_board.specs.declared.sheet.Sheet.{Sheet}
use Rattle.task_board.specs.declared.desk.Board.{Board}
use Rattle.task_board.specs.declared.desk.Desk.{Desk}

-- which board it is
abbrev pub board_of : Board → TableId
board_of b = b.table.shared.table_id

-- how many tasks and classes it has
abbrev pub extent_of : Board → Extent
extent_of b = b.table.shared.key

-- what the desk has done
abbrev pub sheet_of : Desk → Sheet
sheet_of d = d.seat.me.0

-- the desk is one of that board
abbrev pub IsDeskOf : Board → Desk → Type 0
IsDeskOf b d = (d.seat.table_id ≡ b.table.shared.table_id) × (d.seat.me.0.tasks ≡ b.table.shared.key.tasks)

-- the desk is one of that board, and has one part
abbrev pub IsPartOf : Board → Desk → Type 0
IsPartOf b d = IsDeskOf b d × ((sheet_of d).share ≡ 1)
