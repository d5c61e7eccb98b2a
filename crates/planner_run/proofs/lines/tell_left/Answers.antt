use Rattle.planner_run.proofs.lines.tell_left.Goals as goal

pub returns-in-Trip : goal.returns-in-Trip
returns-in-Trip g c = rw c.in-Trip.is c.tell_left_trip.ensures

pub returns-in-Piece : goal.returns-in-Piece
returns-in-Piece g c = rw c.in-Piece.is c.tell_left_piece.ensures
