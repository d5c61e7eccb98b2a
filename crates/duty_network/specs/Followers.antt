-- Promise: from which pieces on those that begin at a point can follow a piece.
use Rattle.std.specs.Prelude.{◌≡◌, ◌≢◌, ℕ, zero, suc, ◌+◌, ◌<◌, ◌≤◌, List, [], ◌∷◌, Some, false, length, slice_get}
use Rattle.plan_core.specs.declared.types.Piece.{Piece}
use Rattle.plan_params.specs.declared.rows.ParamRows.{ParamRows}
use Rattle.duty_network.specs.Duties.{DutyFacts, pause_at}
use Rattle.duty_network.specs.declared.followers.Follower.{Follower}
use Rattle.duty_network.specs.declared.followers.Followers.{Followers}
use Rattle.duty_network.specs.declared.numbering.PieceNumbers.{PieceNumbers}

-- the number that a list of numbers has at a place
abbrev pub entry_at : List ℕ → ℕ → ℕ
entry_at [] k = 0
entry_at (x ∷ xs) zero = x
entry_at (x ∷ xs) (suc k) = entry_at xs k

-- each piece has a number below a count
pub record AreNumbered (n : ℕ) (numbers : List ℕ) : Type 0 where
  pub count : length numbers ≡ n
  pub below : (k : ℕ) → k < n → entry_at numbers k < n

-- each piece has one of the numbers, of which there are no more than pieces
pub record IsNumbering (n : ℕ) (numbers : PieceNumbers) : Type 0 where
  pub each : AreNumbered n numbers.numbers.items
  pub below : (k : ℕ) → k < n → entry_at numbers.numbers.items k < numbers.kinds
  pub few : numbers.kinds ≤ n

-- The facts that pauses hang on.
abbrev pub facts : List Piece → ParamRows → DutyFacts
facts pieces params = record { pieces = pieces; params = params; counts = false }

-- For each number a piece behind another one. Of the pieces from a place on none that comes before the one of its number follows after a
-- pause of at least so long, a direct one aside.
pub record AreFirstBehind (d : DutyFacts) (numbers : List ℕ) (item direct long place : ℕ) (firsts : List ℕ) : Type 0 where
  pub own : (m : ℕ) → m < length firsts → entry_at firsts m < length d.pieces → entry_at numbers (entry_at firsts m) ≡ m
  pub behind : (m : ℕ) → m < length firsts → item < entry_at firsts m
  pub first : (next time : ℕ) → place ≤ next → next < length d.pieces → next ≢ direct → pause_at d item next ≡ Some time → long ≤ time →
      entry_at firsts (entry_at numbers next) ≤ next

-- from which pieces on those of each number can follow a piece
pub record IsFollowed (pieces : List Piece) (params : ParamRows) (points : PieceNumbers) (item : ℕ) (f : Follower) : Type 0 where
  pub near_count : length f.near.items ≡ points.kinds
  pub far_count : length f.far.items ≡ points.kinds
  pub direct : item < f.direct
  pub near : AreFirstBehind (facts pieces params) points.numbers.items item f.direct 0 (item + 1) f.near.items
  pub far : AreFirstBehind (facts pieces params) points.numbers.items item f.direct 10800 (item + 1) f.far.items

-- and behind each of these pieces
pub record AreFollowed (pieces : List Piece) (params : ParamRows) (f : Followers) : Type 0 where
  pub points : IsNumbering (length pieces) f.points
  pub count : length f.behind.items ≡ length pieces
  pub each : (item : ℕ) (own : Follower) → slice_get f.behind.items item ≡ Some own → IsFollowed pieces params f.points item own
