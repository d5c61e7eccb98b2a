-- Inner: the pauses between the pieces of a net, worked out once.
use Rattle.std.specs.Prelude.{◌≡◌, ℕ, ◌<◌, cond, nat_eq, List, Option, Some, None, length, slice_get}
use Rattle.duty_network.specs.Duties.{DutyFacts, pause_at}
use Rattle.duty_network.specs.Followers.{entry_at}

-- what a cell tells: the greatest number of 32 bits tells of no pause
abbrev pub told : ℕ → Option ℕ
told cell = cond (nat_eq cell 4294967295) None (Some cell)

-- the pauses before a piece, of each earlier one
pub record IsPauseRow (d : DutyFacts) (q : ℕ) (row : List ℕ) : Type 0 where
  pub count : length row ≡ q
  pub each : (p : ℕ) → p < q → told (entry_at row p) ≡ pause_at d p q

-- and those before each of the pieces
pub record ArePauses (d : DutyFacts) (rows : List (List ℕ)) : Type 0 where
  pub count : length rows ≡ length d.pieces
  pub each : (q : ℕ) (row : List ℕ) → slice_get rows q ≡ Some row → IsPauseRow d q row
