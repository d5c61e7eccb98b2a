-- Promise: heads and rests of a day with four pieces, all from the depot to the depot but for the last point of the third, computed.
use Rattle.std.specs.Prelude.{◌≡◌, ℕ, pos, true, false, List, [], ◌∷◌, Some, None, refl}
use Rattle.plan_core.specs.declared.types.Piece.{Piece}
use Rattle.plan_core.specs.declared.types.Point.{Point}
use Rattle.cover_core.specs.declared.Column.{Column}
use Rattle.cover_core.specs.Cover.{Problem}
use Rattle.plan_params.specs.declared.rows.group.Group.{Group}
use Rattle.duty_network.specs.Duties.{DutyFacts, duties}
use Rattle.umlauf_write.specs.declared.text.DutyRow.{DutyRow}
use Rattle.umlauf_write.specs.declared.text.PlanText.{PlanText}
use Rattle.cover_rest.specs.Rest.{bodies, written}
use Rattle.duty_rest.specs.declared.head.DutyHead.{DutyHead}
use Rattle.duty_rest.specs.Heads.{duty_heads_of, part_of}
use Rattle.duty_rest.specs.Rest.{begun_of, rest_duties}

abbrev point : ℕ → ℕ → Point
point typ nr = record { typ = typ; nr = nr }

abbrev piece : ℕ → ℕ → ℕ → Point → ℕ → Piece
piece block index begin to end = record {
  block = block;
  index = index;
  from = point 2 9;
  begin = record { 0 = pos begin };
  to = to;
  end =
      record { 0 = pos end };
  driving = 100;
}

abbrev group : ℕ → Group
group number = record {
  number = number;
  home = point 2 9;
  cap = 2;
  fixed = 500;
  rate = 1;
  sign_on = 60;
  sign_off =
      100;
  ten = false;
  reduced = false;
}

-- the third piece ends at this point; there are two groups with a home at the depot, and no ways
abbrev day_to : Point → DutyFacts
day_to to = record {
  pieces = piece 2 1 1000 (point 2 9) 2000 ∷ piece 3 1 1200 (point 2 9) 1300 ∷ piece 1 1 1500 to 3000
      ∷ piece 2 2 2500 (point 2 9) 4000 ∷ [];
  params = record {
    settings = record { area = 1; group = 1; turn = 300; max_wait = 7200; handover = 300 };
    pools = [];
    groups = group 7 ∷ group 8 ∷ [];
    admissions = [];
    reliefs = [];
    ways = [];
  };
  counts = false;
}

abbrev day : DutyFacts
day = day_to (point 2 9)

abbrev block : List ℕ → Column
block trips = record { class = 0; worth = 0; items = trips }

-- the new blocks: the third begins with a trip that no earlier block begins with
abbrev blocks : List Column
blocks = block (1 ∷ []) ∷ block (0 ∷ 2 ∷ []) ∷ block (3 ∷ []) ∷ []

-- the earlier plan: its first block is now the second, and its second one the first
abbrev earlier_with : List DutyRow → PlanText
earlier_with rows = record { blocks = record { columns = block (0 ∷ 3 ∷ 2 ∷ []) ∷ block (1 ∷ []) ∷ [] }; duties = rows; bounds = [] }

abbrev earlier : PlanText
earlier = earlier_with (record { group = 8; parts = (2, 1) ∷ [] } ∷ record { group = 7; parts = (1, 1) ∷ (1, 2) ∷ [] } ∷ [])

-- a piece of the second new block is one of the first earlier block; the third new block has another first trip
here : part_of blocks earlier.blocks.columns (piece 2 2 2500 (point 2 9) 4000) ≡ Some (1, 2)
here = refl

nowhere : part_of blocks earlier.blocks.columns (piece 3 1 1200 (point 2 9) 1300) ≡ None
nowhere = refl

abbrev head : ℕ → List ℕ → DutyHead
head class pieces = record { class = class; pieces = pieces; finished = false }

abbrev over : ℕ → List ℕ → DutyHead
over class pieces = record { class = class; pieces = pieces; finished = true }

-- a piece that begins at the moment has not begun
at_begin : duty_heads_of day blocks earlier 1000 ≡ []
at_begin = refl

first_begun : duty_heads_of day blocks earlier 1001 ≡ head 0 (0 ∷ []) ∷ []
first_begun = refl

-- the second piece belongs to no duty
no_other : duty_heads_of day blocks earlier 1500 ≡ head 0 (0 ∷ []) ∷ []
no_other = refl

-- the heads are ordered by their first pieces
both_begun : duty_heads_of day blocks earlier 1501 ≡ head 0 (0 ∷ []) ∷ head 1 (2 ∷ []) ∷ []
both_begun = refl

-- signed off at 2,100, but a piece of the duty has not begun
piece_missing : duty_heads_of day blocks earlier 2500 ≡ head 0 (0 ∷ []) ∷ head 1 (2 ∷ []) ∷ []
piece_missing = refl

-- at the sign-off the duty is not finished, a second later it is
at_sign_off : duty_heads_of day blocks earlier 3100 ≡ head 0 (0 ∷ 3 ∷ []) ∷ head 1 (2 ∷ []) ∷ []
at_sign_off = refl

signed_off : duty_heads_of day blocks earlier 3101 ≡ head 0 (0 ∷ 3 ∷ []) ∷ over 1 (2 ∷ []) ∷ []
signed_off = refl

all_over : duty_heads_of day blocks earlier 4101 ≡ over 0 (0 ∷ 3 ∷ []) ∷ over 1 (2 ∷ []) ∷ []
all_over = refl

-- without a way home a duty is never finished
no_way_home : duty_heads_of (day_to (point 1 2)) blocks earlier 9000 ≡ over 0 (0 ∷ 3 ∷ []) ∷ head 1 (2 ∷ []) ∷ []
no_way_home = refl

-- a piece of the duty is in no new block
piece_gone : duty_heads_of day blocks (earlier_with (record { group = 7; parts = (1, 1) ∷ (1, 3) ∷ [] } ∷ [])) 9000 ≡ head 0 (0 ∷ []) ∷ []
piece_gone = refl

-- no group has the number
no_group : duty_heads_of day blocks (earlier_with (record { group = 9; parts = (1, 1) ∷ [] } ∷ [])) 9000 ≡ []
no_group = refl

-- the rest of two heads, of which the second is finished: the items are these and the pieces 1 and 3
abbrev begun : List DutyHead
begun = head 0 (0 ∷ []) ∷ over 1 (2 ∷ []) ∷ []

abbrev rest : Problem
rest = rest_duties day begun

four_items : rest.items ≡ 4
four_items = refl

same_caps : rest.caps ≡ 2 ∷ 2 ∷ []
same_caps = refl

head_alone : rest.worth 0 (0 ∷ []) ≡ Some 1660
head_alone = refl

head_goes_on : rest.worth 0 (0 ∷ 3 ∷ []) ≡ Some 3660
head_goes_on = refl

finished_alone : rest.worth 1 (1 ∷ []) ≡ Some 2160
finished_alone = refl

-- a piece in no head may begin a duty, though it begins before the moment
free : rest.worth 1 (2 ∷ []) ≡ Some 760
free = refl

-- a finished head that goes on, a head in another group, a second head, a head that is not first
finished_goes_on : rest.worth 1 (1 ∷ 3 ∷ []) ≡ None
finished_goes_on = refl

other_group : rest.worth 1 (0 ∷ []) ≡ None
other_group = refl

second_head : rest.worth 0 (0 ∷ 1 ∷ []) ≡ None
second_head = refl

head_last : rest.worth 0 (3 ∷ 0 ∷ []) ≡ None
head_last = refl

-- in the day's duties the same pieces would be worth something
whole : (duties day).worth 1 (0 ∷ []) ≡ Some 1660
whole = refl

-- a list is written out with the head's pieces in its place
out : written (bodies (begun_of (head 0 (0 ∷ 3 ∷ []) ∷ [])) 4) (0 ∷ 1 ∷ []) ≡ 0 ∷ 3 ∷ 1 ∷ []
out = refl
