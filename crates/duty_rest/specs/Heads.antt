-- Promise: what of an earlier plan's duties has begun before a moment.
use Rattle.std.specs.Prelude.{ℕ, pos, int_lt, ◌-◌, nat_eq, Bool, true, false, cond, ◌&&◌, ◌||◌, zero, suc, List, [], ◌∷◌, ◌++◌, length, Option, Some, None, option_and_then, slice_get}
use Rattle.std.specs.Option.{option_map, option_map_or}
use Rattle.plan_core.specs.declared.types.Piece.{Piece}
use Rattle.cover_core.specs.declared.Column.{Column}
use Rattle.plan_params.specs.declared.rows.group.Group.{Group}
use Rattle.duty_network.specs.Duties.{DutyFacts, sign_off, with_group, with_piece}
use Rattle.umlauf_write.specs.declared.text.DutyRow.{DutyRow}
use Rattle.umlauf_write.specs.declared.text.PlanText.{PlanText}
use Rattle.duty_rest.specs.declared.head.DutyHead.{DutyHead}

-- the first trip of a block
abbrev pub first_trip : Column → Option ℕ
first_trip c = slice_get c.items 0

-- whether a block begins with a trip
abbrev pub begins_with : ℕ → Column → Bool
begins_with t c = option_map_or (λ u. nat_eq u t) (first_trip c) false

-- the number of the first block that begins with a trip, where blocks are numbered from one on
abbrev pub block_with : List Column → ℕ → ℕ → Option ℕ
block_with [] number t = None
block_with (c ∷ cs) number t = cond (begins_with t c) (Some number) (block_with cs (suc number) t)

-- the first trip of the block of a number, from 1
abbrev pub first_of : List Column → ℕ → Option ℕ
first_of blocks zero = None
first_of blocks (suc n) = option_and_then first_trip (slice_get blocks n)

-- whether two parts of duties are the same, where a part is the number of a block and an index in it
abbrev pub same_part : ℕ × ℕ → ℕ × ℕ → Bool
same_part a b = nat_eq a.0 b.0 && nat_eq a.1 b.1

-- the part that stands in the earlier plan for a piece of a block that begins with a trip: of the same index in the block with this first
-- trip
abbrev pub part_with : List Column → ℕ → ℕ → Option (ℕ × ℕ)
part_with earlier index t = option_map (λ number. (number, index)) (block_with earlier 1 t)

-- the part that stands in the earlier plan for a piece of the new blocks
abbrev pub part_of : List Column → List Column → Piece → Option (ℕ × ℕ)
part_of blocks earlier p = option_and_then (part_with earlier p.index) (first_of blocks p.block)

-- the same where the piece has begun: it begins before the moment
abbrev pub begun_part : List Column → List Column → ℕ → Piece → Option (ℕ × ℕ)
begun_part blocks earlier moment p = cond (int_lt p.begin.0 (pos moment)) (part_of blocks earlier p) None

-- the same for each piece
abbrev pub begun_parts : List Column → List Column → ℕ → List Piece → List (Option (ℕ × ℕ))
begun_parts blocks earlier moment [] = []
begun_parts blocks earlier moment (p ∷ ps) = begun_part blocks earlier moment p ∷ begun_parts blocks earlier moment ps

-- whether a piece has begun and this part stands for it
abbrev pub is_part : Option (ℕ × ℕ) → ℕ × ℕ → Bool
is_part None x = false
is_part (Some y) x = same_part y x

-- whether a piece has begun and one of these parts stands for it
abbrev pub is_one_of : Option (ℕ × ℕ) → List (ℕ × ℕ) → Bool
is_one_of o [] = false
is_one_of o (x ∷ xs) = is_part o x || is_one_of o xs

-- the begun pieces of a duty with these parts, by number, of the pieces from one on
abbrev pub begun_from : List (Option (ℕ × ℕ)) → List (ℕ × ℕ) → ℕ → List ℕ
begun_from [] parts k = []
begun_from (o ∷ os) parts k = cond (is_one_of o parts) (k ∷ begun_from os parts (suc k)) (begun_from os parts (suc k))

-- whether a part stands for a begun piece
abbrev pub has_begun : List (Option (ℕ × ℕ)) → ℕ × ℕ → Bool
has_begun [] x = false
has_begun (o ∷ os) x = is_part o x || has_begun os x

-- whether each part does
abbrev pub all_begun : List (Option (ℕ × ℕ)) → List (ℕ × ℕ) → Bool
all_begun begun [] = true
all_begun begun (x ∷ xs) = has_begun begun x && all_begun begun xs

-- the class of a group's number, where groups are classes from one on
abbrev pub class_of : List Group → ℕ → ℕ → Option ℕ
class_of [] number class = None
class_of (g ∷ gs) number class = cond (nat_eq g.number number) (Some class) (class_of gs number (suc class))

-- whether the way home after a piece is there, and the sign-off after it is before the moment
abbrev pub is_off_before : DutyFacts → ℕ → ℕ → ℕ → Bool
is_off_before d moment class k =
    option_map_or (λ off. int_lt off (pos moment)) (with_group d class (λ g. with_piece d k (λ p. sign_off d g p))) false

-- the last of some pieces
abbrev pub last_of : List ℕ → Option ℕ
last_of ks = slice_get ks (length ks - 1)

-- whether a duty with these parts is finished, whose last begun piece this is: each part stands for a begun piece, and it is signed off
-- before
abbrev pub is_finished : DutyFacts → List (Option (ℕ × ℕ)) → ℕ → List (ℕ × ℕ) → ℕ → ℕ → Bool
is_finished d begun moment parts class last = all_begun begun parts && is_off_before d moment class last

-- the head of a duty with these parts, whose begun pieces these are, where there are some
abbrev pub head_of : DutyFacts → List (Option (ℕ × ℕ)) → ℕ → List (ℕ × ℕ) → ℕ → List ℕ → Option DutyHead
head_of d begun moment parts class pieces =
    option_map (λ last. record { class = class; pieces = pieces; finished = is_finished d begun moment parts class last }) (last_of pieces)

-- the head of a duty of the earlier plan, if its group is there and it has begun
abbrev pub duty_head : DutyFacts → List (Option (ℕ × ℕ)) → ℕ → DutyRow → Option DutyHead
duty_head d begun moment row =
    option_and_then (λ class. head_of d begun moment row.parts class (begun_from begun row.parts 0)) (class_of d.params.groups row.group 0)

-- a head as a list
abbrev pub listed : Option DutyHead → List DutyHead
listed None = []
listed (Some h) = h ∷ []

-- the heads of duties, in the order of the duties
abbrev pub row_heads : DutyFacts → List (Option (ℕ × ℕ)) → ℕ → List DutyRow → List DutyHead
row_heads d begun moment [] = []
row_heads d begun moment (row ∷ rows) = listed (duty_head d begun moment row) ++ row_heads d begun moment rows

-- whether a head's first piece is this one
abbrev pub starts_at : ℕ → DutyHead → Bool
starts_at k h = option_map_or (λ l. nat_eq l k) (slice_get h.pieces 0) false

-- the heads whose first piece is this one
abbrev pub heads_at : List DutyHead → ℕ → List DutyHead
heads_at [] k = []
heads_at (h ∷ hs) k = cond (starts_at k h) (h ∷ heads_at hs k) (heads_at hs k)

-- the heads whose first piece is one of n pieces from one on, by their first pieces
abbrev pub by_first : List DutyHead → ℕ → ℕ → List DutyHead
by_first hs zero k = []
by_first hs (suc n) k = heads_at hs k ++ by_first hs n (suc k)

-- the heads of an earlier plan's duties, by their first pieces
abbrev pub duty_heads_of : DutyFacts → List Column → PlanText → ℕ → List DutyHead
duty_heads_of d blocks earlier moment =
    by_first (row_heads d (begun_parts blocks earlier.blocks.columns moment d.pieces) moment earlier.duties) (length d.pieces) 0
