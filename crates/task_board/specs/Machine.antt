-- Promise: the board as a machine over events, for every order of the desks' steps.
use Rattle.std.specs.Prelude.{ℕ, ℤ, pos, suc, ◌+◌, ◌-◌, ◌==◌, ◌&&◌, not, min, nat_lt, Bool, true, List, [], ◌∷◌, ◌++◌, slice_index, slice_set, if◌then◌else◌}
use mathlib.Core.Option.{Option, none, some}
use lib.ListN.{get_elem?}
use lib.IntN.{negsuc}
use Rattle.task_board.specs.declared.sheet.Extent.{Extent}
use Rattle.task_board.specs.declared.sheet.Sheet.{Sheet}
use Rattle.task_board.specs.Sheets.{zero_word, opening_words, fresh, spent, split_left, split_right, drew, missed, looked, lowered_by, joined, IsKept}

-- the words and what each desk has done
pub record BoardState : Type 0 where
  pub words : List ℕ
  pub views : List Sheet

-- a state from its parts
abbrev pub state : List ℕ → List Sheet → BoardState
state words views = record { words = words; views = views }

-- one atomic step of one desk
pub data Event : Type 0 where
  Split : (desk : ℕ) → Event
  Claim : (desk : ℕ) → Event
  Look : (desk class : ℕ) → Event
  Lower : (desk class : ℕ) (value : ℤ) → Event
  Join : (desk other : ℕ) → Event

-- the value that a word stands for
abbrev pub value_of : ℕ → ℤ
value_of w = if nat_lt w zero_word then negsuc (zero_word - suc w) else pos (w - zero_word)

-- the word that stands for a value
abbrev pub word_of : ℤ → ℕ
word_of (pos n) = n + zero_word
word_of (negsuc n) = zero_word - suc n

-- the value is that of some word
abbrev pub has_word : ℤ → Bool
has_word (pos n) = true
has_word (negsuc n) = nat_lt n zero_word

-- a desk after a claim that found the number n
abbrev pub after_claim : Extent → ℕ → Sheet → Sheet
after_claim size n v = if nat_lt n size.tasks then drew v n else missed v

-- what a step of the desk v, at place i, makes. A step that the desk may not make changes nothing
abbrev pub splits : BoardState → ℕ → Option Sheet → BoardState
splits h i none = h
splits h i (some v) = if (v.over == 0)
    && nat_lt 1 v.share then state h.words (slice_set h.views i (split_left v) ++ split_right v ∷ []) else h

-- a claim of a desk that has not been told that none is left
abbrev pub claims : Extent → BoardState → ℕ → Option Sheet → BoardState
claims size h i none = h
claims size h i (some v) =
    if (v.over == 0) && nat_lt 0 v.share
    then state (slice_set h.words 0 (slice_index h.words 0 + 1)) (slice_set h.views i (after_claim size (slice_index h.words 0) v))
    else h

-- a look at a class of the board
abbrev pub looks : Extent → BoardState → ℕ → ℕ → Option Sheet → BoardState
looks size h i k none = h
looks size h i k (some v) =
    if nat_lt 0 v.share && nat_lt k size.classes
    then state h.words (slice_set h.views i (looked v k (value_of (slice_index h.words (k + 1)))))
    else h

-- a lowering of a class of the board
abbrev pub lowers : Extent → BoardState → ℕ → ℕ → ℤ → Option Sheet → BoardState
lowers size h i k x none = h
lowers size h i k x (some v) =
    if (nat_lt 0 v.share && nat_lt k size.classes) && has_word x
    then state (slice_set h.words (k + 1) (min (slice_index h.words (k + 1)) (word_of x))) (slice_set h.views i (lowered_by v k x))
    else h

-- the desk v, at place i, takes in the one at place j
abbrev pub joins_with : BoardState → ℕ → ℕ → Sheet → Option Sheet → BoardState
joins_with h i j v none = h
joins_with h i j v (some w) =
    if nat_lt 0 v.share && not (j == i) then state h.words (slice_set (slice_set h.views i (joined v w)) j spent) else h

-- a join of two different desks
abbrev pub joins : BoardState → ℕ → ℕ → Option Sheet → BoardState
joins h i j none = h
joins h i j (some v) = joins_with h i j v (get_elem? h.views j)

-- what an event makes of a state
abbrev pub happens : Extent → BoardState → Event → BoardState
happens size h (Split i) = splits h i (get_elem? h.views i)
happens size h (Claim i) = claims size h i (get_elem? h.views i)
happens size h (Look i k) = looks size h i k (get_elem? h.views i)
happens size h (Lower i k x) = lowers size h i k x (get_elem? h.views i)
happens size h (Join i j) = joins h i j (get_elem? h.views i)

-- the first state: no number is drawn, no value is below 0, and one desk has the whole share
abbrev pub start : Extent → BoardState
start size = state (opening_words size.classes) (fresh size.tasks ∷ [])

-- the state after the events, one after another
abbrev pub run : Extent → List Event → BoardState → BoardState
run size [] h = h
run size (e ∷ es) h = run size es (happens size h e)

-- the state condition, of a state of the machine
abbrev pub IsSound : Extent → BoardState → Type 0
IsSound size h = IsKept size h.words h.views
