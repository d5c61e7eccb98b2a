-- Promise: the duties of drivers, each driver's in their order, and the rests after them: articles 4(g) and 4(h) of Regulation (EC)
-- 561/2006.
use Rattle.std.specs.Prelude.{◌≡◌, ℕ, ◌+◌, ◌≤◌, Bool, true, false, ◌==◌, ◌&&◌, not, Option, Some, None, List, [], ◌∷◌, ◌++◌, length, filter, if◌then◌else◌, ℤ, pos, ◌+ℤ◌, ◌-ℤ◌, ◌*ℤ◌, ◌≤ℤ◌, int_lt, int_le, All, AllPairs}
use Rattle.std.specs.List.{list_any}
use Rattle.std.specs.Int.{int_min}
use Rattle.std.specs.Ordering.{bool_cmp, nat_cmp, int_cmp, is_lt, ordering_then}
use Rattle.std.specs.declared.cmp.Ordering.{Ordering}
use Rattle.week_check.specs.declared.turn.Turn.{Turn}
use Rattle.week_check.specs.declared.rest.Rest.{Rest}
use Rattle.week_check.specs.Days.{IsDutyDay, number_of}

-- the start and the end of a duty count seconds from the start of 1970-01-01: 86,400 for each day and the seconds of the operating day
pub record IsTurn (t : Turn) : Type 0 where
  pub day : IsDutyDay t.day
  pub begin_from : (pos 86400 *ℤ number_of t.day) ≤ℤ (t.begin +ℤ pos 172800)
  pub order : t.begin ≤ℤ t.end
  pub end_to : t.end ≤ℤ ((pos 86400 *ℤ number_of t.day) +ℤ pos 345600)
  pub driving : t.driving ≤ 172800

-- a driver has at most one duty a day
abbrev pub AreApart : Turn → Turn → Type 0
AreApart a b = ((a.driver == b.driver) && (a.day == b.day)) ≡ false

-- the days of two duties are at most 13 days apart
abbrev pub AreNear : Turn → Turn → Type 0
AreNear a b = (number_of a.day ≤ℤ (number_of b.day +ℤ pos 13)) × (number_of b.day ≤ℤ (number_of a.day +ℤ pos 13))

-- the duties of all drivers over at most two weeks
pub record IsRoster (turns : List Turn) : Type 0 where
  pub each : All IsTurn turns
  pub key : AllPairs AreApart turns
  pub near : AllPairs AreNear turns

-- by end, driving and pause
abbrev pub rest_order : Turn → Turn → Ordering
rest_order a b = ordering_then (int_cmp a.end b.end) (ordering_then (nat_cmp a.driving b.driving) (bool_cmp a.three b.three))

-- By driver; a driver's duties by their start, then by their day. What is left decides nowhere in a roster, where driver and day are a key.
abbrev pub turn_order : Turn → Turn → Ordering
turn_order a b = ordering_then (nat_cmp a.driver b.driver)
    (ordering_then (int_cmp a.begin b.begin) (ordering_then (nat_cmp a.day b.day) (rest_order a b)))

-- whether a duty comes before another
abbrev pub is_before : Turn → Turn → Bool
is_before a b = is_lt (turn_order a b)

abbrev pub ends_before : List Turn → Turn → Bool
ends_before [] t = true
ends_before (a ∷ others) t = not (a.driver == t.driver)

-- the list that is complete, where it holds a duty
abbrev pub complete : List Turn → List (List Turn)
complete [] = []
complete (t ∷ ts) = (t ∷ ts) ∷ []

-- the list that ends where the next duty is another driver's
abbrev pub ended : List Turn → Turn → List (List Turn)
ended current t = if ends_before current t then complete current else []

-- the driver's duties so far with the next duty
abbrev pub continued : List Turn → Turn → List Turn
continued current t = if ends_before current t then t ∷ [] else current ++ t ∷ []

-- The duties in their order cut where the driver changes, so that each list has one driver's duties. `current` are those of the driver so
-- far.
abbrev pub lists_from : List Turn → List Turn → List (List Turn)
lists_from current [] = complete current
lists_from current (t ∷ ts) = ended current t ++ lists_from (continued current t) ts

-- the drivers' lists of duties
abbrev pub drivers_lists : List Turn → List (List Turn)
drivers_lists ordered = lists_from [] ordered

abbrev pub first_turn : List Turn → Option Turn
first_turn [] = None
first_turn (t ∷ ts) = Some t

-- the seconds up to the driver's next duty; a day after the last one
abbrev pub gap_after : Turn → List Turn → ℤ
gap_after t [] = pos 86400
gap_after t (next ∷ later) = next.begin -ℤ t.end

abbrev pub next_day : Turn → List Turn → ℕ
next_day t [] = t.day
next_day t (next ∷ later) = next.day

-- the rest after a duty lies within the 24 hours from its start: article 8(2)
abbrev pub rest_after : Turn → List Turn → ℤ
rest_after t later = int_min (gap_after t later) (pos 86400 -ℤ (t.end -ℤ t.begin))

abbrev pub rest_of : Turn → List Turn → Rest
rest_of t later = record { day = t.day; next = next_day t later; gap = gap_after t later; length = rest_after t later; three = t.three }

-- the rests after a driver's duties
abbrev pub rests_of : List Turn → List Rest
rests_of [] = []
rests_of (t ∷ ts) = rest_of t ts ∷ rests_of ts

-- a weekly rest is read as at least 24 hours without a duty: article 4(h)
abbrev pub is_weekly : Rest → Bool
is_weekly r = int_le (pos 86400) r.gap

-- a reduced daily rest has at least nine hours and fewer than eleven, is no weekly rest, and is not the last part of a split one: article
-- 4(g)
abbrev pub is_reduced : Rest → Bool
is_reduced r = (int_le (pos 32400) r.length) && (int_lt r.length (pos 39600) && (not (is_weekly r) && not r.three))

-- the rests after the last weekly rest
abbrev pub since_weekly : List Rest → List Rest
since_weekly [] = []
since_weekly (r ∷ rs) = if list_any is_weekly (r ∷ rs) then since_weekly rs else r ∷ rs

-- how many reduced rests there were since the last weekly rest
abbrev pub reduced_in : List Rest → ℕ
reduced_in rests = length (filter is_reduced (since_weekly rests))

-- that number after one rest more
abbrev pub reduced_after : ℕ → Rest → ℕ
reduced_after count r = if is_weekly r then 0 else (if is_reduced r then count + 1 else count)
