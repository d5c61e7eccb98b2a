-- Promise: full breaks, and the verdict of articles 6 to 8 of Regulation (EC) 561/2006 on the drives of a duty.
use Rattle.std.specs.Prelude.{◌≡◌, ℕ, ◌+◌, ◌<◌, ◌≤◌, ◌⊎◌, Bool, true, false, cond, ◌||◌, ◌&&◌, nat_le, zero, suc, List, [], ◌∷◌, length, take, drop}
use Rattle.eu561_rules.specs.declared.rules.Drive.{Drive}
use Rattle.eu561_rules.specs.declared.rules.Limits.{Limits}
use Rattle.eu561_rules.specs.declared.rules.Verdict.{Verdict}
use Rattle.eu561_rules.specs.declared.rules.Verdict.TheVariants.{Lawful, Art6, Art7, Art8}

-- article 7: a pause is a full break where it is at least 45 minutes, or at least 30 where a quarter of an hour was had before it
abbrev pub completes_break : Bool → ℕ → Bool
completes_break quarter pause = nat_le 2700 pause || (nat_le 1800 pause && quarter)

-- whether a pause of at least a quarter of an hour stands after the last full break; the drives so far, the latest first
abbrev pub has_quarter : List Drive → Bool
has_quarter [] = false
has_quarter (d ∷ earlier) = cond (completes_break (has_quarter earlier) d.pause) false (nat_le 900 d.pause || has_quarter earlier)

-- whether the pause before the drive at this place is a full break, after earlier drives, the latest first
abbrev pub is_full_break_after : List Drive → List Drive → ℕ → Bool
is_full_break_after earlier [] place = false
is_full_break_after earlier (d ∷ ds) zero = completes_break (has_quarter earlier) d.pause
is_full_break_after earlier (d ∷ ds) (suc place) = is_full_break_after (d ∷ earlier) ds place

-- article 7: whether the pause before the drive at this place is a full break
abbrev pub is_full_break : List Drive → ℕ → Bool
is_full_break drives place = is_full_break_after [] drives place

-- the pause before the drive at this place, in seconds
abbrev pub pause_before : List Drive → ℕ → ℕ
pause_before [] place = 0
pause_before (d ∷ ds) zero = d.pause
pause_before (d ∷ ds) (suc place) = pause_before ds place

-- the pause at this earlier place is at least a quarter of an hour, and no full break lies at it or between it and the later place
pub record IsQuarterFor (drives : List Drive) (place earlier : ℕ) : Type 0 where
  pub before : earlier < place
  pub long_enough : 900 ≤ pause_before drives earlier
  pub no_break : (between : ℕ) → earlier ≤ between → between < place → is_full_break drives between ≡ false

-- article 7 in words: at least 45 minutes, or at least 30 after some pause of at least 15 with no full break at it or between the two
abbrev pub IsBreakInWords : List Drive → ℕ → Type 0
IsBreakInWords drives place =
    (2700 ≤ pause_before drives place) ⊎ ((1800 ≤ pause_before drives place) × ((earlier : ℕ) × IsQuarterFor drives place earlier))

-- the driving of the drives, in seconds
abbrev pub driving_of : List Drive → ℕ
driving_of [] = 0
driving_of (d ∷ ds) = d.driving + driving_of ds

-- the driving of the drives from i to j, both included
abbrev pub driving_within : List Drive → ℕ → ℕ → ℕ
driving_within drives i j = driving_of (drop i (take (j + 1) drives))

-- no full break lies between the drives from i to j
abbrev pub BreakFree : List Drive → ℕ → ℕ → Type 0
BreakFree drives i j = (k : ℕ) → i < k → k ≤ j → is_full_break drives k ≡ false

-- article 7: neighbouring drives among the first n with no full break between them keep the limit
abbrev pub KeepsArticle7 : Limits → List Drive → ℕ → Type 0
KeepsArticle7 limits drives n =
    (i j : ℕ) → i ≤ j → j < n → BreakFree drives i j → driving_within drives i j ≤ limits.block

-- article 4(q): the drives from i to j are a driving period, from a full break or the duty's start to the next one or the duty's end
pub record IsDrivingPeriod (drives : List Drive) (i j : ℕ) : Type 0 where
  pub order : i ≤ j
  pub there : j < length drives
  pub begins : (i ≡ 0) ⊎ (is_full_break drives i ≡ true)
  pub ends : (j + 1 ≡ length drives) ⊎ (is_full_break drives (j + 1) ≡ true)
  pub free : BreakFree drives i j

-- the first driving period with too much driving
pub record IsFirstExcess (limits : Limits) (drives : List Drive) (i j driving : ℕ) : Type 0 where
  pub period : IsDrivingPeriod drives i j
  pub driving_is : driving ≡ driving_within drives i j
  pub exceeds : limits.block < driving
  pub earlier : KeepsArticle7 limits drives i

-- article 4(g): whether some pause is the first part of a split daily rest
abbrev pub has_long_pause : Limits → List Drive → Bool
has_long_pause limits [] = false
has_long_pause limits (d ∷ ds) = nat_le limits.long_pause d.pause || has_long_pause limits ds

-- article 8(2): the greatest spread that leaves the rest which must follow within 24 hours
abbrev pub spread_limit : Limits → List Drive → ℕ
spread_limit limits drives = cond (has_long_pause limits drives) limits.long_spread limits.spread

-- articles 6(1), 7 and 8(2) are kept
pub record IsLawful (limits : Limits) (drives : List Drive) (spread : ℕ) : Type 0 where
  pub article6 : driving_of drives ≤ limits.day
  pub article7 : KeepsArticle7 limits drives (length drives)
  pub article8 : spread ≤ spread_limit limits drives

-- article 6(1) is kept, and article 7 first fails in this driving period
pub record BreaksArticle7 (limits : Limits) (drives : List Drive) (i j driving : ℕ) : Type 0 where
  pub article6 : driving_of drives ≤ limits.day
  pub excess : IsFirstExcess limits drives i j driving

-- articles 6(1) and 7 are kept, and the spread is too long
pub record BreaksArticle8 (limits : Limits) (drives : List Drive) (spread : ℕ) : Type 0 where
  pub article6 : driving_of drives ≤ limits.day
  pub article7 : KeepsArticle7 limits drives (length drives)
  pub exceeds : spread_limit limits drives < spread

-- the verdict names the first of the articles 6, 7 and 8 that the duty breaks
abbrev pub Judged : List Drive → ℕ → Limits → Verdict → Type 0
Judged drives spread limits (Art6 driving) = (driving ≡ driving_of drives) × (limits.day < driving)
Judged drives spread limits (Art7 i j driving) = BreaksArticle7 limits drives i j driving
Judged drives spread limits (Art8 s) = (s ≡ spread) × BreaksArticle8 limits drives spread
Judged drives spread limits Lawful = IsLawful limits drives spread

-- no pause stands before the first drive
abbrev pub FirstPauseIsZero : List Drive → Type 0
FirstPauseIsZero [] = Unit {0}
FirstPauseIsZero (d ∷ ds) = d.pause ≡ 0
