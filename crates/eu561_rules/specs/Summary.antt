-- Promise: what a tally keeps of the drives of a duty, and which drives it stands for.
use Rattle.std.specs.Prelude.{◌≡◌, ℕ, ◌+◌, ◌*◌, ◌-◌, ◌<◌, ◌≤◌, ◌⊎◌, Bool, true, false, cond, ◌||◌, ◌&&◌, nat_le, nat_lt, is_none, List, [], ◌∷◌, length, drop, Option, Some, None}
use Rattle.plan_core.specs.Limits.{most_items}
use Rattle.eu561_rules.specs.declared.rules.Drive.{Drive}
use Rattle.eu561_rules.specs.declared.rules.Limits.{Limits}
use Rattle.eu561_rules.specs.declared.counting.Excess.{Excess}
use Rattle.eu561_rules.specs.Duty.{completes_break, has_quarter, is_full_break, driving_of, KeepsArticle7, has_long_pause, IsFirstExcess}

-- what is kept of the drives so far
pub record Summary : Type 0 where
  -- the limits that the duty is held to
  pub limits : Limits
  -- how many drives there were
  pub count : ℕ
  -- whether a pause of at least a quarter of an hour stands after the last full break
  pub quarter : Bool
  -- whether some pause was the first part of a split daily rest
  pub long : Bool
  -- the driving of all drives, in seconds
  pub total : ℕ
  -- the first drive of the last driving period
  pub first : ℕ
  -- the driving of the last driving period, in seconds
  pub driving : ℕ
  -- the first driving period before the last one with too much driving
  pub over : Option Excess

-- the drives, the latest first, before earlier ones
abbrev pub latest_first : List Drive → List Drive → List Drive
latest_first earlier [] = earlier
latest_first earlier (d ∷ ds) = latest_first (d ∷ earlier) ds

-- the last driving period begins at this drive
pub record BeginsLast (drives : List Drive) (first : ℕ) : Type 0 where
  pub there : first ≤ length drives
  pub inside : drives ≡ [] ⊎ (first < length drives)
  pub begins : (first ≡ 0) ⊎ (is_full_break drives first ≡ true)
  pub free : (k : ℕ) → first < k → k < length drives → is_full_break drives k ≡ false

-- the first driving period before this drive with too much driving, if there is one
abbrev pub ClosedExcess : Limits → List Drive → ℕ → Option Excess → Type 0
ClosedExcess limits drives first None = KeepsArticle7 limits drives first
ClosedExcess limits drives first (Some e) = IsFirstExcess limits drives e.first e.last e.driving × (e.last + 1 < length drives)

-- the tally stands for this list of drives
pub record StandsFor (t : Summary) (drives : List Drive) : Type 0 where
  pub count : t.count ≡ length drives
  pub quarter : t.quarter ≡ has_quarter (latest_first [] drives)
  pub long : t.long ≡ has_long_pause t.limits drives
  pub total : t.total ≡ driving_of drives
  pub small : driving_of drives ≤ 4294967295 * length drives
  pub first : BeginsLast drives t.first
  pub driving : t.driving ≡ driving_of (drop t.first drives)
  pub over : ClosedExcess t.limits drives t.first t.over

-- the tally stands for fewer than 3,000 drives, and for at least one unless the drive has no pause
pub record StandsForFewer (t : Summary) (drive : Drive) : Type 0 where
  pub drives : List Drive
  pub stands : StandsFor t drives
  pub few : length drives < most_items
  pub begins : (drives ≡ []) → drive.pause ≡ 0

-- the sums of a tally fit their types
pub record IsSmall (t : Summary) : Type 0 where
  pub total : t.total ≤ 4294967295 * t.count
  pub driving : t.driving ≤ t.total

-- the first driving period with too much driving, once the last one has ended
abbrev pub closed_excess : Summary → Option Excess
closed_excess t = cond (is_none t.over && nat_lt t.limits.block t.driving)
    (Some record { first = t.first; last = t.count - 1; driving = t.driving }) t.over

-- what is kept with one drive more
abbrev pub tally_after : Summary → Drive → Summary
tally_after t d =
    let long = t.long || nat_le t.limits.long_pause d.pause in
    let total = t.total + d.driving in
    cond (completes_break t.quarter d.pause)
    (record {
      limits = t.limits;
      count = t.count + 1;
      quarter = false;
      long = long;
      total = total;
      first = t.count;
      driving =
          d.driving;
      over = closed_excess t;
    })
    (record {
      limits = t.limits;
      count = t.count + 1;
      quarter = nat_le 900 d.pause || t.quarter;
      long = long;
      total = total;
      first =
          t.first;
      driving = t.driving + d.driving;
      over = t.over;
    })
