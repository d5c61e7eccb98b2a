-- Promise: whether a duty is lawful, as a test over all its intervals.
use Rattle.std.specs.Prelude.{◌≡◌, ℕ, ◌+◌, ◌≤◌, Bool, true, false, ◌||◌, ◌&&◌, not, nat_le, cond, zero, suc, List, [], ◌∷◌, length, None}
use Rattle.eu561_rules.specs.declared.rules.Drive.{Drive}
use Rattle.eu561_rules.specs.declared.rules.Limits.{Limits}
use Rattle.eu561_rules.specs.Duty.{is_full_break, driving_of, driving_within, spread_limit}
use Rattle.eu561_rules.specs.Summary.{Summary, tally_after}

-- whether a test holds of each number below n
abbrev pub all_below : ℕ → (ℕ → Bool) → Bool
all_below zero p = true
all_below (suc n) p = all_below n p && p n

-- no full break lies between the drives from i to j
abbrev pub is_break_free : List Drive → ℕ → ℕ → Bool
is_break_free drives i j = all_below j (λ k. not (nat_le i k) || not (is_full_break drives (k + 1)))

-- article 7: no interval without a full break inside has too much driving
abbrev pub keeps_article7 : Limits → List Drive → Bool
keeps_article7 limits drives =
    all_below (length drives)
    (λ j. all_below (j + 1) (λ i. not (is_break_free drives i j) || nat_le (driving_within drives i j) limits.block))

-- whether articles 6 to 8 are kept
abbrev pub is_lawful : Limits → List Drive → ℕ → Bool
is_lawful limits drives spread =
    nat_le (driving_of drives) limits.day && keeps_article7 limits drives && nat_le spread (spread_limit limits drives)

-- the limits of a driver without allowances: 4 and a half, 9, 13, 15 and 3 hours
abbrev pub regular : Limits
regular = record { block = 16200; day = 32400; spread = 46800; long_spread = 54000; long_pause = 10800 }

-- the limits of a driver with allowances: 10 hours of driving (article 6(1)), a spread of 15 hours before a reduced daily rest (article
-- 8(2))
abbrev pub limits_for : Bool → Bool → Limits
limits_for ten reduced = record regular { day = cond ten 36000 32400; spread = cond reduced 54000 46800 }

-- what is kept of no drives
abbrev pub no_drives : Limits → Summary
no_drives limits = record { limits = limits; count = 0; quarter = false; long = false; total = 0; first = 0; driving = 0; over = None }

-- what is kept after further drives
abbrev pub run : Summary → List Drive → Summary
run t [] = t
run t (d ∷ ds) = run (tally_after t d) ds

-- articles 6 and 7 are kept so far
pub record IsFine (t : Summary) : Type 0 where
  pub none : t.over ≡ None
  pub driving : t.driving ≤ t.limits.block
  pub total : t.total ≤ t.limits.day

-- the driving of each drive fits 32 bits
abbrev pub AreBounded : List Drive → Type 0
AreBounded [] = Unit {0}
AreBounded (d ∷ ds) = (d.driving ≤ 4294967295) × AreBounded ds
