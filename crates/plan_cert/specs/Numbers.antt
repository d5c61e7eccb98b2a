-- Promise: the numbers that the fields of a certificate spell, each in its range.
use Rattle.std.specs.Prelude.{ℕ, ℤ, pos, negsuc, neg_ℤ, ◌-◌, ◌&&◌, ◌||◌, ◌==◌, Bool, int_le, List, Option, Some, None, if◌then◌else◌, position}
use Rattle.plan_core.specs.Limits.{most_kept_price}
use Rattle.number_tables.specs.Outlines.{up_to, word}
use Rattle.plan_cert.specs.declared.cert.Pass.{Pass}
use Rattle.plan_cert.specs.declared.cert.Pass.TheVariants.{BlockNumber, BlockCost, DutyNumber, DutyCost}

-- what is made of a value that is there
infixl 10 ◌>>=◌
abbrev pub ◌>>=◌ : {A B : Type 0} → Option A → (A → Option B) → Option B
None >>= f = None
(Some x) >>= f = f x

-- a number from 1 to a greatest one, counted from 0
abbrev pub from_one : ℕ → Option ℕ
from_one n = if n == 0 then None else Some (n - 1)

abbrev pub counted : ℕ → Option ℤ → Option ℕ
counted most number = do
  n ← up_to most number
  from_one n

-- a truth value, spelled as 0 or 1
abbrev pub truth : Option ℤ → Option Bool
truth number = do
  n ← up_to 1 number
  Some (n == 1)

-- a price from -3 * 10^15 to 3 * 10^15
abbrev pub moderate : Option ℤ → Option ℤ
moderate number = do
  z ← number
  if int_le (neg_ℤ (pos most_kept_price)) z && int_le z (pos most_kept_price) then Some z else None

-- a number that is not below 0
abbrev pub natural : ℤ → Option ℕ
natural (pos n) = Some n
natural (negsuc n) = None

-- where a number first stands among others
abbrev pub place_in : List ℕ → ℕ → Option ℕ
place_in numbers number = position (λ m. m == number) numbers

-- the class of a number
abbrev pub class_among : List ℕ → Option ℤ → Option ℕ
class_among numbers number = do
  z ← number
  n ← natural z
  place_in numbers n

-- the passes by their numbers (ART)
abbrev pub pass_of : ℕ → Option Pass
pass_of number =
    if number == 1 then Some BlockNumber
    else if number == 2 then Some BlockCost
    else if number == 3 then Some DutyNumber
    else if number == 4 then Some DutyCost
    else None

abbrev pub any_pass : Option ℤ → Option Pass
any_pass number = do
  n ← word number
  pass_of n

-- the number of a pass
abbrev pub pass_number : Pass → ℕ
pass_number BlockNumber = 1
pass_number BlockCost = 2
pass_number DutyNumber = 3
pass_number DutyCost = 4

-- one of the first two passes, which are over blocks
abbrev pub is_over_blocks : Pass → Bool
is_over_blocks pass = pass_number pass == 1 || pass_number pass == 2

-- whether two passes are one
abbrev pub same_pass : Pass → Pass → Bool
same_pass a b = pass_number a == pass_number b
