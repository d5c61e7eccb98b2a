-- Promise: what the desks of a board have done, and the state condition of a board.
use Rattle.std.specs.Prelude.{◌≡◌, ℕ, ℤ, pos, ◌+◌, ◌-◌, ◌+ℤ◌, ◌≤ℤ◌, ◌<◌, ◌≤◌, ◌⊎◌, ◌==◌, min, nat_lt, List, [], ◌∷◌, ◌++◌, length, slice_index, replicate, Contains, All, if◌then◌else◌}
use mathlib.Core.Option.{some}
use lib.ListN.{get_elem?}
use Rattle.atomic_table.specs.Table.{State, Me, Step}
use Rattle.task_board.specs.declared.sheet.Extent.{Extent}
use Rattle.task_board.specs.declared.sheet.Sheet.{Sheet}

-- the parts of the whole share
abbrev pub whole : ℕ
whole = 4294967296

-- the word that stands for the value 0
abbrev pub zero_word : ℕ
zero_word = 9223372036854775808

-- a sheet from its parts
abbrev pub sheet : ℕ → ℕ → ℕ → List ℕ → List (ℕ × ℤ) → List (ℕ × ℤ) → Sheet
sheet tasks share over drawn looks lowered =
    record { tasks = tasks; share = share; over = over; drawn = drawn; looks = looks; lowered = lowered }

-- an extent from its parts
abbrev pub extent : ℕ → ℕ → Extent
extent tasks classes = record { tasks = tasks; classes = classes }

-- the words at the start, of so many classes
abbrev pub opening_words : ℕ → List ℕ
opening_words classes = 0 ∷ replicate classes zero_word

-- the first desk
abbrev pub fresh : ℕ → Sheet
fresh tasks = sheet tasks whole 0 [] [] []

-- a desk that was joined into another
abbrev pub spent : Sheet
spent = sheet 0 0 0 [] [] []

-- a desk after it gave one part to a new one
abbrev pub split_left : Sheet → Sheet
split_left v = record v { share = v.share - 1 }

-- the new desk
abbrev pub split_right : Sheet → Sheet
split_right v = sheet v.tasks 1 0 [] [] []

-- a desk after a claim that gave it the task n
abbrev pub drew : Sheet → ℕ → Sheet
drew v n = record v { drawn = v.drawn ++ n ∷ [] }

-- a desk after a claim that found no task left
abbrev pub missed : Sheet → Sheet
missed v = record v { over = v.over + 1 }

-- a desk after it looked at the class k and saw the value x
abbrev pub looked : Sheet → ℕ → ℤ → Sheet
looked v k x = record v { looks = v.looks ++ (k, x) ∷ [] }

-- a desk after it lowered the class k by the value x
abbrev pub lowered_by : Sheet → ℕ → ℤ → Sheet
lowered_by v k x = record v { lowered = v.lowered ++ (k, x) ∷ [] }

-- a desk after it took in another
abbrev pub joined : Sheet → Sheet → Sheet
joined v w = sheet v.tasks (v.share + w.share) (v.over + w.over) (v.drawn ++ w.drawn) (v.looks ++ w.looks) (v.lowered ++ w.lowered)

-- a number of each desk, added up
abbrev pub total : (Sheet → ℕ) → List Sheet → ℕ
total f [] = 0
total f (v ∷ vs) = f v + total f vs

-- how often x stands in the list
abbrev pub times : ℕ → List ℕ → ℕ
times x [] = 0
times x (y ∷ ys) = (if y == x then 1 else 0) + times x ys

-- 1 where x is below n, and else 0
abbrev pub once_below : ℕ → ℕ → ℕ
once_below x n = if nat_lt x n then 1 else 0

-- the word that stands for a value: greater words are greater values
abbrev pub Stands : ℕ → ℤ → Type 0
Stands w x = pos w ≡ x +ℤ pos zero_word

-- some desk has this entry in its list
abbrev pub Noted : (Sheet → List (ℕ × ℤ)) → List Sheet → ℕ × ℤ → Type 0
Noted f views p = (i : ℕ) × (v : Sheet) × (get_elem? views i ≡ some v) × Contains (f v) p

-- the entries by which a desk lowered
abbrev pub lowered_in : Sheet → List (ℕ × ℤ)
lowered_in v = v.lowered

-- the entries that a desk saw
abbrev pub looks_in : Sheet → List (ℕ × ℤ)
looks_in v = v.looks

-- the word is the least of 0 and all values by which the class was lowered
pub record IsLeastWord (views : List Sheet) (k w : ℕ) : Type 0 where
  pub most : w ≤ zero_word
  pub below : (x : ℤ) → Noted lowered_in views (k, x) → pos w ≤ℤ (x +ℤ pos zero_word)
  pub reached : (w ≡ zero_word) ⊎ ((x : ℤ) × Stands w x × Noted lowered_in views (k, x))

-- what holds of each desk
pub record IsDesk (size : Extent) (v : Sheet) : Type 0 where
  pub over_in_share : v.over ≤ v.share
  pub of_board : 0 < v.share → v.tasks ≡ size.tasks
  pub empty : v.share ≡ 0 → (v.drawn ≡ []) × (v.looks ≡ []) × (v.lowered ≡ [])

-- a value that was looked at is 0 or was lowered, and is no less than the class's word now
pub record IsLook (size : Extent) (words : List ℕ) (views : List Sheet) (p : ℕ × ℤ) : Type 0 where
  pub class : p.0 < size.classes
  pub source : (p.1 ≡ pos 0) ⊎ Noted lowered_in views p
  pub above : pos (slice_index words (p.0 + 1)) ≤ℤ (p.1 +ℤ pos zero_word)

-- the state condition: what holds between any two steps
pub record IsKept (size : Extent) (words : List ℕ) (views : List Sheet) : Type 0 where
  pub small : size.tasks < 4294967296
  pub row : length words ≡ size.classes + 1
  pub drawn : (x : ℕ) → total (λ v. times x v.drawn) views ≡ once_below x (min (slice_index words 0) size.tasks)
  pub counter_high : slice_index words 0 ≤ size.tasks + total (λ v. v.over) views
  pub counter_low : 0 < total (λ v. v.over) views → size.tasks ≤ slice_index words 0
  pub shares : total (λ v. v.share) views ≡ whole
  pub desks : (i : ℕ) (v : Sheet) → get_elem? views i ≡ some v → IsDesk size v
  pub least : (k : ℕ) → k < size.classes → IsLeastWord views k (slice_index words (k + 1))
  pub looks : (p : ℕ × ℤ) → Noted looks_in views p → IsLook size words views p

-- the state condition, of the running board's words and sheets
abbrev pub IsOrdered : Extent → State (Unit {0}) Sheet → Type 0
IsOrdered size s = IsKept size s.words s.views

-- what is known of a desk that has the whole share
pub record HasAll (v : Sheet) : Type 0 where
  pub drawn : (n : ℕ) × (n ≤ v.tasks) × ((x : ℕ) → times x v.drawn ≡ once_below x n) × (0 < v.over → n ≡ v.tasks)
  pub looks : All (λ (p : ℕ × ℤ). (p.1 ≡ pos 0) ⊎ Contains v.lowered p) v.looks

-- a desk that has the whole share knows all
abbrev pub IfWhole : Sheet → Type 0
IfWhole v = v.share ≡ whole → HasAll v

-- the number found joins the drawn ones where it is below the number of tasks, and is above all of them
abbrev pub Drew : Sheet → ℕ → Sheet → Type 0
Drew v n w = (n < v.tasks → (w ≡ drew v n) × All (λ x. x < n) v.drawn) × (v.tasks ≤ n → w ≡ missed v)

-- a claim tells which of the two it was
abbrev pub Claims : Step (Unit {0}) → Me (Unit {0}) Sheet → ℕ → Me (Unit {0}) Sheet → Type 0
Claims s v n w = (w.1 ≡ v.1) × Drew v.0 n w.0 × IfWhole w.0

-- the value is at most every value that the desk saw of the class or lowered it by
abbrev pub IsBelowSeen : Sheet → ℕ → ℤ → Type 0
IsBelowSeen v k y = (x : ℤ) → Contains v.looks (k, x) ⊎ Contains v.lowered (k, x) → y ≤ℤ x

-- to a desk that has the whole share the value is 0 or one by which it lowered the class itself
abbrev pub IsOwnOld : Sheet → ℕ → ℤ → Type 0
IsOwnOld v k y = v.share ≡ whole → (y ≡ pos 0) ⊎ Contains v.lowered (k, y)

-- the class of the word was looked at
abbrev pub Looks : Step (Unit {0}) → Me (Unit {0}) Sheet → ℕ → Me (Unit {0}) Sheet → Type 0
Looks s v n w = (w.1 ≡ v.1)
    × ((x : ℤ) × Stands n x × (x ≤ℤ pos 0) × (w.0 ≡ looked v.0 (s.word - 1) x) × IsBelowSeen v.0 (s.word - 1) x × IfWhole w.0)

-- the class of the word was lowered by the value that the operand stands for
abbrev pub Lowers : Step (Unit {0}) → Me (Unit {0}) Sheet → ℕ → Me (Unit {0}) Sheet → Type 0
Lowers s v n w = (w.1 ≡ v.1) × ((x : ℤ) × Stands s.first x × (w.0 ≡ lowered_by v.0 (s.word - 1) x) × IfWhole w.0)
    × ((y : ℤ) × Stands n y × (y ≤ℤ pos 0) × IsBelowSeen v.0 (s.word - 1) y × IsOwnOld v.0 (s.word - 1) y)

-- nothing is done, and a desk that has the whole share is told so
abbrev pub Settles : Step (Unit {0}) → Me (Unit {0}) Sheet → ℕ → Me (Unit {0}) Sheet → Type 0
Settles s v n w = (w ≡ v) × IfWhole w.0
