-- Promise: the laws of a labelling, beside those of cover_core (a label that is at least as good stays so, and closes with no greater
-- value).
use Rattle.std.specs.Prelude.{◌≡◌, ℕ, ℤ, ◌<◌, ◌≤ℤ◌, Bool, true, Option, Some}
use Rattle.cover_core.specs.Labels.{Labelling}

-- a test as a relation
abbrev pub GoodAs : {L : Type 0} → (L → L → Bool) → L → L → Type 0
GoodAs good a b = good a b ≡ true

-- items come in rising order, and a label knows its list's last item
pub record IsStepwise {L : Type 0} (w : Labelling L) (count : ℕ) (last : L → ℕ) : Type 0 where
  pub starts : (item : ℕ) (a : L) → w.start item ≡ Some a → (item < count) × (last a ≡ item)
  pub steps : (a b : L) (item : ℕ) → w.extend a item ≡ Some b → (last a < item) × (item < count) × (last b ≡ item)

-- the labels of lists are sound
pub record IsSafe {L : Type 0} (w : Labelling L) (sound : L → Type 0) : Type 0 where
  pub starts : (item : ℕ) (a : L) → w.start item ≡ Some a → sound a
  pub steps : (a b : L) (item : ℕ) → sound a → w.extend a item ≡ Some b → sound b

-- the test hides no list that closes within a limit: a label that closes within it passes, a label passes where an extension of it
-- does, and where one does that it is at least as good as
pub record HidesNone {L : Type 0} (w : Labelling L) (good : L → L → Bool) (close : L → Option ℤ) (sound : L → Type 0)
    (may_close : ℤ → L → Bool) : Type 0 where
  pub closes : (limit : ℤ) (a : L) (v : ℤ) → sound a → close a ≡ Some v → v ≤ℤ limit → may_close limit a ≡ true
  pub steps : (limit : ℤ) (a b : L) (item : ℕ) → sound a → w.extend a item ≡ Some b → may_close limit b ≡ true → may_close limit a ≡ true
  pub ordered : (limit : ℤ) (a b : L) → good a b ≡ true → may_close limit b ≡ true → may_close limit a ≡ true

-- a completion bound: no continuation of a label closes below it
pub record IsFloor {L : Type 0} (w : Labelling L) (close : L → Option ℤ) (sound : L → Type 0) (floor : L → ℤ) : Type 0 where
  pub closes : (a : L) (v : ℤ) → sound a → close a ≡ Some v → floor a ≤ℤ v
  pub steps : (a b : L) (item : ℕ) → sound a → w.extend a item ≡ Some b → floor a ≤ℤ floor b
