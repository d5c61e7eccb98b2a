-- Inner: marks by class and last item.
use Rattle.std.specs.Prelude.{◌≡◌, ℕ, ◌+◌, ◌<◌, ◌≤◌, ◌&&◌, ◌||◌, nat_lt, nat_eq, Bool, false, true, List, Some, slice_get}
use Rattle.mark_cover.specs.Marking.{Marking}

-- a class and item before another one
abbrev pub is_before : ℕ → ℕ → ℕ → ℕ → Bool
is_before class item class' item' = nat_lt class class' || (nat_eq class class' && nat_lt item item')

-- a mark whose class and last item are before these
abbrev pub stands_before : {L : Type 0} → Marking L → L → ℕ → ℕ → Bool
stands_before m a class item = is_before (m.class_of a) (m.last a) class item

-- no mark stands before an earlier one, by class and last item
abbrev pub AreGrouped : {L : Type 0} → Marking L → List L → Type 0
AreGrouped {L} m marks = (i j : ℕ) (a b : L) → i < j → slice_get marks i ≡ Some a → slice_get marks j ≡ Some b →
    stands_before m b (m.class_of a) (m.last a) ≡ false

-- the marks at places below a bound stand before a class and item
abbrev pub AreEarly : {L : Type 0} → Marking L → List L → ℕ → ℕ → ℕ → Type 0
AreEarly {L} m marks class item bound = (k : ℕ) (a : L) → k < bound → slice_get marks k ≡ Some a → stands_before m a class item ≡ true

-- the marks at the other places do not
abbrev pub AreLate : {L : Type 0} → Marking L → List L → ℕ → ℕ → ℕ → Type 0
AreLate {L} m marks class item bound = (k : ℕ) (a : L) → bound ≤ k → slice_get marks k ≡ Some a → stands_before m a class item ≡ false

-- of neighbours below a bound, the later one does not stand before the earlier one
abbrev pub AreStepGrouped : {L : Type 0} → Marking L → List L → ℕ → Type 0
AreStepGrouped {L} m marks bound = (k : ℕ) (a b : L) → k + 1 < bound → slice_get marks k ≡ Some a → slice_get marks (k + 1) ≡ Some b →
    stands_before m b (m.class_of a) (m.last a) ≡ false
