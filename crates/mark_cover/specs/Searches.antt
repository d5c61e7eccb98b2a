-- Promise: what the searches for gaps find.
use Rattle.std.specs.Prelude.{◌≡◌, ℕ, ℤ, neg_ℤ, ◌<◌, ◌≤◌, int_lt, Bool, true, false, not, List, Option, Some, None, slice_get}
use Rattle.std.specs.List.{list_any}
use Rattle.cover_core.specs.declared.marks.Gap.{Gap}
use Rattle.cover_core.specs.declared.marks.Gap.TheVariants.{First, Next, Close}
use Rattle.cover_core.specs.Plans.{number_at}
use Rattle.mark_cover.specs.Marking.{Marking}

-- whether some mark is at least as good
abbrev pub is_met : {L : Type 0} → Marking L → List L → L → Bool
is_met m marks b = list_any (λ a. m.good a b) marks

-- whether there is a mark, and none is at least as good
abbrev pub is_unmet : {L : Type 0} → Marking L → List L → Option L → Bool
is_unmet m marks None = false
is_unmet m marks (Some b) = not (is_met m marks b)

-- whether there is a value, and it is below minus a price
abbrev pub is_below : ℤ → Option ℤ → Bool
is_below price None = false
is_below price (Some v) = int_lt v (neg_ℤ price)

-- whether a mark closes with a value below minus the price of its class
abbrev pub is_low : {L : Type 0} → Marking L → List ℤ → L → Bool
is_low m class_prices a = is_below (number_at class_prices (m.class_of a)) (m.close a)

-- the first number below a bound that passes a test
abbrev pub IsFirstWhere : ℕ → (ℕ → Bool) → Option ℕ → Type 0
IsFirstWhere bound test None = (k : ℕ) → k < bound → test k ≡ false
IsFirstWhere bound test (Some k) = (k < bound) × (test k ≡ true) × ((j : ℕ) → j < k → test j ≡ false)

-- the first list of one item that is not met
abbrev pub IsFirstStart : {L : Type 0} → Marking L → List L → Option Gap → Type 0
IsFirstStart {L} m marks None = (class item : ℕ) → class < m.classes → item < m.items → is_unmet m marks (m.start class item) ≡ false
IsFirstStart {L} m marks (Some (First class item)) =
    (class < m.classes) × (is_unmet m marks (m.start class item) ≡ true)
    × ((j : ℕ) → j < item → is_unmet m marks (m.start class j) ≡ false) ×
    ((k j : ℕ) → k < class → j < m.items → is_unmet m marks (m.start k j) ≡ false)
IsFirstStart {L} m marks (Some (Next place item)) = ⊥
IsFirstStart {L} m marks (Some (Close place)) = ⊥

-- the first extension of a mark that is not met
abbrev pub IsFirstStep : {L : Type 0} → Marking L → List L → Option Gap → Type 0
IsFirstStep {L} m marks None =
    (k : ℕ) (a : L) → slice_get marks k ≡ Some a → (j : ℕ) → j < m.items → is_unmet m marks (m.extend a j) ≡ false
IsFirstStep {L} m marks (Some (First class item)) = ⊥
IsFirstStep {L} m marks (Some (Next place item)) =
    ((a : L) × (slice_get marks place ≡ Some a) × (is_unmet m marks (m.extend a item) ≡ true)
    × ((j : ℕ) → j < item → is_unmet m marks (m.extend a j) ≡ false)) ×
    ((k : ℕ) (b : L) → k < place → slice_get marks k ≡ Some b → (j : ℕ) → j < m.items → is_unmet m marks (m.extend b j) ≡ false)
IsFirstStep {L} m marks (Some (Close place)) = ⊥

-- the first mark that closes too low
abbrev pub IsFirstClosing : {L : Type 0} → Marking L → List L → List ℤ → Option Gap → Type 0
IsFirstClosing {L} m marks class_prices None = (k : ℕ) (a : L) → slice_get marks k ≡ Some a → is_low m class_prices a ≡ false
IsFirstClosing {L} m marks class_prices (Some (First class item)) = ⊥
IsFirstClosing {L} m marks class_prices (Some (Next place item)) = ⊥
IsFirstClosing {L} m marks class_prices (Some (Close place)) =
    ((a : L) × (slice_get marks place ≡ Some a) × (is_low m class_prices a ≡ true)) ×
    ((k : ℕ) (b : L) → k < place → slice_get marks k ≡ Some b → is_low m class_prices b ≡ false)

-- the classes and last items of marks are there
abbrev pub AreThere : {L : Type 0} → Marking L → List L → Type 0
AreThere {L} m marks = (k : ℕ) (a : L) → slice_get marks k ≡ Some a → (m.class_of a < m.classes) × (m.last a < m.items)

-- the extensions of the marks at places below a bound are met
abbrev pub AreMetBelow : {L : Type 0} → Marking L → List L → ℕ → Type 0
AreMetBelow {L} m marks bound =
    (k : ℕ) (b : L) → k < bound → slice_get marks k ≡ Some b → (j : ℕ) → j < m.items → is_unmet m marks (m.extend b j) ≡ false

-- the marks at places below a bound do not close too low
abbrev pub AreHighBelow : {L : Type 0} → Marking L → List L → List ℤ → ℕ → Type 0
AreHighBelow {L} m marks class_prices bound = (k : ℕ) (b : L) → k < bound → slice_get marks k ≡ Some b → is_low m class_prices b ≡ false

-- the extensions by an item of all marks of a class are met
abbrev pub AreMetBy : {L : Type 0} → Marking L → List L → ℕ → ℕ → Type 0
AreMetBy {L} m marks class item =
    (k : ℕ) (a : L) → slice_get marks k ≡ Some a → m.class_of a ≡ class → is_unmet m marks (m.extend a item) ≡ false

-- no mark from a place to another one is at least as good
abbrev pub AreUnmetBetween : {L : Type 0} → Marking L → List L → ℕ → ℕ → L → Type 0
AreUnmetBetween {L} m marks low high b = (k : ℕ) (a : L) → low ≤ k → k < high → slice_get marks k ≡ Some a → m.good a b ≡ false
