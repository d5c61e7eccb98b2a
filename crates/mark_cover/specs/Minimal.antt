-- Promise: the least cover: the marks of open lists to which no other mark is at least as good.
use Rattle.std.specs.Prelude.{◌≡◌, ℕ, ◌<◌, AllPairs, List, Some, true}
use Rattle.std.specs.List.Sorted.{IsPermutation}
use Rattle.std.specs.declared.cmp.Ordering.{Ordering}
use Rattle.std.specs.declared.cmp.Ordering.TheVariants.{Less}
use Rattle.cover_core.specs.Labels.{label_of}
use Rattle.mark_cover.specs.Marking.{Marking, of_class}
use Rattle.mark_cover.specs.Covers.{StandsIn, IsMet}

-- the mark of some open list
abbrev pub IsOpenMark : {L : Type 0} → Marking L → L → Type 0
IsOpenMark m a = (class : ℕ) × (class < m.classes) × (list : List ℕ) × (label_of (of_class m class) list ≡ Some a)

-- the mark of an open list, and no other such mark is at least as good
abbrev pub IsMinimal : {L : Type 0} → Marking L → L → Type 0
IsMinimal {L} m a = IsOpenMark m a × ((b : L) → IsOpenMark m b → m.good b a ≡ true → b ≡ a)

-- exactly the minimal marks, each once, in rising order
pub record AreMinimal {L : Type 0} (m : Marking L) (order : L → L → Ordering) (marks : List L) : Type 0 where
  pub only : (a : L) → StandsIn marks a → IsMinimal m a
  pub all : (a : L) → IsMinimal m a → StandsIn marks a
  pub rising : AllPairs (λ (a b : L). order a b ≡ Less) marks

-- Marks of open lists that meet each start and each of their extensions, and of which none is at least as good as another one.
pub record AreKept {L : Type 0} (m : Marking L) (marks : List L) : Type 0 where
  pub are_open : (a : L) → StandsIn marks a → IsOpenMark m a
  pub starts : (class item : ℕ) (b : L) → class < m.classes → m.start class item ≡ Some b → IsMet m marks b
  pub steps : (a b : L) (item : ℕ) → StandsIn marks a → m.extend a item ≡ Some b → IsMet m marks b
  pub alone : (a b : L) → StandsIn marks a → StandsIn marks b → m.good a b ≡ true → a ≡ b

-- marks that are at least as good as one another are the same
abbrev pub IsApart : {L : Type 0} → Marking L → Type 0
IsApart {L} m = (a b : L) → m.good a b ≡ true → m.good b a ≡ true → a ≡ b

-- such marks, put in rising order, are exactly the minimal ones
abbrev pub KeptAreMinimal : {L : Type 0} → Marking L → (L → L → Ordering) → Type 0
KeptAreMinimal {L} m order =
    (kept marks : List L) → IsApart m → AreKept m kept → IsPermutation kept marks → AllPairs (λ (a b : L). order a b ≡ Less) marks →
    AreMinimal m order marks

-- the marks of open lists are sound
pub record AreSafe {L : Type 0} (m : Marking L) (sound : L → Type 0) : Type 0 where
  pub starts : (class item : ℕ) (b : L) → m.start class item ≡ Some b → sound b
  pub steps : (a b : L) (item : ℕ) → sound a → m.extend a item ≡ Some b → sound b

-- marks that are sound, and whose classes and last items are there
pub record AreGiven {L : Type 0} (m : Marking L) (sound : L → Type 0) (marks : List L) : Type 0 where
  pub are_sound : (a : L) → StandsIn marks a → sound a
  pub classes : (a : L) → StandsIn marks a → m.class_of a < m.classes
  pub lasts : (a : L) → StandsIn marks a → m.last a < m.items
