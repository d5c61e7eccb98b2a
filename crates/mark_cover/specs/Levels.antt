-- Inner: marks made item by item: of those of one class and item only the ones to which no other is at least as good.
use Rattle.std.specs.Prelude.{◌≡◌, ℕ, ◌++◌, ◌<◌, ◌⊎◌, List, [], ◌∷◌, Option, Some, None, true}
use Rattle.mark_cover.specs.Marking.{Marking}
use Rattle.mark_cover.specs.Covers.{StandsIn, IsMet}
use Rattle.mark_cover.specs.Minimal.{IsOpenMark}

abbrev pub listed : {L : Type 0} → Option L → List L
listed None = []
listed (Some a) = a ∷ []

-- the extensions of marks by an item
abbrev pub nexts : {L : Type 0} → Marking L → List L → ℕ → List L
nexts m [] item = []
nexts m (a ∷ rest) item = listed (m.extend a item) ++ nexts m rest item

-- no mark is at least as good as another one
abbrev pub AreAlone : {L : Type 0} → Marking L → List L → Type 0
AreAlone {L} m marks = (a b : L) → StandsIn marks a → StandsIn marks b → m.good a b ≡ true → a ≡ b

-- Candidates are put into marks: a mark was there or is a candidate, each candidate has a mark at least as good, so has each mark that had
-- one before, and where no mark was at least as good as another one, none is now.
pub record AreInserted {L : Type 0} (m : Marking L) (candidates old new : List L) : Type 0 where
  pub only : (b : L) → StandsIn new b → StandsIn old b ⊎ StandsIn candidates b
  pub met : (b : L) → StandsIn candidates b → IsMet m new b
  pub keeps : (b : L) → IsMet m old b → IsMet m new b
  pub alone : AreAlone m old → AreAlone m new

-- the marks of one class up to an item
pub record AreOfClass {L : Type 0} (m : Marking L) (class n : ℕ) (marks : List L) : Type 0 where
  pub are_open : (a : L) → StandsIn marks a → IsOpenMark m a
  pub in_class : (a : L) → StandsIn marks a → m.class_of a ≡ class
  pub lasts : (a : L) → StandsIn marks a → m.last a < n
  pub starts : (item : ℕ) (b : L) → item < n → m.start class item ≡ Some b → IsMet m marks b
  pub steps : (a b : L) (item : ℕ) → StandsIn marks a → item < n → m.extend a item ≡ Some b → IsMet m marks b
  pub alone : AreAlone m marks

-- the marks of the classes below k
pub record AreBelow {L : Type 0} (m : Marking L) (k : ℕ) (marks : List L) : Type 0 where
  pub are_open : (a : L) → StandsIn marks a → IsOpenMark m a
  pub classes : (a : L) → StandsIn marks a → m.class_of a < k
  pub starts : (class item : ℕ) (b : L) → class < k → m.start class item ≡ Some b → IsMet m marks b
  pub steps : (a b : L) (item : ℕ) → StandsIn marks a → m.extend a item ≡ Some b → IsMet m marks b
  pub alone : AreAlone m marks
