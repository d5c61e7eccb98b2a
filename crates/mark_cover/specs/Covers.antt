-- Promise: covers, and their gaps.
use Rattle.std.specs.Prelude.{◌≡◌, ℕ, ℤ, pos, neg_ℤ, ◌<◌, ◌≤◌, ◌≤ℤ◌, ◌<ℤ◌, ◌⊎◌, List, Some, slice_get, true}
use Rattle.plan_core.specs.declared.Price.{Price}
use Rattle.cover_core.specs.declared.marks.Gap.{Gap}
use Rattle.cover_core.specs.declared.marks.Gap.TheVariants.{First, Next, Close}
use Rattle.cover_core.specs.Cover.{Problem}
use Rattle.cover_core.specs.Plans.{IsPaid, number_at}
use Rattle.mark_cover.specs.Marking.{Marking}

-- a mark stands among others
abbrev pub StandsIn : {L : Type 0} → List L → L → Type 0
StandsIn marks a = (place : ℕ) × (slice_get marks place ≡ Some a)

-- some mark is at least as good
abbrev pub IsMet : {L : Type 0} → Marking L → List L → L → Type 0
IsMet {L} m marks b = (a : L) × StandsIn marks a × (m.good a b ≡ true)

-- a mark closes with a value below minus the price of its class
abbrev pub ClosesBelow : {L : Type 0} → Marking L → List ℤ → L → Type 0
ClosesBelow m class_prices a = (v : ℤ) × (m.close a ≡ Some v) × (v <ℤ neg_ℤ (number_at class_prices (m.class_of a)))

-- Marks are a cover: each open list of one item has a mark at least as good as its own, each open extension of a mark has one, and no
-- mark closes with a value below minus the price of its class.
pub record IsMarkCover {L : Type 0} (m : Marking L) (marks : List L) (class_prices : List ℤ) : Type 0 where
  pub starts : (class item : ℕ) (b : L) → class < m.classes → m.start class item ≡ Some b → IsMet m marks b
  pub steps : (a b : L) (item : ℕ) → StandsIn marks a → m.extend a item ≡ Some b → IsMet m marks b
  pub closes : (a : L) → StandsIn marks a → ClosesBelow m class_prices a → ⊥

-- What is not covered: an open list of one item, an open extension of the mark at a place, or the mark at a place where its list closes.
abbrev pub IsGap : {L : Type 0} → Marking L → List L → List ℤ → Gap → Type 0
IsGap {L} m marks class_prices (First class item) = (class < m.classes) × (b : L) × (m.start class item ≡ Some b) × (IsMet m marks b → ⊥)
IsGap {L} m marks class_prices (Next place item) =
    (a : L) × (slice_get marks place ≡ Some a) × (b : L) × (m.extend a item ≡ Some b) × (IsMet m marks b → ⊥)
IsGap {L} m marks class_prices (Close place) = (a : L) × (slice_get marks place ≡ Some a) × ClosesBelow m class_prices a

-- Gaps are ordered by their kinds, in this order, and then by their numbers.
abbrev pub IsNoLater : Gap → Gap → Type 0
IsNoLater (First class item) (First class' item') = (class < class') ⊎ ((class ≡ class') × (item ≤ item'))
IsNoLater (First class item) (Next place item') = Unit {0}
IsNoLater (First class item) (Close place) = Unit {0}
IsNoLater (Next place item) (First class item') = ⊥
IsNoLater (Next place item) (Next place' item') = (place < place') ⊎ ((place ≡ place') × (item ≤ item'))
IsNoLater (Next place item) (Close place') = Unit {0}
IsNoLater (Close place) (First class item) = ⊥
IsNoLater (Close place) (Next place' item) = ⊥
IsNoLater (Close place) (Close place') = place ≤ place'

-- a gap, and none is before it
pub record IsFirstGap {L : Type 0} (m : Marking L) (marks : List L) (class_prices : List ℤ) (gap : Gap) : Type 0 where
  pub is_gap : IsGap m marks class_prices gap
  pub first : (other : Gap) → IsGap m marks class_prices other → IsNoLater gap other

-- A cover with class prices of at least 0 implies that prices are paid, for every list of marks.
abbrev pub CoverIsPaid : {L : Type 0} → Marking L → Problem → List Price → Type 0
CoverIsPaid {L} m p prices =
    (marks : List L) (class_prices : List ℤ) → ((class : ℕ) → class < m.classes → pos 0 ≤ℤ number_at class_prices class) →
    IsMarkCover m marks class_prices → IsPaid p prices class_prices
