-- Promise: what ties the labels of a rest to its worths.
use Rattle.std.specs.Prelude.{◌≡◌, ◌≢◌, ℕ, ℤ, ◌<◌, ◌≤◌, ◌/◌, Bool, List, [], ◌∷◌, ◌++◌, length, Option, Some, slice_get}
use Rattle.plan_core.specs.declared.Price.{Price}
use Rattle.cover_core.specs.Cover.{Problem}
use Rattle.cover_core.specs.Labels.{Labelling, label_of}
use Rattle.cover_core.specs.Plans.{value_of}
use Rattle.label_search.specs.Pricing.{IsTiedInGroup}
use Rattle.cover_rest.specs.declared.begun.Begun.{Begun}
use Rattle.cover_rest.specs.Rest.{bodies, rest_of, body_at, rest_worth}
use Rattle.rest_labels.specs.Labels.{is_set, may_follow, may_start, more_after}
use Rattle.rest_labels.specs.Groups.{group_labels}
use Rattle.rest_labels.specs.Prices.{AreAlike}

-- Marks say how lists of the rest in a class begin and go on: with a head of the class or with what may be begun now, and not behind a
-- finished head. There is a mark for each head whether it is finished.
pub record AreMarks (heads : List Begun) (bs : List (List ℕ)) (may : ℕ → List ℕ → Bool) (class : ℕ)
    (starts ended : List Bool) : Type 0 where
  pub starts_is : (x : ℕ) → x < length bs → is_set starts x ≡ may_start may class (slice_get heads x) (body_at bs x)
  pub ended_is : (x : ℕ) → x < length bs → more_after ended x ≡ may_follow (slice_get heads x)
  pub each : length ended ≡ length heads

-- What items of the rest stand for, at prices: no item stands for nothing, whether a list may be begun now is seen in what its first item
-- stands for, and a written-out list has the same prices as the list.
pub record AreBodies (bs : List (List ℕ)) (may : ℕ → List ℕ → Bool) (class : ℕ) (prices spread : List Price) : Type 0 where
  pub some : (x : ℕ) → x < length bs → body_at bs x ≢ []
  pub first : (x : ℕ) (more : List ℕ) → x < length bs → may class (body_at bs x ++ more) ≡ may class (body_at bs x)
  pub alike : AreAlike bs prices spread

-- What the items of the rest in a group stand for begins with an item from a first one on and before an end: so do the written-out lists of
-- the group.
abbrev pub BeginWithin : List (List ℕ) → ℕ → ℕ → ℕ → Type 0
BeginWithin bs group first end = (x y : ℕ) (ys : List ℕ) → x / 16 ≡ group → body_at bs x ≡ y ∷ ys → (first ≤ y) × (y < end)

-- A list that begins with an item from a first one on and before an end has a worth exactly where it has a label that closes, and it
-- closes with its value; no other list has a label that closes.
pub record IsTiedWithin {L : Type 0} (first end : ℕ) (w : Labelling L) (close : L → Option ℤ) (prices : List Price)
    (worth_of : List ℕ → Option ℕ) : Type 0 where
  pub onto : (x : ℕ) (xs : List ℕ) (worth : ℕ) → first ≤ x → x < end → worth_of (x ∷ xs) ≡ Some worth →
      (a : L) × (label_of w (x ∷ xs) ≡ Some a) × (close a ≡ Some (value_of prices worth (x ∷ xs)))
  pub from : (list : List ℕ) (a : L) (v : ℤ) → label_of w list ≡ Some a → close a ≡ Some v →
      (worth : ℕ) × (worth_of list ≡ Some worth) × (v ≡ value_of prices worth list)

-- labels that are tied to the worths of a class give labels of a rest that are tied, in each group, to the rest's worths
abbrev pub IsRestTied : {L : Type 0} → Labelling L → (L → Option ℤ) → Type 0
IsRestTied {L} w close =
    (p : Problem) (heads : List Begun) (bs : List (List ℕ)) (may : ℕ → List ℕ → Bool) (class : ℕ)
    (starts ended : List Bool) (prices spread : List Price) (group first end : ℕ) →
    AreMarks heads bs may class starts ended → AreBodies bs may class prices spread → BeginWithin bs group first end →
    IsTiedWithin first end w close spread (p.worth class) →
    IsTiedInGroup (group_labels w bs starts ended group) (λ a. close a.label) prices group (rest_worth p heads bs may class)

-- labels price a rest of a problem in a class and group: what its items stand for and the marks are as the heads say, and the labels of
-- written-out lists, as far as lists of the group begin, are tied to the problem's worths at spread prices
pub record PricesRest {L : Type 0} (p : Problem) (heads : List Begun) (may : ℕ → List ℕ → Bool) (class group : ℕ) (rest : Problem)
    (bs : List (List ℕ)) (starts ended : List Bool) (w : Labelling L) (close : L → Option ℤ) (prices spread : List Price) : Type 0 where
  pub rest_is : rest ≡ rest_of p heads may
  pub bodies_are : bs ≡ bodies heads p.items
  pub marks : AreMarks heads bs may class starts ended
  pub are : AreBodies bs may class prices spread
  pub first : ℕ
  pub end : ℕ
  pub begin : BeginWithin bs group first end
  pub tied : IsTiedWithin first end w close spread (p.worth class)
