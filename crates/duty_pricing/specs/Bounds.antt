-- Promise: completion bounds of duties: what the rest of a list adds to its value at least, for each amount of driving that is left.
use Rattle.std.specs.Coded.{Unit-prop}
use Rattle.std.proofs.Props.{props}
use Rattle.std.specs.Prelude.{◌≡◌, ◌≢◌, cond, nat_le, ℕ, zero, suc, ℤ, pos, neg_ℤ, ◌*◌, ◌/◌, ◌-◌, ◌<◌, ◌≤◌, ◌≤ℤ◌, ◌+ℤ◌, ◌-ℤ◌, List, [], ◌∷◌, length, Some, slice_get}
use Rattle.plan_core.specs.Limits.{most_price}
use Rattle.plan_core.specs.declared.types.Piece.{Piece}
use Rattle.plan_core.specs.declared.types.Price.{Price}
use Rattle.cover_core.specs.declared.marks.Mark.{Mark}
use Rattle.cover_core.specs.Plans.{number_at, price_at}
use Rattle.cover_core.specs.FirstLeast.{AllWithin}
use Rattle.plan_params.specs.declared.rows.group.Group.{Group}
use Rattle.duty_network.specs.Duties.{DutyFacts, limits_of, pause_at, sign_off}
use Rattle.duty_network.specs.Followers.{entry_at}
use Rattle.duty_network.specs.Marks.{first_mark}
use Rattle.duty_network.specs.Ranges.{MarkFits, off_value}
use Rattle.duty_pricing.specs.declared.reach.Reach.{Reach}

-- the row of a piece
abbrev pub row_at : List (List ℤ) → ℕ → List ℤ
row_at [] k = []
row_at (row ∷ rows) zero = row
row_at (row ∷ rows) (suc k) = row_at rows k

-- the number of a piece for an amount of driving that is left, in units
abbrev pub cell_at : List (List ℤ) → ℕ → ℕ → ℤ
cell_at rows k x = number_at (row_at rows k) x

-- the whole day of driving lies within the units, which are 40 minutes where it is told apart
pub record IsReach (r : Reach) : Type 0 where
  pub some : 0 < r.unit
  pub width : r.width ≤ 16
  pub day : 36000 / r.unit < r.width
  pub parted : r.width ≢ 1 → r.unit ≡ 2400

-- the rows that hold behind a pause: those of lists with a long pause where it is one, else those of lists without
abbrev pub behind : ℕ → ℕ → List (List ℤ) → List (List ℤ) → List (List ℤ)
behind long time rows over = cond (nat_le long time) over rows

-- A number that going on with a piece does not undercut, for an amount of driving left: where that ends in time and enough driving is left,
-- the piece's own number for what is left then, less its price. What is left is rounded down, and so is what is taken off: no less is left
-- than in truth.
abbrev pub IsUnder : DutyFacts → List Price → Reach → List (List ℤ) → ℕ → ℕ → ℤ → Type 0
IsUnder d prices r rows next x z =
    (q : Piece) → slice_get d.pieces next ≡ Some q → q.end.0 ≤ℤ r.until → q.driving / r.unit ≤ x → x < r.width →
    z ≤ℤ (cell_at rows next (x - q.driving / r.unit) -ℤ price_at prices next)

-- The row of a piece: for each amount of driving left a number that neither ending behind the piece in time undercuts, nor going on with a
-- later piece after a pause. Article 7 and the other limits are left out, since they only forbid.
pub record IsBoundRow (d : DutyFacts) (prices : List Price) (g : Group) (r : Reach) (long : ℕ) (last : ℤ) (rows over : List (List ℤ))
    (k : ℕ) (row : List ℤ) : Type 0 where
  pub closes : (p : Piece) (off : ℤ) (x : ℕ) → x < r.width → slice_get d.pieces k ≡ Some p → sign_off d g p ≡ Some off → off ≤ℤ last →
      number_at row x ≤ℤ off_value d.counts g off
  pub steps : (next time x : ℕ) → k < next → next < length d.pieces → pause_at d k next ≡ Some time →
      IsUnder d prices r (behind long time rows over) next x (number_at row x)

-- a number is the lower the more driving is left, and is out of reach at most
pub record IsFalling (row : List ℤ) : Type 0 where
  pub high : (x : ℕ) → number_at row x ≤ℤ pos 7000000000000
  pub falls : (x y : ℕ) → y ≤ x → x < 16 → number_at row x ≤ℤ number_at row y

abbrev pub AreFalling : List (List ℤ) → Type 0
AreFalling rows = (k : ℕ) → IsFalling (row_at rows k)

-- no number of a row is below this
abbrev pub IsLow : ℤ → List ℤ → Type 0
IsLow z row = (x : ℕ) → x < 16 → z ≤ℤ number_at row x

-- the least that the numbers of a piece can be
abbrev pub low_of : ℕ → ℤ
low_of k = neg_ℤ (pos 30000000000000000) +ℤ pos (most_price * k)

-- so many rows, whose numbers fall, and from a place on are not too low
pub record AreRows (n place : ℕ) (rows : List (List ℤ)) : Type 0 where
  pub count : length rows ≡ n
  pub falling : AreFalling rows
  pub low : (k : ℕ) → place ≤ k → k < n → IsLow (low_of k) (row_at rows k)

-- the rows of all pieces from a place on are bounds
pub record IsBoundFrom (d : DutyFacts) (prices : List Price) (g : Group) (r : Reach) (long : ℕ) (last : ℤ) (place : ℕ)
    (rows over : List (List ℤ)) : Type 0 where
  pub are : AreRows (length d.pieces) place rows
  pub bounds : (k : ℕ) → place ≤ k → k < length d.pieces → IsBoundRow d prices g r long last rows over k (row_at rows k)

-- no number of a table is above that of another one
abbrev pub AreBelow : List (List ℤ) → List (List ℤ) → Type 0
AreBelow over rows = (k x : ℕ) → x < 16 → cell_at over k x ≤ℤ cell_at rows k x

-- The bounds of lists without a long pause so far, and of lists with one: the former must end in time for a duty without a long pause,
-- unless one is still to come; the latter are no higher.
pub record AreBounds (d : DutyFacts) (prices : List Price) (g : Group) (r : Reach) (latest : ℤ) (place : ℕ)
    (rows over : List (List ℤ)) : Type 0 where
  pub plain : IsBoundFrom d prices g r 10800 (latest +ℤ pos (limits_of g).spread) place rows over
  pub long : IsBoundFrom d prices g r 0 (latest +ℤ pos 54000) place over over
  pub below : AreBelow over rows

-- so many rows that are out of reach
pub record AreOut (n : ℕ) (rows : List (List ℤ)) : Type 0 where
  pub count : length rows ≡ n
  pub falling : AreFalling rows
  pub low : (k : ℕ) → IsLow (pos 0) (row_at rows k)
  pub full : (k x : ℕ) → k < n → x < 16 → cell_at rows k x ≡ pos 7000000000000

-- the row of a piece in a chain: no going on with it or with a later piece of its number undercuts it
pub record IsChain (d : DutyFacts) (prices : List Price) (r : Reach) (numbers : List ℕ) (rows : List (List ℤ)) (place : ℕ)
    (chain : List (List ℤ)) : Type 0 where
  pub count : length chain ≡ length d.pieces
  pub low : (k : ℕ) → place ≤ k → k < length d.pieces →
      IsLow (neg_ℤ (pos 30000000000000000) +ℤ pos (most_price * k) -ℤ pos most_price) (row_at chain k)
  pub high : (k x : ℕ) → cell_at chain k x ≤ℤ pos 7000000000000
  pub under : (k later x : ℕ) → place ≤ k → k ≤ later → later < length d.pieces → entry_at numbers later ≡ entry_at numbers k →
      IsUnder d prices r rows later x (cell_at chain k x)

-- the row of a number: no going on with a piece of it from a place on undercuts it
pub record IsTail (d : DutyFacts) (prices : List Price) (r : Reach) (numbers : List ℕ) (rows : List (List ℤ)) (place : ℕ)
    (tail : List (List ℤ)) : Type 0 where
  pub count : length tail ≡ length d.pieces
  pub low : (m : ℕ) → IsLow (neg_ℤ (pos 30000000000000000) +ℤ pos (most_price * place) -ℤ pos most_price) (row_at tail m)
  pub high : (m x : ℕ) → cell_at tail m x ≤ℤ pos 7000000000000
  pub under : (later x : ℕ) → place ≤ later → later < length d.pieces →
      IsUnder d prices r rows later x (cell_at tail (entry_at numbers later) x)

-- a row lowered to what going on with a piece adds
pub record IsLoweredBy (d : DutyFacts) (prices : List Price) (r : Reach) (rows : List (List ℤ)) (next : ℕ) (old new : List ℤ) : Type 0 where
  pub at_most : (x : ℕ) → number_at new x ≤ℤ number_at old x
  pub under : (x : ℕ) → IsUnder d prices r rows next x (number_at new x)
  pub least : (z : ℤ) (x : ℕ) → x < 16 → z ≤ℤ number_at old x →
      z ≤ℤ (neg_ℤ (pos 30000000000000000) +ℤ pos (most_price * next) -ℤ pos most_price) → z ≤ℤ number_at new x

-- a row with the number at a place raised to another one, where it was below
pub record IsLifted (old new : List ℤ) (place : ℕ) (value : ℤ) : Type 0 where
  pub others : (k : ℕ) → k ≢ place → number_at new k ≡ number_at old k
  pub at_least : number_at old place ≤ℤ number_at new place
  pub above : value ≤ℤ number_at new place
  pub most : (z : ℤ) → number_at old place ≤ℤ z → value ≤ℤ z → number_at new place ≤ℤ z

-- a row raised to another one below a place, where it was lower
pub record IsRaised (old new by : List ℤ) (end : ℕ) : Type 0 where
  pub own : (x : ℕ) → number_at old x ≤ℤ number_at new x
  pub other : (x : ℕ) → x < end → number_at by x ≤ℤ number_at new x
  pub most : (z : ℤ) (x : ℕ) → number_at old x ≤ℤ z → number_at by x ≤ℤ z → number_at new x ≤ℤ z

-- a row with the number at a place lowered to another one, where it was above
pub record IsLowered (old new : List ℤ) (place : ℕ) (value : ℤ) : Type 0 where
  pub others : (k : ℕ) → k ≢ place → number_at new k ≡ number_at old k
  pub at_most : number_at new place ≤ℤ number_at old place
  pub below : number_at new place ≤ℤ value
  pub least : (z : ℤ) → z ≤ℤ number_at old place → z ≤ℤ value → z ≤ℤ number_at new place

-- a row lowered to what another one adds, with so many units of driving and a price taken off, at the places from one to another
pub record IsRowLowered (old new next : List ℤ) (shift width : ℕ) (price : ℤ) : Type 0 where
  pub at_most : (x : ℕ) → number_at new x ≤ℤ number_at old x
  pub below : (x : ℕ) → shift ≤ x → x < width → number_at new x ≤ℤ (number_at next (x - shift) -ℤ price)
  pub least : (z : ℤ) (x : ℕ) → z ≤ℤ number_at old x → (shift ≤ x → x < width → z ≤ℤ (number_at next (x - shift) -ℤ price)) →
      z ≤ℤ number_at new x

-- a row made to fall at the places below one, with nothing raised
pub record IsSettled (old new : List ℤ) (end : ℕ) : Type 0 where
  pub at_most : (x : ℕ) → number_at new x ≤ℤ number_at old x
  pub falls : (x y : ℕ) → y ≤ x → x < end → number_at new x ≤ℤ number_at new y
  pub least : (z : ℤ) → ((x : ℕ) → x < 16 → z ≤ℤ number_at old x) → (x : ℕ) → x < 16 → z ≤ℤ number_at new x

-- no list whose first piece is one from a first one on and before an end signs on later
abbrev pub IsLatest : DutyFacts → List Price → ℕ → Group → ℕ → ℕ → ℤ → Type 0
IsLatest d prices class g first end latest =
    (item : ℕ) (m : Mark) → first ≤ item → item < end → first_mark d prices class g item ≡ Some m → m.start.0 ≤ℤ latest

-- the mark of a list that begins in a range: it fits, its last piece is none before the range, and it signs on in time
pub record IsRangeMark (count first : ℕ) (latest : ℤ) (m : Mark) : Type 0 where
  pub fits : MarkFits count m
  pub from : first ≤ m.piece
  pub start : m.start.0 ≤ℤ latest

-- how many units of driving are left of a day's
abbrev pub units_left : Reach → Group → ℕ → ℕ
units_left r g total = ((limits_of g).day - total) / r.unit

-- what a list closes with at least: by the rows of lists with a long pause where it has one
abbrev pub floor_of : Reach → Group → List (List ℤ) → List (List ℤ) → Mark → ℤ
floor_of r g rows over m = m.value +ℤ cell_at (cond m.three over rows) m.piece (units_left r g m.total)

pub AllWithin-prop : (n : ℕ) (prices : List Price) → IsProp (AllWithin n prices)
AllWithin-prop n [] = Unit-prop
AllWithin-prop n (x ∷ xs) = hlevel (props, AllWithin-prop n xs)
