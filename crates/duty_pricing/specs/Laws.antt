-- Promise: the laws of the marks of lists whose first pieces are a range, under completion bounds.
use Rattle.std.proofs.Common.{◌≡◌, ℕ, ℤ, pos, ◌+◌, ◌-◌, ◌*◌, ◌/◌, ◌+ℤ◌, ◌-ℤ◌, ◌≤ℤ◌, ◌<ℤ◌, ◌<◌, ◌≤◌, Bool, true, false, cond, List, length, refl, sym, ap, subst, ◌∙◌, arith}
use Rattle.std.proofs.lemmas.Int.{ints}
use Rattle.std.proofs.lemmas.Bool.Decides.{nat_tests}
use Rattle.std.specs.Prelude.{◌||◌, Option, Some, None, int_le, nat_le, nat_lt, slice_get}
use Rattle.std.proofs.lemmas.Bool.{and_parts}
use Rattle.plan_core.specs.Limits.{most_price}
use Rattle.plan_core.specs.declared.types.Piece.{Piece}
use Rattle.plan_core.specs.declared.types.Price.{Price}
use Rattle.cover_core.specs.Plans.{price_at}
use Rattle.cover_core.specs.FirstLeast.{AllWithin}
use Rattle.cover_core.specs.Labels.{IsKept, IsValued, Labelling}
use Rattle.cover_core.specs.declared.marks.Mark.{Mark}
use Rattle.label_search.specs.Laws.{GoodAs, HidesNone, IsFloor, IsSafe, IsStepwise}
use Rattle.label_search.specs.Levels.{IsAbove, NoneFollows, NoneFollowsAbove, NoneReachesAbove}
use Rattle.label_search.specs.Limits.{is_low, passed}
use Rattle.label_search.specs.Pricing.{IsTiedInGroup, is_between, of_range}
use Rattle.label_search.proofs.Limits.{floor-hides}
use Rattle.label_search.proofs.Pricing.{of_range-tied, of_start-hides, of_start-kept, of_start-stepwise, of_start-valued, start-parts}
use Rattle.plan_params.specs.declared.rows.group.Group.{Group}
use Rattle.plan_params.specs.Limits.{IsGroup}
use Rattle.duty_network.specs.Duties.{DutyFacts, duty_worth, limits_of, pause, pause_at, sign_off}
use Rattle.duty_network.specs.Marks.{closed_value, extended_mark, is_as_good, is_open, marking, next_mark}
use Rattle.duty_network.specs.Ranges.{NetFits, off_value}
use Rattle.duty_network.proofs.Better.{Some-same, and_then-Some, given-Some}
use Rattle.duty_network.proofs.Sizes.{marking-safe, timed-from}
use Rattle.duty_network.proofs.Tied.{at-below, later-piece, marking-stepwise, marking-tied, test-good, test-kept, test-valued}
use Rattle.duty_pricing.specs.Bounds.{AreBelow, AreBounds, AreFalling, IsRangeMark, IsLatest, IsReach, IsUnder, behind, cell_at, floor_of, units_left}
use Rattle.duty_pricing.specs.declared.reach.Reach.{Reach}
use Rattle.duty_pricing.specs.Units.{units-after, units-fall, units-few}

-- the marks of the lists whose first piece is one from a first one on and before an end
abbrev pub duty_labels : DutyFacts → List Price → ℕ → Group → ℕ → ℕ → Labelling Mark
duty_labels d prices class g first end = of_range (marking d prices class g) first end

pub duty-kept : (d : DutyFacts) (prices : List Price) (class : ℕ) (g : Group) (first end : ℕ) →
    IsKept (duty_labels d prices class g first end) (GoodAs is_as_good)
duty-kept d prices class g first end =
    of_start-kept (marking d prices class g) (GoodAs is_as_good) (is_between first end) (test-kept d prices class g)

pub duty-valued : (d : DutyFacts) (prices : List Price) (class : ℕ) (g : Group) (first end : ℕ) →
    IsValued (duty_labels d prices class g first end) (GoodAs is_as_good) (λ m. m.value) (closed_value d g)
duty-valued d prices class g first end =
    of_start-valued (marking d prices class g) (GoodAs is_as_good) (λ m. m.value) (closed_value d g) (is_between first end)
    (test-valued d prices class g)

pub duty-stepwise : (d : DutyFacts) (prices : List Price) (class : ℕ) (g : Group) (first end : ℕ) →
    IsStepwise (duty_labels d prices class g first end) (length d.pieces) (λ m. m.piece)
duty-stepwise d prices class g first end =
    of_start-stepwise (marking d prices class g) (length d.pieces) (λ m. m.piece) (is_between first end) (marking-stepwise d prices class g)

le-of : (a b : ℕ) → nat_le a b ≡ true → a ≤ b
le-of a b h = grind (arith, nat_tests)

at-most : (a b : ℤ) → int_le a b ≡ true → a ≤ℤ b
at-most a b h = grind (arith, ints)

between-from : (first end x : ℕ) → is_between first end x ≡ true → first ≤ x
between-from first end x h = grind (arith, nat_tests)

between-before : (first end x : ℕ) → is_between first end x ≡ true → x < end
between-before first end x h = grind (arith, nat_tests)

-- what an extension needs, and what it is
pub extended-parts : (d : DutyFacts) (g : Group) (prices : List Price) (a b : Mark) (k : ℕ) → extended_mark d g prices a k ≡ Some b →
    (p : Piece) × (q : Piece) × (time : ℕ) × (slice_get d.pieces a.piece ≡ Some p) × (slice_get d.pieces k ≡ Some q)
    × (pause d p q ≡ Some time) ×
    (nat_lt a.piece k ≡ true) × (is_open g (next_mark g prices a time k q) q.end.0 ≡ true) × (next_mark g prices a time k q ≡ b)
extended-parts d g prices a b k e =
    let (p, is_p, e1) = and_then-Some _ (slice_get d.pieces a.piece) b e in
    let (q, is_q, e2) = and_then-Some _ (slice_get d.pieces k) b e1 in
    let (time, is_time, e3) = and_then-Some _ (pause d p q) b e2 in
    let (test, made) = given-Some _ _ b e3 in
    let (later, opened) = and_parts _ _ test in
    (p, q, time, is_p, is_q, is_time, later, opened, Some-same (next_mark g prices a time k q) b made)

-- what is opened keeps the day's driving, and ends in time
pub open-parts : (g : Group) (m : Mark) (end : ℤ) → is_open g m end ≡ true →
    (m.total ≤ (limits_of g).day) × (end ≤ℤ (m.start.0 +ℤ pos 54000))
open-parts g m end e =
    let (first, in_time) = and_parts _ _ e in
    let (block, day) = and_parts _ _ first in
    (le-of m.total (limits_of g).day day, at-most end (m.start.0 +ℤ pos 54000) in_time)

pub duty-safe : (d : DutyFacts) (prices : List Price) (class : ℕ) (g : Group) (first end : ℕ) (latest : ℤ) → NetFits d → IsGroup g →
    AllWithin most_price prices →
    IsLatest d prices class g first end latest →
    IsSafe (duty_labels d prices class g first end) (IsRangeMark (length d.pieces) first latest)
duty-safe d prices class g first end latest f ranges w starts =
    let safe = marking-safe d prices class g f ranges w in
    let stepwise = marking-stepwise d prices class g in
    record {
      starts = λ item a e.
          let (test, made) = start-parts _ _ a e in
          let from = between-from first end item test in
          let (below, last) = stepwise.starts item a made in
          record {
            fits = safe.starts item a made;
            from = (omega arith);
            start =
                starts item a from (between-before first end item test) made;
          };
      steps = λ a b item s e.
          let (p, q, time, is_p, is_q, is_time, later, opened, same) = extended-parts d g prices a b item e in
          let (order, below, last) = stepwise.steps a b item e in
          let start = s.start in let from = s.from in
          let P : Mark → Type 0 = λ m. m.start.0 ≤ℤ latest in
          record { fits = safe.steps a b item s.fits e; from = (omega arith); start = subst P same start };
    }

-- where one table is below another, it is below both
chosen-below : (is : Bool) (over rows : List (List ℤ)) (k x : ℕ) → AreBelow over rows → x < 16 →
    cell_at over k x ≤ℤ cell_at (cond is over rows) k x
chosen-below true over rows k x below less = omega (arith, ints)
chosen-below false over rows k x below less = below k x less

chosen-falls : (is : Bool) (over rows : List (List ℤ)) → AreFalling over → AreFalling rows → AreFalling (cond is over rows)
chosen-falls true over rows f g = f
chosen-falls false over rows f g = g

same-over : (b : Bool) (rows : List (List ℤ)) → cond b rows rows ≡ rows
same-over true rows = refl
same-over false rows = refl

-- going on with a piece adds no less than its row tells
pub step-floor : (d : DutyFacts) (prices : List Price) (g : Group) (r : Reach) (latest : ℤ) (first : ℕ) (rows over : List (List ℤ))
    (a b : Mark) (k : ℕ) → IsReach r →
    AreBounds d prices g r latest first rows over → extended_mark d g prices a k ≡ Some b →
    (q : Piece) × (slice_get d.pieces k ≡ Some q) × (q.driving / r.unit ≤ units_left r g a.total) ×
    (((a.value -ℤ price_at prices k) +ℤ cell_at (cond b.three over rows) k (units_left r g a.total - q.driving / r.unit))
    ≤ℤ floor_of r g rows over b) ×
    (((a.value -ℤ price_at prices k) +ℤ cell_at over k (units_left r g a.total - q.driving / r.unit)) ≤ℤ floor_of r g rows over b)
step-floor d prices g r latest first rows over a b k reach bound e =
    let (p, q, time, is_p, is_q, is_time, later, opened, same) = extended-parts d g prices a b k e in
    let (day, in_time) = open-parts g (next_mark g prices a time k q) q.end.0 opened in
    let after = units-after r g a.total q.driving reach.some day in
    let few = units-few r g a.total reach in
    let width = reach.width in
    let table = cond b.three over rows in
    let falling : AreFalling table = chosen-falls b.three over rows bound.long.are.falling bound.plain.are.falling in
    let falls = (falling k).falls (units_left r g a.total - q.driving / r.unit) (units_left r g (a.total + q.driving))
    (omega arith) (omega arith) in
    let P : Mark → Type 0 =
    λ m. ((a.value -ℤ price_at prices k) +ℤ cell_at table k (units_left r g a.total - q.driving / r.unit)) ≤ℤ
    (m.value +ℤ cell_at table k (units_left r g m.total)) in
    let made : (m : Mark) → Type 0 = λ m. m.piece ≡ k in
    let at : b.piece ≡ k = subst made same refl in
    let Q : ℕ → Type 0 = λ n. ((a.value -ℤ price_at prices k) +ℤ cell_at table k (units_left r g a.total - q.driving / r.unit)) ≤ℤ
    (b.value +ℤ cell_at table n (units_left r g b.total)) in
    let floor = subst Q (sym at) (subst P same (omega (arith, ints))) in
    let lower = chosen-below b.three over rows k (units_left r g a.total - q.driving / r.unit) bound.below (omega arith) in
    (q, is_q, omega arith, floor, omega (arith, ints))

-- the rows behind a pause of no length or longer
all-over : (time : ℕ) (rows : List (List ℤ)) → behind 0 time rows rows ≡ rows
all-over time rows = same-over (nat_le 0 time) rows

-- what a row says of the mark that goes on: with a long pause so far, and without
step-row : (d : DutyFacts) (prices : List Price) (g : Group) (r : Reach) (latest : ℤ) (first : ℕ) (rows over : List (List ℤ))
    (three : Bool) (k next time x : ℕ) →
    AreBounds d prices g r latest first rows over → first ≤ k → k < length d.pieces → k < next → next < length d.pieces →
    pause_at d k next ≡ Some time →
    IsUnder d prices r (cond (three || nat_le 10800 time) over rows) next x (cell_at (cond three over rows) k x)
step-row d prices g r latest first rows over true k next time x bound from below order there is_time =
    let P : List (List ℤ) → Type 0 = λ l. IsUnder d prices r l next x (cell_at over k x) in
    subst P (all-over time over) ((bound.long.bounds k from below).steps next time x order there is_time)
step-row d prices g r latest first rows over false k next time x bound from below order there is_time =
    (bound.plain.bounds k from below).steps next time x order there is_time

-- what a row says of a list that closes
close-row : (d : DutyFacts) (prices : List Price) (g : Group) (r : Reach) (latest : ℤ) (first : ℕ) (rows over : List (List ℤ))
    (three : Bool) (k x : ℕ) (p : Piece) (off : ℤ) →
    AreBounds d prices g r latest first rows over → first ≤ k → k < length d.pieces → x < r.width → slice_get d.pieces k ≡ Some p →
    sign_off d g p ≡ Some off →
    off ≤ℤ (latest +ℤ pos (cond three (limits_of g).long_spread (limits_of g).spread)) →
    cell_at (cond three over rows) k x ≤ℤ off_value d.counts g off
close-row d prices g r latest first rows over true k x p off bound from below less is_p is_off in_time =
    (bound.long.bounds k from below).closes p off x less is_p is_off in_time
close-row d prices g r latest first rows over false k x p off bound from below less is_p is_off in_time =
    (bound.plain.bounds k from below).closes p off x less is_p is_off in_time

-- No continuation closes below the value and the number of its last piece for the driving that is left.
pub bound-floor : (d : DutyFacts) (prices : List Price) (class : ℕ) (g : Group) (first : ℕ) (r : Reach) (latest : ℤ)
    (rows over : List (List ℤ)) → IsReach r → r.until ≡ latest +ℤ pos 54000 →
    AreBounds d prices g r latest first rows over →
    IsFloor (marking d prices class g) (closed_value d g) (IsRangeMark (length d.pieces) first latest) (floor_of r g rows over)
bound-floor d prices class g first r latest rows over reach until bound = record {
  closes = λ a v s e.
      let (p, is_p, e1) = and_then-Some _ (slice_get d.pieces a.piece) v e in
      let (off, is_off, e2) = and_then-Some _ (sign_off d g p) v e1 in
      let (test, made) = given-Some _ _ v e2 in
      let same : a.value +ℤ off_value d.counts g off ≡ v = Some-same _ v made in
      let (other, spread) = and_parts _ _ test in
      let within = at-most (off -ℤ a.start.0) (pos (cond a.three (limits_of g).long_spread (limits_of g).spread)) spread in
      let start = s.start in
      let least = close-row d prices g r latest first rows over a.three a.piece (units_left r g a.total) p off bound s.from s.fits.piece
      (units-few r g a.total reach) is_p is_off (omega (arith, ints)) in
      omega (arith, ints);
  steps = λ a b k s e.
      let (p, q, time, is_p, is_q, is_time, later, opened, same) = extended-parts d g prices a b k e in
      let (day, in_time) = open-parts g (next_mark g prices a time k q) q.end.0 opened in
      let order = later-piece a.piece k later in
      let (q', is_q', taken, floor, lower) = step-floor d prices g r latest first rows over a b k reach bound e in
      let one : q' ≡ q = Some-same q' q (sym is_q' ∙ is_q) in
      let there : pause_at d a.piece k ≡ Some time =
      (let here : pause_at d a.piece k ≡ pause d p q = rw (is_p, is_q) refl in here ∙ is_time) in
      let start = s.start in
      let Q : Piece → Type 0 = λ x. x.end.0 ≤ℤ r.until in
      let made : Mark → Type 0 =
      λ m. IsUnder d prices r (cond m.three over rows) k (units_left r g a.total)
      (cell_at (cond a.three over rows) a.piece (units_left r g a.total)) in
      let under = subst made same
      (step-row d prices g r latest first rows over a.three a.piece k time (units_left r g a.total) bound s.from s.fits.piece order
      (at-below d.pieces k q is_q) there) in
      let least = under q' is_q' (subst Q (sym one) (omega (arith, ints))) taken (units-few r g a.total reach) in
      omega (arith, ints);
}

-- the table of a mark that is at least as good is no higher
kept-below : (a b : Bool) (over rows : List (List ℤ)) (k x : ℕ) → (b ≡ true → a ≡ true) → AreBelow over rows → x < 16 →
    cell_at (cond a over rows) k x ≤ℤ cell_at (cond b over rows) k x
kept-below true b over rows k x h below less = chosen-below b over rows k x below less
kept-below false true over rows k x h below less = absurd (let bad = h refl in cc)
kept-below false false over rows k x h below less = omega (arith, ints)

floor-ordered : (d : DutyFacts) (prices : List Price) (g : Group) (latest : ℤ) (first : ℕ) (r : Reach) (rows over : List (List ℤ)) →
    IsReach r → AreBounds d prices g r latest first rows over →
    (a b : Mark) → is_as_good a b ≡ true → floor_of r g rows over a ≤ℤ floor_of r g rows over b
floor-ordered d prices g latest first r rows over reach bound a b h =
    let good = test-good a b h in
    let value = good.value in
    let few = units-few r g a.total reach in
    let width = reach.width in
    let falling : AreFalling (cond a.three over rows) = chosen-falls a.three over rows bound.long.are.falling bound.plain.are.falling in
    let fall = units-fall r g a.total b.total reach.some good.total in
    let falls = (falling a.piece).falls (units_left r g a.total) (units_left r g b.total) fall (omega arith) in
    let lower = kept-below a.three b.three over rows a.piece (units_left r g b.total) good.three bound.below (omega arith) in
    let P : ℕ → Type 0 = λ k. cell_at (cond a.three over rows) a.piece (units_left r g a.total) ≤ℤ cell_at (cond b.three over rows)
    k (units_left r g b.total) in
    let there = subst P good.piece (omega (arith, ints)) in
    omega (arith, ints)

pub duty-hides : (d : DutyFacts) (prices : List Price) (class : ℕ) (g : Group) (first end : ℕ) (r : Reach) (latest : ℤ)
    (rows over : List (List ℤ)) → IsReach r → r.until ≡ latest +ℤ pos 54000 →
    AreBounds d prices g r latest first rows over →
    HidesNone (duty_labels d prices class g first end) is_as_good (closed_value d g) (IsRangeMark (length d.pieces) first latest)
    (is_low (floor_of r g rows over))
duty-hides d prices class g first end r latest rows over reach until bound =
    of_start-hides (marking d prices class g) is_as_good (closed_value d g) (IsRangeMark (length d.pieces) first latest)
    (is_low (floor_of r g rows over)) (is_between first end)
    (floor-hides (marking d prices class g) is_as_good (closed_value d g) (IsRangeMark (length d.pieces) first latest)
    (floor_of r g rows over)
    (floor-ordered d prices g latest first r rows over reach bound)
    (bound-floor d prices class g first r latest rows over reach until bound))

-- a list of a group has a worth exactly where it has a mark that closes
pub duty-tied : (d : DutyFacts) (prices : List Price) (class : ℕ) (g : Group) (group : ℕ) →
    slice_get d.params.groups class ≡ Some g → NetFits d →
    IsTiedInGroup (duty_labels d prices class g (16 * group) (16 * group + 16)) (closed_value d g) prices group (duty_worth d class)
duty-tied d prices class g group is_g f =
    of_range-tied (marking d prices class g) (closed_value d g) prices group (duty_worth d class)
    (marking-tied d prices class g is_g (timed-from d.pieces f.shifts))

over-limit : (x y : ℤ) → y <ℤ x → int_le x y ≡ false
over-limit x y h = grind (arith, ints)

-- what lies above a limit does not pass
none-passes : (o : Option Mark) (floor : Mark → ℤ) (limit : ℤ) → ((b : Mark) → o ≡ Some b → limit <ℤ floor b) →
    passed (is_low floor limit) o ≡ None
none-passes None floor limit h = refl
none-passes (Some b) floor limit h = ap (λ t. cond t (Some b) None) (over-limit (floor b) limit (h b refl))

-- a mark that is above the limit once it goes on with a piece
pub none-after : (d : DutyFacts) (prices : List Price) (g : Group) (r : Reach) (latest : ℤ) (first : ℕ) (rows over : List (List ℤ))
    (limit : ℤ) (a : Mark) (k : ℕ) (q : Piece) → IsReach r →
    AreBounds d prices g r latest first rows over → slice_get d.pieces k ≡ Some q →
    limit <ℤ ((a.value -ℤ price_at prices k) +ℤ cell_at over k (units_left r g (a.total + q.driving))) →
    passed (is_low (floor_of r g rows over) limit) (extended_mark d g prices a k) ≡ None
none-after d prices g r latest first rows over limit a k q reach bound is_q high =
    none-passes (extended_mark d g prices a k) (floor_of r g rows over) limit
    (λ b e.
    let (p, q', time, is_p, is_q', is_time, later, opened, same) = extended-parts d g prices a b k e in
    let one : q ≡ q' = Some-same q q' (sym is_q ∙ is_q') in
    let P : Piece → Type 0 = λ x. limit <ℤ ((a.value -ℤ price_at prices k) +ℤ cell_at over k (units_left r g (a.total + x.driving))) in
    let above = subst P one high in
    let few = units-few r g (a.total + q'.driving) reach in
    let width = reach.width in
    let below = chosen-below (next_mark g prices a time k q').three over rows k (units_left r g (a.total + q'.driving))
    bound.below (omega arith) in
    let Q : Mark → Type 0 = λ m. limit <ℤ floor_of r g rows over m in
    subst Q same (omega (arith, ints)))

-- a value that is too high for the piece, however much driving is left
pub none-high : (d : DutyFacts) (prices : List Price) (g : Group) (r : Reach) (latest : ℤ) (first : ℕ) (rows over : List (List ℤ))
    (limit : ℤ) (a : Mark) (item : ℕ) → IsReach r →
    AreBounds d prices g r latest first rows over → limit <ℤ ((a.value -ℤ price_at prices item) +ℤ cell_at over item 15) →
    passed (is_low (floor_of r g rows over) limit) (extended_mark d g prices a item) ≡ None
none-high d prices g r latest first rows over limit a item reach bound high =
    none-passes (extended_mark d g prices a item) (floor_of r g rows over) limit
    (λ b e.
    let (q, is_q, taken, floor, lower) = step-floor d prices g r latest first rows over a b item reach bound e in
    let few = units-few r g a.total reach in
    let width = reach.width in
    let falls = (bound.long.are.falling item).falls 15 (units_left r g a.total - q.driving / r.unit) (omega arith) (omega arith) in
    omega (arith, ints))

-- so values above the most are
pub none-reaches : (d : DutyFacts) (prices : List Price) (class : ℕ) (g : Group) (first end : ℕ) (r : Reach) (latest : ℤ)
    (rows over : List (List ℤ)) (limit most : ℤ) (item : ℕ) → IsReach r →
    AreBounds d prices g r latest first rows over →
    ((v : ℤ) → IsAbove most v → limit <ℤ ((v -ℤ price_at prices item) +ℤ cell_at over item 15)) →
    NoneReachesAbove (duty_labels d prices class g first end) (IsRangeMark (length d.pieces) first latest) (λ m. m.value)
    (is_low (floor_of r g rows over) limit) item most
none-reaches d prices class g first end r latest rows over limit most item reach bound high a s more =
    none-high d prices g r latest first rows over limit a item reach bound (high a.value more)

-- no pause between the pieces
pub none-follows : (d : DutyFacts) (prices : List Price) (class : ℕ) (g : Group) (first end : ℕ) (latest : ℤ)
    (test : Mark → Bool) (before item : ℕ) →
    pause_at d before item ≡ None →
    NoneFollows (duty_labels d prices class g first end) (IsRangeMark (length d.pieces) first latest) (λ m. m.piece) test before item
none-follows d prices class g first end latest test before item none a s ends =
    elim (extended_mark d g prices a item) as (λ o. extended_mark d g prices a item ≡ o → passed test o ≡ None) [
      | None ↦ λ is. refl
      | Some b ↦ λ is.
          let (p, q, time, is_p, is_q, is_time, later, opened, same) = extended-parts d g prices a b item is in
          let at_before : slice_get d.pieces before ≡ Some p = ap (slice_get d.pieces) (sym ends) ∙ is_p in
          let there : pause_at d before item ≡ Some time =
          (let here : pause_at d before item ≡ pause d p q = rw (at_before, is_q) refl in here ∙ is_time) in
          absurd (let bad : None ≡ Some time = sym none ∙ there in cc)
    ] refl

-- values that do not reach the piece do not follow another one
pub follows-none : (d : DutyFacts) (prices : List Price) (class : ℕ) (g : Group) (first end : ℕ) (latest : ℤ) (test : Mark → Bool)
    (before item : ℕ) (most : ℤ) →
    NoneReachesAbove (duty_labels d prices class g first end) (IsRangeMark (length d.pieces) first latest) (λ m. m.value) test item most →
    NoneFollowsAbove (duty_labels d prices class g first end) (IsRangeMark (length d.pieces) first latest) (λ m. m.piece)
    (λ m. m.value) test before item most
follows-none d prices class g first end latest test before item most h a s ends more = h a s more
