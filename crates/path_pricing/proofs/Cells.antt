-- Lists of numbers by their places, and rows of running minima.
use Rattle.std.proofs.Common.{◌≡◌, ◌≢◌, ℕ, ℤ, pos, neg_ℤ, ◌+◌, ◌-◌, ◌*◌, ◌≤ℤ◌, ◌<◌, ◌≤◌, inl, inr, List, [], ◌∷◌, length, refl, sym, subst, ap, ◌∙◌, arith, slice_index_or, slice_set, zero, suc, suc-mul, mul-le-mul_right}
use Rattle.std.specs.Prelude.{slice_index, replicate}
use Rattle.std.proofs.Math.Nat.{eq-or-lt_of_le}
use Rattle.std.proofs.lemmas.Bool.{cases_eq}
use Rattle.std.proofs.lemmas.Int.{ints}
use Rattle.cover_core.specs.Plans.{number_at}
use Rattle.day_model.specs.Begins.{AreHeads}
use Rattle.path_pricing.specs.Rows.{AreBelow, AreModerate, AreRows, IsCellLowered, IsModerate, IsRowAdded, IsRowCopied}

pub number_set : (xs : List ℤ) (k : ℕ) (v : ℤ) → k < length xs → number_at (slice_set xs k v) k ≡ v
number_set [] k v h = absurd (omega arith)
number_set (x ∷ xs) zero v h = refl
number_set (x ∷ xs) (suc k) v h = number_set xs k v (omega arith)

pub number_other : (xs : List ℤ) (k j : ℕ) (v : ℤ) → k ≢ j → number_at (slice_set xs k v) j ≡ number_at xs j
number_other [] k j v h = refl
number_other (x ∷ xs) zero zero v h = absurd (h refl)
number_other (x ∷ xs) zero (suc j) v h = refl
number_other (x ∷ xs) (suc k) zero v h = refl
number_other (x ∷ xs) (suc k) (suc j) v h = number_other xs k j v (λ e. h (ap suc e))

pub set_length : (xs : List ℤ) (k : ℕ) (v : ℤ) → length (slice_set xs k v) ≡ length xs
set_length [] k v = refl
set_length (x ∷ xs) zero v = refl
set_length (x ∷ xs) (suc k) v = omega (arith, set_length xs k v)

pub number_read : (xs : List ℤ) (i : ℕ) (v : ℤ) → i < length xs → slice_index_or xs i v ≡ number_at xs i
number_read [] i v h = absurd (omega arith)
number_read (x ∷ xs) zero v h = refl
number_read (x ∷ xs) (suc i) v h = number_read xs i v (omega arith)

apart : (i k : ℕ) → i < k → k ≢ i
apart i k less same = absurd (omega (arith, less, same))

-- A row is copied from its first place on.
pub copied_none : (cells : List ℤ) (base width : ℕ) → IsRowCopied cells cells base width 0
copied_none cells base width = record { count = refl; kept = λ i h. refl; copied = λ p h. absurd (omega (arith, h)); moderate = λ h. h }

pub copied_more : (old cells : List ℤ) (base width end : ℕ) (v : ℤ) → end < width → base + width + width ≤ length old →
    v ≡ number_at cells (base + end) →
    IsRowCopied old cells base width end → IsRowCopied old (slice_set cells (base + width + end) v) base width (end + 1)
copied_more old cells base width end v less room is so_far =
    let at : ℕ = base + width + end in
    let count = so_far.count in
    let own : v ≡ number_at old (base + end) = is ∙ so_far.kept (base + end) (omega (arith, less)) in
    record {
      count = set_length cells at v ∙ count;
      kept = λ i h. number_other cells at i v (apart i at (omega (arith, h))) ∙ so_far.kept i h;
      copied = λ p h. elim (eq-or-lt_of_le {n = p} {m = end} (omega (arith, h))) [
        | inl same ↦
            let P : ℕ → Type 0 = λ q. number_at (slice_set cells at v) (base + width + q) ≡ number_at old (base + q) in
            subst P (sym same) (number_set cells at v (omega (arith, less, room, count)) ∙ own)
        | inr other ↦ number_other cells at (base + width + p) v (apart (base + width + p) at (omega (arith, other)))
            ∙ so_far.copied p other
      ];
      moderate = λ before i. elim (cases_eq at i) [
        | inl same ↦
            let P : ℤ → Type 0 = IsModerate in let Q : ℕ → Type 0 = λ j. IsModerate (number_at (slice_set cells at v) j) in
            subst Q same (subst P (sym (number_set cells at v (omega (arith, less, room, count)) ∙ own)) (before (base + end)))
        | inr other ↦ let P : ℤ → Type 0 = IsModerate in subst P (sym (number_other cells at i v other)) (so_far.moderate before i)
      ];
    }

-- a cell is lowered
pub lowered_at : (cells : List ℤ) (place : ℕ) (value least : ℤ) → place < length cells → least ≤ℤ number_at cells place → least ≤ℤ value →
    ((x : ℤ) → x ≤ℤ number_at cells place → x ≤ℤ value → x ≤ℤ least) → IsCellLowered cells (slice_set cells place least) place value
lowered_at cells place value least there first second both =
    let here = number_set cells place least there in
    record {
      count = set_length cells place least;
      kept = λ i h. number_other cells place i least (apart i place h);
      lower = λ i. elim (cases_eq place i) [
        | inl same ↦ let P : ℕ → Type 0 = λ j. number_at (slice_set cells place least) j ≤ℤ number_at cells j in
            subst P same (omega (arith, ints, here, first))
        | inr other ↦ let is = number_other cells place i least other in omega (arith, ints, is)
      ];
      own = omega (arith, ints, here, second);
      moderate = λ before fits i. elim (cases_eq place i) [
        | inl same ↦
            let old = before place in
            let old_low = old.low in
            let old_high = old.high in
            let low = fits.low in
            let above = both (neg_ℤ (pos 40000000000000000)) old_low low in
            let Q : ℕ → Type 0 = λ j. IsModerate (number_at (slice_set cells place least) j) in
            subst Q same (record { low = omega (arith, ints, here, above); high = omega (arith, ints, here, first, old_high) })
        | inr other ↦ let P : ℤ → Type 0 = IsModerate in subst P (sym (number_other cells place i least other)) (before i)
      ];
    }

-- a row is copied, and one number of the copy lowered
pub row_added : (old cells new : List ℤ) (base width number : ℕ) (value : ℤ) → number < width → IsRowCopied old cells base width width →
    IsCellLowered cells new (base + width + number) value →
    IsRowAdded old new base width number value
row_added old cells new base width number value less copied lowered = record {
  count = lowered.count ∙ copied.count;
  kept = λ i h. lowered.kept i (omega (arith, h)) ∙ copied.kept i h;
  lower = λ p h. (let low = lowered.lower (base + width + p) in let same = copied.copied p h in omega (arith, ints, low, same));
  own = lowered.own;
  moderate = λ before fits. lowered.moderate (copied.moderate before) fits;
}

-- One row more in the table of running minima: trips are gone through from the last one back, and the row of a trip is a copy of the
-- row behind it in which the number of the trip's own point is lowered to what the trip gives. So each row has, for each point, at
-- most what any trip from there on gives that begins at the point; rows of later trips stay as they are. A look-up of "the least
-- from this trip on, at this point" is then one cell.
pub rows_more : (old new : List ℤ) (count width base k : ℕ) (numbers : List ℕ) (before after : ℕ → ℤ) (value : ℤ) → k < count →
    base ≡ (count - (k + 1)) * width → AreBelow width numbers count →
    ((u : ℕ) → k < u → after u ≡ before u) → value ≡ after k → IsRowAdded old new base width (slice_index numbers k) value →
    AreRows count width (k + 1) numbers before old → AreRows count width k numbers after new
rows_more old new count width base k numbers before after value there is below same own added rows j u from up end =
    let p : ℕ = slice_index numbers u in
    let less = below u end in
    let one : count - k ≡ suc (count - (k + 1)) = omega (arith, there) in
    let next : (count - k) * width ≡ base + width =
    ap (λ n. n * width) one ∙ suc-mul (count - (k + 1)) width ∙ ap (λ n. n + width) (sym is) in
    elim (eq-or-lt_of_le {n = k} {m = j} from) [
      | inl first ↦
          let P : ℕ → Type 0 = λ j. number_at new ((count - j) * width + p) ≤ℤ after u in
          let at : ℕ → Type 0 = λ place. number_at new (place + p) ≤ℤ after u in
          subst P first (subst at (sym next) (elim (eq-or-lt_of_le {n = k} {m = u} (omega (arith, from, up))) [
            | inl here ↦
                let Q : ℕ → Type 0 = λ u. number_at new (base + width + slice_index numbers u) ≤ℤ after u in
                subst Q here (let low = added.own in omega (arith, ints, low, own))
            | inr later ↦
                let low = added.lower p less in
                let R : ℕ → Type 0 = λ place. number_at old (place + p) ≤ℤ before u in
                let was = subst R (sym is) (rows (k + 1) u (omega arith) (omega (arith, later)) end) in
                let value_same = same u later in
                omega (arith, ints, low, was, value_same)
          ]))
      | inr later ↦
          let less_rows : (count - j) * width ≤ base = rw is (mul-le-mul_right width (omega (arith, later))) in
          let kept = added.kept ((count - j) * width + p) (omega (arith, less_rows, less)) in
          let was = rows j u (omega (arith, later)) up end in
          let value_same = same u (omega (arith, later, up)) in
          omega (arith, ints, kept, was, value_same)
    ]

pub rows_none : (cells : List ℤ) (count width : ℕ) (numbers : List ℕ) (value : ℕ → ℤ) → AreRows count width count numbers value cells
rows_none cells count width numbers value j u from up end = absurd (omega (arith, from, up, end))

-- the row of a later place is there
pub room_for : (count t place width size : ℕ) → t < place → place ≤ count → (count - t) * width ≤ size →
    (count - place) * width + width ≤ size
room_for count t place width size after within room =
    let one : suc (count - place) ≤ count - t = omega (arith, after, within) in
    let more = mul-le-mul_right width one in
    omega (arith, room, more, suc-mul (count - place) width)

-- what is in a row at the number of a point is at most what each trip gives that begins there at the place or later
pub row_at : (count width from place number : ℕ) (numbers : List ℕ) (value : ℕ → ℤ) (cells : List ℤ) → from ≤ place →
    AreRows count width from numbers value cells →
    (u : ℕ) → u < count → slice_index numbers u ≡ number → place ≤ u → number_at cells ((count - place) * width + number) ≤ℤ value u
row_at count width from place number numbers value cells behind rows u there same after =
    let P : ℕ → Type 0 = λ n. number_at cells ((count - place) * width + n) ≤ℤ value u in
    subst P same (rows place u behind after there)

-- the number of each trip has a trip that has it
pub have_heads : (numbers heads : List ℕ) (u : ℕ) → u < length numbers → slice_index numbers u < length heads → AreHeads numbers heads 0 →
    (slice_index heads (slice_index numbers u) < length numbers)
    × (slice_index numbers (slice_index heads (slice_index numbers u)) ≡ slice_index numbers u)
have_heads numbers heads u there less are =
    let first = are.first u (omega arith) there in
    let inside : slice_index heads (slice_index numbers u) < length numbers = omega (arith, first, there) in
    let (from, own) = are.own (slice_index numbers u) less inside in
    (inside, own)

-- there is room for all rows from one on, and for two more behind those of the later trips
pub room_from : (count from k width size : ℕ) → from ≤ k → size ≡ (count - from + 1) * width → (count - k) * width ≤ size
room_from count from k width size behind is =
    let more = mul-le-mul_right width (rows_from count from k behind) in
    omega (arith, is, more)
  where
    rows_from : (count from k : ℕ) → from ≤ k → count - k ≤ count - from + 1
    rows_from count from k behind = omega (arith, behind)

pub room_two : (count from k width base size : ℕ) → from ≤ k → k < count → base ≡ (count - (k + 1)) * width →
    size ≡ (count - from + 1) * width → base + width + width ≤ size
room_two count from k width base size behind there at is =
    let few : suc (suc (count - (k + 1))) ≤ count - from + 1 = omega (arith, behind, there) in
    let more = mul-le-mul_right width few in
    omega (arith, at, is, more, suc-mul (suc (count - (k + 1))) width, suc-mul (count - (k + 1)) width)

pub base_more : (count k width base : ℕ) → k < count → base ≡ (count - (k + 1)) * width → base + width ≡ (count - k) * width
base_more count k width base there at =
    let one : count - k ≡ suc (count - (k + 1)) = omega (arith, there) in
    ap (λ n. n + width) at ∙ sym (suc-mul (count - (k + 1)) width) ∙ ap (λ n. n * width) (sym one)

-- equal numbers
pub equal_moderate : (n : ℕ) (v : ℤ) → IsModerate v → AreModerate (replicate n v)
equal_moderate zero v fits i = record { low = omega (arith, ints); high = omega (arith, ints) }
equal_moderate (suc n) v fits zero = fits
equal_moderate (suc n) v fits (suc i) = equal_moderate n v fits i

pub equal_count : (n : ℕ) (v : ℤ) → length (replicate n v) ≡ n
equal_count zero v = refl
equal_count (suc n) v = omega (arith, equal_count n v)
