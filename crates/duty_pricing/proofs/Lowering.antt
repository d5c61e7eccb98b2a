-- Rows of numbers that are lowered place by place.
use Rattle.std.proofs.Common.{◌≡◌, ◌≢◌, ℕ, ℤ, pos, ◌+◌, ◌-◌, ◌<◌, ◌≤◌, ◌-ℤ◌, ◌≤ℤ◌, zero, suc, List, [], ◌∷◌, length, set, get_or, refl, sym, ap, subst, ◌∙◌, arith}
use Rattle.std.proofs.lemmas.Int.{ints}
use Rattle.cover_core.specs.Plans.{number_at}
use Rattle.duty_pricing.specs.Bounds.{IsLifted, IsLowered, IsRaised, IsRowLowered, IsSettled, row_at}

pub split : (P : Type 0) (a b : ℕ) → (a ≡ b → P) → (a ≢ b → P) → P
split P zero zero f g = f refl
split P zero (suc b) f g = g (λ e. absurd (omega arith))
split P (suc a) zero f g = g (λ e. absurd (omega arith))
split P (suc a) (suc b) f g = split P a b (λ e. f (ap suc e)) (λ n. g (λ e. n (omega arith)))

-- numbers by their places
pub number-get : (xs : List ℤ) (i : ℕ) → get_or xs i (pos 0) ≡ number_at xs i
number-get [] zero = refl
number-get [] (suc i) = refl
number-get (x ∷ xs) zero = refl
number-get (x ∷ xs) (suc i) = number-get xs i

pub row-get : (rows : List (List ℤ)) (i : ℕ) → get_or rows i [] ≡ row_at rows i
row-get [] zero = refl
row-get [] (suc i) = refl
row-get (row ∷ rows) zero = refl
row-get (row ∷ rows) (suc i) = row-get rows i

-- a list with one number changed
pub set-others : (xs : List ℤ) (i k : ℕ) (v : ℤ) → k ≢ i → number_at (set xs i v) k ≡ number_at xs k
set-others [] i k v h = refl
set-others (x ∷ xs) zero zero v h = absurd (h refl)
set-others (x ∷ xs) zero (suc k) v h = refl
set-others (x ∷ xs) (suc i) zero v h = refl
set-others (x ∷ xs) (suc i) (suc k) v h = set-others xs i k v (λ e. h (ap suc e))

pub set-here : (xs : List ℤ) (i : ℕ) (v : ℤ) → i < length xs → number_at (set xs i v) i ≡ v
set-here [] i v h = absurd (omega arith)
set-here (x ∷ xs) zero v h = refl
set-here (x ∷ xs) (suc i) v h = set-here xs i v (omega arith)

pub lowered-of : (old : List ℤ) (place : ℕ) (value v here : ℤ) → place < length old → here ≡ number_at old place → v ≤ℤ here → v ≤ℤ value →
    ((z : ℤ) → z ≤ℤ here → z ≤ℤ value → z ≤ℤ v) → IsLowered old (set old place v) place value
lowered-of old place value v here below is first second least =
    let own = set-here old place v below in
    record {
      others = λ k apart. set-others old place k v apart;
      at_most = omega (arith, ints);
      below = omega (arith, ints);
      least = λ z h k. let at : z ≤ℤ here = omega (arith, ints) in let under = least z at k in omega (arith, ints);
    }

-- nothing is raised by one place that is lowered
pub all-most : (old new : List ℤ) (place : ℕ) (value : ℤ) → IsLowered old new place value → (x : ℕ) → number_at new x ≤ℤ number_at old x
all-most old new place value l x = split (number_at new x ≤ℤ number_at old x) x place
    (λ e. let P : ℕ → Type 0 = λ n. number_at new n ≤ℤ number_at old n in subst P (sym e) l.at_most)
    (λ n. let same = l.others x n in omega (arith, ints))

-- the row so far, from one place to another
pub row-begun : (row next : List ℤ) (shift width : ℕ) (price : ℤ) → width ≤ shift → IsRowLowered row row next shift width price
row-begun row next shift width price none = record {
  at_most = λ x. omega (arith, ints);
  below = λ x from to. absurd (omega arith);
  least = λ z x h f. h;
}

-- one place more
pub row-more : (old row new next : List ℤ) (shift place : ℕ) (price : ℤ) → shift ≤ place → IsRowLowered old row next shift place price →
    IsLowered row new place (number_at next (place - shift) -ℤ price) → IsRowLowered old new next shift (place + 1) price
row-more old row new next shift place price order r l = record {
  at_most = λ x. let more = all-most row new place (number_at next (place - shift) -ℤ price) l x in
      let most = r.at_most x in omega (arith, ints);
  below = λ x from to. split (number_at new x ≤ℤ (number_at next (x - shift) -ℤ price)) x place
      (λ e. let P : ℕ → Type 0 = λ n. number_at new n ≤ℤ (number_at next (n - shift) -ℤ price) in subst P (sym e) l.below)
      (λ n. let same = l.others x n in let under = r.below x from (omega arith) in omega (arith, ints));
  least = λ z x h f. split (z ≤ℤ number_at new x) x place
      (λ e. let P : ℕ → Type 0 = λ n. z ≤ℤ number_at row n → z ≤ℤ (number_at next (n - shift) -ℤ price) → z ≤ℤ number_at new n in
      subst P (sym e) (l.least z) (r.least z x h (λ from to. f from (omega arith))) (f (omega arith) (omega arith)))
      (λ n. let same = l.others x n in let under = r.least z x h (λ from to. f from (omega arith)) in omega (arith, ints));
}

-- a row falls as far as it is settled
pub settle-begun : (row : List ℤ) → IsSettled row row 1
settle-begun row = record {
  at_most = λ x. omega (arith, ints);
  falls = λ x y order less.
      let P : ℕ → Type 0 = λ n. number_at row n ≤ℤ number_at row y in
      let Q : ℕ → Type 0 = λ n. number_at row 0 ≤ℤ number_at row n in
      let none : x ≡ 0 = omega arith in let first : y ≡ 0 = omega arith in
      let same : number_at row 0 ≤ℤ number_at row 0 = omega (arith, ints) in
      subst P (sym none) (subst Q (sym first) same);
  least = λ z h. h;
}

-- Making a row fall: from left to right each number is lowered to the one before it, if it was above. A bound that is lowered is
-- still one, and no number gets below the least of the row. A mark at least as good as another has no less driving left; by a row
-- that falls it is bounded by no more than the other, as the search asks of a test that hides no list.
pub settle-more : (old row new : List ℤ) (place : ℕ) → 1 ≤ place → place < 16 → IsSettled old row place →
    IsLowered row new place (number_at row (place - 1)) → IsSettled old new (place + 1)
settle-more old row new place some small s l = record {
  at_most = λ x. let more = all-most row new place (number_at row (place - 1)) l x in let most = s.at_most x in omega (arith, ints);
  falls = λ x y order less.
      let own_of : (n : ℕ) → n < place → number_at new n ≡ number_at row n = λ n h. l.others n (λ e. absurd (omega arith)) in
      split (number_at new x ≤ℤ number_at new y) x place
      (λ e. split (number_at new x ≤ℤ number_at new y) y place
      (λ f. let P : ℕ → Type 0 = λ n. number_at new x ≤ℤ number_at new n in
      let same : number_at new x ≤ℤ number_at new x = omega (arith, ints) in subst P (e ∙ sym f) same)
      (λ n. let P : ℕ → Type 0 = λ n. number_at new n ≤ℤ number_at new y in
      let before = s.falls (place - 1) y (omega arith) (omega arith) in
      let here = l.below in let same = own_of y (omega arith) in
      let under : number_at new place ≤ℤ number_at new y = omega (arith, ints) in subst P (sym e) under))
      (λ n. let before = s.falls x y order (omega arith) in
      let same_x = own_of x (omega arith) in let same_y = own_of y (omega arith) in omega (arith, ints));
  least = λ z h x less. split (z ≤ℤ number_at new x) x place
      (λ e. let P : ℕ → Type 0 = λ n. z ≤ℤ number_at new n in
      subst P (sym e) (l.least z (s.least z h place small) (s.least z h (place - 1) (omega arith))))
      (λ n. let same = l.others x n in let under = s.least z h x less in omega (arith, ints));
}

-- the same upwards
pub lifted-of : (old : List ℤ) (place : ℕ) (value v here : ℤ) → place < length old → here ≡ number_at old place → here ≤ℤ v → value ≤ℤ v →
    ((z : ℤ) → here ≤ℤ z → value ≤ℤ z → v ≤ℤ z) → IsLifted old (set old place v) place value
lifted-of old place value v here below is first second least =
    let own = set-here old place v below in
    record {
      others = λ k apart. set-others old place k v apart;
      at_least = omega (arith, ints);
      above = omega (arith, ints);
      most = λ z h k. let at : here ≤ℤ z = omega (arith, ints) in let under = least z at k in omega (arith, ints);
    }

pub raise-begun : (row by : List ℤ) → IsRaised row row by 0
raise-begun row by = record { own = λ x. omega (arith, ints); other = λ x less. absurd (omega arith); most = λ z x h k. h }

pub raise-more : (old row new by : List ℤ) (place : ℕ) → IsRaised old row by place → IsLifted row new place (number_at by place) →
    IsRaised old new by (place + 1)
raise-more old row new by place r l = record {
  own = λ x. let before = r.own x in split (number_at old x ≤ℤ number_at new x) x place
      (λ e. let P : ℕ → Type 0 = λ n. number_at old n ≤ℤ number_at row n → number_at old n ≤ℤ number_at new n in
      subst P (sym e) (λ h. let up = l.at_least in omega (arith, ints)) before)
      (λ n. let same = l.others x n in omega (arith, ints));
  other = λ x less. split (number_at by x ≤ℤ number_at new x) x place
      (λ e. let P : ℕ → Type 0 = λ n. number_at by n ≤ℤ number_at new n in subst P (sym e) l.above)
      (λ n. let same = l.others x n in let before = r.other x (omega arith) in omega (arith, ints));
  most = λ z x h k. let before = r.most z x h k in split (number_at new x ≤ℤ z) x place
      (λ e. let P : ℕ → Type 0 = λ n. number_at row n ≤ℤ z → number_at by n ≤ℤ z → number_at new n ≤ℤ z in
      subst P (sym e) (l.most z) before k)
      (λ n. let same = l.others x n in omega (arith, ints));
}
