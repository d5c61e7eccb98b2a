-- In columns that are sorted by class, value and place, the rank of a column is how many of its class stand before it.
use Rattle.std.proofs.Common.{◌≡◌, ◌==◌, ℕ, ℤ, negsuc, ◌+◌, ◌<◌, ◌≤◌, Bool, true, false, cond, ◌&&◌, zero, suc, List, [], ◌∷◌, length, get_or, take, Less, Equal, Greater, refl, sym, ap, ◌∙◌, inl, inr, add-one, zero-add, arith}
use Rattle.std.specs.Prelude.{filter, int_lt, int_le, pos, ◌≤ℤ◌, ◌<ℤ◌}
use Rattle.std.specs.List.{count_by}
use Rattle.std.specs.List.Sorted.{IsSortedBy}
use Rattle.std.specs.Ordering.{nat_cmp, int_cmp, ordering_then, is_lt, ordering_reverse}
use Rattle.std.specs.declared.cmp.Ordering.{Ordering}
use Rattle.std.proofs.lemmas.Bool.{cases_eq}
use Rattle.std.proofs.lemmas.Bool.Decides.{nat_tests}
use Rattle.std.proofs.lemmas.List.Sorted.{sorted_far, sum_by-IsPermutation, All-permutation}
use Rattle.std.proofs.lemmas.List.Sums.{sum_by_more, sum_by-cons}
use Rattle.std.proofs.lemmas.List.Elements.{All-get_or, All-filter, filter_passes}
use Rattle.std.proofs.lemmas.Int.{ints}
use Rattle.cover_core.specs.Plans.{number_at}
use Rattle.cover_master.specs.Candidates.{is_candidate, gain_keys, AreCandidates}
use Rattle.std.proofs.Math.Seq.{take-length}
use Rattle.plan_core.specs.declared.Price.{Price}
use Rattle.cover_core.specs.declared.Column.{Column}
use Rattle.cover_core.specs.FirstLeast.{value}
use Rattle.cover_core.specs.declared.column_keys.ColumnKey.{ColumnKey}
use Rattle.cover_core.specs.ColumnKeys.{place_cmp, key_cmp, is_before}
use Rattle.cover_core.proofs.ColumnKeys.{place_total, before_order}
use Rattle.cover_master.specs.Method.{keys_from, keys_of, comes_before, rank}
use Rattle.cover_master.specs.Fitting.{is_gain}

nat_cmp-same : (m n : ℕ) → m ≡ n → nat_cmp m n ≡ Equal
nat_cmp-same m n e = grind (arith, nat_tests)

nat_cmp-equal : (m n : ℕ) → nat_cmp m n ≡ Equal → m ≡ n
nat_cmp-equal m n e = grind (arith, nat_tests)

-- of one class, value and place decide
key_cmp-same : (x y : ColumnKey) → x.class ≡ y.class → key_cmp x y ≡ place_cmp x y
key_cmp-same x y e = let same : nat_cmp x.class y.class ≡ Equal = nat_cmp-same x.class y.class e in rw same refl

then-equal : (o q : Ordering) → ordering_then o q ≡ Equal → q ≡ Equal
then-equal Less q e = cc
then-equal Equal q e = e
then-equal Greater q e = cc

and-false : (a b : Bool) → b ≡ false → (a && b) ≡ false
and-false true b e = e
and-false false b e = refl

-- not below, and not equal: the other one is below
below-other : (o q : Ordering) → o ≡ ordering_reverse q → is_lt q ≡ false → (q ≡ Equal → ⊥) → is_lt o ≡ true
below-other o Less e n d = absurd (let h : true ≡ false = n in cc)
below-other o Equal e n d = absurd (d refl)
below-other o Greater e n d = ap is_lt e

eqb-same : (m n : ℕ) → m ≡ n → (m == n) ≡ true
eqb-same m n e = grind (arith, nat_tests)

eqb-apart : (m n : ℕ) → (m ≡ n → ⊥) → (m == n) ≡ false
eqb-apart m n e = grind (arith, nat_tests)

-- Of two columns at different places of the pool, the one that is sorted before the other counts in the other's rank exactly if it
-- is of the same class. The sort only says that the later one is not less; equal they cannot be, since the order ends with the
-- place: so the earlier one is truly less, and within one class that is what the rank counts.
pub before-earlier : (x y : ColumnKey) → is_before y x ≡ false → (x.place ≡ y.place → ⊥) → comes_before y x ≡ (x.class == y.class)
before-earlier x y sorted apart =
    elim (cases_eq x.class y.class) [
      | inl same ↦
          let test : (x.class == y.class) ≡ true = eqb-same x.class y.class same in
          let back : is_lt (place_cmp y x) ≡ false = ap is_lt (sym (key_cmp-same y x (sym same))) ∙ sorted in
          let differ : place_cmp y x ≡ Equal → ⊥ =
          λ e. apart (sym (nat_cmp-equal y.place x.place (then-equal (int_cmp y.value x.value) (nat_cmp y.place x.place) e))) in
          let less : is_lt (place_cmp x y) ≡ true = below-other (place_cmp x y) (place_cmp y x) (place_total.antisymm x y) back differ in
          rw (test, less) refl
      | inr other ↦
          let test : (x.class == y.class) ≡ false = eqb-apart x.class y.class other in
          rw test refl
    ]

-- One that is sorted after does not come before. Whatever stands after a column in the sorted list is not less, and so never counts
-- in its rank. With the lemma above, a rank can be read off from what stands before a column alone.
pub before-later : (x y : ColumnKey) → is_before x y ≡ false → comes_before y x ≡ false
before-later x y sorted =
    elim (cases_eq x.class y.class) [
      | inl same ↦
          let test : (x.class == y.class) ≡ true = eqb-same x.class y.class same in
          let after : is_lt (place_cmp x y) ≡ false = ap is_lt (sym (key_cmp-same x y same)) ∙ sorted in
          rw (test, after) refl
      | inr other ↦
          let test : (x.class == y.class) ≡ false = eqb-apart x.class y.class other in
          rw test refl
    ]

gain-cmp : (x k : ℤ) → int_lt x (pos 0) ≡ false → int_lt k (pos 0) ≡ true → int_cmp x k ≡ Greater
gain-cmp (pos m) (pos n) e g = absurd (let h : false ≡ true = grind (arith, nat_tests) in cc)
gain-cmp (pos m) (negsuc n) e g = refl
gain-cmp (negsuc m) k e g = absurd (let h : true ≡ false = e in cc)

no-gain-after : (k x : ColumnKey) → is_gain k ≡ true → is_gain x ≡ false → comes_before k x ≡ false
no-gain-after k x g e =
    let order : int_cmp x.value k.value ≡ Greater = gain-cmp x.value k.value e g in
    let after : is_lt (place_cmp x k) ≡ false = ap (λ o. is_lt (ordering_then o (nat_cmp x.place k.place))) order in
    and-false (x.class == k.class) (is_lt (place_cmp x k)) after

counted : (p : ColumnKey → Bool) (x : ColumnKey) (xs : List ColumnKey) → count_by p (x ∷ xs) ≡ cond (p x) 1 0 + count_by p xs
counted p x xs = sum_by-cons (λ y. cond (p y) 1 0) x xs

-- The rank of a column of value below 0 is the same among the columns of value below 0 as in the whole pool: whatever comes before
-- it has a value no greater, and so one below 0 too. By induction over the list, where each column that is left out is shown to
-- count nothing. So a price step need not keep the others, though the definition of a rank speaks of the whole pool.
pub count-gains : (k : ColumnKey) (xs : List ColumnKey) → is_gain k ≡ true →
    count_by (comes_before k) (filter is_gain xs) ≡ count_by (comes_before k) xs
count-gains k [] g = refl
count-gains k (x ∷ xs) g =
    let rest : count_by (comes_before k) (filter is_gain xs) ≡ count_by (comes_before k) xs = count-gains k xs g in
    let whole = counted (comes_before k) x xs in
    elim (is_gain x) as (λ b. is_gain x ≡ b → count_by (comes_before k) (cond b (x ∷ filter is_gain xs) (filter is_gain xs))
    ≡ count_by (comes_before k) (x ∷ xs)) [
      | true ↦ λ e. counted (comes_before k) x (filter is_gain xs) ∙ ap (λ n. cond (comes_before k x) 1 0 + n) rest ∙ sym whole
      | false ↦ λ e.
          let none : comes_before k x ≡ false = no-gain-after k x g e in
          let zero_more : cond {A = ℕ} (comes_before k x) 1 0 ≡ 0 = ap (λ (b : Bool). cond {A = ℕ} b 1 0) none in
          let sum : count_by (comes_before k) (x ∷ xs) ≡ count_by (comes_before k) xs =
          whole ∙ ap (λ n. n + count_by (comes_before k) xs) zero_more ∙ zero-add (count_by (comes_before k) xs) in
          rest ∙ sym sum
    ] refl

-- each place has one column
abbrev pub at_place : ℕ → ColumnKey → Bool
at_place i k = k.place == i

places-above : (prices : List Price) (i place : ℕ) (cs : List Column) → i < place → count_by (at_place i) (keys_from prices place cs) ≡ 0
places-above prices i place [] h = refl
places-above prices i place (c ∷ cs) h =
    let key : ColumnKey = record { class = c.class; value = value prices c; place = place } in
    let test : at_place i key ≡ false = eqb-apart place i (λ e. omega arith) in
    let none : cond {A = ℕ} (at_place i key) 1 0 ≡ 0 = ap (λ (b : Bool). cond {A = ℕ} b 1 0) test in
    let rest : count_by (at_place i) (keys_from prices (suc place) cs) ≡ 0 = places-above prices i (suc place) cs (omega arith) in
    let whole : count_by (at_place i) (keys_from prices place (c ∷ cs))
    ≡ cond (at_place i key) 1 0 + count_by (at_place i) (keys_from prices (suc place) cs) =
    counted (at_place i) key (keys_from prices (suc place) cs) in
    omega arith

-- Each place of the pool is that of one column at most, by induction over the pool: the places are given in rising order, so a
-- place that has been given does not come again. From it two places of a sorted list never hold one column, whatever the sort did.
pub places-once : (prices : List Price) (i place : ℕ) (cs : List Column) → count_by (at_place i) (keys_from prices place cs) ≤ 1
places-once prices i place [] = omega arith
places-once prices i place (c ∷ cs) =
    let key : ColumnKey = record { class = c.class; value = value prices c; place = place } in
    let whole : count_by (at_place i) (keys_from prices place (c ∷ cs))
    ≡ cond (at_place i key) 1 0 + count_by (at_place i) (keys_from prices (suc place) cs) =
    counted (at_place i) key (keys_from prices (suc place) cs) in
    elim (cases_eq place i) [
      | inl same ↦
          let one : cond {A = ℕ} (at_place i key) 1 0 ≡ 1 = ap (λ (b : Bool). cond {A = ℕ} b 1 0) (eqb-same place i same) in
          let rest : count_by (at_place i) (keys_from prices (suc place) cs) ≡ 0 = places-above prices i (suc place) cs (omega arith) in
          omega arith
      | inr apart ↦
          let none : cond {A = ℕ} (at_place i key) 1 0 ≡ 0 = ap (λ (b : Bool). cond {A = ℕ} b 1 0) (eqb-apart place i apart) in
          let rest : count_by (at_place i) (keys_from prices (suc place) cs) ≤ 1 = places-once prices i (suc place) cs in
          omega arith
    ]

-- Leaving columns out makes no count greater. It is used where a bound on a count of the whole pool must hold of the columns that a
-- price step looks at.
pub count-filter : (p q : ColumnKey → Bool) (xs : List ColumnKey) → count_by p (filter q xs) ≤ count_by p xs
count-filter p q [] = omega arith
count-filter p q (x ∷ xs) =
    let rest : count_by p (filter q xs) ≤ count_by p xs = count-filter p q xs in
    let whole : count_by p (x ∷ xs) ≡ cond (p x) 1 0 + count_by p xs = counted p x xs in
    let one : count_by p (x ∷ filter q xs) ≡ cond (p x) 1 0 + count_by p (filter q xs) = counted p x (filter q xs) in
    elim (q x) as (λ b. count_by p (cond b (x ∷ filter q xs) (filter q xs)) ≤ count_by p (x ∷ xs)) [
      | true ↦
          omega arith
      | false ↦ omega arith
    ]

abbrev pub no_key : ColumnKey
no_key = record { class = 0; value = pos 0; place = 0 }

-- The counts up to a place of a list, taken together with the lemmas down to `count-take`: one more place adds what stands there;
-- tests that agree on a front count alike in it; places where nothing passes add nothing; two that pass count two; and a front
-- never counts more than the whole. They are what the walk through the sorted columns, place by place, is measured with.
count-more : (p : ColumnKey → Bool) (xs : List ColumnKey) (t : ℕ) → t < length xs →
    count_by p (take (suc t) xs) ≡ count_by p (take t xs) + cond (p (get_or xs t no_key)) 1 0
count-more p xs t h = ap (λ n. count_by p (take n xs)) (sym (add-one t)) ∙ sum_by_more (λ x. cond (p x) 1 0) xs t no_key h

count-same : (p q : ColumnKey → Bool) (xs : List ColumnKey) (t : ℕ) → t ≤ length xs →
    ((i : ℕ) → i < t → p (get_or xs i no_key) ≡ q (get_or xs i no_key)) → count_by p (take t xs) ≡ count_by q (take t xs)
count-same p q xs zero h same = refl
count-same p q xs (suc t) h same =
    let below : t < length xs = omega arith in
    let rest = count-same p q xs t (omega arith) (λ i lt. same i (omega arith)) in
    count-more p xs t below ∙ ap (λ n. n + cond (p (get_or xs t no_key)) 1 0) rest
    ∙ ap (λ b. count_by q (take t xs) + cond b 1 0) (same t (omega arith)) ∙ sym (count-more q xs t below)

count-none : (p : ColumnKey → Bool) (xs : List ColumnKey) (t n : ℕ) → t ≤ n → n ≤ length xs →
    ((i : ℕ) → t ≤ i → i < n → p (get_or xs i no_key) ≡ false) → count_by p (take n xs) ≡ count_by p (take t xs)
count-none p xs t zero h k none = let same : 0 ≡ t = omega arith in ap (λ m. count_by p (take m xs)) same
count-none p xs t (suc n) h k none =
    elim (cases_eq t (suc n)) [
      | inl same ↦ ap (λ m. count_by p (take m xs)) (sym same)
      | inr apart ↦
          let more = count-more p xs n (omega arith) in
          let last : p (get_or xs n no_key) ≡ false = none n (omega arith) (omega arith) in
          let rest = count-none p xs t n (omega arith) (omega arith) (λ i low high. none i low (omega arith)) in
          let sum = rw last at more in
          omega arith
    ]

count-one : (p : ColumnKey → Bool) (xs : List ColumnKey) (i t : ℕ) → i < t → t ≤ length xs → p (get_or xs i no_key) ≡ true → 1 ≤ count_by p (take t xs)
count-one p xs i zero h k first = absurd (omega arith)
count-one p xs i (suc t) h k first =
    let more = count-more p xs t (omega arith) in
    elim (cases_eq i t) [
      | inl same ↦
          let here : p (get_or xs t no_key) ≡ true = ap (λ n. p (get_or xs n no_key)) (sym same) ∙ first in
          let sum = rw here at more in
          omega arith
      | inr apart ↦ let some = count-one p xs i t (omega arith) (omega arith) first in omega arith
    ]

-- two that pass are counted twice
count-two : (p : ColumnKey → Bool) (xs : List ColumnKey) (i t : ℕ) → i < t → t < length xs → p (get_or xs i no_key) ≡ true →
    p (get_or xs t no_key) ≡ true → 2 ≤ count_by p (take (suc t) xs)
count-two p xs i t h k first second =
    let more = count-more p xs t k in
    let sum = rw second at more in
    let some = count-one p xs i t h (omega arith) first in
    omega arith

count-grows : (p : ColumnKey → Bool) (xs : List ColumnKey) (t n : ℕ) → t ≤ n → n ≤ length xs → count_by p (take t xs) ≤ count_by p (take n xs)
count-grows p xs t zero h k = let same : t ≡ 0 = omega arith in let e = ap (λ m. count_by p (take m xs)) same in omega arith
count-grows p xs t (suc n) h k =
    elim (cases_eq t (suc n)) [
      | inl same ↦ let e = ap (λ m. count_by p (take m xs)) same in omega arith
      | inr apart ↦ let more = count-more p xs n (omega arith) in let rest = count-grows p xs t n (omega arith) (omega arith) in omega arith
    ]

count-take : (p : ColumnKey → Bool) (xs : List ColumnKey) (t : ℕ) → t ≤ length xs → count_by p (take t xs) ≤ count_by p xs
count-take p xs t h =
    let all : take (length xs) xs ≡ xs = take-length xs in
    let most = count-grows p xs t (length xs) h (omega arith) in
    let whole : count_by p (take (length xs) xs) ≡ count_by p xs = ap (count_by p) all in
    omega arith

-- A column above the limit of its class comes before no candidate: one of its own class has a value that is at most the limit, and
-- so is less; one of another class is never compared with it.
no-candidate-after : (limits : List ℤ) (k x : ColumnKey) → is_candidate limits k ≡ true → is_candidate limits x ≡ false → comes_before k x ≡ false
no-candidate-after limits k x g e =
    elim (cases_eq x.class k.class) [
      | inl same ↦
          let limit : ℤ = number_at limits k.class in
          let low : k.value ≤ℤ limit = grind (arith, ints) in
          let moved : int_le x.value limit ≡ false = ap (λ c. int_le x.value (number_at limits c)) (sym same) ∙ e in
          let high : limit <ℤ x.value = grind (arith, ints) in
          let apart : k.value <ℤ x.value = omega (arith, ints) in
          let order : int_cmp x.value k.value ≡ Greater = greater x.value k.value apart in
          let after : is_lt (place_cmp x k) ≡ false = ap (λ o. is_lt (ordering_then o (nat_cmp x.place k.place))) order in
          and-false (x.class == k.class) (is_lt (place_cmp x k)) after
      | inr other ↦ let test : (x.class == k.class) ≡ false = eqb-apart x.class k.class other in rw test refl
    ]
  where
    greater : (a b : ℤ) → b <ℤ a → int_cmp a b ≡ Greater
    greater a b h =
        let up : int_lt b a ≡ true = grind (arith, ints) in
        let down : int_lt a b ≡ false = grind (arith, ints) in
        rw (down, up) refl

-- The rank of a candidate is the same among the candidates as in the whole pool, by the argument of `count-gains` twice over: first
-- the columns above the limits are left out, none of which comes before a candidate, then those of value at least 0. So a price
-- step brings the candidates alone into order, and still finds the ranks that the definition means.
pub count-candidates : (limits : List ℤ) (k : ColumnKey) (xs : List ColumnKey) → is_gain k ≡ true → is_candidate limits k ≡ true →
    count_by (comes_before k) (filter (is_candidate limits) (filter is_gain xs)) ≡ count_by (comes_before k) xs
count-candidates limits k xs g c = onto (filter is_gain xs) ∙ count-gains k xs g
  where
    onto : (ys : List ColumnKey) → count_by (comes_before k) (filter (is_candidate limits) ys) ≡ count_by (comes_before k) ys
    onto [] = refl
    onto (x ∷ ys) =
        let p : ColumnKey → Bool = is_candidate limits in
        let rest : count_by (comes_before k) (filter p ys) ≡ count_by (comes_before k) ys = onto ys in
        let whole = counted (comes_before k) x ys in
        elim (p x) as (λ b. p x ≡ b → count_by (comes_before k) (cond b (x ∷ filter p ys) (filter p ys))
        ≡ count_by (comes_before k) (x ∷ ys)) [
          | true ↦ λ e. counted (comes_before k) x (filter p ys) ∙ ap (λ n. cond (comes_before k x) 1 0 + n) rest ∙ sym whole
          | false ↦ λ e.
              let none : comes_before k x ≡ false = no-candidate-after limits k x c e in
              let zero_more : cond {A = ℕ} (comes_before k x) 1 0 ≡ 0 = ap (λ (b : Bool). cond {A = ℕ} b 1 0) none in
              let sum : count_by (comes_before k) (x ∷ ys) ≡ count_by (comes_before k) ys =
              whole ∙ ap (λ n. n + count_by (comes_before k) ys) zero_more ∙ zero-add (count_by (comes_before k) ys) in
              rest ∙ sym sum
        ] refl

module _ (prices : List Price) (pool : List Column) (caps : List ℕ) (sorted : List ColumnKey) (candidates : AreCandidates prices pool caps sorted)
    (up : IsSortedBy is_before sorted) where
  -- Two places of the sorted list hold columns of different places of the pool. The sort only gives a permutation, so this is shown
  -- by counting: if both held one place, that place would count twice in the sorted list, therefore twice among the candidates, and
  -- no more often than in the pool, where it counts once at most.
  apart : (i t : ℕ) → i < t → t < length sorted → (get_or sorted i no_key).place ≡ (get_or sorted t no_key).place → ⊥
  apart i t h k e =
      let place = (get_or sorted t no_key).place in
      let first : at_place place (get_or sorted i no_key) ≡ true = eqb-same (get_or sorted i no_key).place place e in
      let second : at_place place (get_or sorted t no_key) ≡ true = eqb-same place place refl in
      let two = count-two (at_place place) sorted i t h k first second in
      let part = count-take (at_place place) sorted (suc t) (omega arith) in
      let same : count_by (at_place place) sorted
      ≡ count_by (at_place place) (filter (is_candidate candidates.limits) (gain_keys prices pool)) =
      sum_by-IsPermutation (λ x. cond (at_place place x) 1 0) (filter (is_candidate candidates.limits) (gain_keys prices pool))
      sorted candidates.all in
      let fewer = count-filter (at_place place) is_gain (keys_of prices pool) in
      let fewest = count-filter (at_place place) (is_candidate candidates.limits) (gain_keys prices pool) in
      let once = places-once prices place 0 pool in
      omega arith

  pub gain-at : (t : ℕ) → t < length sorted → is_gain (get_or sorted t no_key) ≡ true
  gain-at t h = All-get_or (λ k. is_gain k ≡ true) sorted t no_key h
      (All-permutation (λ k. is_gain k ≡ true) (filter (is_candidate candidates.limits) (gain_keys prices pool)) sorted candidates.all
      (All-filter (is_candidate candidates.limits) (λ k. is_gain k ≡ true) (gain_keys prices pool)
      (filter_passes is_gain (keys_of prices pool))))

  candidate-at : (t : ℕ) → t < length sorted → is_candidate candidates.limits (get_or sorted t no_key) ≡ true
  candidate-at t h =
      All-get_or (λ k. is_candidate candidates.limits k ≡ true) sorted t no_key h
      (All-permutation (λ k. is_candidate candidates.limits k ≡ true) (filter (is_candidate candidates.limits) (gain_keys prices pool))
      sorted candidates.all (filter_passes (is_candidate candidates.limits) (gain_keys prices pool)))

  -- The main theorem of this file: in the sorted candidates, the rank of a column within its class is how many of its class stand
  -- before it. From right to left: all that stand before and are of its class come before it; nothing that stands after does; a
  -- permutation counts alike; and leaving out the others changed no rank. So `cover` finds which columns are chosen with one
  -- counter a class in one walk, where the definition compares each column with the whole pool.
  pub rank-at : (t : ℕ) → t < length sorted →
      rank (keys_of prices pool) (get_or sorted t no_key) ≡ count_by (λ x. x.class == (get_or sorted t no_key).class) (take t sorted)
  rank-at t h =
      let key : ColumnKey = get_or sorted t no_key in
      let some : count_by (comes_before key) (filter (is_candidate candidates.limits) (gain_keys prices pool))
      ≡ count_by (comes_before key) (keys_of prices pool) =
      count-candidates candidates.limits key (keys_of prices pool) (gain-at t h) (candidate-at t h) in
      let same : count_by (comes_before key) sorted
      ≡ count_by (comes_before key) (filter (is_candidate candidates.limits) (gain_keys prices pool)) =
      sum_by-IsPermutation (λ x. cond (comes_before key x) 1 0) (filter (is_candidate candidates.limits) (gain_keys prices pool))
      sorted candidates.all in
      let whole : count_by (comes_before key) (take (length sorted) sorted) ≡ count_by (comes_before key) sorted =
      ap (count_by (comes_before key)) (take-length sorted) in
      let front : count_by (comes_before key) (take (length sorted) sorted) ≡ count_by (comes_before key) (take t sorted) =
      count-none (comes_before key) sorted t (length sorted) (omega arith) (omega arith)
      (λ i low high. before-later (get_or sorted i no_key) key (sorted_far is_before before_order sorted up t i no_key low high)) in
      let class : count_by (comes_before key) (take t sorted) ≡ count_by (λ x. x.class == key.class) (take t sorted) =
      count-same (comes_before key) (λ x. x.class == key.class) sorted t (omega arith)
      (λ i lt. before-earlier (get_or sorted i no_key) key (sorted_far is_before before_order sorted up i t no_key (omega arith) h)
      (apart i t lt h)) in
      sym some ∙ sym same ∙ sym whole ∙ front ∙ class
