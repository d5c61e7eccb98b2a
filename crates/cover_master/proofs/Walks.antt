-- The walk through sorted columns counts exactly the chosen ones.
use Rattle.std.proofs.Common.{◌≡◌, ◌==◌, ℕ, ℤ, ◌+◌, ◌<◌, ◌≤◌, Bool, true, false, cond, ◌&&◌, zero, suc, List, [], ◌∷◌, length, get_or, take, refl, sym, ap, ◌∙◌, inl, inr, arith, get_or-set_same, get_or-set_other, pos, int_lt, int_le, ◌≤ℤ◌, ◌<ℤ◌}
use Rattle.std.specs.Prelude.{filter, nat_lt, slice_index}
use Rattle.std.specs.List.{count_by, sum_by, All}
use Rattle.std.specs.List.Sorted.{IsSortedBy}
use Rattle.std.proofs.Math.ListN.{set}
use Rattle.std.proofs.lemmas.List.{length-take-le}
use Rattle.std.proofs.Math.Seq.{take-length}
use Rattle.std.proofs.lemmas.Bool.{cases_eq, cases_lt}
use Rattle.std.proofs.lemmas.Bool.Decides.{nat_tests}
use Rattle.std.proofs.lemmas.List.Sums.{sum_by_more, sum_by-cons, count_by-le-length}
use Rattle.std.proofs.lemmas.List.Sorted.{sum_by-IsPermutation, All-permutation, length_permutation}
use Rattle.std.proofs.lemmas.List.Elements.{All-get_or, All-filter, All-nil, All-cons}
use Rattle.plan_core.specs.declared.Price.{Price}
use Rattle.cover_core.specs.declared.Column.{Column}
use Rattle.cover_core.specs.Plans.{times}
use Rattle.cover_core.specs.FirstLeast.{value}
use Rattle.cover_core.specs.Parts.{no_column, column_at}
use Rattle.cover_core.proofs.Parts.{Rises-once}
use Rattle.cover_core.specs.declared.column_keys.ColumnKey.{ColumnKey}
use Rattle.cover_master.specs.Method.{keys_from, keys_of, rank, is_chosen, chosen_times, times_chosen}
use Rattle.cover_core.specs.Fitting.{AreFit}
use Rattle.cover_core.specs.ColumnKeys.{is_before}
use Rattle.cover_master.specs.Fitting.{is_gain}
use Rattle.cover_core.proofs.Fits.{fit-get}
use Rattle.std.proofs.lemmas.Int.{ints}
use Rattle.cover_core.specs.Plans.{number_at}
use Rattle.cover_master.specs.Method.{comes_before}
use Rattle.cover_master.specs.Candidates.{is_candidate, is_at_most, AreLimits, gain_keys, AreCandidates}
use Rattle.cover_master.proofs.Ranks.{no_key, gain-at, rank-at, count-filter}

-- where a key stands, and its class
pub record IsKey (k n : ℕ) (key : ColumnKey) : Type 0 where
  pub class : key.class < k
  pub place : key.place < n

keys-there : (prices : List Price) (items k n place : ℕ) (cs : List Column) → place + length cs ≤ n → AreFit items k cs →
    All (IsKey k n) (keys_from prices place cs)
keys-there prices items k n place [] h fit = All-nil (IsKey k n)
keys-there prices items k n place (c ∷ cs) h fit =
    let here : IsKey k n (record { class = c.class; value = value prices c; place = place }) = record {
      class =
          fit.0.3;
      place = omega arith;
    } in
    All-cons (IsKey k n) (record { class = c.class; value = value prices c; place = place }) (keys_from prices (suc place) cs) here
    (keys-there prices items k n (suc place) cs (omega arith) fit.1)

-- a column that is no gain adds nothing
chosen-gains : (pool : List Column) (keys : List ColumnKey) (caps : List ℕ) (item : ℕ) (xs : List ColumnKey) →
    sum_by (chosen_times pool keys caps item) (filter is_gain xs) ≡ sum_by (chosen_times pool keys caps item) xs
chosen-gains pool keys caps item [] = refl
chosen-gains pool keys caps item (x ∷ xs) =
    let f : ColumnKey → ℕ = chosen_times pool keys caps item in
    let rest : sum_by f (filter is_gain xs) ≡ sum_by f xs = chosen-gains pool keys caps item xs in
    let whole : sum_by f (x ∷ xs) ≡ f x + sum_by f xs = sum_by-cons f x xs in
    elim (is_gain x) as (λ b. is_gain x ≡ b → sum_by f (cond b (x ∷ filter is_gain xs) (filter is_gain xs)) ≡ sum_by f (x ∷ xs)) [
      | true ↦ λ e. sum_by-cons f x (filter is_gain xs) ∙ ap (λ n. f x + n) rest ∙ sym whole
      | false ↦ λ e.
          let none : f x ≡ 0 = ap (λ (b : Bool). cond {A = ℕ} (b && nat_lt (rank keys x) (slice_index caps x.class))
          (times item (column_at pool x.place).items) 0) e in
          omega arith
    ] refl

length-kept : (p : ColumnKey → Bool) (xs : List ColumnKey) → length (filter p xs) ≤ length xs
length-kept p [] = omega arith
length-kept p (x ∷ xs) =
    let rest : length (filter p xs) ≤ length xs = length-kept p xs in
    elim (p x) as (λ b. length (cond b (x ∷ filter p xs) (filter p xs)) ≤ suc (length xs)) [ true ↦ omega arith | false ↦ omega arith ]

count-mono : (p q : ColumnKey → Bool) → ((y : ColumnKey) → p y ≡ true → q y ≡ true) → (xs : List ColumnKey) → count_by p xs ≤ count_by q xs
count-mono p q h [] = omega arith
count-mono p q h (x ∷ xs) =
    let rest : count_by p xs ≤ count_by q xs = count-mono p q h xs in
    let one : count_by p (x ∷ xs) ≡ cond {A = ℕ} (p x) 1 0 + count_by p xs = sum_by-cons (λ y. cond {A = ℕ} (p y) 1 0) x xs in
    let two : count_by q (x ∷ xs) ≡ cond {A = ℕ} (q x) 1 0 + count_by q xs = sum_by-cons (λ y. cond {A = ℕ} (q y) 1 0) x xs in
    let step : cond {A = ℕ} (p x) 1 0 ≤ cond {A = ℕ} (q x) 1 0 =
    elim (p x) as (λ b. p x ≡ b → cond {A = ℕ} b 1 0 ≤ cond {A = ℕ} (q x) 1 0) [
      | true ↦ λ e. let also = h x e in rw also (omega arith)
      | false ↦ λ e. omega arith
    ] refl in
    omega arith

pub number_at-past : (zs : List ℤ) (i : ℕ) → length zs ≤ i → number_at zs i ≡ pos 0
number_at-past [] i h = refl
number_at-past (z ∷ zs) zero h = absurd (omega arith)
number_at-past (z ∷ zs) (suc i) h = number_at-past zs i (omega arith)

-- One above a limit that keeps a column comes after it. A limit keeps the columns of its class that are up to it, and each of these
-- comes before a column above it.
above-limit : (x y : ColumnKey) (limit : ℤ) → limit <ℤ x.value → is_at_most x.class limit y ≡ true → comes_before x y ≡ true
above-limit x y limit above e =
    elim (cases_eq y.class x.class) [
      | inl same ↦
          let test : (y.class == x.class) ≡ true = grind (arith, nat_tests) in
          let low : int_le y.value limit ≡ true = rw test at e in
          let at_most : y.value ≤ℤ limit = grind (arith, ints) in
          let less : y.value <ℤ x.value = omega (arith, ints) in
          let first : int_lt y.value x.value ≡ true = grind (arith, ints) in
          rw (test, first) refl
      | inr other ↦
          let test : (y.class == x.class) ≡ false = grind (arith, nat_tests) in
          let no : false ≡ true = rw test at e in
          absurd (cc)
    ]

-- A column of value below 0 that is no candidate is not chosen. A limit is -1 and leaves out no column of value below 0, or keeps
-- at least as many columns of the class as the cap. A column above it has all of these before it, so its rank is at least the cap,
-- and it is not chosen. A class without a cap has the limit 0, which is above every value below 0. So choosing among the candidates
-- misses no column that the definition chooses.
not-chosen : (prices : List Price) (pool : List Column) (caps : List ℕ) (limits : List ℤ) →
    AreLimits (gain_keys prices pool) caps limits → (x : ColumnKey) →
    is_gain x ≡ true → is_candidate limits x ≡ false → is_chosen (keys_of prices pool) caps x ≡ false
not-chosen prices pool caps limits are x gain out =
    let limit : ℤ = number_at limits x.class in
    let negative : x.value <ℤ pos 0 = grind (arith, ints) in
    let above : limit <ℤ x.value = grind (arith, ints) in
    elim (cases_lt x.class (length caps)) [
      | inl inside ↦
          elim (are.1 x.class inside) [
            | inl all ↦ absurd (omega (arith, ints))
            | inr many ↦
                let before = count-mono (is_at_most x.class limit) (comes_before x) (λ y e. above-limit x y limit above e)
                (gain_keys prices pool) in
                let fewer = count-filter (comes_before x) is_gain (keys_of prices pool) in
                let rank_high : slice_index caps x.class ≤ rank (keys_of prices pool) x = omega arith in
                let test : nat_lt (rank (keys_of prices pool) x) (slice_index caps x.class) ≡ false = grind (arith, nat_tests) in
                ap (λ b. b && nat_lt (rank (keys_of prices pool) x) (slice_index caps x.class)) gain ∙ test
          ]
      | inr past ↦
          let same = are.0 in
          let none : limit ≡ pos 0 = number_at-past limits x.class (omega arith) in
          absurd (omega (arith, ints))
    ]

-- What chosen columns have of an item is the same, added up over the candidates, as over all columns of value below 0: each that is
-- left out is not chosen, and adds nothing. With `chosen-gains` and the permutation of the sort this is the sum over the pool
-- itself.
chosen-candidates : (prices : List Price) (pool : List Column) (caps : List ℕ) (item : ℕ) (limits : List ℤ) →
    AreLimits (gain_keys prices pool) caps limits →
    sum_by (chosen_times pool (keys_of prices pool) caps item) (filter (is_candidate limits) (gain_keys prices pool))
    ≡ sum_by (chosen_times pool (keys_of prices pool) caps item) (gain_keys prices pool)
chosen-candidates prices pool caps item limits are = onto (keys_of prices pool)
  where
    onto : (xs : List ColumnKey) → sum_by (chosen_times pool (keys_of prices pool) caps item) (filter (is_candidate limits) (filter is_gain xs))
        ≡ sum_by (chosen_times pool (keys_of prices pool) caps item) (filter is_gain xs)
    onto [] = refl
    onto (x ∷ xs) =
        let g : ColumnKey → ℕ = chosen_times pool (keys_of prices pool) caps item in
        let p : ColumnKey → Bool = is_candidate limits in
        let rest : sum_by g (filter p (filter is_gain xs)) ≡ sum_by g (filter is_gain xs) = onto xs in
        elim (is_gain x) as (λ b. is_gain x ≡ b → sum_by g (filter p (cond b (x ∷ filter is_gain xs) (filter is_gain xs)))
        ≡ sum_by g (cond b (x ∷ filter is_gain xs) (filter is_gain xs))) [
          | false ↦ λ e. rest
          | true ↦ λ gain.
              let whole : sum_by g (x ∷ filter is_gain xs) ≡ g x + sum_by g (filter is_gain xs) = sum_by-cons g x (filter is_gain xs) in
              elim (p x) as (λ b. p x ≡ b → sum_by g (cond b (x ∷ filter p (filter is_gain xs)) (filter p (filter is_gain xs)))
              ≡ sum_by g (x ∷ filter is_gain xs)) [
                | true ↦ λ e. sum_by-cons g x (filter p (filter is_gain xs)) ∙ ap (λ n. g x + n) rest ∙ sym whole
                | false ↦ λ out.
                    let none : g x ≡ 0 = ap (λ (b : Bool). cond {A = ℕ} b (times item (column_at pool x.place).items) 0)
                    (not-chosen prices pool caps limits are x gain out) in
                    omega arith
              ] refl
        ] refl

length-keys : (prices : List Price) (place : ℕ) (cs : List Column) → length (keys_from prices place cs) ≡ length cs
length-keys prices place [] = refl
length-keys prices place (c ∷ cs) = ap (λ n. suc n) (length-keys prices (suc place) cs)

-- past the end of the counts there is nothing
get_or-past : (xs : List ℕ) (i : ℕ) → length xs ≤ i → get_or xs i 0 ≡ 0
get_or-past [] i h = refl
get_or-past (x ∷ xs) zero h = absurd (omega arith)
get_or-past (x ∷ xs) (suc i) h = get_or-past xs i (omega arith)

module _ (prices : List Price) (pool : List Column) (caps : List ℕ) (sorted : List ColumnKey) (candidates : AreCandidates prices pool caps sorted)
    (up : IsSortedBy is_before sorted) where
  pub key-there : (items : ℕ) (t : ℕ) → t < length sorted → AreFit items (length caps) pool →
      IsKey (length caps) (length pool) (get_or sorted t no_key)
  key-there items t h fit =
      All-get_or (IsKey (length caps) (length pool)) sorted t no_key h
      (All-permutation (IsKey (length caps) (length pool)) (filter (is_candidate candidates.limits) (gain_keys prices pool))
      sorted candidates.all
      (All-filter (is_candidate candidates.limits) (IsKey (length caps) (length pool)) (gain_keys prices pool)
      (All-filter is_gain (IsKey (length caps) (length pool)) (keys_of prices pool)
      (keys-there prices items (length caps) (length pool) 0 pool (omega arith) fit))))

  -- Counted so far: how many columns of the class stand before. The test of the code is that of the definition: a candidate is
  -- chosen exactly if fewer columns of its class stand before it than its cap allows, as that number is its rank. The counter of
  -- its class has this number by the invariant of the loop.
  pub chosen-at : (t count : ℕ) → t < length sorted → count ≡ count_by (λ x. x.class == (get_or sorted t no_key).class) (take t sorted) →
      is_chosen (keys_of prices pool) caps (get_or sorted t no_key) ≡ nat_lt count (slice_index caps (get_or sorted t no_key).class)
  chosen-at t count h e =
      let key : ColumnKey = get_or sorted t no_key in
      let gain : is_gain key ≡ true = gain-at prices pool caps sorted candidates up t h in
      let same : rank (keys_of prices pool) key ≡ count = rank-at prices pool caps sorted candidates up t h ∙ sym e in
      ap (λ b. b && nat_lt (rank (keys_of prices pool) key) (slice_index caps key.class)) gain
      ∙ ap (λ n. nat_lt n (slice_index caps key.class)) same

  -- The invariant of the walk: how often an item is covered after t columns is the sum over these, of those that are chosen. One
  -- more column adds what it has of the item if the counter of its class is below the cap, which by `chosen-at` means that it is
  -- chosen.
  pub covered-more : (item t count old : ℕ) → t < length sorted →
      count ≡ count_by (λ x. x.class == (get_or sorted t no_key).class) (take t sorted) →
      old ≡ sum_by (chosen_times pool (keys_of prices pool) caps item) (take t sorted) →
      old + cond (nat_lt count (slice_index caps (get_or sorted t no_key).class))
      (times item (column_at pool (get_or sorted t no_key).place).items) 0 ≡
      sum_by (chosen_times pool (keys_of prices pool) caps item) (take (t + 1) sorted)
  covered-more item t count old h e so_far =
      let key : ColumnKey = get_or sorted t no_key in
      let more = sum_by_more (chosen_times pool (keys_of prices pool) caps item) sorted t no_key h in
      let test = chosen-at t count h e in
      let here : chosen_times pool (keys_of prices pool) caps item key ≡ cond {A = ℕ} (nat_lt count (slice_index caps key.class))
      (times item (column_at pool key.place).items) 0 =
      ap (λ (b : Bool). cond {A = ℕ} b (times item (column_at pool key.place).items) 0) test in
      omega arith

  -- At the end of the walk the sum over the sorted candidates is that over the whole pool, which is `times_chosen`: a permutation
  -- has the same sum, and the columns that were left out, above a limit or of value at least 0, are not chosen. So `turn` moves
  -- prices as defined.
  pub covered-all : (item t n : ℕ) → t ≡ length sorted → n ≡ sum_by (chosen_times pool (keys_of prices pool) caps item) (take t sorted) →
      n ≡ times_chosen pool prices caps item
  covered-all item t n end is =
      let f : ColumnKey → ℕ = chosen_times pool (keys_of prices pool) caps item in
      let whole : take t sorted ≡ sorted = ap (λ m. take m sorted) end ∙ take-length sorted in
      is ∙ ap (sum_by f) whole
      ∙ sum_by-IsPermutation f (filter (is_candidate candidates.limits) (gain_keys prices pool)) sorted candidates.all ∙
      chosen-candidates prices pool caps item candidates.limits candidates.are
      ∙ chosen-gains pool (keys_of prices pool) caps item (keys_of prices pool)

  -- The second part of the invariant: the counter of each class is how many columns of the class stood among the first t. A column
  -- raises the counter of its own class whether it is chosen or not, since a rank counts both.
  pub counted-more : (counts : List ℕ) (t : ℕ) → t < length sorted → (get_or sorted t no_key).class < length counts →
      ((class : ℕ) → class < length counts → get_or counts class 0 ≡ count_by (λ x. x.class == class) (take t sorted)) →
      (class : ℕ) → class < length counts →
      get_or (set counts (get_or sorted t no_key).class (get_or counts (get_or sorted t no_key).class 0 + 1)) class 0
      ≡ count_by (λ x. x.class == class) (take (t + 1) sorted)
  counted-more counts t h inside so_far class below =
      let key : ColumnKey = get_or sorted t no_key in
      let n : ℕ = get_or counts key.class 0 in
      let more : count_by (λ x. x.class == class) (take (t + 1) sorted) ≡ count_by (λ x. x.class == class) (take t sorted) + cond {A =
      ℕ} (key.class == class) 1 0 = sum_by_more (λ x. cond {A = ℕ} (x.class == class) 1 0) sorted t no_key h in
      let was : get_or counts class 0 ≡ count_by (λ x. x.class == class) (take t sorted) = so_far class below in
      elim (cases_eq class key.class) [
        | inl same ↦
            let here : get_or (set counts key.class (n + 1)) key.class 0 ≡ n + 1 = get_or-set_same counts key.class (n + 1) 0 inside in
            let there : get_or (set counts key.class (n + 1)) class 0 ≡ n + 1 =
            ap (λ k. get_or (set counts key.class (n + 1)) k 0) same ∙ here in
            let before : get_or counts class 0 ≡ n = ap (λ k. get_or counts k 0) same in
            let test : (key.class == class) ≡ true = grind (arith, nat_tests) in
            let one : cond {A = ℕ} (key.class == class) 1 0 ≡ 1 = ap (λ (b : Bool). cond {A = ℕ} b 1 0) test in
            omega arith
        | inr apart ↦
            let other : get_or (set counts key.class (n + 1)) class 0 ≡ get_or counts class 0 =
            get_or-set_other counts key.class class (n + 1) 0 apart in
            let test : (key.class == class) ≡ false =
            (let turned : key.class ≡ class → ⊥ = λ e. apart (sym e) in grind (arith, nat_tests)) in
            let none : cond {A = ℕ} (key.class == class) 1 0 ≡ 0 = ap (λ (b : Bool). cond {A = ℕ} b 1 0) test in
            omega arith
      ]

  pub few-keys : length sorted ≤ length pool
  few-keys = omega (
    arith,
    length_permutation (filter (is_candidate candidates.limits) (gain_keys prices pool)) sorted candidates.all,
    length-kept (is_candidate candidates.limits) (gain_keys prices pool),
    length-kept is_gain (keys_of prices pool),
    length-keys prices 0 pool,
  )

  pub low-counts : (counts : List ℕ) (t : ℕ) → t ≤ length sorted →
      ((class : ℕ) → class < length counts → get_or counts class 0 ≡ count_by (λ x. x.class == class) (take t sorted)) →
      (class : ℕ) → get_or counts class 0 ≤ t
  low-counts counts t h counted class =
      elim (cases_lt class (length counts)) [
        | inl inside ↦
            let is : get_or counts class 0 ≡ count_by (λ x. x.class == class) (take t sorted) = counted class inside in
            let most : count_by (λ x. x.class == class) (take t sorted) ≤ length (take t sorted) =
            count_by-le-length (λ x. x.class == class) (take t sorted) in
            let long = length-take-le t sorted h in
            omega arith
        | inr past ↦ let none : get_or counts class 0 ≡ 0 = get_or-past counts class past in omega arith
      ]

  -- A chosen column has an item at most once, so no count is above the number of columns walked through, and the pool's size keeps
  -- counts within 32 bits.
  pub few-more : (items item t old new : ℕ) (b : Bool) → t < length sorted → AreFit items (length caps) pool → old ≤ t →
      new ≡ old + cond b (times item (column_at pool (get_or sorted t no_key).place).items) 0 → new ≤ t + 1
  few-more items item t old new false h fit most is = omega arith
  few-more items item t old new true h fit most is =
      let place = (key-there items t h fit).place in
      let fits = fit-get items (length caps) pool (get_or sorted t no_key).place no_column place fit in
      let once = Rises-once item (column_at pool (get_or sorted t no_key).place).items fits.rises in
      omega arith
