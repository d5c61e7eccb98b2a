-- The trips of a block and the pieces of a duty, found among all rows. The rows of trips stand by number and the trips of a block rise, so
-- those of its number are its trips in their order; each trip is in one block alone, so its number is that of the first block that has it.
use Rattle.std.proofs.Common.{◌≡◌, ◌≢◌, ◌⊎◌, inl, inr, ℕ, zero, suc, ◌+◌, ◌-◌, ◌<◌, ◌≤◌, ◌==◌, ◌||◌, Bool, true, false, cond, if◌then◌else◌, nat_eq, List, [], ◌∷◌, ◌++◌, length, map, get_or, refl, sym, ap, ◌∙◌, arith, append-nil}
use Rattle.std.proofs.lemmas.Bool.Decides.{nat_tests}
use Rattle.std.specs.List.{cons_option, list_any}
use Rattle.std.specs.Prelude.{Some, None}
use Rattle.cover_core.specs.declared.Column.{Column}
use Rattle.cover_core.specs.Cover.{AllBelow, Rises}
use Rattle.cover_core.specs.Plans.{all_items, times}
use Rattle.cover_core.proofs.Parts.{times-append}
use Rattle.umlauf_write.specs.Reading.{Part, parts_in, trips_in, two}
use Rattle.umlauf_write.specs.Tables.{block_of, is_in}

-- whether an item stands in a list
abbrev pub stands : ℕ → List ℕ → Bool
stands i xs = list_any (λ x. x == i) xs

same : (n : ℕ) → nat_eq n n ≡ true
same n = grind (arith, nat_tests)

apart : (a b : ℕ) → a ≢ b → nat_eq a b ≡ false
apart a b off = grind (arith, nat_tests)

-- an item that stands no time does not stand
none-stands : (i : ℕ) (xs : List ℕ) → times i xs ≡ 0 → stands i xs ≡ false
none-stands i [] none = refl
none-stands i (x ∷ xs) none =
    elim (nat_eq x i) as (λ t. nat_eq x i ≡ t → t || stands i xs ≡ false) [
      | true ↦ λ e. absurd (once x i (times i xs) e none)
      | false ↦ λ e. none-stands i xs (omega (arith, none))
    ] refl
  where
    once : (x i n : ℕ) → nat_eq x i ≡ true → cond (i == x) 1 0 + n ≡ 0 → ⊥
    once x i n e none = let turned : i == x ≡ true = grind (arith, nat_tests) in
        let one : ◌≡◌ {A = ℕ} (cond (i == x) 1 0) 1 = rw turned refl in omega (arith, one, none)

some-stands : (i : ℕ) (xs : List ℕ) → stands i xs ≡ true → 0 < times i xs
some-stands i [] there = absurd (cc)
some-stands i (x ∷ xs) there =
    elim (nat_eq x i) as (λ t. nat_eq x i ≡ t → t || stands i xs ≡ true → 0 < times i (x ∷ xs)) [
      | true ↦ λ e h. first x i (times i xs) e
      | false ↦ λ e h. let rest = some-stands i xs h in omega (arith, rest)
    ] refl there
  where
    first : (x i n : ℕ) → nat_eq x i ≡ true → 0 < cond (i == x) 1 0 + n
    first x i n e = let turned : i == x ≡ true = grind (arith, nat_tests) in let one : ◌≡◌ {A = ℕ} (cond (i == x) 1 0) 1 = rw turned refl in
        omega (arith, one)

no-stands : (i : ℕ) (xs : List ℕ) → stands i xs ≡ false → times i xs ≡ 0
no-stands i [] off = refl
no-stands i (x ∷ xs) off =
    elim (nat_eq x i) as (λ t. nat_eq x i ≡ t → t || stands i xs ≡ false → times i (x ∷ xs) ≡ 0) [
      | true ↦ λ e h. absurd (cc)
      | false ↦ λ e h. none x i (times i xs) e (no-stands i xs h)
    ] refl off
  where
    none : (x i n : ℕ) → nat_eq x i ≡ false → n ≡ 0 → cond (i == x) 1 0 + n ≡ 0
    none x i n e nil = let turned : i == x ≡ false = grind (arith, nat_tests) in
        let one : ◌≡◌ {A = ℕ} (cond (i == x) 1 0) 0 = rw turned refl in omega (arith, one, nil)

-- A block that comes later has a later number, or none has the trip. Blocks are numbered on from `first`; so in `owner` no block
-- behind can have the number of one before it.
numbers-later : (first : ℕ) (cs : List Column) (i : ℕ) → (first ≤ block_of first cs i) ⊎ (block_of first cs i ≡ 0)
numbers-later first [] i = inr refl
numbers-later first (c ∷ cs) i =
    elim (is_in i c) as (λ t. (first ≤ (if t then first else block_of (first + 1) cs i)) ⊎
    ((if t then first else block_of (first + 1) cs i) ≡ 0)) [
      | true ↦ inl (omega arith)
      | false ↦ later (numbers-later (first + 1) cs i)
    ]
  where
    later : (first + 1 ≤ block_of (first + 1) cs i) ⊎ (block_of (first + 1) cs i ≡ 0) →
        (first ≤ block_of (first + 1) cs i) ⊎ (block_of (first + 1) cs i ≡ 0)
    later (inl h) = inl (omega (arith, h))
    later (inr h) = inr h

-- the trips of a block are among those of all
part-times : (i k : ℕ) (cs : List Column) (d : Column) → k < length cs → times i (get_or cs k d).items ≤ times i (all_items cs)
part-times i k [] d within = absurd (omega arith)
part-times i zero (c ∷ cs) d within = omega (arith, times-append i c.items (all_items cs))
part-times i (suc k) (c ∷ cs) d within = omega (arith, times-append i c.items (all_items cs), part-times i k cs d (omega arith))

-- A trip that is in one block alone is in the block of its number, and in no other. By induction over the blocks: where the first has
-- the trip, the number is the first's, and no later block has the trip, as it would stand twice; where the first has it not, the trip
-- stands once among the others, which are counted on from the next number. So `block_of`, which stops at the first block that has the
-- trip, decides for every block whether the trip is its own.
owner : (first : ℕ) (cs : List Column) (i k : ℕ) (d : Column) → 0 < first → k < length cs → times i (all_items cs) ≡ 1 →
    stands i (get_or cs k d).items ≡ nat_eq (block_of first cs i) (first + k)
owner first [] i k d one within once = absurd (omega arith)
owner first (c ∷ cs) i zero d one within once =
    elim (is_in i c) as (λ t. t ≡ nat_eq (if t then first else block_of (first + 1) cs i) (first + zero)) [
      | true ↦ here first
      | false ↦ later first (block_of (first + 1) cs i) one (numbers-later (first + 1) cs i)
    ]
  where
    here : (n : ℕ) → true ≡ nat_eq n (n + 0)
    here n = grind (arith, nat_tests)

    later : (first n : ℕ) → 0 < first → (first + 1 ≤ n) ⊎ (n ≡ 0) → false ≡ nat_eq n (first + 0)
    later first n one (inl h) = grind (arith, nat_tests)
    later first n one (inr h) = grind (arith, nat_tests)
owner first (c ∷ cs) i (suc k) d one within once =
    elim (is_in i c) as (λ t. is_in i c ≡ t →
    stands i (get_or cs k d).items ≡ nat_eq (if t then first else block_of (first + 1) cs i) (first + suc k)) [
      | true ↦ λ e.
          let more = some-stands i c.items e in
          let least = part-times i k cs d (omega arith) in
          let none : times i (get_or cs k d).items ≡ 0 = omega (arith, times-append i c.items (all_items cs), more, least, once) in
          none-stands i (get_or cs k d).items none ∙ beyond first k
      | false ↦ λ e.
          let rest : times i (all_items cs) ≡ 1 = omega (arith, times-append i c.items (all_items cs), no-stands i c.items e, once) in
          let moved : first + 1 + k ≡ first + suc k = omega arith in
          owner (first + 1) cs i k d (omega arith) (omega arith) rest ∙ ap (λ n. nat_eq (block_of (first + 1) cs i) n) moved
    ] refl
  where
    beyond : (first k : ℕ) → false ≡ nat_eq first (first + suc k)
    beyond first k = grind (arith, nat_tests)

-- its block is there
pub owned-there : (first : ℕ) (cs : List Column) (i : ℕ) → times i (all_items cs) ≡ 1 →
    (first ≤ block_of first cs i) × (block_of first cs i < first + length cs)
owned-there first [] i once = absurd (cc)
owned-there first (c ∷ cs) i once =
    elim (is_in i c) as (λ t. is_in i c ≡ t → (first ≤ (if t then first else block_of (first + 1) cs i))
    × ((if t then first else block_of (first + 1) cs i) < first + length (c ∷ cs))) [
      | true ↦ λ e. (omega arith, omega arith)
      | false ↦ λ e.
          let rest : times i (all_items cs) ≡ 1 = omega (arith, times-append i c.items (all_items cs), no-stands i c.items e, once) in
          let both = owned-there (first + 1) cs i rest in
          let first_low = both.0 in
          let last_high = both.1 in
          (omega (arith, first_low), omega (arith, last_high))
    ] refl

-- each trip with its block from 0
abbrev pub owned : {A : Type 0} → List Column → ℕ → List A → List (ℕ × ℕ)
owned cs k [] = []
owned cs k (t ∷ ts) = two k (block_of 1 cs k - 1) ∷ owned cs (k + 1) ts

-- the first of a list is not below a number
abbrev From : ℕ → List ℕ → Type 0
From k [] = Unit {0}
From k (x ∷ xs) = k ≤ x

rises-tail : (x : ℕ) (xs : List ℕ) → Rises (x ∷ xs) → Rises xs × From (x + 1) xs
rises-tail x [] rise = (tt, tt)
rises-tail x (y ∷ ys) rise = let less = rise.0 in (rise.1, omega (arith, less))

not-before : (k : ℕ) (xs : List ℕ) → Rises xs → From (k + 1) xs → stands k xs ≡ false
not-before k [] rise from = refl
not-before k (x ∷ xs) rise from =
    let tail = rises-tail x xs rise in
    let off : nat_eq x k ≡ false = above x k from in
    ap (λ (t : Bool). t || stands k xs) off ∙ not-before k xs tail.0 (lower x k xs tail.1 from)
  where
    above : (x k : ℕ) → k + 1 ≤ x → nat_eq x k ≡ false
    above x k h = grind (arith, nat_tests)

    lower : (x k : ℕ) (xs : List ℕ) → From (x + 1) xs → k + 1 ≤ x → From (k + 1) xs
    lower x k [] from h = tt
    lower x k (y ∷ ys) from h = omega (arith, from, h)

-- Rows of trips, read from the number `k` on, give a block exactly the rising list of its trips, of which those below `k` are taken
-- off already. If the list begins with `k` the row of `k` is picked and the list goes on behind it; if not, `k` stands nowhere in it,
-- as all its trips are greater, and the row is passed over. The list keeps rising, from `k` on and below the end, so at the end of the
-- rows it is empty.
picked : {A : Type 0} (cs : List Column) (block k : ℕ) (ts : List A) (xs : List ℕ) → Rises xs → From k xs → AllBelow (k + length ts) xs →
    ((i : ℕ) → k ≤ i → i < k + length ts → nat_eq (block_of 1 cs i - 1) block ≡ stands i xs) → trips_in block (owned cs k ts) ≡ xs
picked cs block k [] [] rise from below test = refl
picked cs block k [] (x ∷ xs) rise from below test = let low = below.0 in absurd (omega (arith, low, from))
picked cs block k (t ∷ ts) [] rise from below test =
    ap (λ (b : Bool). cons_option (if b then Some k else None) (trips_in block (owned cs (k + 1) ts))) (test k (omega arith) (omega arith))
    ∙ picked cs block (k + 1) ts [] tt tt tt (λ i low high. test i (omega (arith, low)) (omega (arith, high)))
picked {A} cs block k (t ∷ ts) (x ∷ xs) rise from below test =
    let moved : k + length (t ∷ ts) ≡ k + 1 + length ts = omega arith in
    elim (nat_eq x k) as (λ b. nat_eq x k ≡ b → trips_in block (owned cs k (t ∷ ts)) ≡ x ∷ xs) [
      | true ↦ λ e.
          let tail = rises-tail x xs rise in
          let here : nat_eq (block_of 1 cs k - 1) block ≡ true =
          test k (omega arith) (omega arith) ∙ ap (λ (b : Bool). b || stands k xs) e in
          let rest = picked cs block (k + 1) ts xs tail.0 (from-next x k xs (equal x k e) tail.1) (below-next _ _ xs moved below.1)
          (λ i low high. test i (omega (arith, low)) (omega (arith, high)) ∙ ap (λ (b : Bool). b || stands i xs) (other x i k e low)) in
          ap (λ (b : Bool). cons_option (if b then Some k else None) (trips_in block (owned cs (k + 1) ts))) here
          ∙ (ap (λ (l : List ℕ). k ∷ l) rest ∙ ap (λ (n : ℕ). n ∷ xs) (sym (equal x k e)))
      | false ↦ λ e.
          let above = unequal x k e from in
          ap (λ (b : Bool). cons_option (if b then Some k else None) (trips_in block (owned cs (k + 1) ts)))
          (test k (omega arith) (omega arith) ∙ not-before k (x ∷ xs) rise above)
          ∙ picked cs block (k + 1) ts (x ∷ xs) rise above (below-next _ _ (x ∷ xs) moved below)
          (λ i low high. test i (omega (arith, low)) (omega (arith, high)))
    ] refl
  where
    equal : (a b : ℕ) → nat_eq a b ≡ true → a ≡ b
    equal a b e = grind (arith, nat_tests)

    other : (x i k : ℕ) → nat_eq x k ≡ true → k + 1 ≤ i → nat_eq x i ≡ false
    other x i k e h = grind (arith, nat_tests)

    unequal : (x k : ℕ) → nat_eq x k ≡ false → k ≤ x → k + 1 ≤ x
    unequal x k e h = grind (arith, nat_tests)

    from-next : (x k : ℕ) (xs : List ℕ) → x ≡ k → From (x + 1) xs → From (k + 1) xs
    from-next x k [] e h = tt
    from-next x k (y ∷ ys) e h = omega (arith, e, h)

    below-next : (n m : ℕ) (xs : List ℕ) → n ≡ m → AllBelow n xs → AllBelow m xs
    below-next n m [] e h = tt
    below-next n m (y ∷ ys) e h = let low = h.0 in (omega (arith, e, low), below-next n m ys e h.1)

-- The trips of the block at a place: picked from all rows by the block's number they are the block's list. By `owner` a row has this
-- number exactly where its trip stands in the list, and `picked` goes over all rows from 0 on. So REC_FRT alone says the blocks'
-- trips, and in order.
pub block-trips : {A : Type 0} (cs : List Column) (ts : List A) (k : ℕ) (d : Column) → k < length cs → Rises (get_or cs k d).items →
    AllBelow (length ts) (get_or cs k d).items →
    ((i : ℕ) → i < length ts → times i (all_items cs) ≡ 1) → trips_in k (owned cs 0 ts) ≡ (get_or cs k d).items
block-trips cs ts k d within rise below once =
    picked cs k 0 ts (get_or cs k d).items rise (from-zero (get_or cs k d).items) (below-zero _ below)
    (λ i low high. let one = once i (omega (arith, high)) in let there =
    owned-there 1 cs i one in less-one (block_of 1 cs i) k there.0 ∙ sym (owner 1 cs i k d (omega arith) within one))
  where
    from-zero : (xs : List ℕ) → From 0 xs
    from-zero [] = tt
    from-zero (x ∷ xs) = omega arith

    below-zero : (xs : List ℕ) → AllBelow (length ts) xs → AllBelow (0 + length ts) xs
    below-zero [] h = tt
    below-zero (x ∷ xs) h = let low = h.0 in (omega (arith, low), below-zero xs h.1)

    less-one : (n k : ℕ) → 1 ≤ n → nat_eq (n - 1) k ≡ nat_eq n (1 + k)
    less-one n k h = grind (arith, nat_tests)

-- the pieces of duties.
abbrev tagged : ℕ → ℕ × ℕ → Part
tagged duty x = (duty, x)

abbrev pub tag_all : (ℕ → ℕ × ℕ) → ℕ → List ℕ → List Part
tag_all at duty [] = []
tag_all at duty (item ∷ items) = tagged duty (at item) ∷ tag_all at duty items

-- the pieces of duties, one duty after another
abbrev pub all_tagged : (ℕ → ℕ × ℕ) → ℕ → List Column → List Part
all_tagged at duty [] = []
all_tagged at duty (c ∷ cs) = tag_all at duty c.items ++ all_tagged at (duty + 1) cs

parts-both : (duty : ℕ) (xs ys : List Part) → parts_in duty (xs ++ ys) ≡ parts_in duty xs ++ parts_in duty ys
parts-both duty [] ys = refl
parts-both duty (x ∷ xs) ys =
    elim (nat_eq x.0 duty) as (λ b. cons_option (if b then Some x.1 else None) (parts_in duty (xs ++ ys))
    ≡ cons_option (if b then Some x.1 else None) (parts_in duty xs) ++ parts_in duty ys) [
      | true ↦ ap (λ (l : List (ℕ × ℕ)). x.1 ∷ l) (parts-both duty xs ys)
      | false ↦ parts-both duty xs ys
    ]

own-parts : (at : ℕ → ℕ × ℕ) (duty : ℕ) (items : List ℕ) → parts_in duty (tag_all at duty items) ≡ map at items
own-parts at duty [] = refl
own-parts at duty (item ∷ items) =
    ap (λ (b : Bool). cons_option (if b then Some (at item) else None) (parts_in duty (tag_all at duty items))) (same duty)
    ∙ ap (λ (l : List (ℕ × ℕ)). at item ∷ l) (own-parts at duty items)

other-parts : (at : ℕ → ℕ × ℕ) (duty other : ℕ) (items : List ℕ) → duty ≢ other → parts_in other (tag_all at duty items) ≡ []
other-parts at duty other [] off = refl
other-parts at duty other (item ∷ items) off =
    ap (λ (b : Bool). cons_option (if b then Some (at item) else None) (parts_in other (tag_all at duty items))) (apart duty other off)
    ∙ other-parts at duty other items off

-- Tags of duties rise, so rows behind those of a duty never have its number.
before-parts : (at : ℕ → ℕ × ℕ) (duty other : ℕ) (cs : List Column) → other < duty → parts_in other (all_tagged at duty cs) ≡ []
before-parts at duty other [] low = refl
before-parts at duty other (c ∷ cs) low =
    parts-both other (tag_all at duty c.items) (all_tagged at (duty + 1) cs)
    ∙ (ap (λ (l : List (ℕ × ℕ)). l ++ parts_in other (all_tagged at (duty + 1) cs))
    (other-parts at duty other c.items (λ e. absurd (omega (arith, e, low)))) ∙ before-parts at (duty + 1) other cs (omega arith))

-- The pieces of the duty at a place. Rows stand duty by duty, each with the number of its duty: going to the place, the rows of the
-- duties before have other numbers (`other-parts`), those of the duty itself are all picked (`own-parts`), and none behind has its
-- number (`before-parts`). Pieces may stand in any order and need not be distinct, so nothing of the plan is asked here.
pub duty-parts : (at : ℕ → ℕ × ℕ) (duty k : ℕ) (cs : List Column) (d : Column) → k < length cs →
    parts_in (duty + k) (all_tagged at duty cs) ≡ map at (get_or cs k d).items
duty-parts at duty k [] d within = absurd (omega arith)
duty-parts at duty zero (c ∷ cs) d within =
    let here : duty + 0 ≡ duty = omega arith in
    ap (λ n. parts_in n (all_tagged at duty (c ∷ cs))) here
    ∙ (parts-both duty (tag_all at duty c.items) (all_tagged at (duty + 1) cs)
    ∙ (ap (λ (l : List (ℕ × ℕ)). parts_in duty (tag_all at duty c.items) ++ l) (before-parts at (duty + 1) duty cs (omega arith))
    ∙ (append-nil (parts_in duty (tag_all at duty c.items)) ∙ own-parts at duty c.items)))
duty-parts at duty (suc k) (c ∷ cs) d within =
    let moved : duty + 1 + k ≡ duty + suc k = omega arith in
    parts-both (duty + suc k) (tag_all at duty c.items) (all_tagged at (duty + 1) cs)
    ∙ (ap (λ (l : List (ℕ × ℕ)). l ++ parts_in (duty + suc k) (all_tagged at (duty + 1) cs))
    (other-parts at duty (duty + suc k) c.items (λ e. absurd (omega (arith, e))))
    ∙ (ap (λ n. parts_in n (all_tagged at (duty + 1) cs)) (sym moved) ∙ duty-parts at (duty + 1) k cs d (omega arith)))
