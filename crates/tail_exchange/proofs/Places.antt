-- Where columns stand before a step and after it.
use Rattle.std.proofs.Common.{◌≡◌, ◌≢◌, ◌⊎◌, inl, inr, ℕ, ◌+◌, ◌-◌, ◌<◌, ◌≤◌, Bool, true, false, cond, ◌==◌, ◌&&◌, zero, suc, List, [], ◌∷◌, ◌++◌, length, get_or, take, drop, Less, Equal, Greater, refl, sym, ap, ◌∙◌, subst, arith, get_or-set_other, get_or-set_same, length-set, length-append}
use Rattle.std.specs.Prelude.{filter, nat_lt}
use Rattle.std.specs.Ordering.{nat_cmp}
use Rattle.std.specs.Cmp.{nat_cmp_is}
use Rattle.std.proofs.Math.ListN.{set, get_or-append}
use Rattle.std.proofs.Math.Seq.{drop-length}
use Rattle.std.proofs.lemmas.Bool.{cases_eq}
use Rattle.std.proofs.lemmas.Bool.Decides.{nat_tests}
use Rattle.cover_core.specs.declared.Column.{Column}
use Rattle.cover_core.specs.Cover.{Problem}
use Rattle.cover_core.specs.Parts.{no_column, column_at}
use Rattle.tail_exchange.specs.Exchange.{made, has_any, joined, swapped, parted}
use Rattle.tail_exchange.specs.Kept.{place_before, place_after, IsMoved}

before-cases : (g k : ℕ) → ((k < g) × (place_before g k ≡ k)) ⊎ ((g ≤ k) × (place_before g k ≡ k + 1))
before-cases g k =
    elim (nat_lt k g) as (λ t. nat_lt k g ≡ t → ((k < g) × (cond t k (k + 1) ≡ k)) ⊎ ((g ≤ k) × (cond t k (k + 1) ≡ k + 1))) [
      | true ↦ λ test. inl (grind (arith, nat_tests), refl)
      | false ↦ λ test. inr (grind (arith, nat_tests), refl)
    ] refl

after-cases : (g k : ℕ) → ((g < k) × (place_after g k ≡ k - 1)) ⊎ ((k ≤ g) × (place_after g k ≡ k))
after-cases g k =
    elim (nat_lt g k) as (λ t. nat_lt g k ≡ t → ((g < k) × (cond t (k - 1) k ≡ k - 1)) ⊎ ((k ≤ g) × (cond t (k - 1) k ≡ k))) [
      | true ↦ λ test. inl (grind (arith, nat_tests), refl)
      | false ↦ λ test. inr (grind (arith, nat_tests), refl)
    ] refl

-- The places before rise with those after. Where one column vanishes those behind it move up by one. The place before of a place
-- after skips the vanished one: it rises, and with the two lemmas below it is a bijection between the places after and the places
-- before but for that one. So what stood in an order stands in the same order, and places need no search.
pub before-less : (g m n : ℕ) → m < n → place_before g m < place_before g n
before-less g m n less =
    elim (before-cases g m) [
      | inl low ↦ let l = low.0 in let e = low.1 in
          elim (before-cases g n) [
            | inl high ↦ (let k = high.0 in let f = high.1 in omega arith)
            | inr high ↦
                (let k = high.0 in let f = high.1 in omega arith)
          ]
      | inr low ↦ let l = low.0 in let e = low.1 in
          elim (before-cases g n) [
            | inl high ↦ (let k = high.0 in let f = high.1 in omega arith)
            | inr high ↦
                (let k = high.0 in let f = high.1 in omega arith)
          ]
    ]

pub less-before : (g m n : ℕ) → place_before g m < place_before g n → m < n
less-before g m n less =
    elim (before-cases g m) [
      | inl low ↦ let l = low.0 in let e = low.1 in
          elim (before-cases g n) [
            | inl high ↦ (let k = high.0 in let f = high.1 in omega arith)
            | inr high ↦
                (let k = high.0 in let f = high.1 in omega arith)
          ]
      | inr low ↦ let l = low.0 in let e = low.1 in
          elim (before-cases g n) [
            | inl high ↦ (let k = high.0 in let f = high.1 in omega arith)
            | inr high ↦
                (let k = high.0 in let f = high.1 in omega arith)
          ]
    ]

-- the place after of the place before is the place
pub after-before : (g k : ℕ) → place_after g (place_before g k) ≡ k
after-before g k =
    elim (before-cases g k) [
      | inl low ↦ let l = low.0 in let e = low.1 in
          elim (after-cases g (place_before g k)) [
            | inl high ↦ (let h = high.0 in let f = high.1 in omega arith)
            | inr high ↦
                (let h = high.0 in let f = high.1 in omega arith)
          ]
      | inr low ↦ let l = low.0 in let e = low.1 in
          elim (after-cases g (place_before g k)) [
            | inl high ↦ (let h = high.0 in let f = high.1 in omega arith)
            | inr high ↦
                (let h = high.0 in let f = high.1 in omega arith)
          ]
    ]

pub before-after : (g k : ℕ) → k ≢ g → place_before g (place_after g k) ≡ k
before-after g k stays =
    elim (after-cases g k) [
      | inl low ↦ let l = low.0 in let e = low.1 in
          elim (before-cases g (place_after g k)) [
            | inl high ↦ (let h = high.0 in let f = high.1 in omega arith)
            | inr high ↦
                (let h = high.0 in let f = high.1 in omega arith)
          ]
      | inr low ↦ let l = low.0 in let e = low.1 in
          elim (before-cases g (place_after g k)) [
            | inl high ↦ (let h = high.0 in let f = high.1 in omega arith)
            | inr high ↦
                (let h = high.0 in let f = high.1 in omega arith)
          ]
    ]

nat_cmp-itself : (m n : ℕ) → m ≡ n → nat_cmp m n ≡ Equal
nat_cmp-itself m n e = sym (nat_cmp_is m n Equal e)

-- And so they compare alike: ties between swaps are broken by the places of their columns, and moving up changes no tie.
pub before-cmp : (g m n : ℕ) → nat_cmp (place_before g m) (place_before g n) ≡ nat_cmp m n
before-cmp g m n =
    elim (cases_eq m n) [
      | inl e ↦ nat_cmp-itself (place_before g m) (place_before g n) (ap (place_before g) e) ∙ sym (nat_cmp-itself m n e)
      | inr apart ↦ go (nat_lt m n) refl apart
    ]
  where
    go : (t : Bool) → nat_lt m n ≡ t → m ≢ n → nat_cmp (place_before g m) (place_before g n) ≡ nat_cmp m n
    go true test apart =
        let less : m < n = grind (arith, nat_tests) in
        sym (nat_cmp_is (place_before g m) (place_before g n) Less (before-less g m n less)) ∙ nat_cmp_is m n Less less
    go false test apart =
        let no : n ≤ m = grind (arith, nat_tests) in
        let more : n < m = omega arith in
        sym (nat_cmp_is (place_before g m) (place_before g n) Greater (before-less g n m more)) ∙ nat_cmp_is m n Greater more

module _ {X : Type 0} (q : X → Bool) where
  filter-few : (xs : List X) → length (filter q xs) ≤ length xs
  filter-few [] = omega arith
  filter-few (x ∷ xs) =
      let few = filter-few xs in
      elim (q x) as (λ t. length (cond t (x ∷ filter q xs) (filter q xs)) ≤ length (x ∷ xs)) [ true ↦ omega arith | false ↦ omega arith ]

  -- a list that a filter leaves as long as it was is left as it was
  filter-whole : (xs : List X) → length (filter q xs) ≡ length xs → filter q xs ≡ xs
  filter-whole [] = λ e. refl
  filter-whole (x ∷ xs) =
      let few = filter-few xs in
      elim (q x) as (λ t. length (cond t (x ∷ filter q xs) (filter q xs)) ≡ length (x ∷ xs) →
      cond t (x ∷ filter q xs) (filter q xs) ≡ x ∷ xs) [
        | true ↦ λ e. ap (λ l. x ∷ l) (filter-whole xs (omega arith))
        | false ↦ λ e. absurd (omega arith)
      ]

  filter-fewer : (xs : List X) (g : ℕ) (d : X) → g < length xs → q (get_or xs g d) ≡ false → length (filter q xs) < length xs
  filter-fewer [] g d below out = absurd (omega arith)
  filter-fewer (x ∷ xs) zero d below out =
      let few = filter-few xs in
      let P : Bool → Type 0 = λ t. length (cond t (x ∷ filter q xs) (filter q xs)) < length (x ∷ xs) in
      subst P (sym out) (omega arith)
  filter-fewer (x ∷ xs) (suc g) d below out =
      let fewer = filter-fewer xs g d (omega arith) out in
      elim (q x) as (λ t. length (cond t (x ∷ filter q xs) (filter q xs)) < length (x ∷ xs)) [ true ↦ omega arith | false ↦ omega arith ]

  -- Where a filter leaves one fewer, and one is left out, those behind it move up by one. Empty columns vanish by a filter of the
  -- whole plan; since its length tells how many vanished, and one empty place is known, no other can have gone: by induction over
  -- the list.
  filter-one : (xs : List X) (g k : ℕ) (d : X) → g < length xs → q (get_or xs g d) ≡ false → length (filter q xs) + 1 ≡ length xs →
      get_or (filter q xs) k d ≡ get_or xs (place_before g k) d
  filter-one [] g k d below out = λ one. absurd (omega arith)
  filter-one (x ∷ xs) zero k d below out =
      let P : Bool → Type 0 = λ t. length (cond t (x ∷ filter q xs) (filter q xs)) + 1 ≡ length (x ∷ xs) →
      get_or (cond t (x ∷ filter q xs) (filter q xs)) k d ≡ get_or (x ∷ xs) (place_before zero k) d in
      subst P (sym out) (λ one.
      let next : suc k ≡ place_before zero k = from-zero k in
      ap (λ l. get_or l k d) (filter-whole xs (omega arith)) ∙ ap (λ n. get_or (x ∷ xs) n d) next)
    where
      from-zero : (k : ℕ) → suc k ≡ place_before zero k
      from-zero k = elim (before-cases zero k) [
        | inl low ↦ absurd (let l = low.0 in omega arith)
        | inr high ↦
            (let e = high.1 in omega arith)
      ]
  filter-one (x ∷ xs) (suc g) zero d below out =
      let fewer = filter-fewer xs g d (omega arith) out in
      let here : place_before (suc g) zero ≡ zero =
      elim (before-cases (suc g) zero) [ inl low ↦ low.1 | inr high ↦ absurd (let l = high.0 in omega arith) ] in
      elim (q x) as (λ t. length (cond t (x ∷ filter q xs) (filter q xs)) + 1 ≡ length (x ∷ xs) →
      get_or (cond t (x ∷ filter q xs) (filter q xs)) zero d ≡ get_or (x ∷ xs) (place_before (suc g) zero) d) [
        | true ↦ λ one. sym (ap (λ n. get_or (x ∷ xs) n d) here)
        | false ↦ λ one. absurd (omega arith)
      ]
  filter-one (x ∷ xs) (suc g) (suc k) d below out =
      let fewer = filter-fewer xs g d (omega arith) out in
      elim (q x) as (λ t. length (cond t (x ∷ filter q xs) (filter q xs)) + 1 ≡ length (x ∷ xs) →
      get_or (cond t (x ∷ filter q xs) (filter q xs)) (suc k) d ≡ get_or (x ∷ xs) (place_before (suc g) (suc k)) d) [
        | true ↦ λ one. filter-one xs g k d (omega arith) out (omega arith) ∙ ap (λ n. get_or (x ∷ xs) n d) (next g k)
        | false ↦ λ one. absurd (omega arith)
      ]
    where
      next : (g k : ℕ) → suc (place_before g k) ≡ place_before (suc g) (suc k)
      next g k =
          elim (before-cases g k) [
            | inl low ↦ let l = low.0 in let e = low.1 in
                elim (before-cases (suc g) (suc k)) [
                  | inl high ↦ (let h = high.0 in let f = high.1 in omega arith)
                  | inr high ↦
                      (let h = high.0 in let f = high.1 in omega arith)
                ]
            | inr low ↦ let l = low.0 in let e = low.1 in
                elim (before-cases (suc g) (suc k)) [
                  | inl high ↦ (let h = high.0 in let f = high.1 in omega arith)
                  | inr high ↦
                      (let h = high.0 in let f = high.1 in omega arith)
                ]
          ]

before-below : (g k : ℕ) → k < g → place_before g k ≡ k
before-below g k below = elim (before-cases g k) [ inl low ↦ low.1 | inr high ↦ absurd (let l = high.0 in omega arith) ]

after-below : (g k : ℕ) → k ≤ g → place_after g k ≡ k
after-below g k below = elim (after-cases g k) [ inl low ↦ absurd (let l = low.0 in omega arith) | inr high ↦ high.1 ]

-- nothing stands in front of place 0 and nothing from the length on
joined-nothing : (xs ys : List ℕ) (i j : ℕ) → ((i == 0) && (j == length ys)) ≡ true → joined xs i ys j ≡ []
joined-nothing xs ys i j test =
    let front : i ≡ 0 = grind (arith, nat_tests) in
    let tail : j ≡ length ys = grind (arith, nat_tests) in
    ap (λ n. take n xs ++ drop j ys) front ∙ ap (λ n. drop n ys) tail ∙ drop-length ys

module _ (p : Problem) (columns : List Column) (a b i j : ℕ) (order : a < b) (below : b < length columns) where
  abbrev c : Column
  c = column_at columns a

  abbrev d : Column
  d = column_at columns b

  abbrev first_made : Column
  first_made = made p c.class (joined c.items i d.items j)

  abbrev second_made : Column
  second_made = made p d.class (joined d.items j c.items i)

  abbrev twice : List Column
  twice = set (set columns a first_made) b second_made

  long : length twice ≡ length columns
  long = length-set (set columns a first_made) b second_made ∙ length-set columns a first_made

  other : (k : ℕ) → k ≢ a → k ≢ b → column_at twice k ≡ column_at columns k
  other k k_a k_b = get_or-set_other (set columns a first_made) b k second_made no_column k_b
      ∙ get_or-set_other columns a k first_made no_column k_a

  -- Both columns stay: nothing has vanished, and every other column is what and where it was. This and the four lemmas below are
  -- the ways in which a step can end: a swap after which both columns, the first or the second is left, and a cut that leaves a
  -- front or nothing. Each gives the one description `IsMoved`, on which alone the renewal of kept swaps rests.
  pub swap-stays : length (swapped p columns a b i j) ≡ length columns → IsMoved columns (swapped p columns a b i j) (length columns) a b
  swap-stays len =
      let n = length columns in
      let whole : swapped p columns a b i j ≡ twice = filter-whole (λ c. has_any c.items) twice (len ∙ sym long) in
      record {
        first = omega arith;
        second = omega arith;
        stood = λ k inside k_a k_b. let e = before-below n k (omega arith) in omega arith;
        same = λ k inside k_a k_b. ap (λ l. column_at l k) whole ∙ other k k_a k_b
            ∙ sym (ap (column_at columns) (before-below n k (omega arith)));
        stands = λ k inside stays. let e = after-below n k (omega arith) in omega arith;
      }

  -- one of them vanishes
  one-vanishes : (g x : ℕ) → g < length columns → x < length columns - 1 → length (swapped p columns a b i j) ≡ length columns - 1 →
      has_any (column_at twice g).items ≡ false →
      ((k : ℕ) → k < length columns - 1 → k ≢ x → (place_before g k ≢ a) × (place_before g k ≢ b)) →
      IsMoved columns (swapped p columns a b i j) g x x
  one-vanishes g x gone kept len out apart =
      let n = length columns in
      let Here = λ (k : ℕ). place_before g k < n in
      record {
        first = omega arith;
        second = omega arith;
        stood = λ k inside k_x k_y. elim (before-cases g k) [
          | inl low ↦ (let e = low.1 in omega arith)
          | inr high ↦
              (let e = high.1 in omega arith)
        ];
        same = λ k inside k_x k_y.
            let away = apart k (omega arith) k_x in
            filter-one (λ c. has_any c.items) twice g k no_column (omega (arith, long)) out (omega (arith, long))
            ∙ other (place_before g k) away.0 away.1;
        stands = λ k inside stays. elim (after-cases g k) [
          | inl low ↦ (let e = low.1 in omega arith)
          | inr high ↦
              (let l = high.0 in let e = high.1 in omega arith)
        ];
      }

  -- The second column has given all its items to the first, with none in return: its list is empty, so it is the one that vanishes.
  pub second-vanishes : ((j == 0) && (i == length c.items)) ≡ true → length (swapped p columns a b i j) ≡ length columns - 1 →
      IsMoved columns (swapped p columns a b i j) b a a
  second-vanishes test len =
      let at : column_at twice b ≡ second_made =
      get_or-set_same (set columns a first_made) b second_made no_column (omega (arith, length-set columns a first_made)) in
      let none : (column_at twice b).items ≡ [] = ap (λ (e : Column). e.items) at ∙ joined-nothing d.items c.items j i test in
      one-vanishes b a below (omega arith) len (ap has_any none) (λ k inside k_a.
      elim (before-cases b k) [
        | inl low ↦ let l = low.0 in let e = low.1 in ((λ f. k_a (omega arith)), λ f. omega arith)
        | inr high ↦ let l = high.0 in let e = high.1 in ((λ f. omega arith), λ f. omega arith)
      ])

  -- The first column has vanished, so the second, which has all items now, stands one place earlier than it did.
  pub first-vanishes : ((i == 0) && (j == length d.items)) ≡ true → length (swapped p columns a b i j) ≡ length columns - 1 →
      IsMoved columns (swapped p columns a b i j) a (b - 1) (b - 1)
  first-vanishes test len =
      let before_b : a ≢ b = λ e. omega arith in
      let at : column_at twice a ≡ first_made = get_or-set_other (set columns a first_made) b a second_made no_column before_b
      ∙ get_or-set_same columns a first_made no_column (omega arith) in
      let none : (column_at twice a).items ≡ [] = ap (λ (e : Column). e.items) at ∙ joined-nothing c.items d.items i j test in
      one-vanishes a (b - 1) (omega arith) (omega arith) len (ap has_any none) (λ k inside k_x.
      elim (before-cases a k) [
        | inl low ↦ let l = low.0 in let e = low.1 in ((λ f. omega arith), λ f. omega arith)
        | inr high ↦ let l = high.0 in let e = high.1 in ((λ f. omega arith), λ f. k_x (omega arith))
      ])

module _ (p : Problem) (columns : List Column) (a i class : ℕ) (below : a < length columns) where
  abbrev whole : Column
  whole = column_at columns a

  abbrev front : Column
  front = made p whole.class (take i whole.items)

  abbrev tail : Column
  tail = made p class (drop i whole.items)

  abbrev both : List Column
  both = set columns a front ++ tail ∷ []

  both-len : length both ≡ length columns + 1
  both-len = omega (arith, length-append (set columns a front) (tail ∷ []), length-set columns a front)

  in-front : (k : ℕ) → k < length columns → column_at both k ≡ column_at (set columns a front) k
  in-front k inside = get_or-append (set columns a front) (tail ∷ []) no_column k (omega (arith, length-set columns a front))

  -- the column that is cut keeps an initial part
  pub cut-stays : length (parted p columns a i class) ≡ length columns + 1 →
      IsMoved columns (parted p columns a i class) (length columns) a (length columns)
  cut-stays len =
      let n = length columns in
      let all : parted p columns a i class ≡ both = filter-whole (λ c. has_any c.items) both (len ∙ sym both-len) in
      record {
        first = omega arith;
        second = omega arith;
        stood = λ k inside k_a k_n. let e = before-below n k (omega arith) in omega arith;
        same = λ k inside k_a k_n. ap (λ l. column_at l k) all ∙ in-front k (omega arith) ∙ get_or-set_other columns a k front no_column k_a
            ∙ sym (ap (column_at columns) (before-below n k (omega arith)));
        stands = λ k inside stays. let e = after-below n k (omega arith) in omega arith;
      }

  -- All of it is cut off: the column becomes one of another class, which is put last; so the old one vanishes, the plan is as long
  -- as before, and the last place is the changed one.
  pub cut-vanishes : i ≡ 0 → length (parted p columns a i class) ≡ length columns →
      IsMoved columns (parted p columns a i class) a (length columns - 1) (length columns - 1)
  cut-vanishes start len =
      let n = length columns in
      let at : column_at both a ≡ front = in-front a below ∙ get_or-set_same columns a front no_column below in
      let none : (column_at both a).items ≡ [] = ap (λ (e : Column). e.items) at ∙ ap (λ m. take m whole.items) start in
      record {
        first = omega arith;
        second = omega arith;
        stood = λ k inside k_x k_y. elim (before-cases a k) [
          | inl low ↦ (let e = low.1 in omega arith)
          | inr high ↦
              (let e = high.1 in omega arith)
        ];
        same = λ k inside k_x k_y.
            elim (before-cases a k) [
              | inl low ↦
                  let l = low.0 in
                  let e = low.1 in
                  let there : place_before a k < n = omega arith in
                  filter-one (λ c. has_any c.items) both a k no_column (omega (arith, both-len)) (ap has_any none) (omega (arith, both-len))
                  ∙ in-front (place_before a k) there ∙ get_or-set_other columns a (place_before a k) front no_column (λ f. omega arith)
              | inr high ↦
                  let l = high.0 in
                  let e = high.1 in
                  let there : place_before a k < n = omega arith in
                  filter-one (λ c. has_any c.items) both a k no_column (omega (arith, both-len)) (ap has_any none) (omega (arith, both-len))
                  ∙ in-front (place_before a k) there ∙ get_or-set_other columns a (place_before a k) front no_column (λ f. omega arith)
            ];
        stands = λ k inside stays. elim (after-cases a k) [
          | inl low ↦ (let e = low.1 in omega arith)
          | inr high ↦
              (let e = high.1 in omega arith)
        ];
      }
