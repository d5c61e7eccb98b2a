-- The least swaps of a plan after a step has changed some of its columns.
use Rattle.std.proofs.Common.{◌≡◌, ◌≢◌, inl, inr, ⊎_elim, ℕ, pos, ◌-ℤ◌, ◌+◌, ◌-◌, ◌<◌, ◌≤◌, Bool, true, false, cond, ◌==◌, ◌||◌, zero, suc, List, [], ◌∷◌, length, get_or, Option, Some, None, IfSome, Less, refl, sym, ap, ◌∙◌, subst, arith}
use Rattle.std.specs.Prelude.{flat_map, nat_lt}
use Rattle.std.specs.List.{range_with_len, Contains, AllZip}
use Rattle.std.specs.Ordering.{is_lt, int_cmp, nat_cmp, ordering_then}
use Rattle.std.proofs.lemmas.Bool.{cases_eq}
use Rattle.std.proofs.lemmas.Bool.Decides.{nat_tests}
use Rattle.std.proofs.lemmas.List.Elements.{Contains-append_left, Contains-append_right}
use Rattle.std.proofs.lemmas.List.FromFn.{length-range_with_len, get_or-range_with_len}
use Rattle.std.proofs.lemmas.Slice.Zip.{AllZip-long}
use Rattle.std.proofs.lemmas.List.{get_or_default}
use Rattle.rayon.specs.Lists.{IsLeast}
use Rattle.cover_core.specs.declared.Column.{Column}
use Rattle.cover_core.specs.Cover.{Problem}
use Rattle.cover_core.specs.Parts.{column_at}
use Rattle.cover_core.proofs.Order.{nat_cmp-same}
use Rattle.tail_exchange.specs.declared.candidate.Kind.{Kind}
use Rattle.tail_exchange.specs.declared.candidate.Kind.TheVariants.{Swap}
use Rattle.tail_exchange.specs.declared.candidate.Candidate.{Candidate}
use Rattle.tail_exchange.specs.Order.{rank, candidate_cmp}
use Rattle.tail_exchange.specs.Exchange.{worth_of, joined, step_for, swap_at, swaps_of, all_swaps_of}
use Rattle.tail_exchange.specs.Leasts.{lesser, least_from}
use Rattle.tail_exchange.specs.Kept.{least_at, ShowsLeasts, place_before, place_after, IsMoved, moved_swap, moved_least, kept_at, swaps_with, swaps_behind, IsNotBefore, IsLeastOfOthers, IsKept, IsUseful}
use Rattle.tail_exchange.proofs.Leasts.{candidate_total, Contains-cons_cases, Contains-head, Contains-tail, nothing, not_below, not_below_itself, not_below_lesser}
use Rattle.tail_exchange.proofs.Folds.{not_lt, is_lt-Less}
use Rattle.tail_exchange.proofs.Steps.{nothing_in, one_in, flat_map-in, range-in, step_for-in}
use Rattle.tail_exchange.proofs.Places.{before-less, less-before, after-before, before-after, before-cmp}

-- What is kept is a swap that no looked-at one is before: the least candidate so far only moves forward. So a candidate is not before it
-- once it has been looked at, nor if it was not before what was kept at the start.
not_before-lesser : (c d : Candidate) (best : Option Candidate) → IsNotBefore c best → IsNotBefore c (Some (lesser best d))
not_before-lesser c d None h = absurd h
not_before-lesser c d (Some b) h =
    elim (is_lt (candidate_cmp d b)) as (λ t. is_lt (candidate_cmp d b) ≡ t → candidate_cmp c (cond t d b) ≢ Less) [
      | true ↦ λ test. not_below candidate_cmp candidate_total c b d h
          (not_below_lesser candidate_cmp candidate_total d b (is_lt-Less (candidate_cmp d b) test))
      | false ↦ λ test. h
    ] refl

lesser-not_before : (d : Candidate) (best : Option Candidate) → IsNotBefore d (Some (lesser best d))
lesser-not_before d None = not_below_itself candidate_cmp candidate_total d
lesser-not_before d (Some b) =
    elim (is_lt (candidate_cmp d b)) as (λ t. is_lt (candidate_cmp d b) ≡ t → candidate_cmp d (cond t d b) ≢ Less) [
      | true ↦ λ test. not_below_itself candidate_cmp candidate_total d
      | false ↦ λ test. not_lt (candidate_cmp d b) test
    ] refl

-- The two halves of one argument: a candidate that is not before what is kept stays so, as what is kept is only exchanged for one
-- that comes before it; and a candidate that is looked at is not before what is kept then. So nothing need be known of what is kept
-- at the start but what it is not after.
least_from-stays : (c : Candidate) (best : Option Candidate) (xs : List Candidate) → IsNotBefore c best → IsNotBefore c (least_from best xs)
least_from-stays c best [] h = h
least_from-stays c best (x ∷ xs) h = least_from-stays c (Some (lesser best x)) xs (not_before-lesser c x best h)

least_from-seen : (c : Candidate) (best : Option Candidate) (xs : List Candidate) → Contains xs c → IsNotBefore c (least_from best xs)
least_from-seen c best [] at = absurd (nothing_in c at)
least_from-seen c best (x ∷ xs) at =
    let P : Candidate → Type 0 = λ d. IsNotBefore d (Some (lesser best x)) in
    ⊎_elim (λ (e : x ≡ c). least_from-stays c (Some (lesser best x)) xs (subst P e (lesser-not_before x best)))
    (λ (there : Contains xs c). least_from-seen c (Some (lesser best x)) xs there)
    (Contains-cons_cases x xs c at)

lesser-there : (all : List Candidate) (best : Option Candidate) (d : Candidate) → IfSome best (Contains all) → Contains all d →
    Contains all (lesser best d)
lesser-there all None d h at = at
lesser-there all (Some b) d h at = elim (is_lt (candidate_cmp d b)) as (λ t. Contains all (cond t d b)) [ true ↦ at | false ↦ h ]

least_from-there : (all : List Candidate) (best : Option Candidate) (xs : List Candidate) → IfSome best (Contains all) →
    ((c : Candidate) → Contains xs c → Contains all c) → IfSome (least_from best xs) (Contains all)
least_from-there all best [] h inside = h
least_from-there all best (x ∷ xs) h inside =
    least_from-there all (Some (lesser best x)) xs (lesser-there all best x h (inside x (Contains-head x xs)))
    (λ c at. inside c (Contains-tail x xs c at))

-- a candidate of a list that none of the list is before is the least
least-when : (all : List Candidate) (least : Option Candidate) → IfSome least (Contains all) →
    ((c : Candidate) → Contains all c → IsNotBefore c least) → IsLeast candidate_cmp all least
least-when all None h below = nothing all below
least-when all (Some m) h below = (h, below)

into-flat_map : {X Y : Type 0} (f : X → List Y) (xs : List X) (x : X) (y : Y) → Contains xs x → Contains (f x) y →
    Contains (flat_map f xs) y
into-flat_map f [] x y at found = absurd (nothing_in x at)
into-flat_map f (z ∷ zs) x y at found =
    let P : List _ → Type 0 = λ l. Contains l y in
    ⊎_elim (λ (e : z ≡ x). Contains-append_left (f z) (flat_map f zs) y (subst P (ap f (sym e)) found))
    (λ (there : Contains zs x). Contains-append_right (f z) (flat_map f zs) y (into-flat_map f zs x y there found))
    (Contains-cons_cases z zs x at)

into-range : (a n x : ℕ) → a ≤ x → x < a + n → Contains (range_with_len a n) x
into-range a zero x low high = absurd (omega arith)
into-range a (suc n) x low high =
    elim (cases_eq a x) [
      | inl e ↦ (0, omega arith, e)
      | inr apart ↦ Contains-tail a (range_with_len (a + 1) n) x (into-range (a + 1) n x (omega arith) (omega arith))
    ]

module _ (p : Problem) (columns : List Column) where
  -- the swaps of a column are those with each column behind it
  into-all_swaps : (a b : ℕ) (c : Candidate) → a < b → b < length columns → Contains (swaps_of p columns a b) c →
      Contains (all_swaps_of p columns a) c
  into-all_swaps a b c order below at =
      into-flat_map (λ b. swaps_of p columns a b) (range_with_len (a + 1) (length columns - (a + 1))) b c
      (into-range (a + 1) (length columns - (a + 1)) b (omega arith) (omega arith)) at

  in-all_swaps : (a : ℕ) (c : Candidate) → Contains (all_swaps_of p columns a) c →
      (b : ℕ) × (a < b) × (b < length columns) × Contains (swaps_of p columns a b) c
  in-all_swaps a c at =
      let (b, at_b, in_b) = flat_map-in (λ b. swaps_of p columns a b) (range_with_len (a + 1) (length columns - (a + 1))) c at in
      let range = range-in (a + 1) (length columns - (a + 1)) b at_b in
      let low = range.0 in
      let high = range.1 in
      let order : a < b = omega arith in
      let below : b < length columns = omega arith in
      (b, order, below, in_b)

  behind-all_swaps : (a b : ℕ) (c : Candidate) → b < length columns → Contains (swaps_behind p columns a b) c →
      Contains (all_swaps_of p columns a) c
  behind-all_swaps a b c below =
      elim (nat_lt a b) as (λ t. nat_lt a b ≡ t → Contains (cond t (swaps_of p columns a b) []) c → Contains (all_swaps_of p columns a) c) [
        | true ↦ λ test at. into-all_swaps a b c (let order : a < b = grind (arith, nat_tests) in order) below at
        | false ↦ λ test at. absurd (nothing_in c at)
      ] refl

  into-behind : (a b k : ℕ) (c : Candidate) → a < b → b ≡ k → Contains (swaps_of p columns a b) c → Contains (swaps_behind p columns a k) c
  into-behind a b k c order same at =
      let test : nat_lt a b ≡ true = grind (arith, nat_tests) in
      let P : Bool → Type 0 = λ t. Contains (cond t (swaps_of p columns a b) []) c in
      let Q : ℕ → Type 0 = λ n. Contains (swaps_behind p columns a n) c in
      subst Q same (subst P (sym test) at)

  -- What is kept is not after the swaps with other columns than x and y, and those with x and y are looked at: that is all of them.
  -- So after a step the least swap of an untouched column is found from what was kept and its swaps with the two changed columns,
  -- not from all its swaps.
  pub renewed-least : (x y a : ℕ) (least : Option Candidate) → x < length columns → y < length columns →
      IsLeastOfOthers p columns x y a least →
      IsLeast candidate_cmp (all_swaps_of p columns a)
      (least_from (least_from least (swaps_behind p columns a x)) (swaps_behind p columns a y))
  renewed-least x y a least first second kept =
      let all : List Candidate = all_swaps_of p columns a in
      let with_x : List Candidate = swaps_behind p columns a x in
      let with_y : List Candidate = swaps_behind p columns a y in
      let there = least_from-there all (least_from least with_x) with_y
      (least_from-there all least with_x kept.there (λ c at. behind-all_swaps a x c first at)) (λ c at. behind-all_swaps a y c second at) in
      least-when all (least_from (least_from least with_x) with_y) there (λ c at.
      let (b, order, below, found) = in-all_swaps a c at in
      elim (cases_eq b x) [
        | inl is_x ↦ least_from-stays c (least_from least with_x) with_y
            (least_from-seen c least with_x (into-behind a b x c order is_x found))
        | inr not_x ↦ elim (cases_eq b y) [
          | inl is_y ↦ least_from-seen c (least_from least with_x) with_y (into-behind a b y c order is_y found)
          | inr not_y ↦ least_from-stays c (least_from least with_x) with_y
              (least_from-stays c least with_x (kept.others b order below not_x not_y c found))
        ]
      ])

-- a swap of columns a and b says so
swaps_of-numbers : (p : Problem) (columns : List Column) (a b : ℕ) (c : Candidate) → Contains (swaps_of p columns a b) c →
    (c.a ≡ a) × (c.b ≡ b)
swaps_of-numbers p columns a b c at =
    let d : Column = column_at columns a in
    let e : Column = column_at columns b in
    let (i, at_i, in_i) = flat_map-in (λ i. flat_map (λ j. swap_at p columns a b i j) (range_with_len 0 (length e.items + 1)))
    (range_with_len 0 (length d.items + 1)) c at in
    let (j, at_j, in_j) = flat_map-in (λ j. swap_at p columns a b i j) (range_with_len 0 (length e.items + 1)) c in_i in
    step_for-in (λ s. (s.a ≡ a) × (s.b ≡ b)) (d.worth + e.worth) Swap a b i j (worth_of p d.class (joined d.items i e.items j))
    (worth_of p e.class (joined e.items j d.items i)) c (λ change. (refl, refl)) in_j

-- the swaps of two columns that are numbered a and b
abbrev swaps_between : Problem → Column → Column → ℕ → ℕ → List Candidate
swaps_between p c d a b =
    flat_map (λ i. flat_map
    (λ j. step_for (c.worth + d.worth) Swap a b i j (worth_of p c.class (joined c.items i d.items j))
    (worth_of p d.class (joined d.items j c.items i))) (range_with_len 0 (length d.items + 1))) (range_with_len 0 (length c.items + 1))

-- a swap as one of columns a and b
abbrev renumbered : ℕ → ℕ → Candidate → Candidate
renumbered a b s = record s { a = a; b = b }

step_for-renumbered : (before : ℕ) (kind : Kind) (a b k l i j : ℕ) (o q : Option ℕ) (s : Candidate) →
    Contains (step_for before kind a b i j o q) s → Contains (step_for before kind k l i j o q) (renumbered k l s)
step_for-renumbered before kind a b k l i j None q s at = absurd (nothing_in s at)
step_for-renumbered before kind a b k l i j (Some left) None s at = absurd (nothing_in s at)
step_for-renumbered before kind a b k l i j (Some left) (Some right) s at =
    let made : Candidate = record { change = pos (left + right) -ℤ pos before; kind = kind; a = a; b = b; i = i; j = j } in
    let P : Candidate → Type 0 = λ t. Contains (step_for before kind k l i j (Some left) (Some right)) (renumbered k l t) in
    subst P (one_in made s at) (Contains-head (renumbered k l made) [])

-- the swaps of two columns are the same under other numbers
swaps_between-renumbered : (p : Problem) (c d : Column) (a b k l : ℕ) (s : Candidate) → Contains (swaps_between p c d a b) s →
    Contains (swaps_between p c d k l) (renumbered k l s)
swaps_between-renumbered p c d a b k l s at =
    let left = λ (i j : ℕ). worth_of p c.class (joined c.items i d.items j) in
    let right = λ (i j : ℕ). worth_of p d.class (joined d.items j c.items i) in
    let before = c.worth + d.worth in
    let fronts = range_with_len 0 (length c.items + 1) in
    let tails = range_with_len 0 (length d.items + 1) in
    let (i, at_i, in_i) = flat_map-in (λ i. flat_map (λ j. step_for before Swap a b i j (left i j) (right i j)) tails) fronts s at in
    let (j, at_j, in_j) = flat_map-in (λ j. step_for before Swap a b i j (left i j) (right i j)) tails s in_i in
    into-flat_map (λ i. flat_map (λ j. step_for before Swap k l i j (left i j) (right i j)) tails) fronts i (renumbered k l s) at_i
    (into-flat_map (λ j. step_for before Swap k l i j (left i j) (right i j)) tails j (renumbered k l s) at_j
    (step_for-renumbered before Swap a b k l i j (left i j) (right i j) s in_j))

-- Swaps depend on the two columns, and on where these stand by their numbers alone. So columns that a step left as they were have
-- the swaps of before, under new numbers, with the same changes of cost.
swaps_of-renumbered : (p : Problem) (from to : List Column) (a b k l : ℕ) (s : Candidate) → column_at from a ≡ column_at to k →
    column_at from b ≡ column_at to l →
    Contains (swaps_of p from a b) s → Contains (swaps_of p to k l) (renumbered k l s)
swaps_of-renumbered p from to a b k l s first second at =
    let here = swaps_between-renumbered p (column_at from a) (column_at from b) a b k l s at in
    let P : Column → Type 0 = λ c. Contains (swaps_between p c (column_at from b) k l) (renumbered k l s) in
    let Q : Column → Type 0 = λ d. Contains (swaps_between p (column_at to k) d k l) (renumbered k l s) in
    subst Q second (subst P first here)

renumbered-same : (a b : ℕ) (s : Candidate) → s.a ≡ a → s.b ≡ b → s ≡ renumbered a b s
renumbered-same a b s first second = ap (λ n. record s { a = n }) first ∙ ap (λ n. record s { a = a; b = n }) second

-- swaps of one column compare alike where their other columns stand in the same order
renumbered-cmp : (a b l k m n : ℕ) (s t : Candidate) → nat_cmp b l ≡ nat_cmp m n →
    candidate_cmp (renumbered a b s) (renumbered a l t) ≡ candidate_cmp (renumbered k m s) (renumbered k n t)
renumbered-cmp a b l k m n s t same =
    let change = int_cmp s.change t.change in
    let kinds = nat_cmp (rank s.kind) (rank t.kind) in
    let places = ordering_then (nat_cmp s.i t.i) (nat_cmp s.j t.j) in
    let itself : nat_cmp a a ≡ nat_cmp k k = nat_cmp-same a ∙ sym (nat_cmp-same k) in
    ap (λ o. ordering_then change (ordering_then kinds (ordering_then o (ordering_then (nat_cmp b l) places)))) itself
    ∙ ap (λ o. ordering_then change (ordering_then kinds (ordering_then (nat_cmp k k) (ordering_then o places)))) same

or-first : (a b : Bool) → (a || b) ≡ false → a ≡ false
or-first true b e = cc
or-first false b e = refl

or-second : (a b : Bool) → (a || b) ≡ false → b ≡ false
or-second true b e = cc
or-second false b e = e

apart : (m n : ℕ) → (m == n) ≡ false → m ≢ n
apart m n test e = grind (arith, nat_tests)

-- a swap with the vanished column is stale
gone-stale : (t : Bool) (x y k : ℕ) → ((cond t x k == x) || (cond t x k == y)) ≡ false → t ≡ false
gone-stale true x y k test = absurd (apart x x (or-first (x == x) (x == y) test) refl)
gone-stale false x y k test = refl

-- The columns that stand keep their order, so the swaps of two of them are those of before by other numbers, and compare with each other
-- as they did. So the least one before, if it is not stale, is still not after any of them.
module _ (p : Problem) (old new : List Column) (gone x y a : ℕ) (moved : IsMoved old new gone x y) (inside : a < length new)
    (not_x : a ≢ x) (not_y : a ≢ y) where
  abbrev start : ℕ
  start = place_before gone a

  was-swap : (b : ℕ) (c : Candidate) → a < b → b < length new → b ≢ x → b ≢ y → Contains (swaps_of p new a b) c →
      Contains (all_swaps_of p old start) (renumbered start (place_before gone b) c)
  was-swap b c order below b_x b_y at =
      let l : ℕ = place_before gone b in
      into-all_swaps p old start l (renumbered start l c) (before-less gone a b order) (moved.stood b below b_x b_y)
      (swaps_of-renumbered p new old a b start l c (moved.same a inside not_x not_y) (moved.same b below b_x b_y) at)

  is-swap : (m : Candidate) → m.b ≢ gone → place_after gone m.b ≢ x → place_after gone m.b ≢ y → Contains (all_swaps_of p old start) m →
      Contains (all_swaps_of p new a) (renumbered a (place_after gone m.b) m)
  is-swap m stays b_x b_y at =
      let (l, order, below, found) = in-all_swaps p old start m at in
      let is : m.b ≡ l = (swaps_of-numbers p old start l m found).1 in
      let b : ℕ = place_after gone m.b in
      let back : place_before gone b ≡ m.b = before-after gone m.b stays in
      let there : b < length new = moved.stands m.b (omega arith) stays in
      let behind : a < b = less-before gone a b (omega arith) in
      let second : column_at new b ≡ column_at old l = moved.same b there b_x b_y ∙ ap (column_at old) (back ∙ is) in
      into-all_swaps p new a b (renumbered a b m) behind there
      (swaps_of-renumbered p old new start l a b m (sym (moved.same a inside not_x not_y)) (sym second) found)

  still-not_before : (m c : Candidate) (b : ℕ) → m.a ≡ start → m.b ≢ gone → c.a ≡ a → c.b ≡ b →
      candidate_cmp (renumbered start (place_before gone b) c) m ≢ Less → candidate_cmp c (renumbered a (place_after gone m.b) m) ≢ Less
  still-not_before m c b is_start stays is_a is_b h =
      let l : ℕ = place_after gone m.b in
      let old_m : m ≡ renumbered start (place_before gone l) m =
      renumbered-same start (place_before gone l) m is_start (sym (before-after gone m.b stays)) in
      let new_c : c ≡ renumbered a b c = renumbered-same a b c is_a is_b in
      let alike = renumbered-cmp a b l start (place_before gone b) (place_before gone l) c m (sym (before-cmp gone b l)) in
      let whole : candidate_cmp c (renumbered a l m) ≡ candidate_cmp (renumbered start (place_before gone b) c) m =
      ap (λ d. candidate_cmp d (renumbered a l m)) new_c ∙ alike
      ∙ sym (ap (candidate_cmp (renumbered start (place_before gone b) c)) old_m) in
      λ e. h (sym whole ∙ e)

  moved-is : (m : Candidate) → m.a ≡ start → (m.b == gone) ≡ false → moved_swap gone x m ≡ renumbered a (place_after gone m.b) m
  moved-is m is_start stays =
      let here : place_after gone m.a ≡ a = ap (place_after gone) is_start ∙ after-before gone a in
      ap (λ t. record m { a = place_after gone m.a; b = cond t x (place_after gone m.b) }) stays
      ∙ ap (λ n. record m { a = n; b = place_after gone m.b }) here

  -- What was the least swap of an untouched column, and is with one of the columns that stay, is under its new numbers not after
  -- any swap with another untouched column: each of these was a swap before the step (`was-swap`), and was not before the least one
  -- then; both only changed their numbers, in which they compare as they did. A swap with the vanished column or a changed one is
  -- told as stale, and not used.
  kept-others : (least : Option Candidate) → IsLeast candidate_cmp (all_swaps_of p old start) least →
      swaps_with x y (moved_least gone x least) ≡ false → IsLeastOfOthers p new x y a (moved_least gone x least)
  kept-others None h test =
      let P : Candidate → List Candidate → Type 0 = λ c l. Contains l c in
      record {
        there = tt;
        others =
            λ b order below b_x b_y c at. nothing_in (renumbered start (place_before gone b) c)
            (subst (P (renumbered start (place_before gone b) c)) h (was-swap b c order below b_x b_y at));
      }
  kept-others (Some m) h test =
      let (l, order, below, found) = in-all_swaps p old start m h.0 in
      let is_start : m.a ≡ start = (swaps_of-numbers p old start l m found).0 in
      let fresh : (m.b == gone) ≡ false = gone-stale (m.b == gone) x y (place_after gone m.b) test in
      let stays : m.b ≢ gone = apart m.b gone fresh in
      let k : ℕ = place_after gone m.b in
      let test_k : ((k == x) || (k == y)) ≡ false = ap (λ t. (cond t x k == x) || (cond t x k == y)) (sym fresh) ∙ test in
      let k_x : k ≢ x = apart k x (or-first (k == x) (k == y) test_k) in
      let k_y : k ≢ y = apart k y (or-second (k == x) (k == y) test_k) in
      let P : Candidate → Type 0 = λ c. IsLeastOfOthers p new x y a (Some c) in
      subst P (sym (moved-is m is_start fresh)) (
      record {
        there = is-swap m stays k_x k_y h.0;
        others = λ b order below b_x b_y c at.
            let numbers = swaps_of-numbers p new a b c at in
            still-not_before m c b is_start stays numbers.0 numbers.1
            (h.1 (renumbered start (place_before gone b) c) (was-swap b c order below b_x b_y at));
      }
      )

-- what was kept for a column before a step is what is kept for it after
kept-moved : (p : Problem) (old new : List Column) (gone x y a : ℕ) (leasts : List (Option Candidate)) → IsMoved old new gone x y →
    ShowsLeasts p old leasts → a < length new → IsKept p new x y a (kept_at gone x leasts a)
kept-moved p old new gone x y a leasts moved shows inside fresh =
    let least : Option Candidate = kept_at gone x leasts a in
    let rest = or-second (a == x) ((a == y) || swaps_with x y least) fresh in
    let not_x : a ≢ x = apart a x (or-first (a == x) ((a == y) || swaps_with x y least) fresh) in
    let not_y : a ≢ y = apart a y (or-first (a == y) (swaps_with x y least) rest) in
    let stood = moved.stood a inside not_x not_y in
    kept-others p old new gone x y a moved inside not_x not_y (least_at leasts (place_before gone a))
    (shows.shown (place_before gone a) stood) (or-second (a == y) (swaps_with x y least) rest)

-- The main theorem of this file: whichever way a step has moved the columns, the least swaps that were kept before it are of use
-- after it. With `renewed-least` it keeps the invariant of the exchange, that each column has its least swap with those behind it;
-- so every step is the least of all steps, as defined, though most swaps are not looked at again.
pub useful-leasts : (p : Problem) (old new : List Column) (gone x y : ℕ) (leasts : List (Option Candidate)) → IsMoved old new gone x y →
    ShowsLeasts p old leasts → IsUseful p new gone x y leasts
useful-leasts p old new gone x y leasts moved shows =
    record { first = moved.first; second = moved.second; kept = λ a inside. kept-moved p old new gone x y a leasts moved shows inside }

at-places : (R : ℕ → Option Candidate → Type 0) (places : List ℕ) (leasts : List (Option Candidate)) (a : ℕ) → AllZip R places leasts →
    a < length places → R (get_or places a a) (least_at leasts a)
at-places R [] leasts a each below = absurd (omega arith)
at-places R (k ∷ ks) [] a each below = absurd each
at-places R (k ∷ ks) (o ∷ os) zero each below = each.0
at-places R (k ∷ ks) (o ∷ os) (suc a) each below =
    let P : ℕ → Type 0 = λ n. R n (least_at os a) in
    let inside : a < length ks = omega arith in
    subst P (get_or_default ks a a (suc a) inside) (at-places R ks os a each.1 inside)

-- the least swaps of the places of a plan, one after another
pub shown-leasts : (p : Problem) (columns : List Column) (places : List ℕ) (leasts : List (Option Candidate)) →
    places ≡ range_with_len 0 (length columns) →
    AllZip (λ a least. IsLeast candidate_cmp (all_swaps_of p columns a) least) places leasts → ShowsLeasts p columns leasts
shown-leasts p columns places leasts are each =
    let R : ℕ → Option Candidate → Type 0 = λ a least. IsLeast candidate_cmp (all_swaps_of p columns a) least in
    let places_len : length places ≡ length columns = ap (λ l. length l) are ∙ length-range_with_len 0 (length columns) in
    let len : length leasts ≡ length columns = AllZip-long R places leasts each ∙ places_len in
    record {
      len = len;
      shown = λ a below.
          let here : get_or places a a ≡ a =
          ap (λ l. get_or l a a) are ∙ get_or-range_with_len 0 (length columns) a a below ∙ omega arith in
          let P : ℕ → Type 0 = λ k. R k (least_at leasts a) in
          subst P here (at-places R places leasts a each (omega arith));
    }
