-- A list has one order under a total order that tells its items apart, so a day has one list of trips in their order.
use Rattle.std.proofs.Common.{◌≡◌, ℕ, suc, ◌+◌, ◌<◌, Bool, true, false, List, [], ◌∷◌, length, map, Result, Ok, Err, arith, slice_index_or, refl, ap, sym, subst, ◌∙◌}
use Rattle.std.specs.Prelude.{IfOk, sum_by}
use Rattle.std.specs.Cmp.{IsTotalOrder, IsStrictWeakOrder}
use Rattle.std.specs.List.Sorted.{IsSortedBy}
use Rattle.std.specs.Ordering.{is_lt, nat_cmp, ordering_then, ordering_reverse}
use Rattle.std.specs.declared.cmp.Ordering.{Ordering}
use Rattle.std.specs.declared.cmp.Ordering.TheVariants.{Less, Equal, Greater}
use Rattle.std.proofs.lemmas.Cmp.{nat_cmp_total, on_total, then_total}
use Rattle.std.proofs.lemmas.List.MinMax.{ranks_by}
use Rattle.std.proofs.lemmas.List.Sums.{sum_by-cons}
use Rattle.std.proofs.lemmas.List.Sorted.{sum_by-IsPermutation, sorted_far}
use Rattle.std.proofs.lemmas.Map.Lookups.{exact_unsigned}
use Rattle.vdv452_rows.specs.declared.rows.TripRow.{TripRow}
use Rattle.day_calendar.specs.declared.trips.DayTrip.{DayTrip}
use Rattle.day_calendar.specs.DayTrips.{AreDayRows, trip_order}

abbrev counted : Bool → ℕ
counted true = 1
counted false = 0

-- 1 for an item before another
abbrev before : {X : Type 0} → (X → X → Bool) → X → X → ℕ
before lt y x = counted (lt x y)

none_in : {X : Type 0} (f : X → ℕ) → sum_by f [] ≡ 0
none_in f = refl

none_counted : {X : Type 0} (f : X → ℕ) (xs : List X) → ((j : ℕ) (d : X) → j < length xs → f (slice_index_or xs j d) ≡ 0) → sum_by f xs ≡ 0
none_counted f [] all = refl
none_counted f (x ∷ xs) all =
    let first : f x ≡ 0 = all 0 x (omega arith) in
    let rest = none_counted f xs (λ j d within. all (suc j) d (omega (arith, within))) in
    omega (arith, sum_by-cons f x xs, first, rest)

is_none : (b : Bool) → b ≡ false → counted b ≡ 0
is_none true e = absurd (cc)
is_none false e = refl

is_some : (b : Bool) (n : ℕ) → counted b + n ≡ 0 → b ≡ false
is_some true n e = absurd (omega (arith, e))
is_some false n e = refl

-- no item of a list in order is before its first
none_before : {X : Type 0} (lt : X → X → Bool) (o : IsStrictWeakOrder lt) (x : X) (xs : List X) → IsSortedBy lt (x ∷ xs) →
    sum_by (before lt x) (x ∷ xs) ≡ 0
none_before lt o x xs up =
    none_counted (before lt x) (x ∷ xs)
    (λ j d within. is_none (lt (slice_index_or (x ∷ xs) j d) x) (sorted_far lt o (x ∷ xs) up 0 j d (omega arith) within))

tail_sorted : {X : Type 0} (lt : X → X → Bool) (x : X) (xs : List X) → IsSortedBy lt (x ∷ xs) → IsSortedBy lt xs
tail_sorted {X = X} lt x xs up = λ k d low high.
    let next : k + 1 ≡ suc k = omega arith in
    let h : lt (slice_index_or (x ∷ xs) (suc k + 1) d) (slice_index_or xs k d) ≡ false = up (suc k) d (omega arith) (omega (arith, high)) in
    let P : ℕ → Type 0 = λ j. lt (slice_index_or (x ∷ xs) j d) (slice_index_or xs k d) ≡ false in
    let more : suc k + 1 ≡ suc (k + 1) = omega arith in
    subst P more h

-- Items in order that are the same but for their places are the same. "The same" is that every sum over them is: so as many items
-- of one list as of the other are before the other's first item, which is none. Neither first item is then before the other, and an
-- order that tells items apart makes them equal. Taken from every sum, they leave lists that are the same again.
one_order : {X : Type 0} (lt : X → X → Bool) (o : IsStrictWeakOrder lt) (apart : (a b : X) → lt a b ≡ false → lt b a ≡ false → a ≡ b)
    (xs ys : List X) → IsSortedBy lt xs → IsSortedBy lt ys → ((f : X → ℕ) → sum_by f xs ≡ sum_by f ys) → xs ≡ ys
one_order lt o apart [] [] up up' same = refl
one_order {X = X} lt o apart [] (y ∷ ys) up up' same =
    let one : X → ℕ = λ z. 1 in
    let e : sum_by one [] ≡ sum_by one (y ∷ ys) = same one in
    absurd (omega (arith, e, sum_by-cons one y ys, none_in one))
one_order {X = X} lt o apart (x ∷ xs) [] up up' same =
    let one : X → ℕ = λ z. 1 in
    let e : sum_by one (x ∷ xs) ≡ sum_by one [] = same one in
    absurd (omega (arith, e, sum_by-cons one x xs, none_in one))
one_order lt o apart (x ∷ xs) (y ∷ ys) up up' same =
    let none : counted (lt x y) + sum_by (before lt y) xs ≡ 0 =
    sym (sum_by-cons (before lt y) x xs) ∙ same (before lt y) ∙ none_before lt o y ys up' in
    let none' : counted (lt y x) + sum_by (before lt x) ys ≡ 0 =
    sym (sum_by-cons (before lt x) y ys) ∙ sym (same (before lt x)) ∙ none_before lt o x xs up in
    let first : x ≡ y = apart x y (is_some (lt x y) (sum_by (before lt y) xs) none) (is_some (lt y x) (sum_by (before lt x) ys) none') in
    let rest : xs ≡ ys = one_order lt o apart xs ys (tail_sorted lt x xs up) (tail_sorted lt y ys up') (λ f.
    let e : f x ≡ f y = ap f first in
    omega (arith, same f, sum_by-cons f x xs, sum_by-cons f y ys, e)) in
    ap (λ z. z ∷ xs) first ∙ ap (λ zs. y ∷ zs) rest

trip_order_total : IsTotalOrder trip_order
trip_order_total = then_total (on_total (λ (t : DayTrip). t.start) nat_cmp_total)
    (then_total (on_total (λ (t : DayTrip). t.fid) nat_cmp_total) (on_total (λ (t : DayTrip). t.place) nat_cmp_total))

abbrev trip_lt : DayTrip → DayTrip → Bool
trip_lt a b = is_lt (trip_order a b)

trips_ranked : IsStrictWeakOrder trip_lt
trips_ranked = ranks_by trip_order_total (λ (t : DayTrip). t)

both_equal : (o p : Ordering) → ordering_then o p ≡ Equal → (o ≡ Equal) × (p ≡ Equal)
both_equal Less p e = absurd (cc)
both_equal Equal p e = (refl, e)
both_equal Greater p e = absurd (cc)

same_trip : (a b : DayTrip) → trip_order a b ≡ Equal → a ≡ b
same_trip a b e =
    let first = both_equal (nat_cmp a.start b.start) (ordering_then (nat_cmp a.fid b.fid) (nat_cmp a.place b.place)) e in
    let second = both_equal (nat_cmp a.fid b.fid) (nat_cmp a.place b.place) first.1 in
    let start : a.start ≡ b.start = exact_unsigned a.start b.start first.0 in
    let fid : a.fid ≡ b.fid = exact_unsigned a.fid b.fid second.0 in
    let place : a.place ≡ b.place = exact_unsigned a.place b.place second.1 in
    let trip : ℕ → ℕ → ℕ → DayTrip = λ s f p. record { start = s; fid = f; place = p } in
    ap (λ s. trip s a.fid a.place) start ∙ ap (λ f. trip b.start f a.place) fid ∙ ap (λ p. trip b.start b.fid p) place

neither : (o p : Ordering) → o ≡ ordering_reverse p → is_lt o ≡ false → is_lt p ≡ false → o ≡ Equal
neither Less p e a b = absurd (cc)
neither Equal p e a b = refl
neither Greater Less e a b = absurd (cc)
neither Greater Equal e a b = absurd (cc)
neither Greater Greater e a b = absurd (cc)

trips_apart : (a b : DayTrip) → trip_lt a b ≡ false → trip_lt b a ≡ false → a ≡ b
trips_apart a b p q = same_trip a b (neither (trip_order a b) (trip_order b a) (trip_order_total.antisymm a b) p q)

-- There is one list of the places of a day's trips: two lists that are the same trips in another order and rise are equal
-- (`one_order`), since trips that are not before each other have one start, one number and one place. This is the clause `only` of
-- `day_rows`; from here on a trip of the day is its number in this list.
pub one_list : (trips : List TripRow) (version kind : ℕ) (places others : List ℕ) → AreDayRows trips version kind places →
    AreDayRows trips version kind others → places ≡ others
one_list trips version kind places others rows rows' =
    let same : (f : DayTrip → ℕ) → sum_by f rows.ordered ≡ sum_by f rows'.ordered =
    λ f. sum_by-IsPermutation f _ _ rows.same ∙ sym (sum_by-IsPermutation f _ _ rows'.same) in
    let one : rows.ordered ≡ rows'.ordered =
    one_order trip_lt trips_ranked trips_apart rows.ordered rows'.ordered rows.rising rows'.rising same in
    rows.are ∙ ap (λ (ts : List DayTrip). map (λ (t : DayTrip). t.place) ts) one ∙ sym rows'.are

-- the same of an answer
pub answer_only : {E : Type 0} (trips : List TripRow) (version kind : ℕ) (answer : Result (List ℕ) E) →
    IfOk answer (AreDayRows trips version kind) → (others : List ℕ) → AreDayRows trips version kind others →
    IfOk answer (λ places. places ≡ others)
answer_only trips version kind (Ok places) rows others there = one_list trips version kind places others rows there
answer_only trips version kind (Err e) rows others there = tt
