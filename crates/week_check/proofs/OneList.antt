-- There is one list of what is denied. Two sorted lists with the same items are one list, where items that tie are the same: the first
-- item of each is not above the other's, so the two tie, and without them the lists still have the same items. Items are the same where
-- each sum over them is. So the duties have one order and the findings one list by the numbers of their days, and a day has one number
-- and one name.
use Rattle.std.proofs.Common.{◌≡◌, ℕ, suc, ◌+◌, ◌<◌, ◌≤◌, ◌⊎◌, inl, inr, ℤ, pos, ◌<ℤ◌, All, Bool, true, false, if◌then◌else◌, List, [], ◌∷◌, length, map, get_or, refl, sym, ap, subst, ◌∙◌, arith, IsPermutation}
use Rattle.std.specs.Prelude.{IsSorted, sum_by}
use Rattle.std.specs.List.{flat_map}
use Rattle.std.specs.Cmp.{int_cmp_is, IsTotalOrder}
use Rattle.std.specs.Ordering.{bool_cmp, nat_cmp, int_cmp, is_lt, ordering_reverse, ordering_then, MatchOrdering}
use Rattle.std.specs.declared.cmp.Ordering.{Ordering}
use Rattle.std.specs.declared.cmp.Ordering.TheVariants.{Less, Equal, Greater}
use Rattle.std.proofs.lemmas.Bool.{cases_order}
use Rattle.std.proofs.lemmas.Cmp.{int_cmp_total, nat_cmp_total, on_total, ranked, then_total}
use Rattle.std.proofs.lemmas.List.{get_or-map, length-map}
use Rattle.std.proofs.lemmas.List.Elements.{All-get_or, All-head, All-tail}
use Rattle.std.proofs.lemmas.List.Sorted.{IsPermutation-sym, IsPermutation-trans, ranks_by, sorted_far, sum_by-IsPermutation}
use Rattle.std.proofs.lemmas.List.Sums.{sum_by-cons}
use Rattle.std.proofs.lemmas.Map.Lookups.{CmpEqualImpliesEq, exact_signed, exact_unsigned}
use Rattle.jiff_core.specs.Calendar.{IsCivilDate, day_count}
use Rattle.jiff_core.proofs.CalendarLemmas.{day_count-day, day_count-lt_month, day_count-lt_year, days_from_civil-day_count}
use Rattle.jiff_core.proofs.SignedLemmas.{signed_arith}
use Rattle.week_check.specs.declared.turn.Turn.{Turn}
use Rattle.week_check.specs.declared.denial.Denial.{Denial}
use Rattle.week_check.specs.Days.{IsDay, day_of_month, month_of, number_of, year_of}
use Rattle.week_check.specs.Denials.{AreDenials, Finding, HasDays, denial_order, finding_of, findings_of}
use Rattle.week_check.specs.Duties.{drivers_lists, turn_order}
use Rattle.week_check.proofs.Calendar.{civil_of}
use Rattle.week_check.proofs.Lists.{turn_order_total}

-- two orderings that are each other's reverse, and neither of them Less
tied : (a b : Ordering) → a ≡ ordering_reverse b → is_lt a ≡ false → is_lt b ≡ false → a ≡ Equal
tied Less b e f g = cc
tied Equal b e f g = refl
tied Greater Less e f g = cc
tied Greater Equal e f g = cc
tied Greater Greater e f g = cc

abbrev is_below : {X : Type 0} → (X → X → Ordering) → X → X → ℕ
is_below R x y = if is_lt (R y x) then 1 else 0

none_below : {X : Type 0} (R : X → X → Ordering) (x : X) (ys : List X) → All (λ y. is_lt (R y x) ≡ false) ys → sum_by (is_below R x) ys ≡ 0
none_below R x [] all = refl
none_below R x (y ∷ ys) all =
    let e : is_lt (R y x) ≡ false = All-head (λ y. is_lt (R y x) ≡ false) y ys all in
    let here : is_below R x y ≡ 0 = ap (λ b. if b then 1 else 0) e in
    let rest : sum_by (is_below R x) ys ≡ 0 = none_below R x ys (All-tail (λ y. is_lt (R y x) ≡ false) y ys all) in
    omega (arith, here, rest, sum_by-cons (is_below R x) y ys)

first_not : (b : Bool) (n : ℕ) → (if b then 1 else 0) + n ≡ 0 → b ≡ false
first_not true n e = absurd (omega (arith, e))
first_not false n e = refl

-- each sum over the one is that over the other
abbrev AreSame : {X : Type 0} → List X → List X → Type 0
AreSame {X} xs ys = (f : X → ℕ) → sum_by f xs ≡ sum_by f ys

same_from : {X : Type 0} (xs ys : List X) → IsPermutation xs ys → AreSame xs ys
same_from xs ys p = λ f. sym (sum_by-IsPermutation f xs ys p)

-- Were the other list's first item below the one that no item of this list is below, then "how many items are below it" would sum to 0
-- over this list and to at least 1 over the other; but all sums over the two are the same. So no matching of the items is needed.
not_below : {X : Type 0} (R : X → X → Ordering) (x y : X) (xs ys : List X) → AreSame xs (y ∷ ys) → All (λ z. is_lt (R z x) ≡ false) xs →
    is_lt (R y x) ≡ false
not_below R x y xs ys same all =
    first_not (is_lt (R y x)) (sum_by (is_below R x) ys)
    (sym (sum_by-cons (is_below R x) y ys) ∙ sym (same (is_below R x)) ∙ none_below R x xs all)

-- no item is below an earlier one
abbrev IsRising : {X : Type 0} → (X → X → Ordering) → List X → Type 0
IsRising {X} R xs = (i j : ℕ) (d : X) → i ≤ j → j < length xs → is_lt (R (get_or xs j d) (get_or xs i d)) ≡ false

rising_from : {X : Type 0} (R : X → X → Ordering) → IsTotalOrder R → (xs : List X) → IsSorted R xs → IsRising R xs
rising_from R o xs up = λ i j d order within. sorted_far (λ a b. is_lt (R a b)) (ranks_by o (λ z. z)) xs up i j d order within

tail_rising : {X : Type 0} (R : X → X → Ordering) (x : X) (xs : List X) → IsRising R (x ∷ xs) → IsRising R xs
tail_rising R x xs up = λ i j d order within. up (suc i) (suc j) d (omega (arith, order)) (omega (arith, within))

not_empty : {X : Type 0} (x : X) (xs : List X) → AreSame [] (x ∷ xs) → 1 ≤ 0
not_empty x xs same = omega (arith, same (λ _. 1), sum_by-cons (λ _. 1) x xs)

-- By induction over both lists: neither first item is below the other (`not_below`, twice), so they tie, and what ties is the same.
-- Taking it off both takes the same from each sum, so what is left has the same items still, and stays sorted.
pub one_sorted : {X : Type 0} (R : X → X → Ordering) → IsTotalOrder R → CmpEqualImpliesEq R → (xs ys : List X) → IsRising R xs →
    IsRising R ys → AreSame xs ys → xs ≡ ys
one_sorted R o exact [] [] first second same = refl
one_sorted R o exact [] (y ∷ ys) first second same = absurd (omega (arith, not_empty y ys same))
one_sorted R o exact (x ∷ xs) [] first second same = absurd (omega (arith, not_empty x xs (λ f. sym (same f))))
one_sorted R o exact (x ∷ xs) (y ∷ ys) first second same =
    let down : is_lt (R y x) ≡ false = not_below R x y (x ∷ xs) ys same (λ k d within. first 0 k d (omega arith) within) in
    let up : is_lt (R x y) ≡ false = not_below R y x (y ∷ ys) xs (λ f. sym (same f)) (λ k d within. second 0 k d (omega arith) within) in
    let e : x ≡ y = exact x y (tied (R x y) (R y x) (o.antisymm x y) up down) in
    let rest : xs ≡ ys =
    one_sorted R o exact xs ys (tail_rising R x xs first) (tail_rising R y ys second)
    (λ f. let g : f x ≡ f y = ap f e in omega (arith, same f, sum_by-cons f x xs, sum_by-cons f y ys, g)) in
    ap (λ z. z ∷ xs) e ∙ ap (λ zs. y ∷ zs) rest

-- an earlier day has a lower number
day_before : (a b : ℕ) → IsCivilDate (pos (year_of a)) (month_of a) (day_of_month a) →
    IsCivilDate (pos (year_of b)) (month_of b) (day_of_month b) → a < b
    → (year_of a < year_of b) ⊎
    ((year_of a ≡ year_of b) × ((month_of a < month_of b) ⊎ ((month_of a ≡ month_of b) × (day_of_month a < day_of_month b))))
    → day_count (pos (year_of a)) (month_of a) (day_of_month a) < day_count (pos (year_of b)) (month_of b) (day_of_month b)
day_before a b first second order (inl years) =
    day_count-lt_year (pos (year_of a)) (month_of a) (day_of_month a) (pos (year_of b)) (month_of b) (day_of_month b) first second.2.0
    (omega (arith, signed_arith, years))
day_before a b first second order (inr (year, inl months)) =
    subst (λ y. day_count (pos (year_of a)) (month_of a) (day_of_month a) < day_count (pos y) (month_of b) (day_of_month b)) year
    (day_count-lt_month (pos (year_of a)) (month_of a) (day_of_month a) (month_of b) (day_of_month b) first second.2.0 months)
day_before a b first second order (inr (year, inr (month, days))) =
    subst (λ y. day_count (pos (year_of a)) (month_of a) (day_of_month a) < day_count (pos y) (month_of b) (day_of_month b)) year
    (subst (λ m. day_count (pos (year_of a)) (month_of a) (day_of_month a) < day_count (pos (year_of a)) m (day_of_month b)) month
    (omega (arith, days, day_count-day (pos (year_of a)) (month_of a) (day_of_month a) (day_of_month b) first.2.0 second.2.0)))

parts_before : (a b : ℕ) → a < b →
    (year_of a < year_of b) ⊎
    ((year_of a ≡ year_of b) × ((month_of a < month_of b) ⊎ ((month_of a ≡ month_of b) × (day_of_month a < day_of_month b))))
parts_before a b order = by_year (cases_order (year_of a) (year_of b))
  where
    by_month : year_of a ≡ year_of b → (month_of a ≡ month_of b) ⊎ ((month_of a < month_of b) ⊎ (month_of b < month_of a)) →
        (month_of a < month_of b) ⊎ ((month_of a ≡ month_of b) × (day_of_month a < day_of_month b))
    by_month year (inl month) = inr (month, omega (arith, order, year, month))
    by_month year (inr (inl months)) = inl months
    by_month year (inr (inr months)) = absurd (omega (arith, order, year, months))

    by_year : (year_of a ≡ year_of b) ⊎ ((year_of a < year_of b) ⊎ (year_of b < year_of a)) →
        (year_of a < year_of b) ⊎
        ((year_of a ≡ year_of b) × ((month_of a < month_of b) ⊎ ((month_of a ≡ month_of b) × (day_of_month a < day_of_month b))))
    by_year (inl year) = inr (year, by_month year (cases_order (month_of a) (month_of b)))
    by_year (inr (inl years)) = inl years
    by_year (inr (inr years)) = absurd (omega (arith, order, years))

-- A day YYYYMMDD that is a smaller number is an earlier day: its year is smaller, or its month in one year, or its day in one month
-- (`parts_before`), and in each case the calendar counts fewer days (`day_before`).
pub number_rises : (a b : ℕ) → IsDay a → IsDay b → a < b → number_of a <ℤ number_of b
number_rises a b first second order =
    let less = day_before a b (civil_of a first) (civil_of b second) order (parts_before a b order) in
    omega (
      arith,
      signed_arith,
      less,
      days_from_civil-day_count (pos (year_of a)) (month_of a) (day_of_month a),
      days_from_civil-day_count (pos (year_of b)) (month_of b) (day_of_month b),
    )

-- days and their numbers have one order
same_order : (a b : ℕ) → IsDay a → IsDay b → nat_cmp a b ≡ int_cmp (number_of a) (number_of b)
same_order a b first second = int_cmp_is (number_of a) (number_of b) (nat_cmp a b) (go (nat_cmp a b) (ranked a b (nat_cmp a b) refl))
  where
    go : (r : Ordering) → MatchOrdering r (a < b) (a ≡ b) (b < a) →
        MatchOrdering r (number_of a <ℤ number_of b) (number_of a ≡ number_of b) (number_of b <ℤ number_of a)
    go Less h = number_rises a b first second h
    go Equal h = ap (λ (n : ℕ). number_of n) h
    go Greater h = number_rises b a second first h

-- a number is one day's
pub one_day : (a b : ℕ) → IsDay a → IsDay b → number_of a ≡ number_of b → a ≡ b
one_day a b first second same = by_order (cases_order a b)
  where
    by_order : (a ≡ b) ⊎ ((a < b) ⊎ (b < a)) → a ≡ b
    by_order (inl e) = e
    by_order (inr (inl h)) = absurd (omega (arith, signed_arith, number_rises a b first second h, same))
    by_order (inr (inr h)) = absurd (omega (arith, signed_arith, number_rises b a second first h, same))

both_equal : (p q : Ordering) → ordering_then p q ≡ Equal → (p ≡ Equal) × (q ≡ Equal)
both_equal Less q e = cc
both_equal Equal q e = (refl, e)
both_equal Greater q e = cc

exact_bool : (a b : Bool) → bool_cmp a b ≡ Equal → a ≡ b
exact_bool true true e = refl
exact_bool true false e = cc
exact_bool false true e = cc
exact_bool false false e = refl

-- The order compares every field of a duty, so what ties is the same; so it is with findings below.
turn_exact : CmpEqualImpliesEq turn_order
turn_exact a b e =
    let p = both_equal _ _ e in
    let q = both_equal _ _ p.1 in
    let r = both_equal _ _ q.1 in
    let s = both_equal _ _ r.1 in
    let t = both_equal _ _ s.1 in
    let driver : a.driver ≡ b.driver = exact_unsigned a.driver b.driver p.0 in
    let begin : a.begin ≡ b.begin = exact_signed a.begin b.begin q.0 in
    let day : a.day ≡ b.day = exact_unsigned a.day b.day r.0 in
    let end : a.end ≡ b.end = exact_signed a.end b.end s.0 in
    let driving : a.driving ≡ b.driving = exact_unsigned a.driving b.driving t.0 in
    let three : a.three ≡ b.three = exact_bool a.three b.three t.1 in
    let made : ℕ → ℕ → ℤ → ℤ → ℕ → Bool → Turn =
    λ d n x y m w. record { driver = d; day = n; begin = x; end = y; driving = m; three = w } in
    ap (λ d. made d a.day a.begin a.end a.driving a.three) driver ∙ ap (λ n. made b.driver n a.begin a.end a.driving a.three) day
    ∙ ap (λ x. made b.driver b.day x a.end a.driving a.three) begin ∙ ap (λ y. made b.driver b.day b.begin y a.driving a.three) end
    ∙ ap (λ m. made b.driver b.day b.begin b.end m a.three) driving ∙ ap (λ w. made b.driver b.day b.begin b.end b.driving w) three

-- findings by driver, article, first day and last day
abbrev finding_order : Finding → Finding → Ordering
finding_order a b =
    ordering_then (nat_cmp a.driver b.driver)
    (ordering_then (nat_cmp a.article b.article)
    (ordering_then (int_cmp a.from b.from)
    (ordering_then (int_cmp a.to b.to) (int_cmp a.value b.value))))

finding_order_total : IsTotalOrder finding_order
finding_order_total =
    then_total (on_total (λ (f : Finding). f.driver) nat_cmp_total) (then_total (on_total (λ (f : Finding). f.article) nat_cmp_total)
    (then_total (on_total (λ (f : Finding). f.from) int_cmp_total)
    (then_total (on_total (λ (f : Finding). f.to) int_cmp_total) (on_total (λ (f : Finding). f.value) int_cmp_total))))

finding_exact : CmpEqualImpliesEq finding_order
finding_exact a b e =
    let p = both_equal _ _ e in
    let q = both_equal _ _ p.1 in
    let r = both_equal _ _ q.1 in
    let s = both_equal _ _ r.1 in
    let driver : a.driver ≡ b.driver = exact_unsigned a.driver b.driver p.0 in
    let article : a.article ≡ b.article = exact_unsigned a.article b.article q.0 in
    let from : a.from ≡ b.from = exact_signed a.from b.from r.0 in
    let to : a.to ≡ b.to = exact_signed a.to b.to s.0 in
    let value : a.value ≡ b.value = exact_signed a.value b.value s.1 in
    let made : ℕ → ℕ → ℤ → ℤ → ℤ → Finding = λ d n x y v. record { driver = d; article = n; from = x; to = y; value = v } in
    ap (λ d. made d a.article a.from a.to a.value) driver ∙ ap (λ n. made b.driver n a.from a.to a.value) article
    ∙ ap (λ x. made b.driver b.article x a.to a.value) from ∙ ap (λ y. made b.driver b.article b.from y a.value) to
    ∙ ap (λ v. made b.driver b.article b.from b.to v) value

denial_order_total : IsTotalOrder denial_order
denial_order_total =
    then_total (on_total (λ (d : Denial). d.driver) nat_cmp_total) (then_total (on_total (λ (d : Denial). d.article) nat_cmp_total)
    (then_total (on_total (λ (d : Denial). d.from) nat_cmp_total)
    (then_total (on_total (λ (d : Denial). d.to) nat_cmp_total) (on_total (λ (d : Denial). d.value) int_cmp_total))))

-- Denials are sorted by their days as YYYYMMDD, and findings have the numbers of days. Both orders are one, as days and their numbers
-- have one order, so a sorted list of denials is a sorted list of findings (`findings_rise`).
finding_agrees : (a b : Denial) → HasDays a → HasDays b → denial_order a b ≡ finding_order (finding_of a) (finding_of b)
finding_agrees a b first second =
    ap (λ o. ordering_then (nat_cmp a.driver b.driver)
    (ordering_then (nat_cmp a.article b.article) (ordering_then o (ordering_then (nat_cmp a.to b.to) (int_cmp a.value b.value)))))
    (same_order a.from b.from first.0 second.0)
    ∙ ap (λ o. ordering_then (nat_cmp a.driver b.driver)
    (ordering_then (nat_cmp a.article b.article)
    (ordering_then (int_cmp (number_of a.from) (number_of b.from)) (ordering_then o (int_cmp a.value b.value)))))
    (same_order a.to b.to first.1 second.1)

-- what stands for a denial past the end of a list
past_end : Denial
past_end = record { driver = 0; article = 0; from = 0; to = 0; value = pos 0 }

findings_rise : (ds : List Denial) → All HasDays ds → IsSorted denial_order ds → IsRising finding_order (map finding_of ds)
findings_rise ds days up i j e order within =
    let below : j < length ds = omega (arith, within, length-map ds finding_of) in
    let first : HasDays (get_or ds j past_end) = All-get_or HasDays ds j past_end below days in
    let second : HasDays (get_or ds i past_end) = All-get_or HasDays ds i past_end (omega (arith, order, below)) days in
    ap (λ f. is_lt (finding_order f (get_or (map finding_of ds) i e))) (get_or-map finding_of ds j past_end e below)
    ∙ ap (λ f. is_lt (finding_order (finding_of (get_or ds j past_end)) f))
    (get_or-map finding_of ds i past_end e (omega (arith, order, below)))
    ∙ ap is_lt (sym (finding_agrees (get_or ds j past_end) (get_or ds i past_end) first second))
    ∙ rising_from denial_order denial_order_total ds up i j past_end order below

finding_one : (a b : Denial) → HasDays a → HasDays b → finding_of a ≡ finding_of b → a ≡ b
finding_one a b first second e =
    let driver : a.driver ≡ b.driver = ap (λ (f : Finding). f.driver) e in
    let article : a.article ≡ b.article = ap (λ (f : Finding). f.article) e in
    let from : a.from ≡ b.from = one_day a.from b.from first.0 second.0 (ap (λ (f : Finding). f.from) e) in
    let to : a.to ≡ b.to = one_day a.to b.to first.1 second.1 (ap (λ (f : Finding). f.to) e) in
    let value : a.value ≡ b.value = ap (λ (f : Finding). f.value) e in
    let made : ℕ → ℕ → ℕ → ℕ → ℤ → Denial = λ d n x y v. record { driver = d; article = n; from = x; to = y; value = v } in
    ap (λ d. made d a.article a.from a.to a.value) driver ∙ ap (λ n. made b.driver n a.from a.to a.value) article
    ∙ ap (λ x. made b.driver b.article x a.to a.value) from ∙ ap (λ y. made b.driver b.article b.from y a.value) to
    ∙ ap (λ v. made b.driver b.article b.from b.to v) value

-- findings with days are one list of denials
denials_one : (ds es : List Denial) → All HasDays ds → All HasDays es → map finding_of ds ≡ map finding_of es → ds ≡ es
denials_one [] [] first second e = refl
denials_one [] (y ∷ ys) first second e = cc
denials_one (x ∷ xs) [] first second e = cc
denials_one (x ∷ xs) (y ∷ ys) first second e =
    let head : finding_of x ≡ finding_of y = cc in
    let tail : map finding_of xs ≡ map finding_of ys = cc in
    ap (λ d. d ∷ xs) (finding_one x y (All-head HasDays x xs first) (All-head HasDays y ys second) head)
    ∙ ap (λ ds. y ∷ ds) (denials_one xs ys (All-tail HasDays x xs first) (All-tail HasDays y ys second) tail)

-- There is one list of what is denied. The duties have one order, as two sorted lists with the same duties are one (`one_sorted`); so
-- what is denied of them, driver by driver, is one list of findings but for its order. Both lists of denials are sorted and have these
-- findings, so again they are one, and findings are turned back into denials, as a day has one number. By it `denials` has one answer.
pub one_list : (turns : List Turn) (a b : List Denial) → AreDenials turns a → AreDenials turns b → a ≡ b
one_list turns a b first second =
    let orders : IsPermutation first.ordered second.ordered =
    IsPermutation-trans first.ordered turns second.ordered (IsPermutation-sym turns first.ordered first.same) second.same in
    let one : first.ordered ≡ second.ordered =
    one_sorted turn_order turn_order_total turn_exact first.ordered second.ordered
    (rising_from turn_order turn_order_total first.ordered first.rising)
    (rising_from turn_order turn_order_total second.ordered second.rising) (same_from first.ordered second.ordered orders) in
    let whole : List Turn → List Finding = λ ts. flat_map findings_of (drivers_lists ts) in
    let found : IsPermutation (whole first.ordered) (map finding_of b) =
    subst (λ ts. IsPermutation (flat_map findings_of (drivers_lists ts)) (map finding_of b)) (sym one) second.are in
    let moved : IsPermutation (map finding_of a) (map finding_of b) =
    IsPermutation-trans (map finding_of a) (whole first.ordered) (map finding_of b)
    (IsPermutation-sym (whole first.ordered) (map finding_of a) first.are) found in
    denials_one a b first.days second.days
    (one_sorted finding_order finding_order_total finding_exact (map finding_of a) (map finding_of b)
    (findings_rise a first.days first.order)
    (findings_rise b second.days second.order) (same_from (map finding_of a) (map finding_of b) moved))
