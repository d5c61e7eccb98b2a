-- One duty or one rest more, and the drivers' lists.
use Rattle.std.proofs.Common.{◌≡◌, ℕ, suc, ◌+◌, ◌<◌, ◌≤◌, ℤ, pos, ◌+ℤ◌, ◌-ℤ◌, ◌*ℤ◌, ◌≤ℤ◌, All, Bool, true, false, ◌&&◌, nat_lt, if◌then◌else◌, Some, List, [], ◌∷◌, ◌++◌, length, map, take, drop, get_or, refl, sym, ap, subst, ◌∙◌, arith, FitsSigned, w64, IsPermutation}
use Rattle.std.specs.List.{flat_map}
use Rattle.std.specs.Prelude.{IsSorted}
use Rattle.std.specs.Cmp.{bool_cmp_total, IsTotalOrder, IsStrictWeakOrder}
use Rattle.std.proofs.lemmas.Cmp.{then_total, on_total, nat_cmp_total, int_cmp_total}
use Rattle.std.proofs.lemmas.Grind.{flat_map-append}
use Rattle.std.proofs.lemmas.List.{append-nil, length-append}
use Rattle.std.proofs.lemmas.List.Elements.{All-append, All-cons, All-nil, All-get_or}
use Rattle.std.proofs.lemmas.List.Sorted.{ranks_by, All-permutation, IsPermutation-map}
use Rattle.jiff_core.proofs.SignedLemmas.{signed_arith}
use Rattle.week_check.specs.declared.turn.Turn.{Turn}
use Rattle.week_check.specs.declared.rest.Rest.{Rest}
use Rattle.week_check.specs.declared.denial.Denial.{Denial}
use Rattle.week_check.specs.Days.{IsDay, IsDutyNumber, number_of, week_of}
use Rattle.week_check.specs.Denials.{Adds, AreDenials, HasDays, HasRestDays, denial_order, daily_from, daily_of, finding, finding_of, findings_of, fortnight_at, has_duty_in, rests_at, rests_from, two_weeks_sum, week_sum, weekly_at, weeks_at, weeks_from, when}
use Rattle.week_check.specs.Duties.{IsTurn, complete, continued, ended, ends_before, first_turn, gap_after, is_before, lists_from, drivers_lists, next_day, rest_after, rest_of, rest_order, rests_of, turn_order}
use Rattle.week_check.proofs.Adding.{Leads, front_at, leads_end, leads_step, rest_at}
use Rattle.week_check.proofs.Calendar.{duty_number}
use Rattle.week_check.proofs.OneDriver.{lists_are_all, lists_of_one}

rest_order_total : IsTotalOrder rest_order
rest_order_total = then_total (on_total (λ (t : Turn). t.end) int_cmp_total)
    (then_total (on_total (λ (t : Turn). t.driving) nat_cmp_total) (on_total (λ (t : Turn). t.three) bool_cmp_total))

pub turn_order_total : IsTotalOrder turn_order
turn_order_total =
    then_total (on_total (λ (t : Turn). t.driver) nat_cmp_total) (then_total (on_total (λ (t : Turn). t.begin) int_cmp_total)
    (then_total (on_total (λ (t : Turn). t.day) nat_cmp_total) rest_order_total))

pub before_order : IsStrictWeakOrder is_before
before_order = ranks_by turn_order_total (λ (t : Turn). t)

-- The duties are split into those looked at and those left, and what is found so far and what is left to find are the whole (`Leads`).
-- One duty more moves from one part to the other, with what is denied of it. Weeks and rests go the same way below.
pub daily_more : (old mid new : List Denial) (xs : List Turn) (i : ℕ) (earlier : List Turn) (t : Turn) → Adds mid new (daily_of earlier t) →
    earlier ≡ take i xs → i < length xs → t ≡ get_or xs i t → Leads old mid (daily_from (take i xs) (drop i xs)) (daily_from [] xs) →
    Leads old new (daily_from (take (i + 1) xs) (drop (i + 1) xs)) (daily_from [] xs)
daily_more old mid new xs i earlier t here same within is so_far =
    let e : daily_from (take i xs) (drop i xs) ≡ daily_of earlier t ++ daily_from (take (i + 1) xs) (drop (i + 1) xs) =
    ap (λ ys. daily_from (take i xs) ys) (rest_at xs i t within is)
    ∙ ap (λ ys. daily_of (take i xs) t ++ daily_from ys (drop (i + 1) xs)) (sym (front_at xs i t within is))
    ∙ ap (λ ys. daily_of ys t ++ daily_from (take (i + 1) xs) (drop (i + 1) xs)) (sym same) in
    leads_step old mid new (daily_of earlier t) _ _ _ e so_far here

pub weeks_more : (old mid new : List Denial) (xs : List Turn) (i : ℕ) (earlier : List Turn) (t : Turn) →
    Adds mid new (weeks_at xs earlier t) → earlier ≡ take i xs → i < length xs → t ≡ get_or xs i t →
    Leads old mid (weeks_from xs (take i xs) (drop i xs)) (weeks_from xs [] xs) →
    Leads old new (weeks_from xs (take (i + 1) xs) (drop (i + 1) xs)) (weeks_from xs [] xs)
weeks_more old mid new xs i earlier t here same within is so_far =
    let e : weeks_from xs (take i xs) (drop i xs) ≡ weeks_at xs earlier t ++ weeks_from xs (take (i + 1) xs) (drop (i + 1) xs) =
    ap (λ ys. weeks_from xs (take i xs) ys) (rest_at xs i t within is)
    ∙ ap (λ ys. weeks_at xs (take i xs) t ++ weeks_from xs ys (drop (i + 1) xs)) (sym (front_at xs i t within is))
    ∙ ap (λ ys. weeks_at xs ys t ++ weeks_from xs (take (i + 1) xs) (drop (i + 1) xs)) (sym same) in
    leads_step old mid new (weeks_at xs earlier t) _ _ _ e so_far here

pub rests_more : (driver : ℕ) (old mid new : List Denial) (xs : List Rest) (i : ℕ) (earlier : List Rest) (r : Rest) →
    Adds mid new (rests_at driver earlier r) → earlier ≡ take i xs → i < length xs → r ≡ get_or xs i r →
    Leads old mid (rests_from driver (take i xs) (drop i xs)) (rests_from driver [] xs) →
    Leads old new (rests_from driver (take (i + 1) xs) (drop (i + 1) xs)) (rests_from driver [] xs)
rests_more driver old mid new xs i earlier r here same within is so_far =
    let e : rests_from driver (take i xs) (drop i xs) ≡ rests_at driver earlier r ++ rests_from driver (take (i + 1) xs) (drop (i + 1) xs) =
    ap (λ ys. rests_from driver (take i xs) ys) (rest_at xs i r within is)
    ∙ ap (λ ys. rests_at driver (take i xs) r ++ rests_from driver ys (drop (i + 1) xs)) (sym (front_at xs i r within is))
    ∙ ap (λ ys. rests_at driver ys r ++ rests_from driver (take (i + 1) xs) (drop (i + 1) xs)) (sym same) in
    leads_step old mid new (rests_at driver earlier r) _ _ _ e so_far here

-- the seconds of a duty are far from the limits of 64 bits
pub record IsSmall (z : ℤ) : Type 0 where
  pub low : pos 0 ≤ℤ (z +ℤ pos 1000000000000)
  pub high : z ≤ℤ pos 1000000000000

small_number : (n z b : ℤ) → IsDutyNumber n → (pos 86400 *ℤ n) ≤ℤ (b +ℤ pos 172800) → b ≤ℤ z → z ≤ℤ ((pos 86400 *ℤ n) +ℤ pos 345600) →
    IsSmall b × IsSmall z
small_number n z b number low order high = (
  record { low = omega (arith, signed_arith); high = omega (arith, signed_arith) },
  record {
    low = omega (arith, signed_arith);
    high =
        omega (arith, signed_arith);
  },
)

pub small_times : (t : Turn) → IsTurn t → IsSmall t.begin × IsSmall t.end
small_times t is = small_number (number_of t.day) t.end t.begin (duty_number t.day is.day) is.begin_from is.order is.end_to

pub fits_difference : (a b : ℤ) → IsSmall a → IsSmall b → FitsSigned w64 (a -ℤ b)
fits_difference a b x y = omega (arith, signed_arith)

pub first_is_turn : (ts : List Turn) (t : Turn) → first_turn ts ≡ Some t → All IsTurn ts → IsTurn t
first_is_turn [] t e all = absurd (cc)
first_is_turn (u ∷ ts) t e all =
    let same : u ≡ t = cc in
    subst IsTurn same (All-get_or IsTurn (u ∷ ts) 0 u (omega arith) all)

pub gap_some : (t next : Turn) (later : List Turn) → first_turn later ≡ Some next → gap_after t later ≡ next.begin -ℤ t.end
gap_some t next [] e = absurd (cc)
gap_some t next (u ∷ later) e =
    let same : u ≡ next = cc in
    ap (λ (v : Turn). v.begin -ℤ t.end) same

pub rest_is : (t : Turn) (later : List Turn) (next : ℕ) (gap rest : ℤ) → next ≡ next_day t later → gap ≡ gap_after t later →
    rest ≡ rest_after t later → record { day = t.day; next = next; gap = gap; length = rest; three = t.three } ≡ rest_of t later
rest_is t later next gap rest a b c =
    let made : ℕ → ℤ → ℤ → Rest = λ n g l. record { day = t.day; next = n; gap = g; length = l; three = t.three } in
    ap (λ n. made n gap rest) a ∙ ap (λ g. made (next_day t later) g rest) b ∙ ap (λ l. made (next_day t later) (gap_after t later) l) c

head_turn : (t : Turn) (ts : List Turn) → All IsTurn (t ∷ ts) → IsTurn t
head_turn t ts all = All-get_or IsTurn (t ∷ ts) 0 t (omega arith) all

tail_turns : (t : Turn) (ts : List Turn) → All IsTurn (t ∷ ts) → All IsTurn ts
tail_turns t ts all = λ k d within. all (suc k) d (omega (arith, within))

next_civil : (t : Turn) (ts : List Turn) → All IsTurn (t ∷ ts) → IsDay (next_day t ts)
next_civil t [] all = (head_turn t [] all).day.civil
next_civil t (u ∷ ts) all = (head_turn u ts (tail_turns t (u ∷ ts) all)).day.civil

pub rests_days : (ts : List Turn) → All IsTurn ts → All HasRestDays (rests_of ts)
rests_days [] all = All-nil HasRestDays
rests_days (t ∷ ts) all =
    All-cons HasRestDays (rest_of t ts) (rests_of ts) ((head_turn t ts all).day.civil, next_civil t ts all)
    (rests_days ts (tail_turns t ts all))

pub weekly_is : (driver : ℕ) (monday : ℤ) (turns : List Turn) (from to : ℤ) (sum : ℕ) (value : ℤ) → from ≡ monday → to ≡ monday +ℤ pos 6 →
    sum ≡ week_sum monday turns → value ≡ pos sum →
    when (nat_lt 201600 sum) (finding driver 62 from to value) ≡ weekly_at driver monday turns
weekly_is driver monday turns from to sum value a b c d =
    ap (λ f. when (nat_lt 201600 sum) (finding driver 62 f to value)) a
    ∙ ap (λ g. when (nat_lt 201600 sum) (finding driver 62 monday g value)) b
    ∙ ap (λ v. when (nat_lt 201600 sum) (finding driver 62 monday (monday +ℤ pos 6) v)) d
    ∙ ap (λ s. when (nat_lt 201600 s) (finding driver 62 monday (monday +ℤ pos 6) (pos s))) c

pub fortnight_is : (driver : ℕ) (monday : ℤ) (turns : List Turn) (from to : ℤ) (sum : ℕ) (value : ℤ) (b : Bool) →
    b ≡ (has_duty_in (monday +ℤ pos 7) turns && nat_lt 324000 sum) → from ≡ monday → to ≡ monday +ℤ pos 13 →
    sum ≡ two_weeks_sum monday turns → value ≡ pos sum → when b (finding driver 63 from to value) ≡ fortnight_at driver monday turns
fortnight_is driver monday turns from to sum value b t a e c d =
    ap (λ x. when x (finding driver 63 from to value)) t
    ∙ ap (λ f. when (has_duty_in (monday +ℤ pos 7) turns && nat_lt 324000 sum) (finding driver 63 f to value)) a
    ∙ ap (λ g. when (has_duty_in (monday +ℤ pos 7) turns && nat_lt 324000 sum) (finding driver 63 monday g value)) e
    ∙ ap (λ v. when (has_duty_in (monday +ℤ pos 7) turns && nat_lt 324000 sum) (finding driver 63 monday (monday +ℤ pos 13) v)) d
    ∙ ap (λ s. when (has_duty_in (monday +ℤ pos 7) turns && nat_lt 324000 s) (finding driver 63 monday (monday +ℤ pos 13) (pos s))) c

pub weeks_is : (duties earlier : List Turn) (t : Turn) (monday : ℤ) → monday ≡ week_of t.day → has_duty_in monday earlier ≡ false →
    weekly_at t.driver monday duties ++ fortnight_at t.driver monday duties ≡ weeks_at duties earlier t
weeks_is duties earlier t monday e none =
    let none' : has_duty_in (week_of t.day) earlier ≡ false = subst (λ m. has_duty_in m earlier ≡ false) e none in
    ap (λ m. weekly_at t.driver m duties ++ fortnight_at t.driver m duties) e
    ∙ sym (ap (λ b. if b then [] else weekly_at t.driver (week_of t.day) duties ++ fortnight_at t.driver (week_of t.day) duties) none')

pub complete_is : (ts : List Turn) (t : Turn) (rs : List Rest) → first_turn ts ≡ Some t → rs ≡ rests_of ts →
    daily_from [] ts ++ (weeks_from ts [] ts ++ rests_from t.driver [] rs) ≡ flat_map findings_of (complete ts)
complete_is [] t rs e f = absurd (cc)
complete_is (u ∷ ts) t rs e f =
    let same : t ≡ u = cc in
    ap (λ (v : Turn). daily_from [] (u ∷ ts) ++ (weeks_from (u ∷ ts) [] (u ∷ ts) ++ rests_from v.driver [] rs)) same
    ∙ ap (λ qs. daily_from [] (u ∷ ts) ++ (weeks_from (u ∷ ts) [] (u ∷ ts) ++ rests_from u.driver [] qs)) f
    ∙ sym (append-nil (findings_of (u ∷ ts)))

continued_by : (b : Bool) (current : List Turn) (t : Turn) → IsTurn t → All IsTurn current →
    All IsTurn (if b then t ∷ [] else current ++ t ∷ [])
continued_by true current t is all = All-cons IsTurn t [] is (All-nil IsTurn)
continued_by false current t is all = All-append IsTurn current (t ∷ []) all (All-cons IsTurn t [] is (All-nil IsTurn))

pub continued_turns : (current : List Turn) (t : Turn) → IsTurn t → All IsTurn current → All IsTurn (continued current t)
continued_turns current t is all = continued_by (ends_before current t) current t is all

longer_by : (b : Bool) (current : List Turn) (t : Turn) → length (if b then t ∷ [] else current ++ t ∷ []) ≤ length current + 1
longer_by true current t = omega arith
longer_by false current t = omega (arith, length-append current (t ∷ []))

pub continued_few : (current : List Turn) (t : Turn) → length (continued current t) ≤ length current + 1
continued_few current t = longer_by (ends_before current t) current t

-- One duty more either continues the driver's list or ends it; where it ends it, what is denied of the complete list is added now. So
-- the findings come list by list in one pass over the sorted duties, with the list of the driver so far in hand.
pub drivers_more : (old mid new : List Denial) (xs : List Turn) (i : ℕ) (current next : List Turn) (t : Turn) →
    Adds mid new (flat_map findings_of (ended current t)) → next ≡ continued current t → i < length xs → t ≡ get_or xs i t →
    Leads old mid (flat_map findings_of (lists_from current (drop i xs))) (flat_map findings_of (drivers_lists xs)) →
    Leads old new (flat_map findings_of (lists_from next (drop (i + 1) xs))) (flat_map findings_of (drivers_lists xs))
drivers_more old mid new xs i current next t here same within is so_far =
    let e : flat_map findings_of (lists_from current (drop i xs)) ≡ flat_map findings_of (ended current t)
    ++ flat_map findings_of (lists_from next (drop (i + 1) xs)) =
    ap (λ ys. flat_map findings_of (lists_from current ys)) (rest_at xs i t within is)
    ∙ flat_map-append findings_of (ended current t) (lists_from (continued current t) (drop (i + 1) xs))
    ∙ ap (λ ys. flat_map findings_of (ended current t) ++ flat_map findings_of (lists_from ys (drop (i + 1) xs))) (sym same) in
    leads_step old mid new (flat_map findings_of (ended current t)) _ _ _ e so_far here

pub drivers_turns : (xs : List Turn) (i : ℕ) (current next : List Turn) (d : Turn) → next ≡ continued current (get_or xs i d) →
    i < length xs → All IsTurn xs → All IsTurn current → All IsTurn next
drivers_turns xs i current next d same within all so_far =
    subst (λ ts. All IsTurn ts) (sym same) (continued_turns current (get_or xs i d) (All-get_or IsTurn xs i d within all) so_far)

pub drivers_few : (i : ℕ) (current next : List Turn) (t : Turn) → next ≡ continued current t → length current ≤ i → length next ≤ i + 1
drivers_few i current next t same few =
    subst (λ (ts : List Turn). length ts ≤ i + 1) (sym same) (omega (arith, continued_few current t, few))

pub drivers_end : (old mid new : List Denial) (xs current slice left : List Turn) → slice ≡ current → left ≡ [] →
    Leads old mid (flat_map findings_of (lists_from current left)) (flat_map findings_of (drivers_lists xs)) →
    Adds mid new (flat_map findings_of (complete slice)) → Adds old new (flat_map findings_of (drivers_lists xs))
drivers_end old mid new xs current slice left same e so_far here =
    let whole : flat_map findings_of (lists_from current left) ≡ flat_map findings_of (complete slice) ++ [] =
    ap (λ ys. flat_map findings_of (lists_from current ys)) e ∙ ap (λ ts. flat_map findings_of (complete ts)) (sym same)
    ∙ sym (append-nil (flat_map findings_of (complete slice))) in
    leads_end old new [] _ refl (leads_step old mid new (flat_map findings_of (complete slice)) [] _ _ whole so_far here)

pub sums_are : (a b : ℕ) (m n z : ℤ) (turns : List Turn) → a ≡ week_sum m turns → b ≡ week_sum n turns → m ≡ z → n ≡ z +ℤ pos 7 →
    a + b ≡ two_weeks_sum z turns
sums_are a b m n z turns first second e f =
    let one : a ≡ week_sum z turns = first ∙ ap (λ k. week_sum k turns) e in
    let two : b ≡ week_sum (z +ℤ pos 7) turns = second ∙ ap (λ k. week_sum k turns) f in
    ap (λ k. k + b) one ∙ ap (λ k. week_sum z turns + k) two

-- It puts together what `denials` promises: the sorted duties are those of the roster, cut at each new driver into lists that are all
-- of them and of one driver each; the findings are those of these lists; and to sort the denials moves them only.
pub denials_are : (turns ordered slice : List Turn) (start found sorted result : List Denial) → IsPermutation turns ordered →
    IsSorted turn_order ordered → slice ≡ ordered → start ≡ [] → Adds start found (flat_map findings_of (drivers_lists slice)) →
    IsPermutation found sorted → IsSorted denial_order sorted → result ≡ sorted → AreDenials turns result
denials_are turns ordered slice start found sorted result same rising e none adds moved order is =
    let findings : map finding_of found ≡ flat_map findings_of (drivers_lists ordered) =
    adds.findings ∙ ap (λ ds. map finding_of ds ++ flat_map findings_of (drivers_lists slice)) none
    ∙ ap (λ ts. flat_map findings_of (drivers_lists ts)) e in
    let has : All HasDays found = adds.days (subst (λ ds. All HasDays ds) (sym none) (All-nil HasDays)) in
    subst (λ ds. AreDenials turns ds) (sym is) (record {
      ordered = ordered;
      same = same;
      rising = rising;
      whole = lists_are_all ordered;
      one = lists_of_one ordered;
      are = subst (λ fs. IsPermutation fs (map finding_of sorted)) findings (IsPermutation-map finding_of found sorted moved);
      days = All-permutation HasDays found sorted moved has;
      order = order;
    })
