-- Rows whose values are right, and their duties.
use Rattle.std.proofs.Common.{◌≡◌, ℕ, ◌≤◌, Bool, true, false, not, ◌&&◌, if◌then◌else◌, List, [], ◌∷◌, Option, Some, None, ℤ, pos, negsuc, neg_ℤ, ◌≤ℤ◌, refl, ap, ◌∙◌, arith, unsigned_abs}
use Rattle.std.specs.Prelude.{◌↔◌, IsTrue, int_le, nat_le}
use Rattle.std.specs.Bool.{MatchBool}
use Rattle.std.specs.List.{find}
use Rattle.std.proofs.lemmas.Bool.{and_from, and_parts, both_ways, cases_from_iff, le-leb, leb-true, not-false}
use Rattle.jiff_core.specs.Calendar.{days_in_month}
use Rattle.jiff_core.proofs.SignedLemmas.{signed_arith}
use Rattle.week_check.specs.declared.column.RosterColumn.{RosterColumn}
use Rattle.week_check.specs.declared.column.RosterColumn.TheVariants.{Driver, Day, Begin, End, Driving, Pause}
use Rattle.week_check.specs.declared.entry.Entry.{Entry}
use Rattle.week_check.specs.declared.turn.Turn.{Turn}
use Rattle.week_check.specs.Days.{IsDutyDay, day_of_month, month_of, year_of}
use Rattle.week_check.specs.Duties.{IsTurn}
use Rattle.week_check.specs.Roster.{is_day, is_duty_day, is_end, is_one, is_right, is_time, is_within, moment, turn_of, value, word, wrong_column}

-- nothing is found: neither the first item, nor one behind it
pub find_split : {X : Type 0} (x : X) (r : Option X) (b : Bool) → (if b then Some x else r) ≡ None → (b ≡ false) × (r ≡ None)
find_split x r true e = absurd cc
find_split x r false e = (refl, e)

-- each value of a row is right
pub record AreRight (e : Entry) : Type 0 where
  pub driver : is_within e.driver (pos 0) (pos 4294967295) ≡ true
  pub day : is_day e.day ≡ true
  pub begin : is_time e.begin ≡ true
  pub end : is_end e.begin e.end ≡ true
  pub driving : is_within e.driving (pos 0) (pos 172800) ≡ true
  pub pause : is_within e.pause (pos 0) (pos 1) ≡ true

abbrev wrong_in : Entry → List RosterColumn → Option RosterColumn
wrong_in e cs = find (λ column. not (is_right e column)) cs

-- The search for a wrong column goes over the six columns in order; where it finds none it has passed each of them, and they are taken
-- off one by one (`find_split`). So "no wrong column" is said value by value, as a duty needs it.
pub all_right : (e : Entry) → wrong_column e ≡ None → AreRight e
all_right e h =
    let a = find_split Driver (wrong_in e (Day ∷ Begin ∷ End ∷ Driving ∷ Pause ∷ [])) (not (is_right e Driver)) h in
    let b = find_split Day (wrong_in e (Begin ∷ End ∷ Driving ∷ Pause ∷ [])) (not (is_right e Day)) a.1 in
    let c = find_split Begin (wrong_in e (End ∷ Driving ∷ Pause ∷ [])) (not (is_right e Begin)) b.1 in
    let d = find_split End (wrong_in e (Driving ∷ Pause ∷ [])) (not (is_right e End)) c.1 in
    let f = find_split Driving (wrong_in e (Pause ∷ [])) (not (is_right e Driving)) d.1 in
    let g = find_split Pause (wrong_in e []) (not (is_right e Pause)) f.1 in
    record {
      driver = not-false _ a.0;
      day = not-false _ b.0;
      begin = not-false _ c.0;
      end = not-false _ d.0;
      driving = not-false _ f.0;
      pause = not-false _ g.0;
    }

between : (n low high : ℤ) → (int_le low n && int_le n high) ≡ true → (low ≤ℤ n) × (n ≤ℤ high)
between n low high h =
    let both = and_parts (int_le low n) (int_le n high) h in
    (omega (arith, signed_arith, both.0), omega (arith, signed_arith, both.1))

pub within : (n : Option ℤ) (low high : ℤ) → is_within n low high ≡ true → (low ≤ℤ value n) × (value n ≤ℤ high)
within None low high h = absurd cc
within (Some n) low high h = between n low high h

le_true : (a b : ℤ) → a ≤ℤ b → int_le a b ≡ true
le_true a b h = by (int_le a b) refl
  where
    by : (v : Bool) → int_le a b ≡ v → int_le a b ≡ true
    by true e = e
    by false e = absurd (omega (arith, signed_arith, e, h))

pub wider : (n : Option ℤ) → is_within n (pos 0) (pos 172800) ≡ true → is_within n (pos 0) (pos 4294967295) ≡ true
wider None h = absurd cc
wider (Some n) h =
    let both = between n (pos 0) (pos 172800) h in
    and_from (int_le (pos 0) n) (int_le n (pos 4294967295)) (le_true (pos 0) n both.0)
    (le_true n (pos 4294967295) (omega (arith, signed_arith, both.1)))

-- a test of a day is the calendar's
pub day_is : (day : ℕ) → is_duty_day day ≡ true → IsDutyDay day
day_is day h =
    let a = and_parts (nat_le 1 (year_of day) && nat_le (year_of day) 9998) _ h in
    let year = and_parts (nat_le 1 (year_of day)) _ a.0 in
    let b = and_parts (nat_le 1 (month_of day) && nat_le (month_of day) 12) _ a.1 in
    let month = and_parts (nat_le 1 (month_of day)) _ b.0 in
    let dom = and_parts (nat_le 1 (day_of_month day)) _ b.1 in
    let first : 1 ≤ year_of day = leb-true 1 (year_of day) year.0 in
    let last : year_of day ≤ 9998 = leb-true (year_of day) 9998 year.1 in
    let m1 : 1 ≤ month_of day = leb-true 1 (month_of day) month.0 in
    let m2 : month_of day ≤ 12 = leb-true (month_of day) 12 month.1 in
    let d1 : 1 ≤ day_of_month day = leb-true 1 (day_of_month day) dom.0 in
    let d2 : day_of_month day ≤ days_in_month (pos (year_of day)) (month_of day) =
    leb-true (day_of_month day) (days_in_month (pos (year_of day)) (month_of day)) dom.1 in
    record {
      first = first;
      last = last;
      civil = (
        (omega (arith, signed_arith, first), omega (arith, signed_arith, last)),
        (omega (arith, signed_arith, m1), omega (arith, signed_arith, m2)),
        (omega (arith, signed_arith, d1), omega (arith, signed_arith, d2)),
      );
    }

pub is_day_test : (day : ℕ) → IsDutyDay day → is_duty_day day ≡ true
is_day_test day is =
    let m1 : 1 ≤ month_of day = omega (arith, signed_arith, is.civil.1.0) in
    let m2 : month_of day ≤ 12 = omega (arith, signed_arith, is.civil.1.1) in
    let d1 : 1 ≤ day_of_month day = omega (arith, signed_arith, is.civil.2.0) in
    let d2 : day_of_month day ≤ days_in_month (pos (year_of day)) (month_of day) = omega (arith, signed_arith, is.civil.2.1) in
    and_from (nat_le 1 (year_of day) && nat_le (year_of day) 9998) _
    (and_from (nat_le 1 (year_of day)) (nat_le (year_of day) 9998) (le-leb _ _ is.first) (le-leb _ _ is.last))
    (and_from (nat_le 1 (month_of day) && nat_le (month_of day) 12) _
    (and_from (nat_le 1 (month_of day)) (nat_le (month_of day) 12) (le-leb _ _ m1) (le-leb _ _ m2))
    (and_from (nat_le 1 (day_of_month day)) _ (le-leb _ _ d1) (le-leb _ _ d2)))

pub tested : (b : Bool) (day : ℕ) → (IsTrue b ↔ IsDutyDay day) → b ≡ is_duty_day day
tested b day iff = by b (is_duty_day day) (cases_from_iff iff) refl
  where
    by : (b t : Bool) → MatchBool b (IsDutyDay day) (IsDutyDay day → ⊥) → is_duty_day day ≡ t → b ≡ t
    by true true h e = refl
    by true false h e = absurd (both_ways (is_duty_day day) e (is_day_test day h))
    by false true h e = absurd (h (day_is day e))
    by false false h e = refl

pub right_day : (n : Option ℤ) → is_day n ≡ true → IsDutyDay (word n)
right_day n h = day_is (word n) ((and_parts (is_within n (pos 0) (pos 4294967295)) (is_duty_day (word n)) h).1)

pub right_word : (n : Option ℤ) → is_day n ≡ true → is_within n (pos 0) (pos 4294967295) ≡ true
right_word n h = (and_parts (is_within n (pos 0) (pos 4294967295)) (is_duty_day (word n)) h).0

small_word : (z : ℤ) (most : ℕ) → pos 0 ≤ℤ z → z ≤ℤ pos most → unsigned_abs z ≤ most
small_word (pos n) most low high = omega (arith, signed_arith, high)
small_word (negsuc n) most low high = absurd (omega (arith, signed_arith, low))

-- The duty of a row whose values are right. A duty counts seconds from 1970: the day's number of days and the row's seconds of the
-- day. So its start and end keep the distance from the day that the row's values have, and their order; day and driving are as they
-- were tested.
pub turn_is : (e : Entry) → AreRight e → IsTurn (turn_of e)
turn_is e right =
    let begin = within e.begin (neg_ℤ (pos 172800)) (pos 345600) right.begin in
    let parts = and_parts (is_time e.end) (int_le (value e.begin) (value e.end)) right.end in
    let end = within e.end (neg_ℤ (pos 172800)) (pos 345600) parts.0 in
    let driving = within e.driving (pos 0) (pos 172800) right.driving in
    let order : value e.begin ≤ℤ value e.end = omega (arith, signed_arith, parts.1) in
    record {
      day = right_day e.day right.day;
      begin_from = omega (arith, signed_arith, begin.0);
      order = omega (arith, signed_arith, order);
      end_to = omega (arith, signed_arith, end.1);
      driving = small_word (value e.driving) 172800 driving.0 driving.1;
    }

-- the parts of a duty
pub turn_made : (e : Entry) (driver day : ℕ) (begin end : ℤ) (driving : ℕ) (three : Bool) → driver ≡ word e.driver → day ≡ word e.day →
    begin ≡ moment (word e.day) (value e.begin)
    → end ≡ moment (word e.day) (value e.end) → driving ≡ word e.driving → three ≡ is_one e.pause
    → record { driver = driver; day = day; begin = begin; end = end; driving = driving; three = three } ≡ turn_of e
turn_made e driver day begin end driving three a b c d f g =
    let made : ℕ → ℕ → ℤ → ℤ → ℕ → Bool → Turn =
    λ p q r s t u. record { driver = p; day = q; begin = r; end = s; driving = t; three = u } in
    ap (λ p. made p day begin end driving three) a ∙ ap (λ q. made (word e.driver) q begin end driving three) b
    ∙ ap (λ r. made (word e.driver) (word e.day) r end driving three) c
    ∙ ap (λ s. made (word e.driver) (word e.day) (moment (word e.day) (value e.begin)) s driving three) d
    ∙ ap (λ t. made (word e.driver) (word e.day) (moment (word e.day) (value e.begin)) (moment (word e.day) (value e.end)) t three) f
    ∙ ap (λ u. made (word e.driver) (word e.day) (moment (word e.day) (value e.begin))
    (moment (word e.day) (value e.end)) (word e.driving) u) g

pub moment_is : (z made : ℤ) (day wanted : ℕ) (seconds own : ℤ) → z ≡ made → made ≡ moment day seconds → day ≡ wanted →
    seconds ≡ own → z ≡ moment wanted own
moment_is z made day wanted seconds own e f g h = e ∙ f ∙ ap (λ d. moment d seconds) g ∙ ap (λ s. moment wanted s) h
