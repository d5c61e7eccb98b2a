-- Promise: the marks of open lists of pieces, and covers.
use Rattle.std.specs.Prelude.{◌≡◌, ℕ, ℤ, pos, ◌+ℤ◌, ◌-ℤ◌, ◌*ℤ◌, ◌≤ℤ◌, int_le, ◌+◌, ◌≤◌, Bool, true, false, cond, ◌&&◌, ◌||◌, nat_eq, not, nat_le, nat_lt, List, Option, Some, option_and_then, slice_get}
use Rattle.plan_core.specs.declared.types.Price.{Price}
use Rattle.cover_core.specs.Plans.{price_at, number_at}
use Rattle.cover_core.specs.Labels.{Labelling}
use Rattle.plan_core.specs.declared.types.Piece.{Piece}
use Rattle.eu561_rules.specs.Duty.{completes_break}
use Rattle.plan_params.specs.declared.rows.group.Group.{Group}
use Rattle.cover_core.specs.declared.marks.Mark.{Mark}
use Rattle.duty_network.specs.Times.{given}
use Rattle.duty_network.specs.Duties.{DutyFacts, limits_of, pause, sign_on, sign_off}

-- a mark may be continued: its driving keeps the limits so far, and its last piece ends at most 15 hours after sign-on
abbrev pub is_open : Group → Mark → ℤ → Bool
is_open g m end = nat_le m.driving (limits_of g).block && nat_le m.total (limits_of g).day
    && int_le end (m.start.0 +ℤ pos (limits_of g).long_spread)

-- the fields of the mark of a list of one piece
abbrev pub one_mark : Bool → List Price → ℕ → Group → ℕ → Piece → ℤ → Mark
one_mark counts prices class g k p on = record {
  class = class;
  piece = k;
  start = record { 0 = on };
  driving = p.driving;
  quarter = false;
  total = p.driving;
  three = false;
  value = cond counts (pos 1000) (pos 1000 *ℤ (pos g.fixed -ℤ (pos g.rate *ℤ on))) -ℤ price_at prices k;
}

abbrev pub first_mark : DutyFacts → List Price → ℕ → Group → ℕ → Option Mark
first_mark d prices class g k =
    option_and_then (λ p. option_and_then (λ on.
    given (is_open g (one_mark d.counts prices class g k p on) p.end.0) (Some (one_mark d.counts prices class g k p on)))
    (sign_on d g p)) (slice_get d.pieces k)

-- the fields of a mark after a pause and one piece more
abbrev pub next_mark : Group → List Price → Mark → ℕ → ℕ → Piece → Mark
next_mark g prices m time k q = record {
  class = m.class;
  piece = k;
  start = m.start;
  driving = cond (completes_break m.quarter time) 0 m.driving + q.driving;
  quarter = cond (completes_break m.quarter time) false (nat_le 900 time || m.quarter);
  total = m.total + q.driving;
  three = m.three || nat_le (limits_of g).long_pause time;
  value = m.value -ℤ price_at prices k;
}

-- the mark with one piece more
abbrev pub extended_mark : DutyFacts → Group → List Price → Mark → ℕ → Option Mark
extended_mark d g prices m k =
    option_and_then (λ p. option_and_then (λ q. option_and_then (λ time.
    given (nat_lt m.piece k && is_open g (next_mark g prices m time k q) q.end.0) (Some (next_mark g prices m time k q)))
    (pause d p q)) (slice_get d.pieces k)) (slice_get d.pieces m.piece)

abbrev pub marking : DutyFacts → List Price → ℕ → Group → Labelling Mark
marking d prices class g = record { start = first_mark d prices class g; extend = extended_mark d g prices }

-- mark a is at least as good as mark b
pub record IsAtLeastAsGood (a b : Mark) : Type 0 where
  pub class : a.class ≡ b.class
  pub piece : a.piece ≡ b.piece
  pub start : b.start.0 ≤ℤ a.start.0
  pub driving : a.driving ≤ b.driving
  pub quarter : a.quarter ≡ b.quarter
  pub total : a.total ≤ b.total
  pub three : b.three ≡ true → a.three ≡ true
  pub value : a.value ≤ℤ b.value

-- the limits of a lawful duty, for a mark's fields; a mark from outside may begin after its sign-off
abbrev pub closes_lawfully : Group → Mark → ℤ → Bool
closes_lawfully g m off =
    nat_le m.driving (limits_of g).block && nat_le m.total (limits_of g).day &&
    int_le (off -ℤ m.start.0) (pos (cond m.three (limits_of g).long_spread (limits_of g).spread))

-- the value of the list that ends with a mark, where it is lawful
abbrev pub closed_value : DutyFacts → Group → Mark → Option ℤ
closed_value d g m =
    option_and_then (λ p. option_and_then (λ off.
    given (closes_lawfully g m off) (Some (m.value +ℤ cond d.counts (pos 0) (pos 1000 *ℤ (pos g.rate *ℤ off)))))
    (sign_off d g p)) (slice_get d.pieces m.piece)

-- the same as a test
abbrev pub is_as_good : Mark → Mark → Bool
is_as_good a b =
    nat_eq a.class b.class && nat_eq a.piece b.piece && int_le b.start.0 a.start.0 && nat_le a.driving b.driving &&
    cond b.quarter a.quarter (not a.quarter) && nat_le a.total b.total && (not b.three || a.three) && int_le a.value b.value

-- what a list closes with at least
abbrev pub floor_of : List ℤ → Mark → ℤ
floor_of rests m = m.value +ℤ number_at rests m.piece
