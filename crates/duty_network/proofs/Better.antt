-- A mark that is at least as good stays so over each further piece.
use Rattle.std.proofs.Common.{◌≡◌, ℕ, ℤ, pos, ◌+ℤ◌, ◌-ℤ◌, ◌*ℤ◌, ◌≤ℤ◌, ◌+◌, ◌≤◌, Bool, true, false, cond, ◌&&◌, ◌||◌, List, refl, sym, ap, ◌∙◌, arith, subst}
use Rattle.std.proofs.lemmas.Int.{ints}
use Rattle.std.proofs.lemmas.Bool.Decides.{nat_tests}
use Rattle.std.specs.Prelude.{Option, Some, option_and_then, nat_le, nat_lt, int_le, slice_get, ◌<◌, length}
use Rattle.std.proofs.lemmas.Bool.{and_from, and_parts}
pub use Rattle.std.proofs.lemmas.Option.{same_Some as Some-same}
pub use Rattle.plan_core.proofs.Options.{and_then_some as and_then-Some, given_some as given-Some}
use Rattle.plan_core.specs.declared.types.Price.{Price}
use Rattle.cover_core.specs.Plans.{price_at}
use Rattle.cover_core.specs.Labels.{IsKept, IsValued}
use Rattle.plan_core.specs.declared.types.Piece.{Piece}
use Rattle.duty_network.specs.Times.{given}
use Rattle.eu561_rules.specs.Duty.{completes_break}
use Rattle.plan_params.specs.declared.rows.group.Group.{Group}
use Rattle.cover_core.specs.declared.marks.Mark.{Mark}
use Rattle.duty_network.specs.Duties.{DutyFacts, limits_of, pause, pause_at, sign_off, sign_on}
use Rattle.duty_network.specs.Ranges.{off_value}
use Rattle.point_grid.proofs.Flat.{there}
use Rattle.duty_network.specs.Marks.{first_mark, is_open, next_mark, one_mark, extended_mark, marking, IsAtLeastAsGood, closes_lawfully, closed_value}

pub nat_le-down : (a b n : ℕ) → a ≤ b → nat_le b n ≡ true → nat_le a n ≡ true
nat_le-down a b n h k = grind (arith, nat_tests)

pub int_le-up : (e a b n : ℤ) → b ≤ℤ a → int_le e (b +ℤ n) ≡ true → int_le e (a +ℤ n) ≡ true
int_le-up e a b n h k = grind (arith, ints)

pub or-up : (a b c : Bool) → (b ≡ true → a ≡ true) → (b || c) ≡ true → (a || c) ≡ true
or-up true b c h k = refl
or-up false true c h k = absurd (let e : false ≡ true = h refl in cc)
or-up false false c h k = k

driving-up : (c : Bool) (x y n : ℕ) → x ≤ y → cond c 0 x + n ≤ cond c 0 y + n
driving-up true x y n h = omega arith
driving-up false x y n h = omega arith

pub extended-is : (d : DutyFacts) (g : Group) (prices : List Price) (a : Mark) (k time : ℕ) (p q : Piece) →
    slice_get d.pieces a.piece ≡ Some p → slice_get d.pieces k ≡ Some q → pause d p q ≡ Some time →
    (nat_lt a.piece k && is_open g (next_mark g prices a time k q) q.end.0) ≡ true →
    extended_mark d g prices a k ≡ Some (next_mark g prices a time k q)
extended-is d g prices a k time p q from to between test = rw (from, to, between, test) refl

-- Dominance of marks over one piece more, for one pause: the driving since the last full break keeps its order, as both marks have
-- the same quarter of an hour and so both have a full break there or neither; and values lose the same price. A mark must therefore
-- have the other's quarter exactly, whereas a long pause may only help.
pub next_mark-good : (g : Group) (prices : List Price) (a b : Mark) (time k : ℕ) (q : Piece) → IsAtLeastAsGood a b →
    IsAtLeastAsGood (next_mark g prices a time k q) (next_mark g prices b time k q)
next_mark-good g prices a b time k q good = record {
  class = good.class;
  piece = refl;
  start = good.start;
  driving = (let same : completes_break a.quarter time ≡ completes_break b.quarter time = ap (λ x. completes_break x time) good.quarter in
      rw same (driving-up (completes_break b.quarter time) a.driving b.driving q.driving good.driving));
  quarter = ap (λ quarter. cond (completes_break quarter time) false (nat_le 900 time || quarter)) good.quarter;
  total = omega (arith, good.total);
  three = or-up a.three b.three (nat_le (limits_of g).long_pause time) good.three;
  value = omega (arith, ints, good.value);
}

pub is_open-better : (g : Group) (a b : Mark) (end : ℤ) → IsAtLeastAsGood a b → is_open g b end ≡ true → is_open g a end ≡ true
is_open-better g a b end good open_b =
    let (low, last) = and_parts _ _ open_b in
    let (driving, total) = and_parts _ _ low in
    and_from _ _ (and_from _ _ (nat_le-down a.driving b.driving _ good.driving driving) (nat_le-down a.total b.total _ good.total total))
    (int_le-up end a.start.0 b.start.0 _ good.start last)

-- Dominance stays over each further piece: a mark as good as another can be extended wherever the other can, since less driving and
-- a later sign-on leave it open where the other is (`is_open-better`), and the extensions stand to one another as the marks did. By
-- this law the search may drop a mark, and a certificate may name few marks for all open duties.
pub good-kept : (d : DutyFacts) (prices : List Price) (class : ℕ) (g : Group) → IsKept (marking d prices class g) IsAtLeastAsGood
good-kept d prices class g = record {
  same = λ a. record {
    class = refl;
    piece = refl;
    start = omega (arith, ints);
    driving = omega arith;
    quarter = refl;
    total =
        omega arith;
    three = λ h. h;
    value = omega (arith, ints);
  };
  through = λ a b c h k. record {
    class = h.class ∙ k.class;
    piece = h.piece ∙ k.piece;
    start = omega (arith, ints, h.start, k.start);
    driving = omega (arith, h.driving, k.driving);
    quarter = h.quarter ∙ k.quarter;
    total = omega (arith, h.total, k.total);
    three = λ e. h.three (k.three e);
    value = omega (arith, ints, h.value, k.value);
  };
  extended = λ a b b' k good e.
      let (p, is_p, e1) = and_then-Some _ (slice_get d.pieces b.piece) b' e in
      let (q, is_q, e2) = and_then-Some _ (slice_get d.pieces k) b' e1 in
      let (time, is_time, e3) = and_then-Some _ (pause d p q) b' e2 in
      let (test, made) = given-Some _ _ b' e3 in
      let (later, open_b) = and_parts _ _ test in
      let better = next_mark-good g prices a b time k q good in
      let open_a = is_open-better g _ _ q.end.0 better open_b in
      let from : slice_get d.pieces a.piece ≡ Some p = ap (slice_get d.pieces) good.piece ∙ is_p in
      let later_a : nat_lt a.piece k ≡ true = ap (λ n. nat_lt n k) good.piece ∙ later in (
        next_mark g prices a time k q,
        extended-is d g prices a k time p q from is_q is_time (and_from _ _ later_a open_a),
        (let P : Mark → Type 0 = λ m. IsAtLeastAsGood (next_mark g prices a time k q) m in subst P (Some-same _ _ made) better),
      );
}

short-first : (b : Bool) → cond b 54000 46800 ≤ 54000
short-first true = omega arith
short-first false = omega arith

limit-up : (x y : Bool) (most least : ℕ) → (y ≡ true → x ≡ true) → least ≤ most → cond y most least ≤ cond x most least
limit-up true true most least h k = omega arith
limit-up true false most least h k = omega arith
limit-up false true most least h k = absurd (let e : false ≡ true = h refl in cc)
limit-up false false most least h k = omega arith

int_le-chain : (off a b : ℤ) (m n : ℕ) → b ≤ℤ a → m ≤ n → int_le (off -ℤ b) (pos m) ≡ true → int_le (off -ℤ a) (pos n) ≡ true
int_le-chain off a b m n h k e = grind (arith, ints)

spread-order : (g : Group) → (limits_of g).spread ≤ (limits_of g).long_spread
spread-order g = short-first g.reduced

pub closes-better : (g : Group) (a b : Mark) (off : ℤ) → IsAtLeastAsGood a b →
    closes_lawfully g b off ≡ true → closes_lawfully g a off ≡ true
closes-better g a b off good e =
    let (low, last) = and_parts _ _ e in
    let (driving, total) = and_parts _ _ low in
    and_from _ _ (and_from _ _ (nat_le-down a.driving b.driving _ good.driving driving) (nat_le-down a.total b.total _ good.total total))
    (int_le-chain off a.start.0 b.start.0 _ _ good.start
    (limit-up a.three b.three (limits_of g).long_spread (limits_of g).spread good.three (spread-order g)) last)

pub closed-is : (d : DutyFacts) (g : Group) (a : Mark) (p : Piece) (off : ℤ) → slice_get d.pieces a.piece ≡ Some p →
    sign_off d g p ≡ Some off →
    closes_lawfully g a off ≡ true → closed_value d g a ≡ Some (a.value +ℤ cond d.counts (pos 0) (pos 1000 *ℤ (pos g.rate *ℤ off)))
closed-is d g a p off from to test = rw (from, to, test) refl

-- what the steps are, from their parts
pub first-shape : (d : DutyFacts) (prices : List Price) (class : ℕ) (g : Group) (k : ℕ) (p : Piece) (counts : Bool) (on : Option ℤ) →
    slice_get d.pieces k ≡ Some p → counts ≡ d.counts → on ≡ sign_on d g p →
    option_and_then (λ on. given (is_open g (one_mark counts prices class g k p on) p.end.0) (Some (one_mark counts prices class g k p on)))
    on ≡ first_mark d prices class g k
first-shape d prices class g k p counts on from same is = rw (from, same, is) refl

pub next-shape : (d : DutyFacts) (g : Group) (prices : List Price) (m : Mark) (k : ℕ) (q : Piece) (time : Option ℕ) →
    m.piece < length d.pieces → slice_get d.pieces k ≡ Some q → time ≡ pause_at d m.piece k →
    option_and_then (λ time. given (nat_lt m.piece k && is_open g (next_mark g prices m time k q) q.end.0)
    (Some (next_mark g prices m time k q))) time ≡ extended_mark d g prices m k
next-shape d g prices m k q time below to is =
    let piece = there d.pieces m.piece below in
    let from = piece.1 in
    let between : time ≡ pause d piece.0 q = is ∙ (rw (from, to) refl) in
    rw (from, to, between) refl

pub close-shape : (d : DutyFacts) (g : Group) (m : Mark) (p : Piece) (counts : Bool) (off : Option ℤ) →
    slice_get d.pieces m.piece ≡ Some p → counts ≡ d.counts → off ≡ sign_off d g p →
    option_and_then (λ off. given (closes_lawfully g m off) (Some (m.value +ℤ off_value counts g off))) off ≡ closed_value d g m
close-shape d g m p counts off from same is = rw (from, same, is) refl

-- what an extension is
pub from-extended : (d : DutyFacts) (g : Group) (prices : List Price) (b b' : Mark) (k : ℕ) → extended_mark d g prices b k ≡ Some b' →
    (b'.value ≡ b.value -ℤ price_at prices k) × (nat_lt b.piece k ≡ true) × (b'.piece ≡ k)
from-extended d g prices b b' k e =
    let (p, is_p, e1) = and_then-Some _ (slice_get d.pieces b.piece) b' e in
    let (q, is_q, e2) = and_then-Some _ (slice_get d.pieces k) b' e1 in
    let (time, is_time, e3) = and_then-Some _ (pause d p q) b' e2 in
    let (test, made) = given-Some _ _ b' e3 in
    let (later, open_b) = and_parts _ _ test in
    let same = Some-same (next_mark g prices b time k q) b' made in
    (sym (ap (λ (m : Mark). m.value) same), later, sym (ap (λ (m : Mark). m.piece) same))

pub good-valued : (d : DutyFacts) (prices : List Price) (class : ℕ) (g : Group) →
    IsValued (marking d prices class g) IsAtLeastAsGood (λ m. m.value) (closed_value d g)
good-valued d prices class g = record {
  at_most = λ a b good. good.value;
  apart = λ a b a' b' k good less ea eb.
      let (va, la, pa) = from-extended d g prices a a' k ea in
      let (vb, lb, pb) = from-extended d g prices b b' k eb in
      omega (arith, ints, less);
  closes = λ a b v good e.
      let (p, is_p, e1) = and_then-Some _ (slice_get d.pieces b.piece) v e in
      let (off, is_off, e2) = and_then-Some _ (sign_off d g p) v e1 in
      let (test, made) = given-Some _ _ v e2 in
      let from : slice_get d.pieces a.piece ≡ Some p = ap (slice_get d.pieces) good.piece ∙ is_p in
      let same = Some-same _ v made in
      let more : ℤ = cond d.counts (pos 0) (pos 1000 *ℤ (pos g.rate *ℤ off)) in (
        a.value +ℤ more,
        closed-is d g a p off from is_off (closes-better g a b off good test),
        (let low = good.value in omega (arith, ints, low, same)),
        (λ less. omega (arith, ints, less, same)),
      );
}
