-- The steps of marks in the form in which they are computed.
use Rattle.std.proofs.Common.{◌≡◌, ℕ, ℤ, pos, neg_ℤ, ◌+ℤ◌, ◌-ℤ◌, ◌≤ℤ◌, Bool, true, false, List, [], length, refl, sym, ap, ◌∙◌, arith}
use Rattle.std.proofs.lemmas.Int.{ints}
use Rattle.std.specs.Prelude.{IfSome, Option, Some, None, option_and_then, slice_get}
use Rattle.std.specs.Option.{option_map}
use Rattle.plan_core.specs.declared.types.Piece.{Piece}
use Rattle.plan_core.specs.declared.types.Price.{Price}
use Rattle.cover_core.specs.Plans.{price_at}
use Rattle.cover_core.specs.declared.marks.Mark.{Mark}
use Rattle.plan_params.specs.declared.rows.group.Group.{Group}
use Rattle.plan_params.specs.Limits.{IsGroup}
use Rattle.plan_params.specs.LookUps.{way_in}
use Rattle.duty_network.specs.Times.{given}
use Rattle.duty_network.specs.Duties.{DutyFacts, sign_off, sign_on}
use Rattle.duty_network.specs.Marks.{closed_value, closes_lawfully, first_mark, is_open, one_mark}
use Rattle.duty_network.specs.Ranges.{NetFits, off_value, on_value}
use Rattle.duty_network.proofs.Better.{Some-same, and_then-Some, given-Some}
use Rattle.duty_network.proofs.Sizes.{off-range, shift-at, way-short}
use Rattle.label_cover.specs.Opened.{less_price}
use Rattle.label_cover.specs.Ranges.{MarkHasRanges}

-- What a mark is open by does not hang on its value. So the mark of a list of one piece is that without prices, less the price.
less-nothing : (x z : ℤ) → (x -ℤ pos 0) -ℤ z ≡ x -ℤ z
less-nothing x z = omega (arith, ints)

one-priced : (counts : Bool) (prices : List Price) (class : ℕ) (g : Group) (k : ℕ) (p : Piece) (on : ℤ) →
    less_price (one_mark counts [] class g k p on) (price_at prices k) ≡ one_mark counts prices class g k p on
one-priced counts prices class g k p on =
    let with_value : ℤ → Mark = λ v. record {
      class = class;
      piece = k;
      start = record { 0 = on };
      driving = p.driving;
      quarter =
          false;
      total = p.driving;
      three = false;
      value = v;
    } in
    ap with_value (less-nothing (on_value counts g on) (price_at prices k))

given-priced : (test : Bool) (m n : Mark) (z : ℤ) → less_price m z ≡ n →
    option_map (λ x. less_price x z) (given test (Some m)) ≡ given test (Some n)
given-priced true m n z e = ap Some e
given-priced false m n z e = refl

on-priced : (counts : Bool) (prices : List Price) (class : ℕ) (g : Group) (k : ℕ) (p : Piece) (on : Option ℤ) →
    option_map (λ x. less_price x (price_at prices k))
    (option_and_then (λ on. given (is_open g (one_mark counts [] class g k p on) p.end.0) (Some (one_mark counts [] class g k p on))) on)
    ≡ option_and_then (λ on. given (is_open g (one_mark counts prices class g k p on) p.end.0)
    (Some (one_mark counts prices class g k p on))) on
on-priced counts prices class g k p None = refl
on-priced counts prices class g k p (Some on) =
    given-priced (is_open g (one_mark counts prices class g k p on) p.end.0) (one_mark counts [] class g k p on)
    (one_mark counts prices class g k p on) (price_at prices k) (one-priced counts prices class g k p on)

piece-priced : (d : DutyFacts) (prices : List Price) (class : ℕ) (g : Group) (k : ℕ) (piece : Option Piece) →
    option_map (λ x. less_price x (price_at prices k))
    (option_and_then (λ p. option_and_then
    (λ on. given (is_open g (one_mark d.counts [] class g k p on) p.end.0) (Some (one_mark d.counts [] class g k p on))) (sign_on d g p))
    piece)
    ≡ option_and_then (λ p. option_and_then
    (λ on. given (is_open g (one_mark d.counts prices class g k p on) p.end.0) (Some (one_mark d.counts prices class g k p on)))
    (sign_on d g p)) piece
piece-priced d prices class g k None = refl
piece-priced d prices class g k (Some p) = on-priced d.counts prices class g k p (sign_on d g p)

-- The net keeps the marks of first pieces without prices, once for all prices: what lets a list be open are its times and driving, and
-- the price of its piece only moves the value. Case by case of what may be lacking (the piece, the way from home, an open list) both
-- sides are none alike.
pub first-priced : (d : DutyFacts) (prices : List Price) (class : ℕ) (g : Group) (k : ℕ) (free : Option Mark) →
    free ≡ first_mark d [] class g k →
    option_map (λ x. less_price x (price_at prices k)) free ≡ first_mark d prices class g k
first-priced d prices class g k free is =
    ap (option_map (λ (x : Mark). less_price x (price_at prices k))) is ∙ piece-priced d prices class g k (slice_get d.pieces k)

-- the value of a closed list, from what its sign-off is and adds
both-parts : (counts : Bool) (g : Group) (m : Mark) (o : Option ℤ) →
    option_and_then (λ off. option_and_then (λ more. given (closes_lawfully g m off) (Some (m.value +ℤ more)))
    (option_map (off_value counts g) o)) o
    ≡ option_and_then (λ off. given (closes_lawfully g m off) (Some (m.value +ℤ off_value counts g off))) o
both-parts counts g m None = refl
both-parts counts g m (Some off) = refl

-- The sign-off is looked up first and its cost after it, each by itself; where there is no sign-off both are none. Put together they
-- are what the definition asks of both at once, so the look-ups that a day shares give the closing value.
pub close-parts : (d : DutyFacts) (g : Group) (m : Mark) (p : Piece) (off more : Option ℤ) → slice_get d.pieces m.piece ≡ Some p →
    off ≡ sign_off d g p →
    more ≡ option_map (off_value d.counts g) (sign_off d g p) →
    option_and_then (λ off. option_and_then (λ more. given (closes_lawfully g m off) (Some (m.value +ℤ more))) more) off
    ≡ closed_value d g m
close-parts d g m p off more from is more_is =
    let closed : Option ℤ → Option ℤ → Option ℤ =
    λ o n. option_and_then (λ (off : ℤ). option_and_then (λ (more : ℤ). given (closes_lawfully g m off) (Some (m.value +ℤ more))) n) o in
    let valued : Piece → Option ℤ =
    λ q. option_and_then (λ (off : ℤ). given (closes_lawfully g m off) (Some (m.value +ℤ off_value d.counts g off))) (sign_off d g q) in
    ap (λ (o : Option ℤ). closed o more) is
    ∙ (ap (λ (n : Option ℤ). closed (sign_off d g p) n) more_is
    ∙ (both-parts d.counts g m (sign_off d g p) ∙ sym (ap (option_and_then valued) from)))

pub if-some : {A : Type 0} (P : A → Type 0) (o : Option A) → ((x : A) → o ≡ Some x → P x) → IfSome o P
if-some P None h = tt
if-some P (Some x) h = h x refl

-- The value with which an open list closes fits 64 bits: of at most 3,000 pieces at prices of at most 3 * 10^15 it stays within
-- 9.0001 * 10^18, with what sign-on and sign-off add.
-- The least and the greatest value of an open list grow by one price with each piece (`MarkHasRanges`), and the sign-off adds what the
-- group's rates and the ranges of times allow. So values may be added in machine numbers, and no sum is cut off.
pub closed-fits : (d : DutyFacts) (g : Group) (m : Mark) (v : ℤ) → NetFits d → IsGroup g → MarkHasRanges (length d.pieces) m →
    closed_value d g m ≡ Some v →
    (neg_ℤ (pos 9223372036854775808) ≤ℤ v) × (v ≤ℤ pos 9223372036854775807)
closed-fits d g m v f modest h e =
    let (p, is_p, e1) = and_then-Some _ (slice_get d.pieces m.piece) v e in
    let (off, is_off, e2) = and_then-Some _ (sign_off d g p) v e1 in
    let (test, made) = given-Some _ _ v e2 in
    let same : m.value +ℤ off_value d.counts g off ≡ v = Some-same _ v made in
    let (way, is_way, e3) = and_then-Some _ (way_in d.params p.to g.home) off is_off in
    let sum : p.end.0 +ℤ pos way +ℤ pos g.sign_off ≡ off = Some-same _ off e3 in
    let short = way-short d.params p.to g.home way f.params.ways is_way in
    let s = shift-at d.pieces m.piece p f.shifts is_p in
    let begins = s.begins in let order = s.order in let ends = s.ends in let after = modest.sign_off in
    let early : neg_ℤ (pos 345600) ≤ℤ off = omega (arith, ints) in
    let late : off ≤ℤ pos 691200 = omega (arith, ints) in
    let (least, most) = off-range d.counts g off modest early late in
    let piece = h.piece in let few = h.few in let low = h.low in let high = h.high in
    (omega (arith, ints), omega (arith, ints))
