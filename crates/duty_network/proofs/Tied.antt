-- The laws of marks in the form of the search, and the cover law.
use Rattle.std.proofs.Common.{◌≡◌, ℕ, ℤ, pos, negsuc, neg_ℤ, ◌+ℤ◌, ◌*ℤ◌, ◌≤ℤ◌, ◌*◌, ◌≤◌, ◌<◌, Bool, true, false, cond, ◌||◌, zero, suc, List, [], ◌∷◌, length, refl, sym, ap, arith}
use Rattle.std.proofs.lemmas.Int.{ints}
use Rattle.std.proofs.lemmas.Bool.Decides.{nat_tests}
use Rattle.std.specs.Prelude.{Some, not, nat_eq, nat_le, int_le, slice_get}
use Rattle.std.proofs.lemmas.Bool.{and_from, and_parts, le-leb, leb-true, ltb-true}
pub use Rattle.std.proofs.lemmas.Bool.{ltb-true as later-piece}
use Rattle.plan_core.specs.declared.types.Price.{Price}
use Rattle.cover_core.specs.Plans.{price_of, number_at}
use Rattle.cover_core.specs.Labels.{IsKept, IsValued, IsCover}
use Rattle.plan_core.specs.declared.types.Piece.{Piece}
use Rattle.label_search.specs.Laws.{GoodAs, IsFloor, IsStepwise}
use Rattle.label_search.specs.Pricing.{IsTied}
use Rattle.label_search.specs.Rests.{rests_of}
use Rattle.label_search.proofs.Losses.{rest-steps, rest-at_most}
use Rattle.label_search.proofs.Pricing.{kept-by, valued-by, cover-pays}
use Rattle.plan_params.specs.declared.rows.group.Group.{Group}
use Rattle.cover_core.specs.declared.marks.Mark.{Mark}
use Rattle.duty_network.specs.Duties.{DutyFacts, sign_on, sign_off, duty_worth}
use Rattle.duty_network.specs.Ranges.{AreTimed, MarkFits}
use Rattle.duty_network.specs.Marks.{extended_mark, marking, IsAtLeastAsGood, closed_value, is_as_good, floor_of}
use Rattle.duty_network.proofs.Better.{Some-same, and_then-Some, given-Some, from-extended, good-kept, good-valued}
use Rattle.duty_network.proofs.Lists.{worth-closes, closes-worth, at-timed, off-is}

same-bits : (a b : Bool) → cond b a (not a) ≡ true → a ≡ b
same-bits true true e = refl
same-bits true false e = absurd (cc)
same-bits false true e = absurd (cc)
same-bits false false e = refl

bits-same : (a b : Bool) → a ≡ b → cond b a (not a) ≡ true
bits-same true true e = refl
bits-same true false e = absurd (cc)
bits-same false true e = absurd (cc)
bits-same false false e = refl

has-bit : (a b : Bool) → (not b || a) ≡ true → b ≡ true → a ≡ true
has-bit a true e h = e
has-bit a false e h = absurd (cc)

bit-has : (a b : Bool) → (b ≡ true → a ≡ true) → (not b || a) ≡ true
bit-has a true h = h refl
bit-has a false h = refl

eq-from : (a b : ℕ) → nat_eq a b ≡ true → a ≡ b
eq-from a b e = grind (arith, nat_tests)

eq-onto : (a b : ℕ) → a ≡ b → nat_eq a b ≡ true
eq-onto a b e = grind (arith, nat_tests)

int-from : (a b : ℤ) → int_le a b ≡ true → a ≤ℤ b
int-from a b e = grind (arith, ints)

int-onto : (a b : ℤ) → a ≤ℤ b → int_le a b ≡ true
int-onto a b e = grind (arith, ints)

pub test-good : (a b : Mark) → is_as_good a b ≡ true → IsAtLeastAsGood a b
test-good a b e =
    let (e7, value) = and_parts _ (int_le a.value b.value) e in
    let (e6, three) = and_parts _ (not b.three || a.three) e7 in
    let (e5, total) = and_parts _ (nat_le a.total b.total) e6 in
    let (e4, quarter) = and_parts _ (cond b.quarter a.quarter (not a.quarter)) e5 in
    let (e3, driving) = and_parts _ (nat_le a.driving b.driving) e4 in
    let (e2, start) = and_parts _ (int_le b.start.0 a.start.0) e3 in
    let (class, piece) = and_parts (nat_eq a.class b.class) (nat_eq a.piece b.piece) e2 in
    record {
      class = eq-from a.class b.class class;
      piece = eq-from a.piece b.piece piece;
      start = int-from b.start.0 a.start.0 start;
      driving = leb-true a.driving b.driving driving;
      quarter = same-bits a.quarter b.quarter quarter;
      total = leb-true a.total b.total total;
      three = has-bit a.three b.three three;
      value = int-from a.value b.value value;
    }

pub good-test : (a b : Mark) → IsAtLeastAsGood a b → is_as_good a b ≡ true
good-test a b g =
    and_from _ _ (and_from _ _ (and_from _ _ (and_from _ _ (and_from _ _ (and_from _ _ (and_from _ _
    (eq-onto a.class b.class g.class) (eq-onto a.piece b.piece g.piece)) (int-onto b.start.0 a.start.0 g.start))
    (le-leb a.driving b.driving g.driving))
    (bits-same a.quarter b.quarter g.quarter)) (le-leb a.total b.total g.total)) (bit-has a.three b.three g.three))
    (int-onto a.value b.value g.value)

pub test-kept : (d : DutyFacts) (prices : List Price) (class : ℕ) (g : Group) → IsKept (marking d prices class g) (GoodAs is_as_good)
test-kept d prices class g = kept-by (marking d prices class g) IsAtLeastAsGood is_as_good good-test test-good (good-kept d prices class g)

pub test-valued : (d : DutyFacts) (prices : List Price) (class : ℕ) (g : Group) →
    IsValued (marking d prices class g) (GoodAs is_as_good) (λ m. m.value) (closed_value d g)
test-valued d prices class g =
    valued-by (marking d prices class g) IsAtLeastAsGood is_as_good (λ m. m.value) (closed_value d g) test-good
    (good-valued d prices class g)

pub at-below : (xs : List Piece) (k : ℕ) (x : Piece) → slice_get xs k ≡ Some x → k < length xs
at-below [] k x e = absurd (cc)
at-below (y ∷ ys) zero x e = omega arith
at-below (y ∷ ys) (suc k) x e = omega (arith, at-below ys k x e)

to-piece : (d : DutyFacts) (g : Group) (prices : List Price) (a b : Mark) (k : ℕ) →
    extended_mark d g prices a k ≡ Some b → k < length d.pieces
to-piece d g prices a b k e =
    let (p, is_p, e1) = and_then-Some _ (slice_get d.pieces a.piece) b e in
    let (q, is_q, e2) = and_then-Some _ (slice_get d.pieces k) b e1 in
    at-below d.pieces k q is_q

pub marking-stepwise : (d : DutyFacts) (prices : List Price) (class : ℕ) (g : Group) →
    IsStepwise (marking d prices class g) (length d.pieces) (λ m. m.piece)
marking-stepwise d prices class g = record {
  starts = λ k m e.
      let (p, is_p, e1) = and_then-Some _ (slice_get d.pieces k) m e in
      let (on, is_on, e2) = and_then-Some _ (sign_on d g p) m e1 in
      let (test, made) = given-Some _ _ m e2 in
      (at-below d.pieces k p is_p, sym (ap (λ (x : Mark). x.piece) (Some-same _ m made)));
  steps = λ a b k e.
      let (value, later, piece) = from-extended d g prices a b k e in
      (ltb-true a.piece k later, to-piece d g prices a b k e, piece);
}

pub marking-tied : (d : DutyFacts) (prices : List Price) (class : ℕ) (g : Group) →
    slice_get d.params.groups class ≡ Some g → AreTimed d.pieces →
    IsTied (marking d prices class g) (closed_value d g) prices (duty_worth d class)
marking-tied d prices class g is_g timed =
    record { onto = worth-closes d prices class g is_g timed; from = closes-worth d prices class g is_g timed }

closing-up : (counts : Bool) (rate : ℕ) (off : ℤ) → pos 0 ≤ℤ off → pos 0 ≤ℤ cond counts (pos 0) (pos 1000 *ℤ (pos rate *ℤ off))
closing-up true rate off h = omega (arith, ints)
closing-up false rate (pos n) h = omega (arith, ints)
closing-up false rate (negsuc n) h = absurd (omega (arith, ints))

-- A duty's value with the rest of its last piece is a completion bound: sign-off adds at least nothing, and going on with a piece
-- takes off its price, which the rest has counted (`rest-steps`). It needs the prices alone and so holds for each group.
pub marking-floor : (d : DutyFacts) (prices : List Price) (class : ℕ) (g : Group) → AreTimed d.pieces → length prices ≡ length d.pieces →
    IsFloor (marking d prices class g) (closed_value d g) (MarkFits (length d.pieces)) (floor_of (rests_of prices))
marking-floor d prices class g timed long = record {
  closes = λ a v fits e.
      let (p, is_p, e1) = and_then-Some _ (slice_get d.pieces a.piece) v e in
      let (off, is_off, e2) = and_then-Some _ (sign_off d g p) v e1 in
      let (test, made) = given-Some _ _ v e2 in
      let same : a.value +ℤ cond d.counts (pos 0) (pos 1000 *ℤ (pos g.rate *ℤ off)) ≡ v = Some-same _ v made in
      let own = at-timed d.pieces a.piece p timed is_p in
      let past = off-is d g p off is_off in
      let begins = own.begins in let order = own.order in
      let later : pos 0 ≤ℤ off = omega (arith, ints) in
      let up = closing-up d.counts g.rate off later in
      let rest = rest-at_most prices a.piece in
      omega (arith, ints);
  steps = λ a b k fits e.
      let (value, later, piece) = from-extended d g prices a b k e in
      let order = ltb-true a.piece k later in
      let below = to-piece d g prices a b k e in
      let inside : k < length prices = omega arith in
      let rest = rest-steps prices a.piece k order inside in
      let same : number_at (rests_of prices) b.piece ≡ number_at (rests_of prices) k = ap (number_at (rests_of prices)) piece in
      omega (arith, ints);
}

-- The general lemma on labels that are a cover (`cover-pays`), for duties: where marks are a cover of a group and none of them
-- closes below minus its class price, the prices of all duties of the group are paid. Its premises are the laws of marks: dominance
-- (`good-kept`, `good-valued`) and the tie of duties to marks (`marking-tied`).
pub duty-paid : (d : DutyFacts) (prices : List Price) (class : ℕ) (g : Group) (kept : Mark → Type 0) (class_price : ℤ) →
    slice_get d.params.groups class ≡ Some g → AreTimed d.pieces →
    IsCover (marking d prices class g) IsAtLeastAsGood kept →
    ((m : Mark) (u : ℤ) → kept m → closed_value d g m ≡ Some u → neg_ℤ class_price ≤ℤ u) →
    (list : List ℕ) (worth : ℕ) → duty_worth d class list ≡ Some worth → price_of prices list ≤ℤ (pos (1000 * worth) +ℤ class_price)
duty-paid d prices class g kept class_price is_g timed cover low =
    cover-pays (marking d prices class g) IsAtLeastAsGood (λ m. m.value) (closed_value d g) kept prices (duty_worth d class) class_price
    (good-kept d prices class g) (good-valued d prices class g) (marking-tied d prices class g is_g timed) cover low
