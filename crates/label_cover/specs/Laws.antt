-- Promise: the laws of the marks of duties.
use Rattle.std.proofs.Common.{◌≡◌, ℕ, ℤ, pos, neg_ℤ, ◌+◌, ◌*◌, ◌+ℤ◌, ◌-ℤ◌, ◌≤ℤ◌, ◌<◌, ◌≤◌, Bool, true, false, zero, suc, List, [], ◌∷◌, length, refl, sym, ap, subst, ◌∙◌, arith}
use Rattle.std.proofs.lemmas.Int.{ints}
use Rattle.std.proofs.lemmas.List.{length-map}
use Rattle.std.proofs.lemmas.List.Elements.{All-head, All-tail}
use Rattle.std.specs.Prelude.{◌&&◌, All, Option, Some, None, cond, option_and_then, nat_lt, slice_get}
use Rattle.std.proofs.lemmas.Bool.{and_parts}
use Rattle.plan_core.specs.Limits.{most_kept_price}
use Rattle.plan_core.specs.declared.types.Piece.{Piece}
use Rattle.plan_core.specs.declared.types.Price.{Price}
use Rattle.plan_core.specs.declared.types.Sec.{Sec}
use Rattle.cover_core.specs.Plans.{price_at}
use Rattle.cover_core.specs.FirstLeast.{AllWithin}
use Rattle.cover_core.specs.Labels.{IsKept, IsValued, label_after, label_of}
use Rattle.cover_core.specs.declared.marks.Mark.{Mark}
use Rattle.cover_core.proofs.Values.{price_at-within}
use Rattle.label_search.specs.Laws.{GoodAs}
use Rattle.label_search.specs.Pricing.{IsTied}
use Rattle.label_search.proofs.Pricing.{kept-by, valued-by}
use Rattle.plan_params.specs.declared.rows.group.Group.{Group}
use Rattle.plan_params.specs.Limits.{IsGroup}
use Rattle.eu561_rules.proofs.Runs.{true-le}
use Rattle.mark_cover.specs.Marking.{Marking, of_class, IsOrdered, IsPlaced, AreMarksOf}
use Rattle.mark_cover.specs.Minimal.{AreSafe, IsApart}
use Rattle.duty_network.specs.Duties.{DutyFacts, caps_of, duties, duty_worth, limits_of, pause, sign_on}
use Rattle.duty_network.specs.Marks.{closed_value, extended_mark, first_mark, is_as_good, is_open, marking, next_mark, one_mark, IsAtLeastAsGood}
use Rattle.duty_network.specs.Ranges.{NetFits}
use Rattle.duty_network.proofs.Better.{Some-same, and_then-Some, from-extended, given-Some, good-kept, good-valued}
use Rattle.point_grid.proofs.Flat.{there}
use Rattle.duty_network.proofs.Sizes.{on-fits, on-range, shift-at, timed-from}
use Rattle.duty_network.proofs.Tied.{at-below, good-test, later-piece, marking-stepwise, marking-tied, test-good}
use Rattle.unpaid_list.specs.Laws.{AreValued}
use Rattle.label_cover.specs.Marked.{duty_marking}
use Rattle.label_cover.specs.Ranges.{MarkHasRanges}

-- The law of dominance. A mark that is at least as good has the same class, so the same group: what holds of the marks of one group
-- holds of all.
good-everywhere : (d : DutyFacts) (prices : List Price) (class : ℕ) → IsKept (of_class (duty_marking d prices) class) IsAtLeastAsGood
good-everywhere d prices class = record {
  same = λ a. record {
    class = refl;
    piece = refl;
    start = omega (arith, ints);
    driving = omega arith;
    quarter = refl;
    total =
        omega arith;
    three = λ h. h;
    value = omega (arith, ints);
  };
  through = λ a b c h k. record {
    class = h.class ∙ k.class;
    piece = h.piece ∙ k.piece;
    start = omega (arith, ints, h.start, k.start);
    driving = omega (arith, h.driving, k.driving);
    quarter = h.quarter ∙ k.quarter;
    total = omega (arith, h.total, k.total);
    three = λ e. h.three (k.three e);
    value = omega (arith, ints, h.value, k.value);
  };
  extended = λ a b b' k good e.
      let (g, is_g, step) = and_then-Some (λ (g : Group). extended_mark d g prices b k) (slice_get d.params.groups b.class) b' e in
      let (a', is, better) = (good-kept d prices b.class g).extended a b b' k good step in
      let at : slice_get d.params.groups a.class ≡ Some g = ap (slice_get d.params.groups) good.class ∙ is_g in
      (a', ap (option_and_then (λ (g : Group). extended_mark d g prices a k)) at ∙ is, better);
}

pub duty-ordered : (d : DutyFacts) (prices : List Price) → IsOrdered (duty_marking d prices)
duty-ordered d prices = record {
  kept = λ class. kept-by (of_class (duty_marking d prices) class) IsAtLeastAsGood is_as_good good-test test-good
      (good-everywhere d prices class);
  grouped = λ a b h. let good = test-good a b h in (good.class, good.piece);
  closes = λ a b v h e.
      let good = test-good a b h in
      let (g, is_g, closed) = and_then-Some (λ (g : Group). closed_value d g b) (slice_get d.params.groups b.class) v e in
      let (u, closes, low, less) = (good-valued d prices b.class g).closes a b v good closed in
      let at : slice_get d.params.groups a.class ≡ Some g = ap (slice_get d.params.groups) good.class ∙ is_g in
      (u, ap (option_and_then (λ (g : Group). closed_value d g a)) at ∙ closes, low);
}

-- A smaller value stays smaller over each further piece, and closes smaller.
valued-everywhere : (d : DutyFacts) (prices : List Price) (class : ℕ) →
    IsValued (of_class (duty_marking d prices) class) IsAtLeastAsGood (λ m. m.value) (duty_marking d prices).close
valued-everywhere d prices class = record {
  at_most = λ a b good. good.value;
  apart = λ a b a' b' k good less ea eb.
      let (g, is_g, na) = and_then-Some (λ (g : Group). extended_mark d g prices a k) (slice_get d.params.groups a.class) a' ea in
      let (h, is_h, nb) = and_then-Some (λ (g : Group). extended_mark d g prices b k) (slice_get d.params.groups b.class) b' eb in
      let (va, la, pa) = from-extended d g prices a a' k na in
      let (vb, lb, pb) = from-extended d h prices b b' k nb in
      omega (arith, ints, less);
  closes = λ a b v good e.
      let (g, is_g, closed) = and_then-Some (λ (g : Group). closed_value d g b) (slice_get d.params.groups b.class) v e in
      let (u, closes, low, less) = (good-valued d prices b.class g).closes a b v good closed in
      let at : slice_get d.params.groups a.class ≡ Some g = ap (slice_get d.params.groups) good.class ∙ is_g in
      (u, ap (option_and_then (λ (g : Group). closed_value d g a)) at ∙ closes, low, less);
}

pub duty-valued : (d : DutyFacts) (prices : List Price) → AreValued (duty_marking d prices) (λ m. m.value)
duty-valued d prices class =
    valued-by (of_class (duty_marking d prices) class) IsAtLeastAsGood is_as_good (λ m. m.value) (duty_marking d prices).close test-good
    (valued-everywhere d prices class)

-- the class of the marks of one group
first-class : (d : DutyFacts) (prices : List Price) (class : ℕ) (g : Group) (k : ℕ) (b : Mark) →
    first_mark d prices class g k ≡ Some b → b.class ≡ class
first-class d prices class g k b e =
    let (p, is_p, e1) = and_then-Some _ (slice_get d.pieces k) b e in
    let (on, is_on, e2) = and_then-Some _ (sign_on d g p) b e1 in
    let (test, made) = given-Some _ _ b e2 in
    sym (ap (λ (m : Mark). m.class) (Some-same _ b made))

next-class : (d : DutyFacts) (prices : List Price) (g : Group) (a b : Mark) (k : ℕ) →
    extended_mark d g prices a k ≡ Some b → b.class ≡ a.class
next-class d prices g a b k e =
    let (p, is_p, e1) = and_then-Some _ (slice_get d.pieces a.piece) b e in
    let (q, is_q, e2) = and_then-Some _ (slice_get d.pieces k) b e1 in
    let (time, is_time, e3) = and_then-Some _ (pause d p q) b e2 in
    let (test, made) = given-Some _ _ b e3 in
    sym (ap (λ (m : Mark). m.class) (Some-same (next_mark g prices a time k q) b made))

-- The law of items.
pub duty-placed : (d : DutyFacts) (prices : List Price) → IsPlaced (duty_marking d prices)
duty-placed d prices = record {
  starts = λ class k b e.
      let (g, is_g, first) = and_then-Some (λ (g : Group). first_mark d prices class g k) (slice_get d.params.groups class) b e in
      let (there, piece) = (marking-stepwise d prices class g).starts k b first in
      (there, first-class d prices class g k b first, piece);
  steps = λ a b k e.
      let (g, is_g, next) = and_then-Some (λ (g : Group). extended_mark d g prices a k) (slice_get d.params.groups a.class) b e in
      let (later, there, piece) = (marking-stepwise d prices a.class g).steps a b k next in
      (later, there, next-class d prices g a b k next, piece);
}

-- The marks of the lists of one class are those of its group: they are made alike, since each of them has the class.
module _ (d : DutyFacts) (prices : List Price) (class : ℕ) (g : Group) (is_g : slice_get d.params.groups class ≡ Some g) where
  group-at : (a : Mark) → a.class ≡ class → slice_get d.params.groups a.class ≡ Some g
  group-at a same = ap (slice_get d.params.groups) same ∙ is_g

  step-same : (a : Mark) (k : ℕ) → a.class ≡ class → (duty_marking d prices).extend a k ≡ extended_mark d g prices a k
  step-same a k same = ap (option_and_then (λ (g : Group). extended_mark d g prices a k)) (group-at a same)

  after-same : (xs : List ℕ) (o : Option Mark) → ((m : Mark) → o ≡ Some m → m.class ≡ class) →
      label_after (of_class (duty_marking d prices) class) o xs ≡ label_after (marking d prices class g) o xs
  after-same xs None kind = refl
  after-same [] (Some a) kind = refl
  after-same (x ∷ xs) (Some a) kind =
      let own : a.class ≡ class = kind a refl in
      ap (λ o. label_after (of_class (duty_marking d prices) class) o xs) (step-same a x own)
      ∙ after-same xs (extended_mark d g prices a x) (λ m e. next-class d prices g a m x e ∙ own)

  start-same : (k : ℕ) → (duty_marking d prices).start class k ≡ first_mark d prices class g k
  start-same k = ap (option_and_then (λ (g : Group). first_mark d prices class g k)) is_g

  labels-same : (list : List ℕ) → label_of (of_class (duty_marking d prices) class) list ≡ label_of (marking d prices class g) list
  labels-same [] = refl
  labels-same (x ∷ xs) =
      ap (λ o. label_after (of_class (duty_marking d prices) class) o xs) (start-same x)
      ∙ after-same xs (first_mark d prices class g x) (λ m e. first-class d prices class g x m e)

  after-class : (xs : List ℕ) (o : Option Mark) (b : Mark) → ((m : Mark) → o ≡ Some m → m.class ≡ class) →
      label_after (marking d prices class g) o xs ≡ Some b → b.class ≡ class
  after-class xs None b kind e = absurd (cc)
  after-class [] (Some a) b kind e = kind b e
  after-class (x ∷ xs) (Some a) b kind e =
      after-class xs (extended_mark d g prices a x) b (λ m h. next-class d prices g a m x h ∙ kind a refl) e

  label-class : (list : List ℕ) (b : Mark) → label_of (marking d prices class g) list ≡ Some b → b.class ≡ class
  label-class [] b e = absurd (cc)
  label-class (x ∷ xs) b e = after-class xs (first_mark d prices class g x) b (λ m h. first-class d prices class g x m h) e

  close-same : (a : Mark) → a.class ≡ class → (duty_marking d prices).close a ≡ closed_value d g a
  close-same a same = ap (option_and_then (λ (g : Group). closed_value d g a)) (group-at a same)

  class-tied : IsTied (marking d prices class g) (closed_value d g) prices (duty_worth d class) →
      IsTied (of_class (duty_marking d prices) class) (duty_marking d prices).close prices (duty_worth d class)
  class-tied tied = record {
    onto = λ list worth e.
        let (a, has, closes) = tied.onto list worth e in
        (a, labels-same list ∙ has, close-same a (label-class list a has) ∙ closes);
    from = λ list a v has closes.
        let of_group : label_of (marking d prices class g) list ≡ Some a = sym (labels-same list) ∙ has in
        tied.from list a v of_group (sym (close-same a (label-class list a of_group)) ∙ closes);
  }

-- The law of worths.
pub duty-tied : (d : DutyFacts) (prices : List Price) → NetFits d → AreMarksOf (duty_marking d prices) (duties d) prices
duty-tied d prices f = record {
  classes = length-map d.params.groups (λ (g : Group). g.cap);
  tied = λ class below.
      let same : length (caps_of d.params.groups) ≡ length d.params.groups = length-map d.params.groups (λ (g : Group). g.cap) in
      let P : ℕ → Type 0 = λ n. class < n in
      let (g, is_g) = there d.params.groups class (subst P same below) in
      class-tied d prices class g is_g (marking-tied d prices class g is_g (timed-from d.pieces f.shifts));
}

group-ranges : (groups : List Group) (class : ℕ) (g : Group) → All IsGroup groups → slice_get groups class ≡ Some g → IsGroup g
group-ranges [] class g h e = absurd (cc)
group-ranges (x ∷ xs) zero g h e = subst (λ (y : Group). IsGroup y) (Some-same x g e) (All-head IsGroup x xs h)
group-ranges (x ∷ xs) (suc class) g h e = group-ranges xs class g (All-tail IsGroup x xs h) e

day-most : (b : Bool) → cond b 36000 32400 ≤ 36000
day-most true = omega arith
day-most false = omega arith

open-fits : (g : Group) (m : Mark) (end : ℤ) → is_open g m end ≡ true → (m.driving ≤ 16200) × (m.total ≤ 36000)
open-fits g m end e =
    let (low, last) = and_parts _ _ e in
    let (driving, total) = and_parts _ _ low in
    let less : m.driving ≤ 16200 = true-le m.driving 16200 driving in
    let few : m.total ≤ cond g.ten 36000 32400 = true-le _ _ total in
    let most = day-most g.ten in
    (less, omega arith)

first-ranges : (d : DutyFacts) (prices : List Price) (class : ℕ) (g : Group) (k : ℕ) (m : Mark) → NetFits d → IsGroup g →
    AllWithin most_kept_price prices →
    first_mark d prices class g k ≡ Some m → MarkHasRanges (length d.pieces) m
first-ranges d prices class g k m f modest w e =
    let (p, is_p, e1) = and_then-Some _ (slice_get d.pieces k) m e in
    let (on, is_on, e2) = and_then-Some _ (sign_on d g p) m e1 in
    let (test, made) = given-Some _ _ m e2 in
    let (early, late) = on-fits d g p on f modest (shift-at d.pieces k p f.shifts is_p) is_on in
    let (least, most) = on-range d.counts g on modest early late in
    let own = price_at-within most_kept_price prices k w in let plow = own.low in let phigh = own.high in
    let first : Mark = one_mark d.counts prices class g k p on in
    let (driving, total) = open-fits g first p.end.0 test in
    let below = at-below d.pieces k p is_p in
    let few = f.few in
    let P : Mark → Type 0 = λ x. MarkHasRanges (length d.pieces) x in
    let fits : MarkHasRanges (length d.pieces) first =
    record {
      piece = omega arith;
      few = f.few;
      early = early;
      late = late;
      driving = driving;
      total = total;
      low =
          omega (arith, ints);
      high = omega (arith, ints);
    } in
    subst P (Some-same first m made) fits

next-ranges : (d : DutyFacts) (prices : List Price) (g : Group) (a b : Mark) (k : ℕ) → NetFits d → AllWithin most_kept_price prices →
    MarkHasRanges (length d.pieces) a →
    extended_mark d g prices a k ≡ Some b → MarkHasRanges (length d.pieces) b
next-ranges d prices g a b k f w h e =
    let (p, is_p, e1) = and_then-Some _ (slice_get d.pieces a.piece) b e in
    let (q, is_q, e2) = and_then-Some _ (slice_get d.pieces k) b e1 in
    let (time, is_time, e3) = and_then-Some _ (pause d p q) b e2 in
    let (test, made) = given-Some _ _ b e3 in
    let next : Mark = next_mark g prices a time k q in
    let (later, open_next) = and_parts (nat_lt a.piece k) (is_open g next q.end.0) test in
    let order = later-piece a.piece k later in
    let (driving, total) = open-fits g next q.end.0 open_next in
    let own = price_at-within most_kept_price prices k w in let plow = own.low in let phigh = own.high in
    let below = at-below d.pieces k q is_q in
    let few = f.few in
    let low = h.low in let high = h.high in
    let P : Mark → Type 0 = λ x. MarkHasRanges (length d.pieces) x in
    let fits : MarkHasRanges (length d.pieces) next = record {
      piece = omega arith;
      few = f.few;
      early = h.early;
      late = h.late;
      driving =
          driving;
      total = total;
      low = omega (arith, ints);
      high = omega (arith, ints);
    } in
    subst P (Some-same next b made) fits

-- The law of numbers: of 3,000 pieces at prices of at most 3 * 10^15 the value stays within 9.00001 * 10^18.
pub duty-safe : (d : DutyFacts) (prices : List Price) → NetFits d → AllWithin most_kept_price prices →
    AreSafe (duty_marking d prices) (MarkHasRanges (length d.pieces))
duty-safe d prices f w = record {
  starts = λ class k b e.
      let (g, is_g, first) = and_then-Some (λ (g : Group). first_mark d prices class g k) (slice_get d.params.groups class) b e in
      first-ranges d prices class g k b f (group-ranges d.params.groups class g f.params.groups is_g) w first;
  steps = λ a b k h e.
      let (g, is_g, next) = and_then-Some (λ (g : Group). extended_mark d g prices a k) (slice_get d.params.groups a.class) b e in
      next-ranges d prices g a b k f w h next;
}

same-three : (a b : Bool) → (b ≡ true → a ≡ true) → (a ≡ true → b ≡ true) → a ≡ b
same-three true b h k = sym (k refl)
same-three false true h k = h refl
same-three false false h k = refl

same-start : (a b : Sec) → b.0 ≤ℤ a.0 → a.0 ≤ℤ b.0 → a ≡ b
same-start a b h k =
    let same : a.0 ≡ b.0 = omega (arith, ints) in
    let second : ℤ → Sec = λ z. record { 0 = z } in
    ap second same

-- The law of order: marks that are at least as good as one another agree in each field.
pub duty-apart : (d : DutyFacts) (prices : List Price) → IsApart (duty_marking d prices)
duty-apart d prices a b h k =
    let x = test-good a b h in
    let y = test-good b a k in
    let less = x.driving in let more = y.driving in
    let fewer = x.total in let further = y.total in
    let low = x.value in let high = y.value in
    let start = same-start a.start b.start x.start y.start in
    let driving : a.driving ≡ b.driving = omega arith in
    let total : a.total ≡ b.total = omega arith in
    let three = same-three a.three b.three x.three y.three in
    let value : a.value ≡ b.value = omega (arith, ints) in
    let mark : ℕ → ℕ → Sec → ℕ → Bool → ℕ → Bool → ℤ → Mark =
    λ c p s d q t l v. record { class = c; piece = p; start = s; driving = d; quarter = q; total = t; three = l; value = v } in
    ap (λ c. mark c a.piece a.start a.driving a.quarter a.total a.three a.value) x.class
    ∙ (ap (λ p. mark b.class p a.start a.driving a.quarter a.total a.three a.value) x.piece
    ∙ (ap (λ s. mark b.class b.piece s a.driving a.quarter a.total a.three a.value) start
    ∙ (ap (λ n. mark b.class b.piece b.start n a.quarter a.total a.three a.value) driving
    ∙ (ap (λ q. mark b.class b.piece b.start b.driving q a.total a.three a.value) x.quarter
    ∙ (ap (λ t. mark b.class b.piece b.start b.driving b.quarter t a.three a.value) total
    ∙ (ap (λ l. mark b.class b.piece b.start b.driving b.quarter b.total l a.value) three
    ∙ ap (λ v. mark b.class b.piece b.start b.driving b.quarter b.total b.three v) value))))))
