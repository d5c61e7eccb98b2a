-- Inner: a small problem on which covers are tried: every list that rises is worth 1 in each of two classes.
use Rattle.std.specs.Prelude.{◌≡◌, ℕ, ℤ, pos, neg_ℤ, zero, suc, ◌+◌, ◌≤◌, ◌-ℤ◌, ◌≤ℤ◌, ◌<◌, ◌*◌, Bool, true, false, cond, ◌&&◌, nat_lt, nat_eq, int_le, List, [], ◌∷◌, length, Option, Some, None, refl, unwrap_or}
use Rattle.std.proofs.Common.{arith, ap, sym, ◌∙◌, subst}
use Rattle.std.proofs.lemmas.Bool.Decides.{nat_tests}
use Rattle.std.proofs.lemmas.Int.{ints}
use Rattle.std.proofs.lemmas.Bool.{and_from, and_parts}
use Rattle.plan_core.specs.Limits.{most_items}
use Rattle.plan_core.specs.declared.Price.{Price}
use Rattle.cover_core.specs.Cover.{Problem}
use Rattle.cover_core.specs.Plans.{price_at, price_of, value_of}
use Rattle.cover_core.specs.Labels.{label_after, label_of}
use Rattle.label_search.specs.Pricing.{IsTied}
use Rattle.mark_cover.specs.Minimal.{AreSafe, IsApart}
use Rattle.mark_cover.specs.Marking.{Marking, of_class, IsOrdered, IsPlaced, AreMarksOf}

-- a class, a last item, and the value so far
abbrev pub Step : Type 0
Step = ℕ × ℕ × ℤ

abbrev pub step : ℕ → ℕ → ℤ → Step
step class item value = (class, item, value)

abbrev pub first_step : List Price → ℕ → ℕ → Option Step
first_step prices class item =
    cond (nat_lt class 2 && nat_lt item (length prices)) (Some (step class item (pos 1000 -ℤ price_at prices item))) None

abbrev pub next_step : List Price → Step → ℕ → Option Step
next_step prices a item = cond (nat_lt a.1 item && nat_lt item (length prices)) (Some (step a.0 item (a.2 -ℤ price_at prices item))) None

abbrev pub step_good : Step → Step → Bool
step_good a b = (nat_eq a.0 b.0 && nat_eq a.1 b.1) && int_le a.2 b.2

abbrev pub steps : List Price → Marking Step
steps prices = record {
  items = length prices;
  classes = 2;
  start = first_step prices;
  extend = next_step prices;
  close = λ a. Some a.2;
  good = step_good;
  class_of = λ a. a.0;
  last = λ a. a.1;
}

-- items after one, each below the next and below n
abbrev pub rises_after : ℕ → ℕ → List ℕ → Bool
rises_after n x [] = true
rises_after n x (y ∷ ys) = (nat_lt x y && nat_lt y n) && rises_after n y ys

abbrev pub rising_worth : ℕ → List ℕ → Option ℕ
rising_worth n [] = None
rising_worth n (x ∷ xs) = cond (nat_lt x n && rises_after n x xs) (Some 1) None

abbrev pub rising : List Price → Problem
rising prices = record { items = length prices; caps = 1 ∷ 1 ∷ []; worth = λ class list. rising_worth (length prices) list }

from-cond : {L : Type 0} (t : Bool) (a b : L) → cond t (Some a) None ≡ Some b → (t ≡ true) × (a ≡ b)
from-cond {L = L} true a b e = let f : Option L → L = λ o. unwrap_or o a in (refl, ap f e)
from-cond false a b e = absurd (cc)

onto-cond : {L : Type 0} (t : Bool) (a : L) → t ≡ true → cond t (Some a) None ≡ Some a
onto-cond true a e = refl
onto-cond false a e = absurd (cc)

good-parts : (a b : Step) → step_good a b ≡ true → (a.0 ≡ b.0) × (a.1 ≡ b.1) × (a.2 ≤ℤ b.2)
good-parts a b h =
    let (left, right) = and_parts (nat_eq a.0 b.0 && nat_eq a.1 b.1) (int_le a.2 b.2) h in
    let (class, item) = and_parts (nat_eq a.0 b.0) (nat_eq a.1 b.1) left in
    (grind (arith, nat_tests), grind (arith, nat_tests), grind (arith, ints))

parts-good : (a b : Step) → a.0 ≡ b.0 → a.1 ≡ b.1 → a.2 ≤ℤ b.2 → step_good a b ≡ true
parts-good a b h k l =
    and_from (nat_eq a.0 b.0 && nat_eq a.1 b.1) (int_le a.2 b.2)
    (and_from (nat_eq a.0 b.0) (nat_eq a.1 b.1) (grind (arith, nat_tests)) (grind (arith, nat_tests))) (grind (arith, ints))

-- what an extension is
record IsNext (prices : List Price) (a b : Step) (item : ℕ) : Type 0 where
  pub up : a.1 < item
  pub there : item < length prices
  pub same : b.0 ≡ a.0
  pub item_is : b.1 ≡ item
  pub value_is : b.2 ≡ a.2 -ℤ price_at prices item

next-parts : (prices : List Price) (a b : Step) (item : ℕ) → next_step prices a item ≡ Some b → IsNext prices a b item
next-parts prices a b item e =
    let (test, is) = from-cond (nat_lt a.1 item && nat_lt item (length prices)) (step a.0 item (a.2 -ℤ price_at prices item)) b e in
    let (left, right) = and_parts (nat_lt a.1 item) (nat_lt item (length prices)) test in
    let f : Step → ℕ = λ s. s.0 in
    let h : Step → ℕ = λ s. s.1 in
    let v : Step → ℤ = λ s. s.2 in
    record {
      up = grind (arith, nat_tests);
      there = grind (arith, nat_tests);
      same = sym (ap f is);
      item_is =
          sym (ap h is);
      value_is = sym (ap v is);
    }

parts-next : (prices : List Price) (a : Step) (item : ℕ) → a.1 < item → item < length prices →
    next_step prices a item ≡ Some (step a.0 item (a.2 -ℤ price_at prices item))
parts-next prices a item up there =
    onto-cond (nat_lt a.1 item && nat_lt item (length prices)) (step a.0 item (a.2 -ℤ price_at prices item))
    (and_from (nat_lt a.1 item) (nat_lt item (length prices)) (grind (arith, nat_tests)) (grind (arith, nat_tests)))

record IsFirst (prices : List Price) (class item : ℕ) (b : Step) : Type 0 where
  pub there : item < length prices
  pub class_is : b.0 ≡ class
  pub item_is : b.1 ≡ item
  pub value_is : b.2 ≡ pos 1000 -ℤ price_at prices item

first-parts : (prices : List Price) (class item : ℕ) (b : Step) → first_step prices class item ≡ Some b → IsFirst prices class item b
first-parts prices class item b e =
    let (test, is) = from-cond (nat_lt class 2 && nat_lt item (length prices)) (step class item (pos 1000 -ℤ price_at prices item)) b e in
    let (left, right) = and_parts (nat_lt class 2) (nat_lt item (length prices)) test in
    let f : Step → ℕ = λ s. s.0 in
    let h : Step → ℕ = λ s. s.1 in
    let v : Step → ℤ = λ s. s.2 in
    record { there = grind (arith, nat_tests); class_is = sym (ap f is); item_is = sym (ap h is); value_is = sym (ap v is) }

pub steps-ordered : (prices : List Price) → IsOrdered (steps prices)
steps-ordered prices = record {
  kept = λ class. record {
    same = λ a. parts-good a a refl refl (omega (arith, ints));
    through = λ a b c h k.
        let (c1, i1, v1) = good-parts a b h in
        let (c2, i2, v2) = good-parts b c k in
        parts-good a c (c1 ∙ c2) (i1 ∙ i2) (omega (arith, ints));
    extended = λ a b b' item h e.
        let x = next-parts prices b b' item e in
        let (class_is, item_is, value_is) = good-parts a b h in
        let up = x.up in
        let later = x.value_is in (
          step a.0 item (a.2 -ℤ price_at prices item),
          parts-next prices a item (omega arith) x.there,
          parts-good (step a.0 item (a.2 -ℤ price_at prices item)) b' (class_is ∙ sym x.same) (sym x.item_is) (omega (arith, ints)),
        );
  };
  grouped = λ a b h. let (class_is, item_is, value_is) = good-parts a b h in (class_is, item_is);
  closes = λ a b v h e.
      let (class_is, item_is, value_is) = good-parts a b h in
      let f : Option ℤ → ℤ = λ o. unwrap_or o v in
      let same : b.2 ≡ v = ap f e in
      (a.2, refl, omega (arith, ints));
}

pub steps-placed : (prices : List Price) → IsPlaced (steps prices)
steps-placed prices = record {
  starts = λ class item b e. let x = first-parts prices class item b e in (x.there, x.class_is, x.item_is);
  steps = λ a b item e. let x = next-parts prices a b item e in (x.up, x.there, x.same, x.item_is);
}

onto-after : (prices : List Price) (class : ℕ) (a : Step) (xs : List ℕ) → rises_after (length prices) a.1 xs ≡ true →
    (b : Step) × (label_after (of_class (steps prices) class) (Some a) xs ≡ Some b) × (b.2 ≡ a.2 -ℤ price_of prices xs)
onto-after prices class a [] h = (a, refl, omega (arith, ints))
onto-after prices class a (x ∷ xs) h =
    let (tests, rest) = and_parts (nat_lt a.1 x && nat_lt x (length prices)) (rises_after (length prices) x xs) h in
    let (up, there) = and_parts (nat_lt a.1 x) (nat_lt x (length prices)) tests in
    let next = step a.0 x (a.2 -ℤ price_at prices x) in
    let made = parts-next prices a x (grind (arith, nat_tests)) (grind (arith, nat_tests)) in
    let (b, is, value) = onto-after prices class next xs rest in
    (b, ap (λ o. label_after (of_class (steps prices) class) o xs) made ∙ is, omega (arith, ints))

none-after : (prices : List Price) (class : ℕ) (xs : List ℕ) (b : Step) → label_after (of_class (steps prices) class) None xs ≡ Some b → ⊥
none-after prices class [] b e = cc
none-after prices class (x ∷ xs) b e = cc

from-after : (prices : List Price) (class : ℕ) (a b : Step) (xs : List ℕ) →
    label_after (of_class (steps prices) class) (Some a) xs ≡ Some b →
    (rises_after (length prices) a.1 xs ≡ true) × (b.2 ≡ a.2 -ℤ price_of prices xs)
from-after prices class a b [] e =
    let f : Option Step → Step = λ o. unwrap_or o a in
    let v : Step → ℤ = λ s. s.2 in
    let same : a.2 ≡ b.2 = ap v (ap f e) in
    (refl, omega (arith, ints))
from-after prices class a b (x ∷ xs) e =
    elim (next_step prices a x) as (λ o. next_step prices a x ≡ o → label_after (of_class (steps prices) class) o xs ≡ Some b →
    (rises_after (length prices) a.1 (x ∷ xs) ≡ true) × (b.2 ≡ a.2 -ℤ price_of prices (x ∷ xs))) [
      | None ↦ λ is e'. absurd (none-after prices class xs b e')
      | Some next ↦ λ is e'.
          let p = next-parts prices a next x is in
          let (rest, value) = from-after prices class next b xs e' in
          let item_is = p.item_is in
          let value_is = p.value_is in
          let up = p.up in
          let there = p.there in
          let P : ℕ → Type 0 = λ i. rises_after (length prices) i xs ≡ true in (
            and_from (nat_lt a.1 x && nat_lt x (length prices)) (rises_after (length prices) x xs)
                (and_from (nat_lt a.1 x) (nat_lt x (length prices)) (grind (arith, nat_tests)) (grind (arith, nat_tests)))
                (subst P item_is rest),
            omega (arith, ints),
          )
    ] refl e

onto-list : (prices : List Price) (class : ℕ) → class < 2 → (list : List ℕ) (worth : ℕ) → rising_worth (length prices) list ≡ Some worth →
    (a : Step) × (label_of (of_class (steps prices) class) list ≡ Some a) × (Some a.2 ≡ Some (value_of prices worth list))
onto-list prices class below [] worth e = absurd (cc)
onto-list prices class below (x ∷ xs) worth e =
    let (tests, one) = from-cond (nat_lt x (length prices) && rises_after (length prices) x xs) 1 worth e in
    let (there, rest) = and_parts (nat_lt x (length prices)) (rises_after (length prices) x xs) tests in
    let first = step class x (pos 1000 -ℤ price_at prices x) in
    let made : first_step prices class x ≡ Some first =
    onto-cond (nat_lt class 2 && nat_lt x (length prices)) first
    (and_from (nat_lt class 2) (nat_lt x (length prices)) (grind (arith, nat_tests)) there) in
    let (b, is, value) = onto-after prices class first xs rest in
    let total : b.2 ≡ value_of prices worth (x ∷ xs) = omega (arith, ints) in
    (b, ap (λ o. label_after (of_class (steps prices) class) o xs) made ∙ is, ap Some total)

from-list : (prices : List Price) (class : ℕ) (list : List ℕ) (a : Step) (v : ℤ) → label_of (of_class (steps prices) class) list ≡ Some a →
    Some a.2 ≡ Some v →
    (worth : ℕ) × (rising_worth (length prices) list ≡ Some worth) × (v ≡ value_of prices worth list)
from-list prices class [] a v e closes = absurd (cc)
from-list prices class (x ∷ xs) a v e closes =
    elim (first_step prices class x) as (λ o. first_step prices class x ≡ o → label_after (of_class (steps prices) class) o xs ≡ Some a →
    (worth : ℕ) × (rising_worth (length prices) (x ∷ xs) ≡ Some worth) × (v ≡ value_of prices worth (x ∷ xs))) [
      | None ↦ λ is e'. absurd (none-after prices class xs a e')
      | Some first ↦ λ is e'.
          let p = first-parts prices class x first is in
          let (rest, value) = from-after prices class first a xs e' in
          let item_is = p.item_is in
          let value_is = p.value_is in
          let there = p.there in
          let P : ℕ → Type 0 = λ i. rises_after (length prices) i xs ≡ true in
          let f : Option ℤ → ℤ = λ o. unwrap_or o v in
          let same : a.2 ≡ v = ap f closes in (
            1,
            onto-cond (nat_lt x (length prices) && rises_after (length prices) x xs) 1
                (and_from (nat_lt x (length prices)) (rises_after (length prices) x xs) (grind (arith, nat_tests)) (subst P item_is rest)),
            omega (arith, ints),
          )
    ] refl e

tied-of : (prices : List Price) (class : ℕ) → class < 2 →
    IsTied (of_class (steps prices) class) (λ a. Some a.2) prices (rising_worth (length prices))
tied-of prices class below = record {
  onto = λ list worth e. onto-list prices class below list worth e;
  from = λ list a v e closes. from-list prices class list a v e closes;
}

pub steps-tied : (prices : List Price) → AreMarksOf (steps prices) (rising prices) prices
steps-tied prices = record { classes = refl; tied = λ class below. tied-of prices class below }

-- prices from -1,000,000 to 1,000,000
abbrev pub AreSmall : List Price → Type 0
AreSmall prices = (i : ℕ) → (neg_ℤ (pos 1000000) ≤ℤ price_at prices i) × (price_at prices i ≤ℤ pos 1000000)

-- the numbers of a step under small prices
pub record StepFits (a : Step) : Type 0 where
  pub item : a.1 < most_items
  pub low : neg_ℤ (pos (1000000 * (a.1 + 1))) ≤ℤ a.2
  pub high : a.2 ≤ℤ pos (1000 + 1000000 * (a.1 + 1))

pub steps-safe : (prices : List Price) → length prices ≤ most_items → AreSmall prices → AreSafe (steps prices) StepFits
steps-safe prices few small = record {
  starts = λ class item b e.
      let x = first-parts prices class item b e in
      let there = x.there in
      let item_is = x.item_is in
      let value_is = x.value_is in
      let bounds = small item in
      let low = bounds.0 in
      let high = bounds.1 in
      record { item = omega arith; low = omega (arith, ints); high = omega (arith, ints) };
  steps = λ a b item fits e.
      let x = next-parts prices a b item e in
      let there = x.there in
      let up = x.up in
      let item_is = x.item_is in
      let value_is = x.value_is in
      let old_low = fits.low in
      let old_high = fits.high in
      let bounds = small item in
      let low = bounds.0 in
      let high = bounds.1 in
      record { item = omega arith; low = omega (arith, ints); high = omega (arith, ints) };
}

pub steps-apart : (prices : List Price) → IsApart (steps prices)
steps-apart prices a b h k =
    let (class, item, low) = good-parts a b h in
    let (class2, item2, high) = good-parts b a k in
    let value : a.2 ≡ b.2 = omega (arith, ints) in
    ap (λ c. step c a.1 a.2) class ∙ (ap (λ i. step b.0 i a.2) item ∙ ap (λ v. step b.0 b.1 v) value)

pub three-small : AreSmall (record { 0 = pos 400 } ∷ record { 0 = pos 400 } ∷ record { 0 = pos 400 } ∷ [])
three-small zero = (omega (arith, ints), omega (arith, ints))
three-small (suc zero) = (omega (arith, ints), omega (arith, ints))
three-small (suc (suc zero)) = (omega (arith, ints), omega (arith, ints))
three-small (suc (suc (suc i))) = (omega (arith, ints), omega (arith, ints))
