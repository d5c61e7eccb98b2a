-- Inner: two small labellings, on which the search is tried: ways from the first item to the last, and lists under a load.
use Rattle.std.specs.Prelude.{◌≡◌, ℕ, ℤ, pos, neg_ℤ, ◌+ℤ◌, ◌-ℤ◌, ◌≤ℤ◌, ◌<ℤ◌, ◌+◌, ◌*◌, ◌%◌, ◌<◌, ◌≤◌, Bool, true, false, cond, ◌&&◌, nat_lt, nat_eq, int_le, List, [], ◌∷◌, Option, Some, None, refl, unwrap_or}
use Rattle.std.proofs.Common.{arith, ap, sym, ◌∙◌, subst}
use Rattle.std.proofs.lemmas.Bool.Decides.{nat_tests}
use Rattle.std.proofs.lemmas.Int.{ints}
use Rattle.std.proofs.lemmas.Bool.{and_from, and_parts}
use Rattle.cover_core.specs.Cover.{Problem}
use Rattle.cover_core.specs.Plans.{HasListedColumns}
use Rattle.cover_core.specs.Labels.{Labelling, IsKept, IsValued}
use Rattle.label_search.specs.Laws.{GoodAs, IsStepwise, IsSafe, HidesNone}
use Rattle.label_search.specs.Levels.{IsAbove, NoneFollowsAbove, NoneReachesAbove}
use Rattle.label_search.specs.Limits.{passed}

-- what the step from an item to a later one costs: from -5 to 5
abbrev pub toll : ℕ → ℕ → ℕ → ℤ
toll seed i j = pos ((i * 7 + j * 13 + seed) % 11) -ℤ pos 5

pub toll-range : (seed i j : ℕ) → (neg_ℤ (pos 5) ≤ℤ toll seed i j) × (toll seed i j ≤ℤ pos 5)
toll-range seed i j = (omega (arith, ints), omega (arith, ints))

-- a value given under a test
from-cond : {L : Type 0} (t : Bool) (a b : L) → cond t (Some a) None ≡ Some b → (t ≡ true) × (a ≡ b)
from-cond {L = L} true a b e = let f : Option L → L = λ o. unwrap_or o a in (refl, ap f e)
from-cond false a b e = absurd (cc)

onto-cond : {L : Type 0} (t : Bool) (a : L) → t ≡ true → cond t (Some a) None ≡ Some a
onto-cond true a e = refl
onto-cond false a e = absurd (cc)

-- the last item, and the cost so far
abbrev pub Way : Type 0
Way = ℕ × ℤ

abbrev pub way : ℕ → ℤ → Way
way item value = (item, value)

abbrev pub ways : ℕ → ℕ → Labelling Way
ways count seed = record {
  start = λ item. cond (nat_eq item 0 && nat_lt item count) (Some (way item (pos 0))) None;
  extend = λ a item. cond (nat_lt a.0 item && nat_lt item count) (Some (way item (a.1 +ℤ toll seed a.0 item))) None;
}

abbrev pub way_good : Way → Way → Bool
way_good a b = nat_eq a.0 b.0 && int_le a.1 b.1

-- only the last item ends a way
abbrev pub way_close : ℕ → Way → Option ℤ
way_close count a = cond (nat_eq (a.0 + 1) count) (Some a.1) None

-- each further step takes off at most 5
abbrev pub way_may_close : ℕ → ℤ → Way → Bool
way_may_close count limit a = int_le (a.1 +ℤ pos (5 * (a.0 + 1))) (limit +ℤ pos (5 * count))

abbrev pub WayFits : Way → Type 0
WayFits a = (neg_ℤ (pos (5 * (a.0 + 1))) ≤ℤ a.1) × (a.1 ≤ℤ pos (5 * (a.0 + 1)))

good-parts : (a b : Way) → way_good a b ≡ true → (a.0 ≡ b.0) × (a.1 ≤ℤ b.1)
good-parts a b h = let (left, right) = and_parts (nat_eq a.0 b.0) (int_le a.1 b.1) h in (grind (arith, nat_tests), grind (arith, ints))

parts-good : (a b : Way) → a.0 ≡ b.0 → a.1 ≤ℤ b.1 → way_good a b ≡ true
parts-good a b h k = and_from (nat_eq a.0 b.0) (int_le a.1 b.1) (grind (arith, nat_tests)) (grind (arith, ints))

-- what an extension is
record IsStep (count seed : ℕ) (a b : Way) (item : ℕ) : Type 0 where
  pub up : a.0 < item
  pub there : item < count
  pub item_is : b.0 ≡ item
  pub value_is : b.1 ≡ a.1 +ℤ toll seed a.0 item

step-parts : (count seed : ℕ) (a b : Way) (item : ℕ) → (ways count seed).extend a item ≡ Some b → IsStep count seed a b item
step-parts count seed a b item e =
    let (test, is) = from-cond (nat_lt a.0 item && nat_lt item count) (way item (a.1 +ℤ toll seed a.0 item)) b e in
    let (left, right) = and_parts (nat_lt a.0 item) (nat_lt item count) test in
    let last : Way → ℕ = λ w. w.0 in
    let worth : Way → ℤ = λ w. w.1 in
    record { up = grind (arith, nat_tests); there = grind (arith, nat_tests); item_is = sym (ap last is); value_is = sym (ap worth is) }

parts-step : (count seed : ℕ) (a : Way) (item : ℕ) → a.0 < item → item < count →
    (ways count seed).extend a item ≡ Some (way item (a.1 +ℤ toll seed a.0 item))
parts-step count seed a item up there =
    onto-cond (nat_lt a.0 item && nat_lt item count) (way item (a.1 +ℤ toll seed a.0 item))
    (and_from (nat_lt a.0 item) (nat_lt item count) (grind (arith, nat_tests)) (grind (arith, nat_tests)))

pub ways-kept : (count seed : ℕ) → IsKept (ways count seed) (GoodAs way_good)
ways-kept count seed = record {
  same = λ a. parts-good a a refl (omega (arith, ints));
  through = λ a b c h k. let (t1, v1) = good-parts a b h in let (t2, v2) = good-parts b c k in
      parts-good a c (t1 ∙ t2) (omega (arith, ints));
  extended = λ a b b' item h e.
      let x = step-parts count seed b b' item e in
      let (trip, value) = good-parts a b h in
      let up = x.up in
      let value_is = x.value_is in
      let same : toll seed a.0 item ≡ toll seed b.0 item = ap (λ i. toll seed i item) trip in (
        way item (a.1 +ℤ toll seed a.0 item),
        parts-step count seed a item (omega arith) x.there,
        parts-good (way item (a.1 +ℤ toll seed a.0 item)) b' (sym x.item_is) (omega (arith, ints)),
      );
}

pub ways-valued : (count seed : ℕ) → IsValued (ways count seed) (GoodAs way_good) (λ a. a.1) (way_close count)
ways-valued count seed = record {
  at_most = λ a b h. (good-parts a b h).1;
  apart = λ a b a' b' item h less ea eb.
      let x = step-parts count seed a a' item ea in
      let y = step-parts count seed b b' item eb in
      let trip = (good-parts a b h).0 in
      let same : toll seed a.0 item ≡ toll seed b.0 item = ap (λ i. toll seed i item) trip in
      let va = x.value_is in
      let vb = y.value_is in
      omega (arith, ints);
  closes = λ a b v h e.
      let (trip, value) = good-parts a b h in
      let (test, same) = from-cond (nat_eq (b.0 + 1) count) b.1 v e in
      let test_a : nat_eq (a.0 + 1) count ≡ true = ap (λ i. nat_eq (i + 1) count) trip ∙ test in
      (a.1, onto-cond (nat_eq (a.0 + 1) count) a.1 test_a, omega (arith, ints), (λ less. omega (arith, ints)));
}

pub ways-stepwise : (count seed : ℕ) → IsStepwise (ways count seed) count (λ a. a.0)
ways-stepwise count seed = record {
  starts = λ item a e.
      let (test, is) = from-cond (nat_eq item 0 && nat_lt item count) (way item (pos 0)) a e in
      let (left, right) = and_parts (nat_eq item 0) (nat_lt item count) test in
      let last : Way → ℕ = λ w. w.0 in
      (grind (arith, nat_tests), sym (ap last is));
  steps = λ a b item e. let x = step-parts count seed a b item e in (x.up, x.there, x.item_is);
}

pub ways-safe : (count seed : ℕ) → IsSafe (ways count seed) WayFits
ways-safe count seed = record {
  starts = λ item a e.
      let (test, is) = from-cond (nat_eq item 0 && nat_lt item count) (way item (pos 0)) a e in
      let worth : Way → ℤ = λ w. w.1 in
      let value_is : pos 0 ≡ a.1 = ap worth is in
      (omega (arith, ints), omega (arith, ints));
  steps = λ a b item h e.
      let x = step-parts count seed a b item e in
      let up = x.up in
      let item_is = x.item_is in
      let value_is = x.value_is in
      let (low, high) = toll-range seed a.0 item in
      let from_below = h.0 in
      let from_above = h.1 in
      (omega (arith, ints), omega (arith, ints));
}

low-is : (x y : ℤ) → int_le x y ≡ true → x ≤ℤ y
low-is x y h = grind (arith, ints)

is-low : (x y : ℤ) → x ≤ℤ y → int_le x y ≡ true
is-low x y h = grind (arith, ints)

not-low : (x y : ℤ) → int_le x y ≡ false → y <ℤ x
not-low x y h = grind (arith, ints)

over-limit : (x y : ℤ) → y <ℤ x → int_le x y ≡ false
over-limit x y h = grind (arith, ints)

pub ways-hide : (count seed : ℕ) → HidesNone (ways count seed) way_good (way_close count) WayFits (way_may_close count)
ways-hide count seed = record {
  closes = λ limit a v fits e low.
      let (test, same) = from-cond (nat_eq (a.0 + 1) count) a.1 v e in
      let end : a.0 + 1 ≡ count = grind (arith, nat_tests) in
      is-low (a.1 +ℤ pos (5 * (a.0 + 1))) (limit +ℤ pos (5 * count)) (omega (arith, ints));
  steps = λ limit a b item fits e passes.
      let x = step-parts count seed a b item e in
      let up = x.up in
      let item_is = x.item_is in
      let value_is = x.value_is in
      let (low, high) = toll-range seed a.0 item in
      let bound = low-is (b.1 +ℤ pos (5 * (b.0 + 1))) (limit +ℤ pos (5 * count)) passes in
      is-low (a.1 +ℤ pos (5 * (a.0 + 1))) (limit +ℤ pos (5 * count)) (omega (arith, ints));
  ordered = λ limit a b h passes.
      let (trip, value) = good-parts a b h in
      let bound = low-is (b.1 +ℤ pos (5 * (b.0 + 1))) (limit +ℤ pos (5 * count)) passes in
      is-low (a.1 +ℤ pos (5 * (a.0 + 1))) (limit +ℤ pos (5 * count)) (omega (arith, ints));
}

-- values above the most are too high for each further step
pub ways-unreached : (count seed : ℕ) (item : ℕ) (limit most : ℤ) →
    ((v : ℤ) → IsAbove most v → (limit +ℤ pos (5 * count)) <ℤ (v +ℤ pos (5 * item))) →
    NoneReachesAbove (ways count seed) WayFits (λ a. a.1) (way_may_close count limit) item most
ways-unreached count seed item limit most high a fits more =
    let w : Labelling Way = ways count seed in
    let test : Way → Bool = way_may_close count limit in
    elim (w.extend a item) as (λ o. w.extend a item ≡ o → passed test o ≡ None) [
      | None ↦ λ is. refl
      | Some b ↦ λ is.
          let x = step-parts count seed a b item is in
          let item_is = x.item_is in
          let value_is = x.value_is in
          let (low, up) = toll-range seed a.0 item in
          let above = high a.1 more in
          let over : int_le (b.1 +ℤ pos (5 * (b.0 + 1))) (limit +ℤ pos (5 * count)) ≡ false =
          over-limit (b.1 +ℤ pos (5 * (b.0 + 1))) (limit +ℤ pos (5 * count)) (omega (arith, ints)) in
          ap (λ t. cond t (Some b) None) over
    ] refl

pub ways-end : (count seed before : ℕ) (item : ℕ) (limit most : ℤ) →
    ((v : ℤ) → IsAbove most v → (limit +ℤ pos (5 * count)) <ℤ (v +ℤ pos (5 * item))) →
    NoneFollowsAbove (ways count seed) WayFits (λ a. a.0) (λ a. a.1) (way_may_close count limit) before item most
ways-end count seed before item limit most high a fits ends more = ways-unreached count seed item limit most high a fits more

-- the last item, the cost so far, and the load so far
abbrev pub Haul : Type 0
Haul = ℕ × ℤ × ℕ

abbrev pub haul : ℕ → ℤ → ℕ → Haul
haul item value load = (item, value, load)

-- what an item weighs: from 1 to 7
abbrev pub weight : ℕ → ℕ
weight item = item * 5 % 7 + 1

-- lists of items whose weights are below a room
abbrev pub hauls : ℕ → ℕ → ℕ → Labelling Haul
hauls count seed room = record {
  start = λ item. cond (nat_lt item count && nat_lt (weight item) room) (Some (haul item (toll seed item item) (weight item))) None;
  extend = λ a item. cond (nat_lt a.0 item && nat_lt item count && nat_lt (a.2 + weight item) room)
      (Some (haul item (a.1 +ℤ toll seed a.0 item) (a.2 + weight item))) None;
}

-- the same last item, no greater cost and no greater load
abbrev pub haul_good : Haul → Haul → Bool
haul_good a b = nat_eq a.0 b.0 && int_le a.1 b.1 && nat_lt a.2 (b.2 + 1)

abbrev pub haul_close : Haul → Option ℤ
haul_close a = Some a.1

abbrev pub any_haul : ℤ → Haul → Bool
any_haul limit a = true

abbrev pub HaulFits : ℕ → Haul → Type 0
HaulFits room a = (neg_ℤ (pos (5 * (a.0 + 1))) ≤ℤ a.1) × (a.1 ≤ℤ pos (5 * (a.0 + 1))) × (a.2 < room)

-- no worse in each part
record IsNoWorse (a b : Haul) : Type 0 where
  pub item : a.0 ≡ b.0
  pub value : a.1 ≤ℤ b.1
  pub load : a.2 ≤ b.2

haul-parts : (a b : Haul) → haul_good a b ≡ true → IsNoWorse a b
haul-parts a b h =
    let (front, right) = and_parts (nat_eq a.0 b.0 && int_le a.1 b.1) (nat_lt a.2 (b.2 + 1)) h in
    let (left, middle) = and_parts (nat_eq a.0 b.0) (int_le a.1 b.1) front in
    let below : a.2 < b.2 + 1 = grind (arith, nat_tests) in
    record { item = grind (arith, nat_tests); value = grind (arith, ints); load = omega arith }

parts-haul : (a b : Haul) → a.0 ≡ b.0 → a.1 ≤ℤ b.1 → a.2 ≤ b.2 → haul_good a b ≡ true
parts-haul a b h k l =
    let below : a.2 < b.2 + 1 = omega arith in
    and_from (nat_eq a.0 b.0 && int_le a.1 b.1) (nat_lt a.2 (b.2 + 1))
    (and_from (nat_eq a.0 b.0) (int_le a.1 b.1) (grind (arith, nat_tests)) (grind (arith, ints))) (grind (arith, nat_tests))

below-is : (x y : ℕ) → nat_lt x y ≡ true → x < y
below-is x y h = grind (arith, nat_tests)

is-below : (x y : ℕ) → x < y → nat_lt x y ≡ true
is-below x y h = grind (arith, nat_tests)

record IsHaulStep (count seed room : ℕ) (a b : Haul) (item : ℕ) : Type 0 where
  pub up : a.0 < item
  pub there : item < count
  pub fits : a.2 + weight item < room
  pub item_is : b.0 ≡ item
  pub value_is : b.1 ≡ a.1 +ℤ toll seed a.0 item
  pub load_is : b.2 ≡ a.2 + weight item

haul-step : (count seed room : ℕ) (a b : Haul) (item : ℕ) → (hauls count seed room).extend a item ≡ Some b →
    IsHaulStep count seed room a b item
haul-step count seed room a b item e =
    let (test, is) = from-cond (nat_lt a.0 item && nat_lt item count && nat_lt (a.2 + weight item) room)
    (haul item (a.1 +ℤ toll seed a.0 item) (a.2 + weight item)) b e in
    let (front, right) = and_parts (nat_lt a.0 item && nat_lt item count) (nat_lt (a.2 + weight item) room) test in
    let (left, middle) = and_parts (nat_lt a.0 item) (nat_lt item count) front in
    let last : Haul → ℕ = λ w. w.0 in
    let worth : Haul → ℤ = λ w. w.1 in
    let load : Haul → ℕ = λ w. w.2 in
    record {
      up = grind (arith, nat_tests);
      there = grind (arith, nat_tests);
      fits = below-is (a.2 + weight item) room right;
      item_is = sym (ap last is);
      value_is = sym (ap worth is);
      load_is = sym (ap load is);
    }

step-haul : (count seed room : ℕ) (a : Haul) (item : ℕ) → a.0 < item → item < count → a.2 + weight item < room →
    (hauls count seed room).extend a item ≡ Some (haul item (a.1 +ℤ toll seed a.0 item) (a.2 + weight item))
step-haul count seed room a item up there fits =
    onto-cond (nat_lt a.0 item && nat_lt item count && nat_lt (a.2 + weight item) room)
    (haul item (a.1 +ℤ toll seed a.0 item) (a.2 + weight item))
    (and_from (nat_lt a.0 item && nat_lt item count) (nat_lt (a.2 + weight item) room)
    (and_from (nat_lt a.0 item) (nat_lt item count) (grind (arith, nat_tests)) (grind (arith, nat_tests)))
    (is-below (a.2 + weight item) room fits))

pub hauls-kept : (count seed room : ℕ) → IsKept (hauls count seed room) (GoodAs haul_good)
hauls-kept count seed room = record {
  same = λ a. parts-haul a a refl (omega (arith, ints)) (omega arith);
  through = λ a b c h k.
      let x = haul-parts a b h in
      let y = haul-parts b c k in
      let v1 = x.value in let v2 = y.value in let l1 = x.load in let l2 = y.load in
      parts-haul a c (x.item ∙ y.item) (omega (arith, ints)) (omega arith);
  extended = λ a b b' item h e.
      let x = haul-step count seed room b b' item e in
      let y = haul-parts a b h in
      let trip = y.item in let value = y.value in let load = y.load in
      let up = x.up in let fits = x.fits in let value_is = x.value_is in let load_is = x.load_is in
      let same : toll seed a.0 item ≡ toll seed b.0 item = ap (λ i. toll seed i item) trip in
      let next : Haul = haul item (a.1 +ℤ toll seed a.0 item) (a.2 + weight item) in (
        next,
        step-haul count seed room a item (omega arith) x.there (omega arith),
        parts-haul next b' (sym x.item_is) (omega (arith, ints)) (omega arith),
      );
}

pub hauls-valued : (count seed room : ℕ) → IsValued (hauls count seed room) (GoodAs haul_good) (λ a. a.1) haul_close
hauls-valued count seed room = record {
  at_most = λ a b h. (haul-parts a b h).value;
  apart = λ a b a' b' item h less ea eb.
      let x = haul-step count seed room a a' item ea in
      let y = haul-step count seed room b b' item eb in
      let trip = (haul-parts a b h).item in
      let same : toll seed a.0 item ≡ toll seed b.0 item = ap (λ i. toll seed i item) trip in
      let va = x.value_is in
      let vb = y.value_is in
      omega (arith, ints);
  closes = λ a b v h e.
      let value = (haul-parts a b h).value in
      let same : b.1 ≡ v = let f : Option ℤ → ℤ = λ o. unwrap_or o v in ap f e in
      (a.1, refl, omega (arith, ints), (λ less. omega (arith, ints)));
}

haul-starts : (count seed room item : ℕ) (a : Haul) → (hauls count seed room).start item ≡ Some a →
    (item < count) × (weight item < room) × (haul item (toll seed item item) (weight item) ≡ a)
haul-starts count seed room item a e =
    let (test, is) = from-cond (nat_lt item count && nat_lt (weight item) room) (haul item (toll seed item item) (weight item)) a e in
    let (left, right) = and_parts (nat_lt item count) (nat_lt (weight item) room) test in
    (below-is item count left, below-is (weight item) room right, is)

pub hauls-stepwise : (count seed room : ℕ) → IsStepwise (hauls count seed room) count (λ a. a.0)
hauls-stepwise count seed room = record {
  starts = λ item a e. let (there, fits, is) = haul-starts count seed room item a e in let last : Haul → ℕ = λ w. w.0 in
      (there, sym (ap last is));
  steps = λ a b item e. let x = haul-step count seed room a b item e in (x.up, x.there, x.item_is);
}

pub hauls-safe : (count seed room : ℕ) → IsSafe (hauls count seed room) (HaulFits room)
hauls-safe count seed room = record {
  starts = λ item a e.
      let (there, fits, is) = haul-starts count seed room item a e in
      let P : Haul → Type 0 = λ h. HaulFits room h in
      let (low, high) = toll-range seed item item in
      subst P is (omega (arith, ints), omega (arith, ints), fits);
  steps = λ a b item h e.
      let x = haul-step count seed room a b item e in
      let up = x.up in
      let fits = x.fits in
      let item_is = x.item_is in
      let value_is = x.value_is in
      let load_is = x.load_is in
      let (low, high) = toll-range seed a.0 item in
      let from_below = h.0 in
      let from_above = h.1 in
      (omega (arith, ints), omega (arith, ints), omega arith);
}

pub hauls-hide : (count seed room : ℕ) → HidesNone (hauls count seed room) haul_good haul_close (HaulFits room) any_haul
hauls-hide count seed room = record {
  closes = λ limit a v fits e low. refl;
  steps = λ limit a b item fits e passes. refl;
  ordered = λ limit a b h passes. refl;
}

-- lists of one item, each worth 1
abbrev pub single_worth : ℕ → List ℕ → Option ℕ
single_worth count [] = None
single_worth count (x ∷ []) = cond (nat_lt x count) (Some 1) None
single_worth count (x ∷ y ∷ rest) = None

abbrev pub single_problem : ℕ → Problem
single_problem count = record { items = count; caps = 1 ∷ []; worth = λ class list. single_worth count list }

pub singles-listed : (count : ℕ) → HasListedColumns (single_problem count)
singles-listed count class [] worth e = absurd (cc)
singles-listed count class (x ∷ []) worth e =
    let (test, is) = from-cond (nat_lt x count) 1 worth e in
    (λ same. absurd (cc), tt, (below-is x count test, tt))
singles-listed count class (x ∷ y ∷ rest) worth e = absurd (cc)

-- and their labels
abbrev pub singles : ℕ → Labelling Way
singles count = record {
  start = λ item. cond (nat_lt item count) (Some (way item (pos 1000))) None;
  extend = λ a item. None;
}

abbrev pub AnyWay : Way → Type 0
AnyWay a = Unit {0}

abbrev pub value_closes : Way → Option ℤ
value_closes a = Some a.1

abbrev pub any_way : ℤ → Way → Bool
any_way limit a = true

pub singles-kept : (count : ℕ) → IsKept (singles count) (GoodAs way_good)
singles-kept count = record {
  same = λ a. parts-good a a refl (omega (arith, ints));
  through = λ a b c h k. let (t1, v1) = good-parts a b h in let (t2, v2) = good-parts b c k in
      parts-good a c (t1 ∙ t2) (omega (arith, ints));
  extended = λ a b b' item h e. absurd (cc);
}

pub singles-valued : (count : ℕ) → IsValued (singles count) (GoodAs way_good) (λ a. a.1) value_closes
singles-valued count = record {
  at_most = λ a b h. (good-parts a b h).1;
  apart = λ a b a' b' item h less ea eb. absurd (cc);
  closes = λ a b v h e.
      let value = (good-parts a b h).1 in
      let same : b.1 ≡ v = let f : Option ℤ → ℤ = λ o. unwrap_or o v in ap f e in
      (a.1, refl, omega (arith, ints), (λ less. omega (arith, ints)));
}

pub singles-stepwise : (count : ℕ) → IsStepwise (singles count) count (λ a. a.0)
singles-stepwise count = record {
  starts = λ item a e.
      let (test, is) = from-cond (nat_lt item count) (way item (pos 1000)) a e in
      let last : Way → ℕ = λ w. w.0 in
      (below-is item count test, sym (ap last is));
  steps = λ a b item e. absurd (cc);
}

pub singles-safe : (count : ℕ) → IsSafe (singles count) AnyWay
singles-safe count = record { starts = λ item a e. tt; steps = λ a b item h e. tt }

pub singles-hide : (count : ℕ) → HidesNone (singles count) way_good value_closes AnyWay any_way
singles-hide count = record {
  closes = λ limit a v fits e low. refl;
  steps = λ limit a b item fits e passes. refl;
  ordered = λ limit a b h passes. refl;
}
