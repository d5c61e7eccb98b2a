-- The items of a rest stand for the items of the problem, each once.
use Rattle.std.proofs.Common.{◌≡◌, ◌==◌, ℕ, ℤ, pos, ◌*ℤ◌, ◌≤ℤ◌, ◌+◌, ◌<◌, ◌≤◌, true, false, cond, not, zero, suc, List, [], ◌∷◌, ◌++◌, length, inl, inr, refl, sym, ap, subst, arith}
use Rattle.std.proofs.lemmas.Int.{ints}
use Rattle.std.proofs.lemmas.Bool.{cases_lt}
use Rattle.std.proofs.lemmas.Bool.Decides.{nat_tests}
use Rattle.cover_core.specs.declared.Column.{Column}
use Rattle.cover_core.specs.Cover.{AllBelow}
use Rattle.cover_core.specs.Plans.{times, all_items, all_classes, cost}
use Rattle.cover_core.proofs.Parts.{times-append}
use Rattle.cover_core.proofs.Sums.{sum_first, sum_each, sum_first-same, sum_first-front, sum_each-append, sum_each-times}
use Rattle.cover_rest.specs.declared.begun.Begun.{Begun}
use Rattle.cover_rest.specs.Rest.{begun_lists, bodies, body_at, free_lists, has_begun, joined, written, written_plan}

-- how often an item stands in what an item of the rest stands for
abbrev pub held_at : ℕ → List (List ℕ) → ℕ → ℤ
held_at i bs x = pos (times i (body_at bs x))

pub written-times : (i : ℕ) (bs : List (List ℕ)) (xs : List ℕ) → pos (times i (written bs xs)) ≡ sum_each (held_at i bs) xs
written-times i bs [] = refl
written-times i bs (x ∷ xs) =
    let both = times-append i (body_at bs x) (written bs xs) in
    let rest = written-times i bs xs in
    omega (arith, ints)

pub plan-times : (i : ℕ) (bs : List (List ℕ)) (cs : List Column) →
    pos (times i (all_items (written_plan bs cs))) ≡ sum_each (held_at i bs) (all_items cs)
plan-times i bs [] = refl
plan-times i bs (c ∷ cs) =
    let both = times-append i (written bs c.items) (all_items (written_plan bs cs)) in
    let first = written-times i bs c.items in
    let rest = plan-times i bs cs in
    let split = sum_each-append (held_at i bs) c.items (all_items cs) in
    omega (arith, ints)

pub bodies-times : (i : ℕ) (bs : List (List ℕ)) → sum_first (held_at i bs) (length bs) ≡ pos (times i (joined bs))
bodies-times i [] = refl
bodies-times i (b ∷ bs) =
    let front = sum_first-front (held_at i (b ∷ bs)) (length bs) in
    let rest = bodies-times i bs in
    let both = times-append i b (joined bs) in
    omega (arith, ints)

joined-times : (i : ℕ) (front bs : List (List ℕ)) → times i (joined (front ++ bs)) ≡ times i (joined front) + times i (joined bs)
joined-times i [] bs = omega arith
joined-times i (a ∷ front) bs =
    let rest = joined-times i front bs in
    let whole = times-append i a (joined (front ++ bs)) in
    let part = times-append i a (joined front) in
    omega arith

free-before : (heads : List Begun) (n k i : ℕ) → i < k → times i (joined (free_lists heads n k)) ≡ 0
free-before heads zero k i h = refl
free-before heads (suc n) k i h =
    let rest = free-before heads n (suc k) i (omega arith) in
    let other : (i == k) ≡ false = grind (arith, nat_tests) in
    elim (has_begun heads k) as (λ b. times i (joined (cond b (free_lists heads n (suc k)) ((k ∷ []) ∷ free_lists heads n (suc k)))) ≡ 0) [
      | true ↦ rest
      | false ↦ rw other (omega (arith, rest))
    ]

free-times : (heads : List Begun) (n k i : ℕ) → k ≤ i → i < k + n → times i (joined (free_lists heads n k)) ≡ cond (has_begun heads i) 0 1
free-times heads zero k i from to = absurd (omega arith)
free-times heads (suc n) k i from to =
    elim (cases_lt k i) [
      | inl later ↦
          let rest = free-times heads n (suc k) i (omega arith) (omega arith) in
          let other : (i == k) ≡ false = grind (arith, nat_tests) in
          elim (has_begun heads k) as (λ b. times i (joined (cond b (free_lists heads n (suc k)) ((k ∷ []) ∷ free_lists heads n (suc k))))
          ≡ cond (has_begun heads i) 0 1) [
            | true ↦ rest
            | false ↦ rw other (omega (arith, rest))
          ]
      | inr past ↦
          let same : k ≡ i = omega arith in
          let P : ℕ → Type 0 = λ k. times i (joined (free_lists heads (suc n) k)) ≡ cond (has_begun heads i) 0 1 in
          subst P (sym same) (at i)
    ]
  where
    at : (i : ℕ) → times i (joined (free_lists heads (suc n) i)) ≡ cond (has_begun heads i) 0 1
    at i =
        let before = free-before heads n (suc i) i (omega arith) in
        let same : (i == i) ≡ true = grind (arith, nat_tests) in
        elim (has_begun heads i) as
        (λ b. times i (joined (cond b (free_lists heads n (suc i)) ((i ∷ []) ∷ free_lists heads n (suc i)))) ≡ cond b 0 1) [
          | true ↦ before
          | false ↦ rw same (omega (arith, before))
        ]

-- What the items of the rest stand for has each item of the problem once: an item in a head stands there alone, and the others are
-- listed one by one.
pub bodies-once : (heads : List Begun) (n i : ℕ) → i < n → times i (joined (begun_lists heads)) ≤ 1 → times i (joined (bodies heads n)) ≡ 1
bodies-once heads n i below once =
    let both = joined-times i (begun_lists heads) (free_lists heads n 0) in
    let free = free-times heads n 0 i (omega arith) (omega arith) in
    let all : (t : ℕ) → t ≤ 1 → t + cond (not (t == 0)) 0 1 ≡ 1 = each in
    let sum = all (times i (joined (begun_lists heads))) once in
    omega (arith, both, free, sum)
  where
    each : (t : ℕ) → t ≤ 1 → t + cond (not (t == 0)) 0 1 ≡ 1
    each zero h = refl
    each (suc zero) h = refl
    each (suc (suc t)) h = absurd (omega arith)

-- Each item of the rest once: so is each item. How often an item is written is a sum over the items of the rest: how often each
-- stands in the plan, which is once, times how often it stands for the item; and that is once in all.
pub once-written : (i : ℕ) (bs : List (List ℕ)) (cs : List Column) → AllBelow (length bs) (all_items cs) →
    ((x : ℕ) → x < length bs → times x (all_items cs) ≡ 1) → times i (joined bs) ≡ 1 → times i (all_items (written_plan bs cs)) ≡ 1
once-written i bs cs below once one =
    let whole = plan-times i bs cs in
    let spread = sum_each-times (held_at i bs) (length bs) (all_items cs) below in
    let same : sum_first (λ x. pos (times x (all_items cs)) *ℤ held_at i bs x) (length bs) ≡ sum_first (held_at i bs) (length bs) =
    sum_first-same _ _ _ (λ x h. let here : times x (all_items cs) ≡ 1 = once x h in rw here (omega (arith, ints))) in
    let all = bodies-times i bs in
    omega (arith, ints)

pub sum-low : (g : ℕ → ℕ) (n : ℕ) → pos 0 ≤ℤ sum_first (λ x. pos (g x)) n
sum-low g zero = omega (arith, ints)
sum-low g (suc n) = let rest = sum-low g n in omega (arith, ints)

sum-none : (m g : ℕ → ℕ) (n : ℕ) → sum_first (λ x. pos (g x)) n ≡ pos 0 → sum_first (λ x. pos (m x) *ℤ pos (g x)) n ≡ pos 0
sum-none m g zero h = refl
sum-none m g (suc n) h =
    let low = sum-low g n in
    let none : g n ≡ 0 = omega (arith, ints) in
    let rest = sum-none m g n (omega (arith, ints)) in
    rw none (omega (arith, ints, rest))

-- Where a sum of whole numbers is one and a summand is not nothing, that summand is one and all others are nothing; so a weighted
-- sum is its weight.
pub sum-only : (m g : ℕ → ℕ) (n x : ℕ) → x < n → sum_first (λ y. pos (g y)) n ≡ pos 1 → 1 ≤ g x →
    sum_first (λ y. pos (m y) *ℤ pos (g y)) n ≡ pos (m x)
sum-only m g zero x below one some = absurd (omega arith)
sum-only m g (suc n) x below one some =
    elim (cases_lt x n) [
      | inl within ↦
          let reach = sum-reach g n x within some in
          let none : g n ≡ 0 = omega (arith, ints) in
          let rest = sum-only m g n x within (omega (arith, ints)) some in
          rw none (omega (arith, ints, rest))
      | inr past ↦
          let same : x ≡ n = omega arith in
          let low = sum-low g n in
          let P : ℕ → Type 0 = λ x. 1 ≤ g x in
          let here : 1 ≤ g n = subst P same some in
          let is : g n ≡ 1 = omega (arith, ints) in
          let none = sum-none m g n (omega (arith, ints)) in
          let alike : m x ≡ m n = ap m same in
          rw is (omega (arith, ints, none, alike))
    ]
  where
    sum-reach : (g : ℕ → ℕ) (n x : ℕ) → x < n → 1 ≤ g x → pos 1 ≤ℤ sum_first (λ y. pos (g y)) n
    sum-reach g zero x below some = absurd (omega arith)
    sum-reach g (suc n) x below some =
        elim (cases_lt x n) [
          | inl within ↦ let rest = sum-reach g n x within some in omega (arith, ints)
          | inr past ↦
              let same : x ≡ n = omega arith in
              let low = sum-low g n in
              let P : ℕ → Type 0 = λ x. 1 ≤ g x in
              let here : 1 ≤ g n = subst P same some in
              omega (arith, ints)
        ]

-- Each item once: so is each item of the rest, the same count read backwards. An item is stood for by one item of the rest alone,
-- so it is written as often as that one stands in the plan.
pub once-rest : (bs : List (List ℕ)) (cs : List Column) (x i : ℕ) → AllBelow (length bs) (all_items cs) → x < length bs →
    1 ≤ times i (body_at bs x) →
    times i (joined bs) ≡ 1 → times i (all_items (written_plan bs cs)) ≡ 1 → times x (all_items cs) ≡ 1
once-rest bs cs x i below within some one whole =
    let spread = sum_each-times (held_at i bs) (length bs) (all_items cs) below in
    let all = bodies-times i bs in
    let shown = plan-times i bs cs in
    let only = sum-only (λ y. times y (all_items cs)) (λ y. times i (body_at bs y)) (length bs) x within
    (omega (arith, ints, all, one)) some in
    omega (arith, ints)

pub written-classes : (bs : List (List ℕ)) (cs : List Column) → all_classes (written_plan bs cs) ≡ all_classes cs
written-classes bs [] = refl
written-classes bs (c ∷ cs) = ap (λ l. c.class ∷ l) (written-classes bs cs)

pub written-cost : (bs : List (List ℕ)) (cs : List Column) → cost (written_plan bs cs) ≡ cost cs
written-cost bs [] = refl
written-cost bs (c ∷ cs) = omega (arith, written-cost bs cs)

pub written-number : (bs : List (List ℕ)) (cs : List Column) → length (written_plan bs cs) ≡ length cs
written-number bs [] = refl
written-number bs (c ∷ cs) = omega (arith, written-number bs cs)
