-- Lowering, one item more at a time, and all prices after it.
use Rattle.std.proofs.Common.{◌≡◌, ◌==◌, ℕ, ℤ, pos, ◌-ℤ◌, int_lt, nat_lt, ◌+◌, ◌<◌, ◌≤◌, true, false, cond, zero, suc, List, [], ◌∷◌, length, get_or, take, refl, sym, ap, ◌∙◌, inl, inr, arith}
use Rattle.std.proofs.Math.ListN.{set}
use Rattle.std.proofs.lemmas.Bool.{cases_eq}
use Rattle.std.proofs.lemmas.Bool.Decides.{nat_tests}
use Rattle.plan_core.specs.declared.Price.{Price}
use Rattle.cover_core.specs.declared.Column.{Column}
use Rattle.cover_core.specs.Cover.{Rises}
use Rattle.cover_core.specs.Plans.{price_at, times}
use Rattle.cover_core.specs.FirstLeast.{AllWithin, value}
use Rattle.cover_core.proofs.Values.{IsWithin, price_at-within}
use Rattle.cover_core.proofs.Parts.{Rises-once}
use Rattle.cover_master.specs.Method.{clamped, lowered_by, lowered_price, lowered_prices, share_of}
use Rattle.cover_core.proofs.Times.{times-take}
use Rattle.cover_master.proofs.Rules.{prices_from-is, prices_from-within, clamped-within}

pub price_at-set_same : (xs : List Price) (k : ℕ) (x : Price) → k < length xs → price_at (set xs k x) k ≡ x.0
price_at-set_same [] k x h = absurd (omega arith)
price_at-set_same (y ∷ ys) zero x h = refl
price_at-set_same (y ∷ ys) (suc k) x h = price_at-set_same ys k x (omega arith)

pub price_at-set_other : (xs : List Price) (k i : ℕ) (x : Price) → (i ≡ k → ⊥) → price_at (set xs k x) i ≡ price_at xs i
price_at-set_other [] k i x h = refl
price_at-set_other (y ∷ ys) zero zero x h = absurd (h refl)
price_at-set_other (y ∷ ys) zero (suc i) x h = refl
price_at-set_other (y ∷ ys) (suc k) zero x h = refl
price_at-set_other (y ∷ ys) (suc k) (suc i) x h = price_at-set_other ys k i x (λ e. h (ap suc e))

times-take-le : (i n : ℕ) (xs : List ℕ) → times i (take n xs) ≤ times i xs
times-take-le i zero xs = omega arith
times-take-le i (suc n) [] = omega arith
times-take-le i (suc n) (x ∷ xs) = omega (arith, times-take-le i n xs)

-- in a list that rises an item does not stand before itself
front-none : (k : ℕ) (xs : List ℕ) → Rises xs → k < length xs → times (get_or xs k 0) (take k xs) ≡ 0
front-none k xs r h =
    let item = get_or xs k 0 in
    let once = Rises-once item xs r in
    let some = times-take-le item (k + 1) xs in
    let more = times-take item k xs h in
    let test : (item == item) ≡ true = grind (arith, nat_tests) in
    let sum = rw test at more in
    omega arith

lowered_by-times : (xs ys : List ℕ) (share : ℤ) (prices : List Price) (i : ℕ) → times i xs ≡ times i ys →
    lowered_by xs share prices i ≡ lowered_by ys share prices i
lowered_by-times xs ys share prices i e = ap (λ n. cond (nat_lt 0 n) (clamped (price_at prices i -ℤ share)) (price_at prices i)) e

lowered_by-some : (xs : List ℕ) (share : ℤ) (prices : List Price) (i : ℕ) → 0 < times i xs →
    lowered_by xs share prices i ≡ clamped (price_at prices i -ℤ share)
lowered_by-some xs share prices i h = let test : nat_lt 0 (times i xs) ≡ true = grind (arith, nat_tests) in rw test refl

lowered_by-none : (xs : List ℕ) (share : ℤ) (prices : List Price) (i : ℕ) → times i xs ≡ 0 →
    lowered_by xs share prices i ≡ price_at prices i
lowered_by-none xs share prices i e = let test : nat_lt 0 (times i xs) ≡ false = grind (arith, nat_tests) in rw test refl

-- one more item is lowered
pub lowered-more : (old now : List Price) (items : List ℕ) (k : ℕ) (share : ℤ) (x : Price) → k < length items → Rises items →
    get_or items k 0 < length now →
    x.0 ≡ clamped (price_at now (get_or items k 0) -ℤ share) → ((i : ℕ) → price_at now i ≡ lowered_by (take k items) share old i) →
    (i : ℕ) → price_at (set now (get_or items k 0) x) i ≡ lowered_by (take (k + 1) items) share old i
lowered-more old now items k share x inside rises there is so_far i =
    let item = get_or items k 0 in
    let more = times-take i k items inside in
    elim (cases_eq i item) [
      | inl same ↦
          let none : times item (take k items) ≡ 0 = front-none k items rises inside in
          let was : price_at now item ≡ price_at old item = so_far item ∙ lowered_by-none (take k items) share old item none in
          let test : (i == item) ≡ true = grind (arith, nat_tests) in
          let sum = rw test at more in
          let some : 0 < times i (take (k + 1) items) = omega arith in
          let here : price_at (set now item x) i ≡ x.0 = ap (λ n. price_at (set now item x) n) same ∙ price_at-set_same now item x there in
          here ∙ is ∙ ap (λ z. clamped (z -ℤ share)) (was ∙ ap (λ n. price_at old n) (sym same))
          ∙ sym (lowered_by-some (take (k + 1) items) share old i some)
      | inr apart ↦
          let test : (i == item) ≡ false = grind (arith, nat_tests) in
          let sum = rw test at more in
          let same : times i (take k items) ≡ times i (take (k + 1) items) = omega arith in
          price_at-set_other now item i x apart ∙ so_far i ∙ lowered_by-times (take k items) (take (k + 1) items) share old i same
    ]

pub lowered_by-within : (items : List ℕ) (share : ℤ) (prices : List Price) (i : ℕ) → AllWithin 10000000000000 prices →
    IsWithin 10000000000000 (lowered_by items share prices i)
lowered_by-within items share prices i h =
    elim (nat_lt 0 (times i items)) as (λ b. IsWithin 10000000000000 (cond b (clamped (price_at prices i -ℤ share)) (price_at prices i))) [
      | true ↦ clamped-within (price_at prices i -ℤ share)
      | false ↦ price_at-within 10000000000000 prices i h
    ]

pub lowered_prices-within : (prices : List Price) (c : Column) → AllWithin 10000000000000 prices →
    AllWithin 10000000000000 (lowered_prices prices c)
lowered_prices-within prices c h =
    prices_from-within 10000000000000 (length prices) 0 (lowered_price prices c) (λ i.
    elim (int_lt (value prices c) (pos 0)) as
    (λ b. IsWithin 10000000000000
    (cond b (lowered_by c.items (pos (share_of (value prices c) (length c.items))) prices i) (price_at prices i))) [
      | true ↦ lowered_by-within c.items (pos (share_of (value prices c) (length c.items))) prices i h
      | false ↦ price_at-within 10000000000000 prices i h
    ])

pub lowered_prices-loss : (prices new : List Price) (c : Column) (items : List ℕ) (share : ℤ) → int_lt (value prices c) (pos 0) ≡ true →
    length new ≡ length prices → items ≡ c.items → share ≡ pos (share_of (value prices c) (length c.items)) →
    ((i : ℕ) → price_at new i ≡ lowered_by items share prices i) → new ≡ lowered_prices prices c
lowered_prices-loss prices new c items share test len same shared h =
    prices_from-is new (length prices) (lowered_price prices c) len (λ i below.
    h i ∙ ap (λ l. lowered_by l share prices i) same ∙ ap (λ z. lowered_by c.items z prices i) shared ∙ sym (rw test refl))

pub lowered_prices-none : (prices : List Price) (c : Column) → int_lt (value prices c) (pos 0) ≡ false → prices ≡ lowered_prices prices c
lowered_prices-none prices c test =
    prices_from-is prices (length prices) (lowered_price prices c) refl (λ i below. sym (rw test refl))
