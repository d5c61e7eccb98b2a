-- Prices by a rule: what has the rule's price at each item is the list of them, and what a rule keeps in range stays there.
use Rattle.std.proofs.Common.{◌≡◌, ℕ, ℤ, pos, neg_ℤ, ◌≤ℤ◌, int_lt, ◌+◌, ◌<◌, true, false, cond, zero, suc, List, [], ◌∷◌, length, refl, ap, ◌∙◌, arith}
use Rattle.std.proofs.lemmas.Int.{ints}
use Rattle.plan_core.specs.declared.Price.{Price}
use Rattle.cover_core.specs.Plans.{price_at}
use Rattle.cover_core.specs.FirstLeast.{AllWithin}
use Rattle.cover_core.proofs.Values.{IsWithin}
use Rattle.cover_master.specs.Method.{clamped, prices_from}

prices_from-front : (xs : List Price) (k : ℕ) (rule : ℕ → ℤ) → ((i : ℕ) → i < length xs → price_at xs i ≡ rule (k + i)) →
    xs ≡ prices_from (length xs) k rule
prices_from-front [] k rule h = refl
prices_from-front (x ∷ xs) k rule h =
    let first : x.0 ≡ rule k = (let e : k + 0 ≡ k = omega arith in h 0 (omega arith) ∙ ap rule e) in
    let later : (i : ℕ) → i < length xs → price_at xs i ≡ rule (suc k + i) =
    λ i below. (let e : k + suc i ≡ suc k + i = omega arith in h (suc i) (omega arith) ∙ ap rule e) in
    let rest = prices_from-front xs (suc k) rule later in
    let mk : ℤ → Price = λ z. record { 0 = z } in
    ap (λ z. mk z ∷ xs) first ∙ ap (λ l. mk (rule k) ∷ l) rest

-- a list of n prices that follow a rule
pub prices_from-is : (xs : List Price) (n : ℕ) (rule : ℕ → ℤ) → length xs ≡ n → ((i : ℕ) → i < n → price_at xs i ≡ rule i) →
    xs ≡ prices_from n 0 rule
prices_from-is xs n rule len h =
    prices_from-front xs 0 rule (λ i below. (let e : i ≡ 0 + i = omega arith in h i (omega arith) ∙ ap rule e))
    ∙ ap (λ m. prices_from m 0 rule) len

pub prices_from-within : (bound n k : ℕ) (rule : ℕ → ℤ) → ((i : ℕ) → IsWithin bound (rule i)) → AllWithin bound (prices_from n k rule)
prices_from-within bound zero k rule h = tt
prices_from-within bound (suc n) k rule h = let here = h k in (here.low, here.high, prices_from-within bound n (suc k) rule h)

pub clamped-within : (z : ℤ) → IsWithin 10000000000000 (clamped z)
clamped-within z =
    elim (int_lt (pos 10000000000000) z) as (λ b. int_lt (pos 10000000000000) z ≡ b →
    IsWithin 10000000000000 (cond b (pos 10000000000000) (cond (int_lt z (neg_ℤ (pos 10000000000000))) (neg_ℤ (pos 10000000000000)) z))) [
      | true ↦ λ is. record { low = omega (arith, ints); high = omega (arith, ints) }
      | false ↦ λ is.
          let high : z ≤ℤ pos 10000000000000 = grind (arith, ints) in
          elim (int_lt z (neg_ℤ (pos 10000000000000))) as (λ b. int_lt z (neg_ℤ (pos 10000000000000)) ≡ b →
          IsWithin 10000000000000 (cond b (neg_ℤ (pos 10000000000000)) z)) [
            | true ↦ λ is'. record { low = omega (arith, ints); high = omega (arith, ints) }
            | false ↦ λ is'. let low : neg_ℤ (pos 10000000000000) ≤ℤ z = grind (arith, ints) in record { low = low; high = high }
          ] refl
    ] refl
