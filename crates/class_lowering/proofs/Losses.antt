-- Lowering, one item more at a time, and all prices after a column.
use Rattle.std.proofs.Common.{◌≡◌, ℕ, ℤ, pos, ◌-ℤ◌, int_lt, nat_lt, true, false, cond, zero, suc, List, length, refl, sym, ap, ◌∙◌}
use Rattle.plan_core.specs.declared.Price.{Price}
use Rattle.cover_core.specs.declared.Column.{Column}
use Rattle.cover_core.specs.Plans.{price_at, times}
use Rattle.cover_core.specs.FirstLeast.{AllWithin}
use Rattle.cover_core.proofs.Values.{IsWithin, price_at-within}
use Rattle.cover_master.specs.Method.{clamped, lowered_by, prices_from, share_of}
use Rattle.cover_master.proofs.Rules.{clamped-within, prices_from-is, prices_from-within}
use Rattle.class_lowering.specs.Lowering.{value_with, lowered_price, lowered_prices}

pub lowered_by-within : (items : List ℕ) (share : ℤ) (prices : List Price) (i : ℕ) → AllWithin 10000000000000 prices →
    IsWithin 10000000000000 (lowered_by items share prices i)
lowered_by-within items share prices i h =
    elim (nat_lt 0 (times i items)) as (λ b. IsWithin 10000000000000 (cond b (clamped (price_at prices i -ℤ share)) (price_at prices i))) [
      | true ↦ clamped-within (price_at prices i -ℤ share)
      | false ↦ price_at-within 10000000000000 prices i h
    ]

pub lowered_prices-within : (prices : List Price) (c : Column) (asked : ℤ) → AllWithin 10000000000000 prices →
    AllWithin 10000000000000 (lowered_prices prices c asked)
lowered_prices-within prices c asked h =
    prices_from-within 10000000000000 (length prices) 0 (lowered_price prices c asked) (λ i.
    elim (int_lt (value_with prices c asked) (pos 0)) as
    (λ b. IsWithin 10000000000000
    (cond b (lowered_by c.items (pos (share_of (value_with prices c asked) (length c.items))) prices i) (price_at prices i))) [
      | true ↦ lowered_by-within c.items (pos (share_of (value_with prices c asked) (length c.items))) prices i h
      | false ↦ price_at-within 10000000000000 prices i h
    ])

pub lowered_prices-loss : (prices new : List Price) (c : Column) (asked : ℤ) (items : List ℕ) (share : ℤ) →
    int_lt (value_with prices c asked) (pos 0) ≡ true →
    length new ≡ length prices → items ≡ c.items → share ≡ pos (share_of (value_with prices c asked) (length c.items)) →
    ((i : ℕ) → price_at new i ≡ lowered_by items share prices i) → new ≡ lowered_prices prices c asked
lowered_prices-loss prices new c asked items share test len same shared h =
    prices_from-is new (length prices) (lowered_price prices c asked) len (λ i below.
    h i ∙ ap (λ l. lowered_by l share prices i) same ∙ ap (λ z. lowered_by c.items z prices i) shared ∙ sym (rw test refl))

pub lowered_prices-none : (prices : List Price) (c : Column) (asked : ℤ) → int_lt (value_with prices c asked) (pos 0) ≡ false →
    prices ≡ lowered_prices prices c asked
lowered_prices-none prices c asked test =
    prices_from-is prices (length prices) (lowered_price prices c asked) refl (λ i below. sym (rw test refl))

prices_from-length : (n k : ℕ) (rule : ℕ → ℤ) → length (prices_from n k rule) ≡ n
prices_from-length zero k rule = refl
prices_from-length (suc n) k rule = ap suc (prices_from-length n (suc k) rule)

pub lowered_prices-length : (prices : List Price) (c : Column) (asked : ℤ) → length (lowered_prices prices c asked) ≡ length prices
lowered_prices-length prices c asked = prices_from-length (length prices) 0 (lowered_price prices c asked)
