use Rattle.std.proofs.Common.{◌≡◌, ◌+ℤ◌, ◌-ℤ◌, ◌*ℤ◌, ℕ, ℤ, pos, List, length, get_or, sym, ap, subst, ◌∙◌, w64, to_z, of_z, to_z-of_z}
use Rattle.plan_core.specs.declared.Price.{Price}
use Rattle.cover_core.specs.Plans.{price_at}
use Rattle.cover_core.specs.FirstLeast.{AllWithin}
use Rattle.cover_master.specs.Method.{clamped, times_chosen, turned_price}
use Rattle.cover_core.proofs.Fits.{AreFit-wider}
use Rattle.std.specs.List.Sorted.{IsPermutation}
use Rattle.std.specs.Prelude.{filter}
use Rattle.cover_core.specs.declared.column_keys.ColumnKey.{ColumnKey}
use Rattle.cover_master.specs.Candidates.{is_candidate, AreLimits, gain_keys, AreCandidates}
use Rattle.cover_master.proofs.Rules.{prices_from-is, prices_from-within, clamped-within}
use Rattle.cover_master.proofs.turns.turn.Goals as goal

pub gains-requires-clause-fit : goal.gains-requires-clause-fit
gains-requires-clause-fit c =
    AreFit-wider (length c.args.prices.now.items) (length c.args.caps.now) 32 c.args.pool.now c.requires.classes c.requires.fit

pub returns-clause-turned : goal.returns-clause-turned
returns-clause-turned c =
    let prices = c.args.prices.now.items in
    let pool = c.args.pool.now in
    let caps = c.args.caps.now in
    let size : ℤ = to_z w64 (of_z w64 c.args.size) in
    let shown : size ≡ c.args.size = to_z-of_z c.ranges.size in
    let times : (i : ℕ) → get_or c.as_slice-5.result.now i 0 ≡ times_chosen pool prices caps i =
    λ i. ap (λ (l : List ℕ). get_or l i 0) c.as_slice-5.ensures ∙ c.in_ok-cover.ensures.times i in
    prices_from-is c.in_ok-items.items (length prices) (turned_price pool prices caps c.args.size) c.in_ok-items.ensures.len (λ i below.
    c.in_ok-items.ensures.moved i below ∙
    ap (λ z. clamped (price_at prices i +ℤ (z *ℤ (pos 1 -ℤ pos (get_or c.as_slice-5.result.now i 0))))) shown ∙
    ap (λ n. clamped (price_at prices i +ℤ (c.args.size *ℤ (pos 1 -ℤ pos n)))) (times i))

pub returns-clause-moderate : goal.returns-clause-moderate
returns-clause-moderate c =
    let prices = c.args.prices.now.items in
    let P : List Price → Type 0 = λ l. AllWithin 10000000000000 l in
    subst P (sym (returns-clause-turned c))
    (prices_from-within 10000000000000 (length prices) 0 (turned_price c.args.pool.now prices c.args.caps.now c.args.size)
    (λ i. clamped-within (price_at prices i +ℤ (c.args.size *ℤ (pos 1 -ℤ pos (times_chosen c.args.pool.now prices c.args.caps.now i))))))

pub cover-requires-clause-all : goal.cover-requires-clause-all
cover-requires-clause-all c =
    let prices = c.args.prices.now.items in
    let pool = c.args.pool.now in
    let caps = c.args.caps.now in
    let gains : c.in_ok-gains.gains.items ≡ gain_keys prices pool = c.in_ok-gains.ensures in
    let limits : List ℤ = c.in_ok-limits.limits.items in
    let shown : c.as_slice.result.now ≡ gain_keys prices pool = c.as_slice.ensures.value ∙ gains in
    let shown_2 : c.as_slice-2.result.now ≡ gain_keys prices pool = c.as_slice-2.ensures.value ∙ gains in
    let shown_limits : c.as_slice-3.result.now ≡ limits = c.as_slice-3.ensures.value in
    let P : List ColumnKey → Type 0 = λ l. AreLimits l caps limits in
    let Q : List ColumnKey → Type 0 = λ l. IsPermutation l c.sort_keys.new.keys.items in
    let R : List ColumnKey → Type 0 = λ l. AreCandidates prices pool caps l in
    let are : AreLimits (gain_keys prices pool) caps limits = subst P shown c.in_ok-limits.ensures in
    let kept : c.in_ok-keys.keys.items ≡ filter (is_candidate limits) (gain_keys prices pool) =
    c.in_ok-keys.ensures ∙ ap (λ (l : List ℤ). filter (is_candidate l) c.as_slice-2.result.now) shown_limits
    ∙ ap (λ (l : List ColumnKey). filter (is_candidate limits) l) shown_2 in
    let all : IsPermutation (filter (is_candidate limits) (gain_keys prices pool)) c.sort_keys.new.keys.items =
    subst Q kept c.in_ok-sort_keys.ensures.permutation in
    subst R (sym c.as_slice-4.ensures.value) (record { limits = limits; are = are; all = all })
