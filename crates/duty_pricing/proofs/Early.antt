-- Labels by prices that are the same before an end are the same for lists that end before it: a mark reads the prices of its list's
-- pieces alone.
use Rattle.std.proofs.Common.{◌≡◌, ℕ, neg_ℤ, pos, ◌≤ℤ◌, ◌-◌, ◌<◌, ◌≤◌, zero, suc, List, [], ◌∷◌, ◌++◌, length, take, replicate, refl, sym, ap, ◌∙◌, cond, arith}
use Rattle.std.proofs.lemmas.Int.{ints}
use Rattle.std.specs.Prelude.{Option, Some, None, slice_get}
use Rattle.plan_core.specs.declared.types.Price.{Price}
use Rattle.cover_core.specs.Cover.{AllBelow}
use Rattle.cover_core.specs.FirstLeast.{AllWithin}
use Rattle.cover_core.specs.Labels.{label_after}
use Rattle.cover_core.specs.Plans.{price_at}
use Rattle.cover_core.specs.declared.marks.Mark.{Mark}
use Rattle.label_search.specs.Pricing.{is_between}
use Rattle.plan_params.specs.declared.rows.group.Group.{Group}
use Rattle.duty_network.specs.Duties.{DutyFacts}
use Rattle.duty_network.specs.Marks.{closed_value, extended_mark, first_mark}
use Rattle.duty_pricing.specs.Early.{priced_before}
use Rattle.duty_pricing.specs.Laws.{duty_labels}
use Rattle.duty_network.proofs.Better.{Some-same}
use Rattle.tie_search.specs.Before.{AreSameBefore, CloseAlike}

abbrev least : Price
least = record { 0 = neg_ℤ (pos 10000000000000) }

take-within : (n end : ℕ) (prices : List Price) → AllWithin n prices → AllWithin n (take end prices)
take-within n zero prices h = tt
take-within n (suc end) [] h = tt
take-within n (suc end) (x ∷ xs) h = (h.0, h.1, take-within n end xs h.2)

append-within : (n : ℕ) (xs ys : List Price) → AllWithin n xs → AllWithin n ys → AllWithin n (xs ++ ys)
append-within n [] ys h k = k
append-within n (x ∷ xs) ys h k = (h.0, h.1, append-within n xs ys h.2 k)

same-within : (n count : ℕ) (x : Price) → neg_ℤ (pos n) ≤ℤ x.0 → x.0 ≤ℤ pos n → AllWithin n (replicate count x)
same-within n zero x low high = tt
same-within n (suc count) x low high = (low, high, same-within n count x low high)

pub before-within : (end : ℕ) (prices : List Price) → AllWithin 10000000000000 prices → AllWithin 10000000000000 (priced_before end prices)
before-within end prices h =
    append-within 10000000000000 (take end prices) (replicate (length prices - end) least) (take-within 10000000000000 end prices h)
    (same-within 10000000000000 (length prices - end) least (omega (arith, ints)) (omega (arith, ints)))

take-price : (end k : ℕ) (prices rest : List Price) → k < end → k < length prices → price_at (take end prices ++ rest) k ≡ price_at prices k
take-price zero k prices rest h there = absurd (omega arith)
take-price (suc end) k [] rest h there = absurd (omega arith)
take-price (suc end) zero (x ∷ xs) rest h there = refl
take-price (suc end) (suc k) (x ∷ xs) rest h there = take-price end k xs rest (omega arith) (omega arith)

pub before-price : (end : ℕ) (prices : List Price) → end ≤ length prices → (k : ℕ) → k < end →
    price_at (priced_before end prices) k ≡ price_at prices k
before-price end prices there k h = take-price end k prices (replicate (length prices - end) least) h (omega arith)

module _ (d : DutyFacts) (class : ℕ) (g : Group) (prices early : List Price) where
  first-same : (k : ℕ) → price_at early k ≡ price_at prices k → first_mark d early class g k ≡ first_mark d prices class g k
  first-same k e = rw e refl

  extended-same : (m : Mark) (k : ℕ) → price_at early k ≡ price_at prices k → extended_mark d g early m k ≡ extended_mark d g prices m k
  extended-same m k e = rw e refl

  module _ (first stop end : ℕ) (alike : (k : ℕ) → k < end → price_at early k ≡ price_at prices k) where
    after-same : (o : Option Mark) (xs : List ℕ) → AllBelow end xs →
        label_after (duty_labels d early class g first stop) o xs ≡ label_after (duty_labels d prices class g first stop) o xs
    after-same None [] h = refl
    after-same None (x ∷ xs) h = refl
    after-same (Some m) [] h = refl
    after-same (Some m) (x ∷ xs) h =
        ap (λ o. label_after (duty_labels d early class g first stop) o xs) (extended-same m x (alike x h.0))
        ∙ after-same (extended_mark d g prices m x) xs h.1

    -- A list whose pieces all come before an end has the same mark by the prices and by those that are the same before the end: its
    -- first mark and each extension read the price of their own piece alone (`first-same`, `extended-same`). The search before an
    -- end may therefore use prices under which going on behind the end never pays.
    label-same : AreSameBefore (duty_labels d prices class g first stop) (duty_labels d early class g first stop) end
    label-same [] h = refl
    label-same (x ∷ xs) h =
        ap (λ o. label_after (duty_labels d early class g first stop) (cond (is_between first stop x) o None) xs)
        (first-same x (alike x h.0)) ∙
        after-same (cond (is_between first stop x) (first_mark d prices class g x) None) xs h.1

-- the same of labels whose parts are known by equations
module _ (d n m : DutyFacts) (prices own early other : List Price) (class c1 c2 : ℕ) (g h : Group) (first f1 f2 stop t1 t2 : ℕ)
    (of_n : n ≡ d) (of_m : m ≡ d) (of_g : slice_get d.params.groups class ≡ Some g)
    (of_h : slice_get d.params.groups class ≡ Some h) where
  one-group : g ≡ h
  one-group = Some-same g h (sym of_g ∙ of_h)

  pub made-same : (end : ℕ) → own ≡ prices → other ≡ early → c1 ≡ class → c2 ≡ class → f1 ≡ first → f2 ≡ first → t1 ≡ stop → t2 ≡ stop →
      ((k : ℕ) → k < end → price_at early k ≡ price_at prices k) →
      AreSameBefore (duty_labels n own c1 g f1 t1) (duty_labels m other c2 h f2 t2) end
  made-same end of_own of_other of_c1 of_c2 of_f1 of_f2 of_t1 of_t2 alike =
      rw (of_n, of_m, of_own, of_other, of_c1, of_c2, of_f1, of_f2, of_t1, of_t2, one-group)
      (label-same d class h prices early first stop end alike)

  pub made-alike : CloseAlike (closed_value n g) (closed_value m h)
  made-alike = λ a. rw (of_n, of_m, one-group) refl
