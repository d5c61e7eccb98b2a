-- What is priced consists of columns of the problem, and its least values make prices that are paid.
use Rattle.std.proofs.Common.{◌≡◌, ℕ, ℤ, neg_ℤ, pos, ◌+◌, ◌<◌, ◌≤◌, ◌≤ℤ◌, zero, suc, List, [], ◌∷◌, map, length, Option, Some, None, All, refl, sym, ap, ◌∙◌, subst, arith, filter_map}
use Rattle.std.specs.List.{range_with_len, flat_map, cons_option}
use Rattle.std.proofs.lemmas.Int.{ints}
use Rattle.std.proofs.lemmas.List.Elements.{All-nil, All-cons, All-head, All-tail, All-append, All-filter}
use Rattle.std.proofs.lemmas.List.FromFn.{length-map-range_with_len}
use Rattle.plan_core.specs.declared.Price.{Price}
use Rattle.cover_core.specs.declared.Column.{Column}
use Rattle.cover_core.specs.Cover.{Problem}
use Rattle.cover_core.specs.Plans.{IsColumn, AreColumns, IsPaid, WeakDuality, number_at, bound_of, cost}
use Rattle.cover_core.specs.FirstLeast.{AllWithin, IsAtMostAll, LeastIsPaid, class_prices_of}
use Rattle.cover_core.specs.Best.{best_of}
use Rattle.cover_core.specs.Laws.{BestIsFirstLeast}
use Rattle.dual_bound.specs.declared.kept.Kept.{Kept}
use Rattle.dual_bound.specs.Ranges.{AreAtLeast}
use Rattle.worker_price.specs.Priced.{groups_of, first_leasts, is_kept, least_value, kept_columns, priced_columns, least_of, priced_least, LeastIsOfLists, LeastIsBounded}
use Rattle.worker_price.specs.Work.{ArePricesFor}
use Rattle.price_rounds.specs.Steps.{IsOffer}
use Rattle.price_rounds.specs.Rounds.{IsBoundOf}

from_all : (p : Problem) (cs : List Column) → All (IsColumn p) cs → AreColumns p cs
from_all p [] h = tt
from_all p (c ∷ cs) h = (All-head (IsColumn p) c cs h, from_all p cs (All-tail (IsColumn p) c cs h))

option_all : (p : Problem) (o : Option Column) (cs : List Column) → ((c : Column) → o ≡ Some c → IsColumn p c) → All (IsColumn p) cs →
    All (IsColumn p) (cons_option o cs)
option_all p None cs h rest = rest
option_all p (Some c) cs h rest = All-cons (IsColumn p) c cs (h c refl) rest

range_all : (p : Problem) (f : ℕ → Option Column) (a n : ℕ) → ((g : ℕ) (c : Column) → f g ≡ Some c → IsColumn p c) →
    All (IsColumn p) (filter_map f (range_with_len a n))
range_all p f a zero h = All-nil (IsColumn p)
range_all p f a (suc n) h = option_all p (f a) (filter_map f (range_with_len (a + 1) n)) (h a) (range_all p f (a + 1) n h)

classes_all : (p : Problem) (prices : List Price) (a n : ℕ) → BestIsFirstLeast p → a + n ≤ length p.caps →
    All (IsColumn p) (flat_map (λ class. kept_columns prices (first_leasts p prices class)) (range_with_len a n))
classes_all p prices a zero best low = All-nil (IsColumn p)
classes_all p prices a (suc n) best low =
    let class : a < length p.caps = omega arith in
    let firsts : All (IsColumn p) (first_leasts p prices a) =
    range_all p (best_of p prices a) 0 (groups_of p.items) (λ g c is. ((best prices a g class).is_first_least c is).listed) in
    All-append (IsColumn p) (kept_columns prices (first_leasts p prices a))
    (flat_map (λ class. kept_columns prices (first_leasts p prices class)) (range_with_len (a + 1) n))
    (All-filter (is_kept prices (least_value prices (first_leasts p prices a))) (IsColumn p) (first_leasts p prices a) firsts)
    (classes_all p prices (a + 1) n best (omega arith))

-- What a pool is fed with are columns of the problem: each is the first least of its class and group. So a pool has columns of the
-- problem alone, which is all that rounding asks of it.
pub priced_are_columns : (p : Problem) (prices : List Price) → BestIsFirstLeast p → AreColumns p (priced_columns p prices)
priced_are_columns p prices best = from_all p (priced_columns p prices) (classes_all p prices 0 (length p.caps) best (omega arith))

at_least : (low : ℤ) (f : ℕ → ℤ) (a n : ℕ) → ((k : ℕ) → k < a + n → low ≤ℤ f k) → AreAtLeast low (map f (range_with_len a n))
at_least low f a zero h = tt
at_least low f a (suc n) h = (h a (omega arith), at_least low f (a + 1) n (λ k below. h k (omega arith)))

deeper : (z : ℤ) → neg_ℤ (pos 30000000000000000) ≤ℤ z → neg_ℤ (pos 1000000000000000000) ≤ℤ z
deeper z h = omega (arith, ints)

pub least_is_low : (p : Problem) (prices : List Price) → LeastIsBounded p → p.items ≤ 3000 → AllWithin 10000000000000 prices →
    AreAtLeast (neg_ℤ (pos 1000000000000000000)) (priced_least p prices)
least_is_low p prices bounded few within =
    at_least (neg_ℤ (pos 1000000000000000000)) (least_of p prices) 0 (length p.caps)
    (λ k below. deeper (least_of p prices k) (bounded prices k few within (omega arith)))

pub least_length : (p : Problem) (prices : List Price) → length (priced_least p prices) ≡ length p.caps
least_length p prices = length-map-range_with_len (least_of p prices) 0 (length p.caps)

number_in : (f : ℕ → ℤ) (a n i : ℕ) → i < n → number_at (map f (range_with_len a n)) i ≡ f (a + i)
number_in f a zero i below = absurd (omega arith)
number_in f a (suc n) zero below = (let e : a ≡ a + 0 = omega arith in ap f e)
number_in f a (suc n) (suc i) below = number_in f (a + 1) n i (omega arith) ∙ (let e : (a + 1) + i ≡ a + suc i = omega arith in ap f e)

number_of_class : (p : Problem) (prices : List Price) (class : ℕ) → class < length p.caps →
    least_of p prices class ≡ number_at (priced_least p prices) class
number_of_class p prices class low =
    sym (number_in (least_of p prices) 0 (length p.caps) class low ∙ (let e : 0 + class ≡ class = omega arith in ap (least_of p prices) e))

-- prices are paid with the class prices of their least values
pub offer_paid : (p : Problem) (prices : List Price) → LeastIsOfLists p → LeastIsPaid p →
    IsPaid p prices (class_prices_of (priced_least p prices))
offer_paid p prices lists paid =
    paid prices (priced_least p prices) (least_length p prices)
    (λ class low. let P : ℤ → Type 0 = λ z. IsAtMostAll p prices class z in
    subst P (number_of_class p prices class low) (lists prices class low).below)

class_prices_length : (zs : List ℤ) → length (class_prices_of zs) ≡ length zs
class_prices_length [] = refl
class_prices_length (z ∷ zs) = ap suc (class_prices_length zs)

pub kept_prices : (p : Problem) (kept : Kept) → IsOffer p kept → ArePricesFor p kept.prices.items
kept_prices p kept offer =
    let P : Kept → Type 0 = λ k. ArePricesFor p k.prices.items in
    subst P (sym offer.is) offer.ready

pub kept_class_prices : (p : Problem) (kept : Kept) → IsOffer p kept → length kept.class_prices ≡ length p.caps
kept_class_prices p kept offer =
    ap (λ (k : Kept). length k.class_prices) offer.is ∙ (class_prices_length (priced_least p offer.prices) ∙ least_length p offer.prices)

pub kept_bound_is : (p : Problem) (kept : Kept) → IsOffer p kept → kept.bound ≡ bound_of kept.prices.items kept.class_prices p.caps
kept_bound_is p kept offer =
    let P : Kept → Type 0 = λ k. k.bound ≡ bound_of k.prices.items k.class_prices p.caps in
    subst P (sym offer.is) refl

pub kept_is_paid : (p : Problem) (kept : Kept) → LeastIsOfLists p → LeastIsPaid p → IsOffer p kept →
    IsPaid p kept.prices.items kept.class_prices
kept_is_paid p kept lists paid offer =
    let P : Kept → Type 0 = λ k. IsPaid p k.prices.items k.class_prices in
    subst P (sym offer.is) (offer_paid p offer.prices lists paid)

-- The kept bound is a bound: any offer has class prices made of the least values of its prices, which are those of all lists; so it
-- is paid, and weak duality does the rest. That it is the greatest of all offers makes it a good one, and plays no part in the
-- proof.
pub kept_is_bound : (p : Problem) (kept : Kept) → LeastIsOfLists p → LeastIsPaid p → WeakDuality p → IsOffer p kept → IsBoundOf p kept.bound
kept_is_bound p kept lists paid duality offer = λ columns plan.
    let P : Kept → Type 0 = λ k. k.bound ≤ cost columns in
    subst P (sym offer.is)
    (duality offer.prices (class_prices_of (priced_least p offer.prices)) offer.ready.0
    (class_prices_length (priced_least p offer.prices) ∙ least_length p offer.prices) (offer_paid p offer.prices lists paid) columns plan)
