-- Weak duality of a set partitioning problem: no plan costs less than the bound of paid prices.
use Rattle.std.proofs.Common.{◌≡◌, ℕ, ℤ, pos, negsuc, ◌+ℤ◌, ◌*ℤ◌, ◌≤ℤ◌, ◌*◌, ◌≤◌, zero, suc, List, [], ◌∷◌, ◌++◌, length, get_or, refl, ap, ◌∙◌, arith}
use Rattle.std.proofs.lemmas.Int.{ints}
use Rattle.plan_core.specs.declared.Price.{Price}
use Rattle.cover_core.specs.declared.Column.{Column}
use Rattle.cover_core.specs.Cover.{Problem, AllBelow}
use Rattle.cover_core.specs.Plans.{HasListedColumns, AreColumns, times, all_items, all_classes, cost, price_at, price_of, all_prices, number_at, IsPaid, rent, thousandth, bound_of, IsPlan, WeakDuality, value_of}
use Rattle.cover_core.specs.FirstLeast.{class_price_of, class_prices_of, LeastIsPaid}
use Rattle.cover_core.specs.Laws.{CoveringIsPaid}
use Rattle.cover_core.proofs.Sums.{sum_first, sum_each, sum_first-same, sum_first-mono, sum_first-front, sum_each-append, sum_each-times, product-mono}

pub price_of-is : (prices : List Price) (xs : List ℕ) → price_of prices xs ≡ sum_each (price_at prices) xs
price_of-is prices [] = refl
price_of-is prices (x ∷ xs) = omega (arith, ints, price_of-is prices xs)

pub all_prices-is : (prices : List Price) → all_prices prices ≡ sum_first (price_at prices) (length prices)
all_prices-is [] = refl
all_prices-is (x ∷ xs) = omega (arith, ints, all_prices-is xs, sum_first-front (price_at (x ∷ xs)) (length xs))

pub rent-is : (caps : List ℕ) (zs : List ℤ) → length zs ≡ length caps →
    rent caps zs ≡ sum_first (λ k. pos (get_or caps k 0) *ℤ number_at zs k) (length caps)
rent-is [] zs h = refl
rent-is (cap ∷ caps) [] h = absurd (omega arith)
rent-is (cap ∷ caps) (z ∷ zs) h =
    omega (
      arith,
      ints,
      rent-is caps zs (omega arith),
      sum_first-front (λ k. pos (get_or (cap ∷ caps) k 0) *ℤ number_at (z ∷ zs) k) (length caps),
    )

pub AllBelow-append : (n : ℕ) (xs ys : List ℕ) → AllBelow n xs → AllBelow n ys → AllBelow n (xs ++ ys)
AllBelow-append n [] ys h k = k
AllBelow-append n (x ∷ xs) ys h k = (h.0, AllBelow-append n xs ys h.1 k)

pub all_items-below : (p : Problem) (columns : List Column) → HasListedColumns p → AreColumns p columns →
    AllBelow p.items (all_items columns)
all_items-below p [] l h = tt
all_items-below p (c ∷ cs) l h =
    AllBelow-append p.items c.items (all_items cs) (l c.class c.items c.worth h.0.1).2 (all_items-below p cs l h.1)

pub all_classes-below : (p : Problem) (columns : List Column) → AreColumns p columns → AllBelow (length p.caps) (all_classes columns)
all_classes-below p [] h = tt
all_classes-below p (c ∷ cs) h = (h.0.0, all_classes-below p cs h.1)

-- The prices of all columns are at most their costs and class prices. Where prices are paid this holds of each column by itself, in
-- thousandths of a cost unit; by induction over the columns both sides add up.
pub charges : (p : Problem) (prices : List Price) (zs : List ℤ) (columns : List Column) → IsPaid p prices zs → AreColumns p columns →
    sum_each (price_at prices) (all_items columns) ≤ℤ (pos (1000 * cost columns) +ℤ sum_each (number_at zs) (all_classes columns))
charges p prices zs [] paid h = omega (arith, ints)
charges p prices zs (c ∷ cs) paid h =
    let r : sum_each (price_at prices) (all_items cs) ≤ℤ (pos (1000 * cost cs) +ℤ sum_each (number_at zs) (all_classes cs)) =
    charges p prices zs cs paid h.1 in
    let one : price_of prices c.items ≤ℤ (pos (1000 * c.worth) +ℤ number_at zs c.class) =
    paid.covered c.class c.items c.worth h.0.0 h.0.1 in
    omega (arith, ints, sum_each-append (price_at prices) c.items (all_items cs), price_of-is prices c.items)

pub thousandth-le : (z : ℤ) (n : ℕ) → z ≤ℤ pos (1000 * n) → thousandth z ≤ n
thousandth-le (pos m) n h = let k : m ≤ 1000 * n = omega (arith, ints) in omega arith
thousandth-le (negsuc m) n h = omega arith

-- Weak duality: no plan costs less than the bound of paid prices. The inequality of each column is added up (`charges`), and both
-- sums are counted anew. Prices by items: each item stands in the plan once, so they are the sum of all prices. Class prices by
-- classes: no class has more columns than its cap and no class price is below 0, so at most cap times class price is taken. Costs
-- are whole numbers, so a thousandth may be rounded up. That items are there is a premise, so that it serves columns for which the
-- law of the problem is not known.
pub weak_duality-below : (p : Problem) (prices : List Price) (zs : List ℤ) → length prices ≡ p.items →
    length zs ≡ length p.caps → IsPaid p prices zs →
    (columns : List Column) → AllBelow p.items (all_items columns) → IsPlan p columns → bound_of prices zs p.caps ≤ cost columns
weak_duality-below p prices zs prices-length zs-length paid columns below plan =
    let classes-below : AllBelow (length p.caps) (all_classes columns) = all_classes-below p columns plan.worths in
    let total : all_prices prices ≡ sum_first (price_at prices) p.items =
    all_prices-is prices ∙ ap (sum_first (price_at prices)) prices-length in
    let spread : sum_each (price_at prices) (all_items columns) ≡ sum_first (λ i. pos (times i (all_items columns)) *ℤ price_at prices i)
    p.items = sum_each-times _ _ _ below in
    let once : sum_first (λ i. pos (times i (all_items columns)) *ℤ price_at prices i) p.items ≡ sum_first (price_at prices) p.items =
    sum_first-same _ _ _ (λ i h. let one : times i (all_items columns) ≡ 1 = plan.once i h in rw one (omega (arith, ints))) in
    let places : sum_each (number_at zs) (all_classes columns) ≡ sum_first (λ k. pos (times k (all_classes columns)) *ℤ number_at zs k)
    (length p.caps) = sum_each-times _ _ _ classes-below in
    let capped : sum_first (λ k. pos (times k (all_classes columns)) *ℤ number_at zs k) (length p.caps) ≤ℤ sum_first
    (λ k. pos (get_or p.caps k 0) *ℤ number_at zs k) (length p.caps) =
    sum_first-mono _ _ _ (λ k h. product-mono (times k (all_classes columns)) (get_or p.caps k 0) (number_at zs k)
    (plan.caps k h) (paid.charged k h)) in
    let costs = charges p prices zs columns paid plan.worths in
    thousandth-le _ _ (omega (arith, ints, rent-is p.caps zs zs-length))

-- The same of every problem whose lists with a worth have items that are there. Each printed bound rests on this and on paid prices
-- alone, and on nothing that was done to find them.
pub weak_duality : (p : Problem) → HasListedColumns p → WeakDuality p
weak_duality p listed prices zs prices-length zs-length paid columns plan =
    weak_duality-below p prices zs prices-length zs-length paid columns (all_items-below p columns listed plan.worths) plan

pub class_price_of-charged : (z : ℤ) → pos 0 ≤ℤ class_price_of z
class_price_of-charged (pos n) = omega (arith, ints)
class_price_of-charged (negsuc n) = omega (arith, ints)

pub class_price_of-covers : (z : ℤ) → pos 0 ≤ℤ (z +ℤ class_price_of z)
class_price_of-covers (pos n) = omega (arith, ints)
class_price_of-covers (negsuc n) = omega (arith, ints)

pub class_prices_of-at : (least : List ℤ) (k : ℕ) → number_at (class_prices_of least) k ≡ class_price_of (number_at least k)
class_prices_of-at [] k = refl
class_prices_of-at (z ∷ zs) zero = refl
class_prices_of-at (z ∷ zs) (suc k) = class_prices_of-at zs k

-- Class prices that are made of least values are paid: a class price is minus the least value or 0, so it is at least 0 and at
-- least minus the value of any list of the class. So pricing need only find the least value of each class, and need not find it by
-- looking at all.
pub least_is_paid : (p : Problem) → LeastIsPaid p
least_is_paid p prices least same at_most = record {
  charged = λ class below. rw (class_prices_of-at least class) (class_price_of-charged (number_at least class));
  covered = λ class list worth below has.
      let bound : number_at least class ≤ℤ value_of prices worth list = at_most class below list worth has in
      rw (class_prices_of-at least class) (omega (arith, ints, class_price_of-covers (number_at least class)));
}

-- Class prices may also be higher than least values ask: it is enough that each is at least 0 and that with the least value of its
-- class it comes to 0 or more. A list has a value no less than the least one, and so none below minus the class price.
pub covering_is_paid : (p : Problem) → CoveringIsPaid p
covering_is_paid p prices class_prices least charged covering at_most = record {
  charged = charged;
  covered = λ class list worth below has.
      let bound : number_at least class ≤ℤ value_of prices worth list = at_most class below list worth has in
      let enough = covering class below in
      omega (arith, ints);
}
