-- Sums of prices and rents over the initial part of a list, and how large they are.
use Rattle.std.proofs.Common.{◌≡◌, ℕ, ℤ, pos, neg_ℤ, negsuc, ◌+ℤ◌, ◌*ℤ◌, ◌≤ℤ◌, ◌+◌, ◌<◌, zero, suc, List, [], ◌∷◌, ◌++◌, length, get_or, take, refl, ap, ◌∙◌, arith, add-one}
use Rattle.std.proofs.lemmas.Int.{ints}
use Rattle.std.proofs.lemmas.List.{take_more}
use Rattle.plan_core.specs.declared.Price.{Price}
use Rattle.cover_core.specs.Plans.{all_prices, rent, number_at}
use Rattle.cover_core.specs.FirstLeast.{AllWithin, class_price_of, class_prices_of}
use Rattle.dual_bound.specs.Ranges.{AreAtLeast}

all_prices-append : (xs ys : List Price) → all_prices (xs ++ ys) ≡ all_prices xs +ℤ all_prices ys
all_prices-append [] ys = omega (arith, ints)
all_prices-append (x ∷ xs) ys = omega (arith, ints, all_prices-append xs ys)

pub all_prices-take : (xs : List Price) (i : ℕ) (d : Price) → i < length xs →
    all_prices (take (i + 1) xs) ≡ all_prices (take i xs) +ℤ (get_or xs i d).0
all_prices-take xs i d h = ap all_prices (take_more xs i d h) ∙ all_prices-append (take i xs) (get_or xs i d ∷ []) ∙ (omega (arith, ints))

pub AllWithin-low : (n : ℕ) (xs : List Price) (i : ℕ) (d : Price) → i < length xs → AllWithin n xs → neg_ℤ (pos n) ≤ℤ (get_or xs i d).0
AllWithin-low n [] i d h w = absurd (omega arith)
AllWithin-low n (x ∷ xs) zero d h w = w.0
AllWithin-low n (x ∷ xs) (suc i) d h w = AllWithin-low n xs i d (omega arith) w.2

pub AllWithin-high : (n : ℕ) (xs : List Price) (i : ℕ) (d : Price) → i < length xs → AllWithin n xs → (get_or xs i d).0 ≤ℤ pos n
AllWithin-high n [] i d h w = absurd (omega arith)
AllWithin-high n (x ∷ xs) zero d h w = w.1
AllWithin-high n (x ∷ xs) (suc i) d h w = AllWithin-high n xs i d (omega arith) w.2

-- moderate prices are within the wider range of a bound
pub AllWithin-wider : (xs : List Price) → AllWithin 10000000000000 xs → AllWithin 3000000000000000 xs
AllWithin-wider [] w = tt
AllWithin-wider (x ∷ xs) w = let low = w.0 in let high = w.1 in (omega (arith, ints), omega (arith, ints), AllWithin-wider xs w.2)

rent-more : (caps : List ℕ) (zs : List ℤ) (i : ℕ) → i < length caps → i < length zs →
    rent (take (suc i) caps) zs ≡ rent (take i caps) zs +ℤ (pos (get_or caps i 0) *ℤ number_at zs i)
rent-more [] zs i h k = absurd (omega arith)
rent-more (cap ∷ caps) [] i h k = absurd (omega arith)
rent-more (cap ∷ caps) (z ∷ zs) zero h k = omega (arith, ints)
rent-more (cap ∷ caps) (z ∷ zs) (suc i) h k = omega (arith, ints, rent-more caps zs i (omega arith) (omega arith))

pub rent-take : (caps : List ℕ) (zs : List ℤ) (i : ℕ) → i < length caps → i < length zs →
    rent (take (i + 1) caps) zs ≡ rent (take i caps) zs +ℤ (pos (get_or caps i 0) *ℤ number_at zs i)
rent-take caps zs i h k = rw add-one (rent-more caps zs i h k)

pub AreAtLeast-get : (low : ℤ) (zs : List ℤ) (i : ℕ) (d : ℤ) → i < length zs → AreAtLeast low zs → low ≤ℤ get_or zs i d
AreAtLeast-get low [] i d h w = absurd (omega arith)
AreAtLeast-get low (z ∷ zs) zero d h w = w.0
AreAtLeast-get low (z ∷ zs) (suc i) d h w = AreAtLeast-get low zs i d (omega arith) w.1

class_price_of-charged : (z : ℤ) → pos 0 ≤ℤ class_price_of z
class_price_of-charged (pos n) = omega (arith, ints)
class_price_of-charged (negsuc n) = omega (arith, ints)

pub class_prices_of-charged : (zs : List ℤ) → AreAtLeast (pos 0) (class_prices_of zs)
class_prices_of-charged [] = tt
class_prices_of-charged (z ∷ zs) = (class_price_of-charged z, class_prices_of-charged zs)

pub length-class_prices_of : (zs : List ℤ) → length (class_prices_of zs) ≡ length zs
length-class_prices_of [] = refl
length-class_prices_of (z ∷ zs) = omega (arith, length-class_prices_of zs)

class_prices_of-append : (xs ys : List ℤ) → class_prices_of (xs ++ ys) ≡ class_prices_of xs ++ class_prices_of ys
class_prices_of-append [] ys = refl
class_prices_of-append (x ∷ xs) ys = ap (λ l. class_price_of x ∷ l) (class_prices_of-append xs ys)

pub class_prices_of-take : (zs : List ℤ) (i : ℕ) (d : ℤ) → i < length zs →
    class_prices_of (take (i + 1) zs) ≡ class_prices_of (take i zs) ++ class_price_of (get_or zs i d) ∷ []
class_prices_of-take zs i d h = ap class_prices_of (take_more zs i d h) ∙ class_prices_of-append (take i zs) (get_or zs i d ∷ [])
