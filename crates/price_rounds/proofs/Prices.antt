-- Prices after price steps and columns, and the greatest of them.
use Rattle.std.proofs.Common.{◌≡◌, ℕ, ℤ, pos, neg_ℤ, ◌+◌, ◌<◌, ◌≤◌, ◌≤ℤ◌, zero, suc, List, [], ◌∷◌, drop, length, get_or, refl, sym, ap, ◌∙◌, subst, arith, add-one}
use Rattle.std.specs.Int.{int_max}
use Rattle.std.proofs.Math.Seq.{drop-cons}
use Rattle.std.proofs.lemmas.Int.{ints, clamps}
use Rattle.plan_core.specs.declared.Price.{Price}
use Rattle.cover_core.specs.declared.Column.{Column}
use Rattle.cover_core.specs.Cover.{Problem}
use Rattle.cover_core.specs.FirstLeast.{AllWithin}
use Rattle.cover_master.specs.Method.{prices_from, starting_prices, start_price, turned_prices, turned_price, lowered_prices, lowered_price}
use Rattle.price_rounds.specs.Rounds.{greatest_of, turned_often, lowered_in_order}

pub prices_from-length : (n k : ℕ) (rule : ℕ → ℤ) → length (prices_from n k rule) ≡ n
prices_from-length zero k rule = refl
prices_from-length (suc n) k rule = ap suc (prices_from-length n (suc k) rule)

pub starting-length : (p : Problem) → length (starting_prices p) ≡ p.items
starting-length p = prices_from-length p.items 0 (start_price p)

pub turned-length : (pool : List Column) (prices : List Price) (caps : List ℕ) (size : ℤ) →
    length (turned_prices pool prices caps size) ≡ length prices
turned-length pool prices caps size = prices_from-length (length prices) 0 (turned_price pool prices caps size)

pub lowered-length : (prices : List Price) (c : Column) → length (lowered_prices prices c) ≡ length prices
lowered-length prices c = prices_from-length (length prices) 0 (lowered_price prices c)

pub drop_more : {A : Type 0} (xs : List A) (k : ℕ) (d : A) → k < length xs → drop k xs ≡ get_or xs k d ∷ drop (k + 1) xs
drop_more xs k d below = rw add-one (drop-cons xs k d below)

pub get_low : (n : ℕ) (xs : List Price) (i : ℕ) (d : Price) → i < length xs → AllWithin n xs → neg_ℤ (pos n) ≤ℤ (get_or xs i d).0
get_low n [] i d h w = absurd (omega arith)
get_low n (x ∷ xs) zero d h w = w.0
get_low n (x ∷ xs) (suc i) d h w = get_low n xs i d (omega arith) w.2

pub get_high : (n : ℕ) (xs : List Price) (i : ℕ) (d : Price) → i < length xs → AllWithin n xs → (get_or xs i d).0 ≤ℤ pos n
get_high n [] i d h w = absurd (omega arith)
get_high n (x ∷ xs) zero d h w = w.1
get_high n (x ∷ xs) (suc i) d h w = get_high n xs i d (omega arith) w.2

-- the greatest of an initial part and of what follows
pub greatest_low : (prices : List Price) → pos 0 ≤ℤ greatest_of prices
greatest_low [] = omega (arith, ints)
greatest_low (x ∷ xs) = omega (arith, ints, clamps, greatest_low xs)

pub greatest_begins : (prices : List Price) → int_max (pos 0) (greatest_of prices) ≡ greatest_of prices
greatest_begins prices = omega (arith, ints, clamps, greatest_low prices)

-- The loop goes forward and the definition from the back: the greatest so far, joined with that of the prices left, is the greatest
-- of all. One step moves a price from the second to the first.
pub greatest_goes_on : (g x m rest all from : ℤ) → m ≡ int_max x g → from ≡ int_max x rest → int_max g from ≡ all → int_max m rest ≡ all
greatest_goes_on g x m rest all from a b e = omega (arith, ints, clamps)

pub greater_low : (g x m : ℤ) → m ≡ int_max x g → pos 0 ≤ℤ g → pos 0 ≤ℤ m
greater_low g x m a low = omega (arith, ints, clamps)

pub greater_high : (g x m : ℤ) → m ≡ int_max x g → x ≤ℤ pos 10000000000000 → g ≤ℤ pos 10000000000000 → m ≤ℤ pos 10000000000000
greater_high g x m a high too = omega (arith, ints, clamps)

-- one price step more
pub turned_none : (pool : List Column) (caps : List ℕ) (size : ℤ) (prices : List Price) → prices ≡ turned_often 0 pool caps size prices
unfolding turned_often
turned_none pool caps size prices = refl

turned_next : (k : ℕ) (pool : List Column) (caps : List ℕ) (size : ℤ) (prices : List Price) →
    turned_prices pool (turned_often k pool caps size prices) caps size ≡ turned_often (suc k) pool caps size prices
unfolding turned_often
turned_next k pool caps size prices = refl

pub turned_more : (k : ℕ) (pool shown : List Column) (caps given : List ℕ) (size : ℤ) (start now new : List Price) →
    shown ≡ pool → given ≡ caps →
    now ≡ turned_often k pool caps size start → new ≡ turned_prices shown now given size → new ≡ turned_often (k + 1) pool caps size start
turned_more k pool shown caps given size start now new shows gives at made =
    let is : new ≡ turned_often (suc k) pool caps size start =
    made ∙ (ap (λ (l : List Column). turned_prices l now given size) shows ∙ (ap (λ (l : List ℕ). turned_prices pool now l size) gives
    ∙ (ap (λ (l : List Price). turned_prices pool l caps size) at ∙ turned_next k pool caps size start))) in
    let more : suc k ≡ k + 1 = omega arith in
    let P : ℕ → Type 0 = λ n. new ≡ turned_often n pool caps size start in
    subst P more is

-- one column more
pub lowered_more : (columns : List Column) (k : ℕ) (column : Column) (now new : List Price) → k < length columns →
    column ≡ get_or columns k column →
    new ≡ lowered_prices now column → lowered_in_order (drop (k + 1) columns) new ≡ lowered_in_order (drop k columns) now
lowered_more columns k column now new below is made =
    ap (λ (l : List Price). lowered_in_order (drop (k + 1) columns) l) (made ∙ ap (λ (c : Column). lowered_prices now c) is)
    ∙ sym (ap (λ (l : List Column). lowered_in_order l now) (drop_more columns k column below))
