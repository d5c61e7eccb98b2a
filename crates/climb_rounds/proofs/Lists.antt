-- Numbers of lists in range.
use Rattle.std.proofs.Common.{ℕ, ℤ, pos, neg_ℤ, ◌≤ℤ◌, ◌+◌, ◌<◌, ◌≤◌, zero, suc, List, [], ◌∷◌, ◌++◌, map, length, arith}
use Rattle.std.specs.List.{range_with_len}
use Rattle.plan_core.specs.declared.Price.{Price}
use Rattle.cover_core.specs.Cover.{Problem}
use Rattle.cover_core.specs.FirstLeast.{AllWithin}
use Rattle.cover_core.specs.Plans.{AreColumns, HasListedColumns}
use Rattle.cover_core.specs.declared.Column.{Column}
use Rattle.class_lowering.specs.Lowering.{HaveItems}
use Rattle.lagrangian_climb.specs.Choices.{AreAsked}
use Rattle.offer_estimate.specs.Scales.{AreCaps, AreLeasts, AreWorths}
use Rattle.worker_price.specs.Priced.{least_of, priced_least, LeastIsBounded, LeastIsOfLists}

pub worths_push : (zs : List ℤ) (z : ℤ) → AreWorths zs → pos 1 ≤ℤ z → z ≤ℤ pos 4000000000000 → AreWorths (zs ++ z ∷ [])
worths_push [] z h low high = (low, high, tt)
worths_push (y ∷ ys) z h low high = (h.0, h.1, worths_push ys z h.2 low high)

pub caps_push : (cs : List ℕ) (c : ℕ) → AreCaps cs → c ≤ 10000 → AreCaps (cs ++ c ∷ [])
caps_push [] c h few = (few, tt)
caps_push (d ∷ ds) c h few = (h.0, caps_push ds c h.1 few)

pub asked_push : (zs : List ℤ) (z : ℤ) → AreAsked zs → pos 0 ≤ℤ z → z ≤ℤ pos 30000000000000000 → AreAsked (zs ++ z ∷ [])
asked_push [] z h low high = (low, high, tt)
asked_push (y ∷ ys) z h low high = (h.0, h.1, asked_push ys z h.2 low high)

least_range : (f : ℕ → ℤ) (a n : ℕ) → ((k : ℕ) → k < a + n → neg_ℤ (pos 30000000000000000) ≤ℤ f k) → ((k : ℕ) → k < a + n → f k ≤ℤ pos 0) →
    AreLeasts (map f (range_with_len a n))
least_range f a zero low high = tt
least_range f a (suc n) low high =
    (low a (omega arith), high a (omega arith), least_range f (a + 1) n (λ k below. low k (omega arith)) (λ k below. high k (omega arith)))

-- the least values of a pricing step are in the range of an estimate
pub priced_leasts : (p : Problem) (prices : List Price) → LeastIsBounded p → LeastIsOfLists p → p.items ≤ 3000 →
    AllWithin 10000000000000 prices → AreLeasts (priced_least p prices)
priced_leasts p prices bounded lists few within =
    least_range (least_of p prices) 0 (length p.caps) (λ k below. bounded prices k few within (omega arith))
    (λ k below. (lists prices k (omega arith)).most)

-- columns of a problem have items
pub have_items : (p : Problem) (cs : List Column) → HasListedColumns p → AreColumns p cs → HaveItems cs
have_items p [] listed are = tt
have_items p (c ∷ cs) listed are = ((listed c.class c.items c.worth are.0.1).0, have_items p cs listed are.1)
