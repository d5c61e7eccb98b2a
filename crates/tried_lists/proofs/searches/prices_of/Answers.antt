use Rattle.std.proofs.Common.{◌≡◌, pos, neg_ℤ, ◌≤ℤ◌, List, [], ◌∷◌, ◌++◌, sym, subst}
use Rattle.plan_core.specs.declared.Price.{Price}
use Rattle.cover_core.specs.FirstLeast.{AllWithin}
use Rattle.tried_lists.proofs.searches.prices_of.Goals as goal

within-push : (xs : List Price) (x : Price) → AllWithin 10000000000000 xs → neg_ℤ (pos 10000000000000) ≤ℤ x.0 → x.0 ≤ℤ pos 10000000000000 →
    AllWithin 10000000000000 (xs ++ x ∷ [])
within-push [] x h low high = (low, high, tt)
within-push (y ∷ ys) x h low high = (h.0, h.1, within-push ys x h.2 low high)

pub loop-value-preserved : goal.loop-value-preserved
loop-value-preserved c =
    let pushed : c.push.new.self ≡ c.loop-value.items ++ c.price.result ∷ [] = c.in_ok-push.ensures.ok in
    let P : List Price → Type 0 = λ l. AllWithin 10000000000000 l in
    subst P (sym pushed) (within-push c.loop-value.items c.price.result c.loop-value.invariant c.price.ensures.low c.price.ensures.high)
