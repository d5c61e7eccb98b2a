use Rattle.std.proofs.Common.{◌≡◌, ◌<◌, ◌+◌, ◌++◌, [], ◌∷◌, ℕ, List, length, sym, subst, arith}
use Rattle.duty_network.specs.Followers.{entry_at}
use Rattle.duty_network.proofs.Entries.{entry-before, entry-last, entry-more, split}
use Rattle.duty_network.proofs.numbering.numbers_of.Goals as goal

pub loop-item-preserved : goal.loop-item-preserved
loop-item-preserved c =
    let xs = c.loop-item.numbers.items in
    let v = c.number_of-number.result in
    let kinds = c.kinds_with-kinds.result in
    let i = c.loop-item.invariant in
    let count = i.count in
    let more = c.loop-item-test.true in
    let kept = c.kinds_with-kinds.ensures.kept in
    let above = c.kinds_with-kinds.ensures.above in
    let most = c.kinds_with-kinds.ensures.most in
    let few = i.few in
    let long = entry-more xs v in
    let last : entry_at (xs ++ v ∷ []) c.loop-item.item ≡ v =
    (let P : ℕ → Type 0 = λ n. entry_at (xs ++ v ∷ []) n ≡ v in subst P count (entry-last xs v)) in
    let P : List ℕ → Type 0 = λ l. length l ≡ c.loop-item.item + 1 in
    let Q : List ℕ → Type 0 = λ l. (k : ℕ) → k < c.loop-item.item + 1 → entry_at l k < kinds in
    record {
      within = (omega arith);
      count = subst P (sym c.in_ok-push.ensures.items) (omega arith);
      few = (omega arith);
      below = subst Q (sym c.in_ok-push.ensures.items) (λ k less. split (entry_at (xs ++ v ∷ []) k < kinds) k c.loop-item.item
          (λ e. let R : ℕ → Type 0 = λ n. entry_at (xs ++ v ∷ []) n < kinds in subst R (sym e) (omega arith))
          (λ apart. let same = entry-before xs v k (omega arith) in let own = i.below k (omega arith) in omega arith));
    }
