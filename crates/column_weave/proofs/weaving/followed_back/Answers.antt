use Rattle.std.proofs.Common.{◌≡◌, ◌<◌, ◌≤◌, ◌-◌, ◌++◌, ◌∷◌, [], ℕ, pos, false, List, length, get_or, drop, reverse, sym, ap, ◌∙◌, subst, arith}
use Rattle.std.proofs.lemmas.List.{drop_all, length-reverse}
use Rattle.cover_core.specs.Cover.{AllBelow}
use Rattle.column_weave.specs.declared.sums.Least.{Least}
use Rattle.column_weave.specs.Sums.{IsSummed}
use Rattle.column_weave.proofs.Lists.{AllBelow-push, AllBelow-reverse, AllBelow-front}
use Rattle.column_weave.proofs.weaving.followed_back.Goals as goal

pub loop-item-preserved : goal.loop-item-preserved
loop-item-preserved c =
    let n = length c.args.least.now in
    let inside = c.loop-item.invariant.inside in
    let d : Least = record { known = false; sum = pos 0; before = 0 } in
    let here : IsSummed c.loop-item.item (get_or c.args.least.now c.loop-item.item d) = c.requires.summed c.loop-item.item d inside in
    let before = here.before in
    let next : (get_or c.args.least.now c.loop-item.item d).before - 1 < n = omega arith in
    let pushed : c.push-in-loop-item.new.self.items ≡ c.loop-item.list.items ++ ((get_or c.args.least.now c.loop-item.item d).before - 1)
    ∷ [] = c.in_ok-push-2.ensures.items in
    let P : List ℕ → Type 0 = λ l. AllBelow n l in
    record {
      inside = next;
      below = subst P (sym pushed) (AllBelow-push n c.loop-item.list.items _ c.loop-item.invariant.below next);
    }

pub returns : goal.returns
returns c =
    let n = length c.args.least.now in
    let items : List ℕ = c.loop-item.list.items in
    let back : List ℕ = c.reverse.new.self in
    let is : back ≡ reverse items = c.reverse.ensures.after ∙ ap (λ (l : List ℕ). reverse l) c.as_mut_slice.ensures.value in
    let long : length back ≡ length items = ap (λ (l : List ℕ). length l) is ∙ length-reverse items in
    let end : length items ≤ length back = omega arith in
    let none : drop (length back) items ≡ [] = drop_all (length back) items end in
    let P : List ℕ → Type 0 = λ l. AllBelow n l in
    let all : AllBelow n back = subst P (sym is) (AllBelow-reverse n items c.loop-item.invariant.below) in
    AllBelow-front n c.loop-item.list.len back (drop (length back) items) all (subst P (sym none) tt)
