use Rattle.std.proofs.Common.{◌≡◌, ◌≤◌, ◌+◌, ◌++◌, List, ℕ, length, sym, ap, ◌∙◌, subst, arith}
use Rattle.cover_core.specs.Cover.{AllBelow}
use Rattle.cover_core.proofs.Duality.{AllBelow-append}
use Rattle.tail_exchange.proofs.Lists.{both-few}
use Rattle.tail_exchange.proofs.joins.joined_worth.Goals as goal

pub append-requires : goal.append-requires
append-requires g c =
    let p = g.C.Columns.problem c.args.columns.now in
    let few : length c.args.front.now + length c.args.tail.now ≤ p.items =
    both-few p.items c.args.front.now c.args.tail.now c.requires.front c.requires.tail c.requires.rises in
    let empty : length c.clear.new.self.items ≡ 0 = ap (λ (l : List ℕ). length l) c.clear.ensures in
    omega (arith, c.items-items.ensures.value, c.items-items.ensures.few)

pub append-requires-2 : goal.append-requires-2
append-requires-2 g c =
    let p = g.C.Columns.problem c.args.columns.now in
    let few : length c.args.front.now + length c.args.tail.now ≤ p.items =
    both-few p.items c.args.front.now c.args.tail.now c.requires.front c.requires.tail c.requires.rises in
    let front : length c.append.new.list.items ≡ length c.args.front.now =
    ap (λ (l : List ℕ). length l) (c.append.ensures ∙ ap (λ (l : List ℕ). l ++ c.args.front.now) c.clear.ensures) in
    omega (arith, c.items-items.ensures.value, c.items-items.ensures.few)

pub worth_of-requires-clause-items : goal.worth_of-requires-clause-items
worth_of-requires-clause-items g c =
    let p = g.C.Columns.problem c.args.columns.now in
    let front = c.append.ensures ∙ ap (λ (l : List ℕ). l ++ c.args.front.now) c.clear.ensures in
    let both = c.as_slice.ensures.value ∙ c.append-2.ensures ∙ ap (λ (l : List ℕ). l ++ c.args.tail.now) front in
    let P : List ℕ → Type 0 = λ l. AllBelow p.items l in
    subst P (sym both) (AllBelow-append p.items c.args.front.now c.args.tail.now c.requires.front c.requires.tail)
