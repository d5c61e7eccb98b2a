use Rattle.std.proofs.Common.{◌≡◌, ◌<◌, ℕ, zero, suc, List, [], ◌∷◌, length, get_or, refl, sym, ap, ◌∙◌, subst, arith, All}
use Rattle.column_weave.specs.declared.link.Link.{Link}
use Rattle.column_weave.specs.Sums.{IsReach}
use Rattle.column_weave.proofs.weaving.next_least.Goals as goal

any-default : (ls : List (List Link)) (i : ℕ) (d e : List Link) → i < length ls → get_or ls i d ≡ get_or ls i e
any-default [] i d e h = absurd (omega arith)
any-default (l ∷ ls) zero d e h = refl
any-default (l ∷ ls) (suc i) d e h = any-default ls i d e (omega arith)

pub returns-then-fixed-item : goal.returns-then-fixed-item
returns-then-fixed-item c = c.no_list.ensures (length c.args.least.now)

pub least_at-requires-clause-links : goal.least_at-requires-clause-links
least_at-requires-clause-links c =
    let n = length c.args.least.now in
    let into : List (List Link) = c.args.links.now.into.items in
    let list : List Link = c.index-into-item.result in
    let next = c.requires.next in
    let long = c.requires.links.one_list in
    let inside : n < length into = omega arith in
    let at_slice : list ≡ get_or into n list =
    c.index-into-item.is ∙ ap (λ (l : List (List Link)). get_or l n list) c.as_slice-into.ensures.value in
    let at : list ≡ get_or into n [] = at_slice ∙ any-default into n list [] inside in
    let P : List Link → Type 0 = λ l. All (IsReach n) l in
    subst P (sym (c.as_slice-2.ensures ∙ at)) (c.requires.links.reach n)
