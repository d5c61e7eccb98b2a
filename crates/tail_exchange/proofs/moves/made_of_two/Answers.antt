use Rattle.std.proofs.Common.{◌++◌, List, ℕ, sym, ap, ◌∙◌, subst}
use Rattle.cover_core.specs.Cover.{AllBelow}
use Rattle.cover_core.proofs.Duality.{AllBelow-append}
use Rattle.tail_exchange.proofs.moves.made_of_two.Goals as goal

pub column_of_list-requires-clause-items : goal.column_of_list-requires-clause-items
column_of_list-requires-clause-items g c =
    let p = g.C.Columns.problem c.args.columns.now in
    let both = c.as_slice.ensures.value ∙ c.in_ok-extend_from_slice.ensures.items
    ∙ ap (λ (l : List ℕ). l ++ c.args.tail.now) c.in_ok-list.ensures.items in
    let P : List ℕ → Type 0 = λ l. AllBelow p.items l in
    subst P (sym both) (AllBelow-append p.items c.args.front.now c.args.tail.now c.requires.front c.requires.tail)
