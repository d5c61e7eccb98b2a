use Rattle.std.proofs.Common.{◌≤◌, sym, subst, rules}
use Rattle.cover_core.specs.declared.Column.{Column}
use Rattle.cover_core.proofs.Values.{AreCheap-get}
use Rattle.umlauf_write.proofs.blocks.cost_rows.Goals as goal

pub cost_row-requires : goal.cost_row-requires
cost_row-requires c =
    let P : Column → Type 0 = λ block. block.worth ≤ 4000000000 in
    subst P (sym c.index-blocks-place.is)
    (AreCheap-get c.args.blocks.now c.loop-place.place c.index-blocks-place.result c.requires.cheap (search rules))
