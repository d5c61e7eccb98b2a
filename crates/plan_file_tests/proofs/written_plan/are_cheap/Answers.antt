use Rattle.std.proofs.Common.{◌≤◌, List, [], ◌∷◌, All}
use Rattle.std.proofs.lemmas.List.Elements.{All-head, All-tail}
use Rattle.cover_core.specs.declared.Column.{Column}
use Rattle.cover_core.specs.FirstLeast.{AreCheap}
use Rattle.plan_file_tests.proofs.written_plan.are_cheap.Goals as goal

abbrev IsCheap : Column → Type 0
IsCheap column = column.worth ≤ 4000000000

AreCheap-from : (columns : List Column) → All IsCheap columns → AreCheap columns
AreCheap-from [] each = tt
AreCheap-from (column ∷ columns) each =
    (All-head IsCheap column columns each, AreCheap-from columns (All-tail IsCheap column columns each))

pub returns : goal.returns
returns c = λ yes. AreCheap-from c.args.columns.now (c.each_is_cheap.ensures.0 yes)
