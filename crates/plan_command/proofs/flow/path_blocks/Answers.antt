use Rattle.std.proofs.Common.{List, sym, subst, ap, ◌∙◌}
use Rattle.cover_core.specs.declared.Column.{Column}
use Rattle.cover_core.specs.FirstLeast.{AreCheap}
use Rattle.plan_command.specs.Flow.{block_column}
use Rattle.plan_command.proofs.FlowBlocks.{blocks_so_far, cheap_more}
use Rattle.plan_command.proofs.flow.path_blocks.Goals as goal

pub loop-path-preserved : goal.loop-path-preserved
loop-path-preserved c =
    let P : List Column → Type 0 = λ cs. AreCheap cs in
    let f = block_column c.args.net.now.day in
    let column = c.in_ok-path_block.ensures.column ∙ ap f c.as_slice.ensures in
    let columns = blocks_so_far f c.args.paths.now c.loop-path.path-index c.path-item.result c.loop-path.columns
    c.push.new.self c.in_ok-path_block.field-0
    c.loop-path-test.true c.path-item.is c.loop-path.invariant.0 column c.in_ok-push.ensures.ok in (
      columns,
      subst P (sym c.in_ok-push.ensures.ok)
          (cheap_more c.loop-path.columns c.in_ok-path_block.field-0 c.loop-path.invariant.1 c.in_ok-path_block.ensures.cheap),
    )
