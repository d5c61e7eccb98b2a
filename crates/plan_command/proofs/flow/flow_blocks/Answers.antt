use Rattle.std.proofs.Common.{All, List, length, sym, subst, ℕ}
use Rattle.cover_core.specs.Cover.{AllBelow}
use Rattle.day_model.specs.Facts.{DayFacts}
use Rattle.plan_command.proofs.FlowBlocks.{paths_below}
use Rattle.plan_command.proofs.flow.flow_blocks.Goals as goal

pub are_blocks-requires-clause-below : goal.are_blocks-requires-clause-below
are_blocks-requires-clause-below c =
    let P : List (List ℕ) → Type 0 = λ paths. All (AllBelow (length c.new-net.result.day.trips)) paths in
    let Q : DayFacts → Type 0 = λ day. All (AllBelow (length day.trips)) c.args.flow.paths in
    subst P (sym c.as_slice.ensures)
    (subst Q (sym c.new-net.ensures.day) (paths_below c.args.model.now c.args.flow.paths c.requires.plan.plan.worths))

pub path_blocks-requires-clause-below : goal.path_blocks-requires-clause-below
path_blocks-requires-clause-below c =
    let P : List (List ℕ) → Type 0 = λ paths. All (AllBelow (length c.new-net.result.day.trips)) paths in
    let Q : DayFacts → Type 0 = λ day. All (AllBelow (length day.trips)) c.args.flow.paths in
    subst P (sym c.as_slice-2.ensures)
    (subst Q (sym c.new-net.ensures.day) (paths_below c.args.model.now c.args.flow.paths c.requires.plan.plan.worths))
