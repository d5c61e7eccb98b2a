use Rattle.std.proofs.Common.{◌<◌, ◌≤◌, ◌^◌, ℕ, All, length, sym, subst}
use Rattle.cover_core.specs.declared.Column.{Column}
use Rattle.cover_core.specs.Cover.{AllBelow}
use Rattle.umlauf_write.specs.declared.answer.Answer.{Answer}
use Rattle.umlauf_write.specs.Answers.{IsPiece}
use Rattle.plan_command.proofs.Printing.{block_pools, block_trips, duty_groups, duty_parts, few_duties, plan_worths, shift_pieces}
use Rattle.plan_command.proofs.writing.tables_of.Goals as goal

pub answer_of-requires-clause-worths : goal.answer_of-requires-clause-worths
answer_of-requires-clause-worths c = plan_worths c.args.model.now c.args.plan.blocks.plan.columns c.requires.printable.blocks_are

pub plan_tables-requires-clause-pools : goal.plan_tables-requires-clause-pools
plan_tables-requires-clause-pools c =
    let P : Answer → Type 0 =
    λ answer. All (λ (block : Column). block.class < length c.args.model.now.params.pools) answer.blocks.columns in
    subst P (sym c.in_ok-answer.ensures) (block_pools c.args.model.now c.args.plan.blocks.plan.columns c.requires.printable.blocks_are)

pub plan_tables-requires-clause-trips : goal.plan_tables-requires-clause-trips
plan_tables-requires-clause-trips c =
    let P : Answer → Type 0 =
    λ answer. All (λ (block : Column). AllBelow (length c.args.model.now.trips) block.items) answer.blocks.columns in
    subst P (sym c.in_ok-answer.ensures) (block_trips c.args.model.now c.args.plan.blocks.plan.columns c.requires.printable.blocks_are)

pub plan_tables-requires-clause-pieces : goal.plan_tables-requires-clause-pieces
plan_tables-requires-clause-pieces c =
    let P : Answer → Type 0 = λ answer. All IsPiece answer.pieces in
    subst P (sym c.in_ok-answer.ensures)
    (subst (λ pieces. All IsPiece pieces) c.requires.pieces (shift_pieces c.args.plan.pieces c.requires.shifts))

pub plan_tables-requires-clause-few_duties : goal.plan_tables-requires-clause-few_duties
plan_tables-requires-clause-few_duties c =
    let P : Answer → Type 0 = λ answer. length answer.duties.columns ≤ 3000 in
    subst P (sym c.in_ok-answer.ensures)
    (few_duties c.args.model.now c.args.plan.blocks.plan.columns c.args.plan.duties.plan.columns c.requires.printable.few_pieces
    c.requires.printable.duties_are)

pub plan_tables-requires-clause-groups : goal.plan_tables-requires-clause-groups
plan_tables-requires-clause-groups c =
    let P : Answer → Type 0 = λ answer. All (λ (duty : Column). duty.class < length c.args.model.now.params.groups) answer.duties.columns in
    subst P (sym c.in_ok-answer.ensures)
    (duty_groups c.args.model.now c.args.plan.blocks.plan.columns c.args.plan.duties.plan.columns c.requires.printable.duties_are)

pub plan_tables-requires-clause-parts : goal.plan_tables-requires-clause-parts
plan_tables-requires-clause-parts c =
    let P : Answer → Type 0 = λ answer. All (λ (duty : Column). length duty.items ≤ 3000) answer.duties.columns in
    subst P (sym c.in_ok-answer.ensures)
    (duty_parts c.args.model.now c.args.plan.blocks.plan.columns c.args.plan.duties.plan.columns c.requires.printable.few_pieces
    c.requires.printable.duties_are)

pub plan_tables-requires-clause-bounds : goal.plan_tables-requires-clause-bounds
plan_tables-requires-clause-bounds c =
    let P : Answer → Type 0 = λ answer. All (λ (bound : ℕ). bound < 2 ^ 63) answer.bounds in
    subst P (sym c.in_ok-answer.ensures) c.requires.printable.bounds
