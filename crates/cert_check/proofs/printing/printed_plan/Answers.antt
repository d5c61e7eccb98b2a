use Rattle.std.proofs.Common.{◌<◌, ◌≤◌, ◌^◌, false, List, length, sym, subst, arith}
use Rattle.plan_core.specs.declared.types.Piece.{Piece}
use Rattle.cover_core.specs.Plans.{IsPlan, all_items}
use Rattle.umlauf_write.specs.declared.answer.Answer.{Answer}
use Rattle.cert_check.specs.Judging.{duties_in}
use Rattle.cert_check.specs.Reasons.{duties_again}
use Rattle.cert_check.proofs.Again.{all_few, has_ranges}
use Rattle.cert_check.proofs.printing.printed_plan.Goals as goal

pub printed_answer-requires-clause-plan : goal.printed_answer-requires-clause-plan
printed_answer-requires-clause-plan c = c.requires.has.has_blocks.lawful.1

pub printed_answer-requires-clause-duties : goal.printed_answer-requires-clause-duties
printed_answer-requires-clause-duties c =
    let P : List Piece → Type 0 = λ pieces. IsPlan (duties_in c.args.case.now pieces false) c.args.duties.now.columns in
    subst P (sym c.requires.pieces) c.requires.has.lawful.1

pub same_tables-requires-clause-few_pieces : goal.same_tables-requires-clause-few_pieces
same_tables-requires-clause-few_pieces c = subst (λ (pieces : List Piece). length pieces ≤ 3000) c.requires.pieces c.requires.few

pub are_plan-requires-clause-lists : goal.are_plan-requires-clause-lists
are_plan-requires-clause-lists c =
    let ranges = has_ranges c.args.case.now c.args.text.now c.args.blocks.now c.args.duties.now c.requires.has
    c.requires.few_blocks (subst (λ (pieces : List Piece). length pieces ≤ 3000) c.requires.pieces c.requires.few) c.requires.cheap_blocks
    c.requires.cheap_duties in
    let few = ranges.few_duties in
    subst (λ (a : Answer). length a.duties.columns < 2 ^ 32) (sym c.in_ok-answer.ensures.answer) (omega (arith, few))

pub are_plan-requires-clause-items : goal.are_plan-requires-clause-items
are_plan-requires-clause-items c =
    let ranges = has_ranges c.args.case.now c.args.text.now c.args.blocks.now c.args.duties.now c.requires.has
    c.requires.few_blocks (subst (λ (pieces : List Piece). length pieces ≤ 3000) c.requires.pieces c.requires.few) c.requires.cheap_blocks
    c.requires.cheap_duties in
    subst (λ (a : Answer). length (all_items a.duties.columns) < 2 ^ 32) (sym c.in_ok-answer.ensures.answer)
    (all_few (duties_again c.args.case.now c.args.blocks.now c.args.duties.now) ranges.few_duties ranges.parts)
