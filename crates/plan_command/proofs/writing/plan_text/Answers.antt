use Rattle.std.proofs.Common.{◌≤◌, List, length, subst, rules}
use Rattle.plan_core.specs.declared.types.Piece.{Piece}
use Rattle.plan_command.specs.Planning.{asked_of, side_of}
use Rattle.plan_command.proofs.Printing.{printable}
use Rattle.plan_command.proofs.writing.plan_text.Goals as goal

pub text_of-requires-clause-printable : goal.text_of-requires-clause-printable
text_of-requires-clause-printable g c =
    let P : List Piece → Type 0 = λ pieces. length pieces ≤ 3000 in
    let made = c.in-Ok.ensures in
    printable c.args.model.now (asked_of c.args.method.now) (side_of c.in-Ok.plan.blocks) (side_of c.in-Ok.plan.duties) made.plan
    (search rules) (subst P made.pieces made.few) made.cheap_blocks made.cheap_duties
