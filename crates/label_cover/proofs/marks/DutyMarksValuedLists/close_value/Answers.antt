use Rattle.std.proofs.Common.{◌∙◌, ℤ, ◌≤ℤ◌, neg_ℤ, pos, ap, sym}
use Rattle.std.specs.Prelude.{option_and_then}
use Rattle.plan_params.specs.declared.rows.group.Group.{Group}
use Rattle.duty_network.specs.Marks.{closed_value}
use Rattle.label_cover.proofs.Shapes.{closed-fits, if-some}
use Rattle.label_cover.proofs.marks.DutyMarksValuedLists.close_value.Goals as goal

pub narrow_value-requires-clause-low : goal.narrow_value-requires-clause-low
narrow_value-requires-clause-low c =
    let s = c.args.self.now in
    let P : ℤ → Type 0 = λ v. neg_ℤ (pos 9223372036854775808) ≤ℤ v in
    if-some P c.close.result
    (λ v e. (closed-fits s.net.now c.group.result.now c.args.mark.now v s.fits c.group.ensures.ranges c.requires.sound
    (sym c.close.ensures ∙ e)).0)

pub narrow_value-requires-clause-high : goal.narrow_value-requires-clause-high
narrow_value-requires-clause-high c =
    let s = c.args.self.now in
    let P : ℤ → Type 0 = λ v. v ≤ℤ pos 9223372036854775807 in
    if-some P c.close.result
    (λ v e. (closed-fits s.net.now c.group.result.now c.args.mark.now v s.fits c.group.ensures.ranges c.requires.sound
    (sym c.close.ensures ∙ e)).1)

pub returns : goal.returns
returns c =
    let s = c.args.self.now in
    c.narrow_value.ensures ∙ (c.close.ensures
    ∙ sym (ap (option_and_then (λ (g : Group). closed_value s.net.now g c.args.mark.now)) c.group.ensures.group))
