use Rattle.std.proofs.Common.{◌∙◌, ap, sym}
use Rattle.std.specs.Prelude.{option_and_then}
use Rattle.plan_params.specs.declared.rows.group.Group.{Group}
use Rattle.duty_network.specs.Marks.{closed_value}
use Rattle.label_cover.proofs.marks.DutyMarksMarks.close.Goals as goal

pub returns : goal.returns
returns c =
    let s = c.args.self.now in
    c.close.ensures ∙ sym (ap (option_and_then (λ (g : Group). closed_value s.net.now g c.args.mark.now)) c.group.ensures.group)
