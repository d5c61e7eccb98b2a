use Rattle.std.proofs.Common.{◌∙◌, ap, sym}
use Rattle.std.specs.Prelude.{option_and_then}
use Rattle.plan_params.specs.declared.rows.group.Group.{Group}
use Rattle.duty_network.specs.Marks.{first_mark}
use Rattle.label_cover.proofs.marks.DutyMarksMarks.first.Goals as goal

pub returns : goal.returns
returns c =
    let s = c.args.self.now in
    c.first.ensures ∙ sym (ap (option_and_then (λ (g : Group). first_mark s.net.now s.prices.now.items c.args.class g c.args.item))
    c.group.ensures.group)
