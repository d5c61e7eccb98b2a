use Rattle.std.proofs.Common.{◌≡◌, ◌∙◌, ℤ, rules, w64, to_z, of_z, refl}
use Rattle.std.proofs.lemmas.Int.{to_z-of_z}
use Rattle.std.specs.Prelude.{FitsSigned}
use Rattle.plan_core.specs.declared.types.Sec.{Sec}
use Rattle.point_grid.proofs.Flat.{there}
use Rattle.duty_network.proofs.net.DutyNet.span.Goals as goal

abbrev sec : ℤ → Sec
sec z = record { 0 = z }

pub returns : goal.returns
returns c =
    let d = c.args.self.now in
    let course = c.in_ok-course.course in
    let g = there d.params.groups c.args.class c.requires.class in
    let x = c.in_ok-course.ensures.some g.0 g.1 in
    let on_fits : FitsSigned w64 course.on = search rules in
    let off_fits : FitsSigned w64 course.off = search rules in
    let on : to_z w64 (of_z w64 course.on) ≡ x.0.on = to_z-of_z w64 course.on on_fits ∙ x.2.on in
    let off : to_z w64 (of_z w64 course.off) ≡ x.0.off = to_z-of_z w64 course.off off_fits ∙ x.2.off in
    let is = x.1 in
    rw (on, off, is) refl
