use Rattle.std.proofs.Common.{◌<◌, ◌^◌, List, length, sym, subst}
use Rattle.plan_core.specs.declared.types.Point.{Point}
use Rattle.vdv452_tables.specs.Ranges.{HasRanges}
use Rattle.vdv452_tables.proofs.CourseSizes.{course_few}
use Rattle.vdv452_tables.proofs.network.Network.course.Goals as goal

pub returns-clause-few : goal.returns-clause-few
returns-clause-few c =
    let all = subst HasRanges c.self.view_is c.self.invariant.1 in
    subst (λ (points : List Point). length points < 2 ^ 32) (sym c.points.ensures)
    (course_few c.args.self.now c.args.version c.args.line c.args.variant.now all)
