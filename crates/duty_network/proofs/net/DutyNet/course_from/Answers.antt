use Rattle.std.proofs.Common.{◌≡◌, ◌∙◌, ◌∷◌, None, Some, ap, sym, subst, slice_get}
use Rattle.plan_core.specs.declared.types.Piece.{Piece}
use Rattle.plan_params.specs.declared.rows.group.Group.{Group}
use Rattle.duty_network.specs.Courses.{HasNoSpan, IsCourse, IsSpanned}
use Rattle.duty_network.specs.Duties.{Duty, duty_of}
use Rattle.duty_network.specs.declared.courses.Course.{Course}
use Rattle.duty_network.proofs.Better.{Some-same}
use Rattle.point_grid.proofs.Flat.{there}
use Rattle.duty_network.proofs.Walked.{course-of, if-none, none-map, none-span, none-walk, some-map}
use Rattle.duty_network.proofs.net.DutyNet.course_from.Goals as goal

pub returns-in_err-last-clause-none : goal.returns-in_err-last-clause-none
returns-in_err-last-clause-none c =
    let d = c.args.self.now in
    let p = there d.pieces c.args.first c.requires.first in
    if-none c.from_residual.result (duty_of d c.args.class (c.args.first ∷ c.args.rest.now) ≡ None)
    (none-walk d c.args.class c.group-group.result.now c.args.first c.args.rest.now p.0 c.group-group.ensures.group
    p.1 c.in_err-last.ensures.none)

pub course_between-requires-clause-last : goal.course_between-requires-clause-last
course_between-requires-clause-last c =
    let p = there c.args.self.now.pieces c.args.first c.requires.first in
    (c.in_ok-last.ensures.some p.0 p.1).there

pub returns-clause-some : goal.returns-clause-some
returns-clause-some c =
    let d = c.args.self.now in
    let p = there d.pieces c.args.first c.requires.first in
    let t = c.in_ok-last.ensures.some p.0 p.1 in
    let q = there d.pieces c.in_ok-last.last t.there in
    let group : Group = c.group-group.result.now in
    let list = c.args.first ∷ c.args.rest.now in
    let P : Course → Type 0 = λ course. (a b : Piece) → slice_get d.pieces c.args.first ≡ Some a →
    slice_get d.pieces c.in_ok-last.last ≡ Some b → IsSpanned d group a b c.add_after.new.tally course in
    let Q : Course → Type 0 = λ course. (g : Group) → slice_get d.params.groups c.args.class ≡ Some g →
    (duty : Duty) × (duty_of d c.args.class list ≡ Some duty) × IsCourse d g duty course in
    some-map c.course_between.result P Q
    (λ course span g is_g.
    let same : group ≡ g = Some-same group g (sym c.group-group.ensures.group ∙ is_g) in
    let R : Group → Type 0 = λ x. (duty : Duty) × (duty_of d c.args.class list ≡ Some duty) × IsCourse d x duty course in
    subst R same (course-of d c.args.class group c.args.first c.args.rest.now p.0 q.0 c.in_ok-last.last c.add_after.new.tally course
    c.group-group.ensures.group p.1 q.1 t (c.add_after.ensures.limits ∙ c.first_tally-tally.ensures.limits) (span p.0 q.0 p.1 q.1)))
    c.course_between.ensures.some

pub returns-clause-none : goal.returns-clause-none
returns-clause-none c =
    let d = c.args.self.now in
    let p = there d.pieces c.args.first c.requires.first in
    let t = c.in_ok-last.ensures.some p.0 p.1 in
    let q = there d.pieces c.in_ok-last.last t.there in
    let group : Group = c.group-group.result.now in
    let list = c.args.first ∷ c.args.rest.now in
    none-map c.course_between.result ((a b : Piece) →
    slice_get d.pieces c.args.first ≡ Some a → slice_get d.pieces c.in_ok-last.last ≡ Some b → HasNoSpan d group a b)
    (duty_of d c.args.class list ≡ None)
    (λ none. none-span d c.args.class group c.args.first c.args.rest.now p.0 q.0 c.group-group.ensures.group p.1
    (ap (slice_get d.pieces) (sym t.last_is) ∙ q.1) (none p.0 q.0 p.1 q.1))
    c.course_between.ensures.none
