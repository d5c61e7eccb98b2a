use Rattle.std.proofs.Common.{Some, cond, ap, refl, ◌∙◌}
use Rattle.indexmap.specs.IndexMap.{get}
use Rattle.vdv452_tables.specs.Indexes.{course_or_none}
use Rattle.vdv452_tables.specs.Keys.{line_key_eq, named, same_line_key, stop_key_of}
use Rattle.vdv452_tables.proofs.CourseLemmas.{course_grows}
use Rattle.vdv452_tables.proofs.course.add_stop.Goals as goal

pub returns : goal.returns
returns c =
    λ key.
    let row = c.args.row.now in
    let mid = get line_key_eq c.taken_course-course.new.courses key in
    let variant = c.in_ok-bytes_of.ensures ∙ c.as_slice.ensures in
    course_grows row key c.push.new.self (get line_key_eq c.args.courses.now key) mid (get line_key_eq c.insert.new.self key)
    c.taken_course-course.result (line_key_eq (stop_key_of row) key) refl
    c.in_ok-push.ensures.ok
    (λ same. c.taken_course-course.ensures.course
    ∙ ap (λ k. course_or_none (get line_key_eq c.args.courses.now k)) (same_line_key (stop_key_of row) key same))
    (c.taken_course-course.ensures.others key)
    (c.in_ok-insert.ensures.updates.0 key
    ∙ ap (λ v. cond (line_key_eq (named row.version row.line v) key) (Some c.push.new.self) mid) variant)
