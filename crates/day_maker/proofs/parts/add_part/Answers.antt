use Rattle.std.proofs.Common.{◌≡◌, ◌+◌, ◌++◌, ◌∷◌, [], List, true, false, ap, sym, rules}
use Rattle.day_maker.specs.declared.cells.Cell.{Cell}
use Rattle.day_maker.specs.declared.parts.Part.{Part}
use Rattle.day_maker.specs.Made.{course_row, part_rows}
use Rattle.day_maker.proofs.RowLemmas.{add_both}
use Rattle.day_maker.proofs.parts.add_part.Goals as goal

pub returns-in_ok-add_course-in-Courses : goal.returns-in_ok-add_course-in-Courses
returns-in_ok-add_course-in-Courses c =
    let n = c.args.n in
    let out : List (List Cell) = course_row n true 1 n ∷ course_row n true 2 (10 + n) ∷ course_row n true 3 (n + 1) ∷ [] in
    let back : List (List Cell) = course_row n false 1 (n + 1) ∷ course_row n false 2 (10 + n) ∷ course_row n false 3 n ∷ [] in
    let whole : out ++ back ≡ part_rows c.args.part n = ap (λ (part : Part). part_rows part n) (sym c.in-Courses.is) in
    add_both c.add_course-in-Courses.result out back (part_rows c.args.part n) c.args.rows.now c.add_course.new.rows
    c.add_course-in-Courses.new.rows (search rules) c.add_course-in-Courses.ensures whole
