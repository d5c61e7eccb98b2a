use Rattle.std.proofs.Common.{◌≡◌, ◌++◌, drop}
use Rattle.std.specs.List.{filter_map, position_from}
use Rattle.std.specs.Prelude.{is_none}
use Rattle.plan_cert.specs.Marks.{marks_in_pass}
use Rattle.plan_cert.specs.Places.{first_wrong}
use Rattle.plan_cert.proofs.marks.keep_marks.Given as goal

-- each row so far gives a mark, and the marks so far and those of the other rows are all marks
abbrev pub invariant-loop-place : goal.invariant-loop-place
invariant-loop-place g l =
    let kept = g.M.MarkRow.kept_in in
    let entry = g.M.MarkRow.entry_of l.shape l.columns in
    record {
      wrong : first_wrong entry l.rows ≡ position_from (λ row. is_none (entry row)) l.place (drop l.place l.rows);
      of_number : l.marks.of_number ++ marks_in_pass kept.by_number (filter_map entry (drop l.place l.rows))
          ≡ marks_in_pass kept.by_number (filter_map entry l.rows);
      of_cost : l.marks.of_cost ++ marks_in_pass kept.by_cost (filter_map entry (drop l.place l.rows))
          ≡ marks_in_pass kept.by_cost (filter_map entry l.rows);
    }
