use Rattle.std.proofs.Common.{◌≡◌, ◌++◌, drop}
use Rattle.number_tables.specs.Signed.{signed_rows}
use Rattle.plan_cert.specs.Writing.{duty_rows}
use Rattle.plan_cert.proofs.rows.add_duty_marks.Given as goal

-- the rows so far stand before those that are left
abbrev pub invariant-loop-mark : goal.invariant-loop-mark
invariant-loop-mark l = l.rows ++ signed_rows (duty_rows l.pass l.numbers (drop l.mark-index l.marks))
    ≡ l.fn.rows ++ signed_rows (duty_rows l.pass l.numbers l.marks)
