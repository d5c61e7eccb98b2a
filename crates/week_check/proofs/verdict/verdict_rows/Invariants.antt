use Rattle.std.proofs.Common.{◌≡◌, ◌++◌, drop}
use Rattle.number_tables.specs.Signed.{signed_rows}
use Rattle.week_check.specs.Verdict.{verdict_rows}
use Rattle.week_check.proofs.verdict.verdict_rows.Given as goal

-- the rows so far stand before those of the other denials
abbrev pub invariant-loop-denial : goal.invariant-loop-denial
invariant-loop-denial l = l.rows ++ signed_rows (verdict_rows (drop l.denial-index l.denials)) ≡ signed_rows (verdict_rows l.denials)
