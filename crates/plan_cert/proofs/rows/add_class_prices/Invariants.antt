use Rattle.std.proofs.Common.{◌≡◌, ◌++◌, drop}
use Rattle.number_tables.specs.Signed.{signed_rows}
use Rattle.plan_cert.specs.Writing.{class_rows}
use Rattle.plan_cert.proofs.rows.add_class_prices.Given as goal

-- the rows so far stand before those that are left
abbrev pub invariant-loop-place : goal.invariant-loop-place
invariant-loop-place l = l.rows ++ signed_rows (class_rows l.pass l.numbers l.place (drop l.place l.prices))
    ≡ l.fn.rows ++ signed_rows (class_rows l.pass l.numbers 0 l.prices)
