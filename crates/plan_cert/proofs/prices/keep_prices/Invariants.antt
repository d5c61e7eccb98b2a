use Rattle.plan_cert.specs.Prices.{count_for, entry_of}
use Rattle.plan_cert.proofs.Kept.{IsKept}
use Rattle.plan_cert.proofs.prices.keep_prices.Given as goal

abbrev pub invariant-loop-place : goal.invariant-loop-place
invariant-loop-place l = IsKept (entry_of l.kind l.shape l.columns) (count_for l.kind l.shape) l.rows l.slots l.place
