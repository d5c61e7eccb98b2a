use Rattle.std.proofs.Common.{◌≡◌, ◌<◌, ℕ, length}
use Rattle.cover_core.specs.Plans.{price_at}
use Rattle.cover_core.specs.FirstLeast.{AllWithin}
use Rattle.cover_master.specs.Method.{start_price}
use Rattle.cover_master.proofs.start.each_start.Given as goal

abbrev pub invariant-loop-item : goal.invariant-loop-item
invariant-loop-item g l = record {
  len : length l.new ≡ l.item;
  start : (k : ℕ) → k < l.item → price_at l.new k ≡ start_price (g.C.Columns.problem l.columns) k;
  moderate : AllWithin 10000000000000 l.new;
}
