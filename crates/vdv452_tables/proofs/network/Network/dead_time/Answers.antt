use Rattle.std.proofs.Common.{IfSome, sym, subst}
use Rattle.vdv452_tables.specs.Keys.{move_key_eq, dead_key_of}
use Rattle.vdv452_tables.specs.Ranges.{IsTime}
use Rattle.vdv452_tables.proofs.LookUpLemmas.{found_all}
use Rattle.vdv452_tables.proofs.network.Network.dead_time.Goals as goal

pub returns-clause-value : goal.returns-clause-value
returns-clause-value c = rw (c.dead_rows.ensures.rows, c.new-key.ensures) at c.dead_time_in.ensures

pub returns-clause-range : goal.returns-clause-range
returns-clause-range c =
    subst (λ r. IfSome r IsTime) (sym c.dead_time_in.ensures)
    (found_all IsTime move_key_eq dead_key_of (λ row. row.time) c.dead_rows.result.now _ c.dead_rows.ensures.times)
