use Rattle.std.proofs.Common.{sym, subst}
use Rattle.vdv452_tables.specs.Ranges.{HasRanges}
use Rattle.vdv452_tables.proofs.RangeLemmas.{ranges_of}
use Rattle.vdv452_tables.proofs.reading.read_network.Goals as goal

pub new-requires : goal.new-requires
new-requires c = subst HasRanges (sym c.in_ok-rows.ensures.rows) (ranges_of c.args.needs c.args.tables.now c.requires)
