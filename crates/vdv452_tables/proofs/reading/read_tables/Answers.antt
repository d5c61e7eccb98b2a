use Rattle.vdv452_tables.specs.Calendar.{schemas_of}
use Rattle.vdv452_tables.proofs.KeyLemmas.{own_of}
use Rattle.vdv452_tables.proofs.reading.read_tables.Goals as goal

pub returns-in-Ok-clause-keys : goal.returns-in-Ok-clause-keys
returns-in-Ok-clause-keys c = own_of (schemas_of c.args.needs) c.args.tables.now c.in-Ok.ensures.right
