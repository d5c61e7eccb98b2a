use Rattle.std.proofs.Common.{arith}
use Rattle.vdv451_text.proofs.Clauses.{found_clause, only_clause, plain_clause, fault_clause, exact_clause}
use Rattle.vdv451_text.proofs.Sizes.{sized_clause}
use Rattle.vdv451_text.proofs.reading.read_file.Goals as goal

pub returns-clause-found : goal.returns-clause-found
returns-clause-found c = found_clause _ _ _ c.read_all.ensures

pub returns-clause-only : goal.returns-clause-only
returns-clause-only c = only_clause _ _ _ c.read_all.ensures

pub returns-clause-fault : goal.returns-clause-fault
returns-clause-fault c = fault_clause _ _ _ (omega arith) c.read_all.ensures

pub returns-clause-exact : goal.returns-clause-exact
returns-clause-exact c = exact_clause _ _ _ c.read_all.ensures

pub returns-clause-plain : goal.returns-clause-plain
returns-clause-plain c = plain_clause c.args.most c.args.bytes.now _ c.read_all.ensures

pub returns-clause-sized : goal.returns-clause-sized
returns-clause-sized c = sized_clause c.args.most c.args.bytes.now _ c.requires (found_clause _ _ _ c.read_all.ensures)
