use Rattle.std.proofs.Common.{sym}
use Rattle.plan_params.specs.Faults.{fault_of}
use Rattle.plan_params.proofs.FaultLemmas.{few_groups, few_pools, memory_is}
use Rattle.plan_params.proofs.reading.read_params.Goals as goal

pub returns-in-Some-clause-memory : goal.returns-in-Some-clause-memory
returns-in-Some-clause-memory c =
    memory_is c.args.net.now c.args.version (fault_of c.in-Some.found) c.refusal_of.result (sym c.in-Some.ensures) c.refusal_of.ensures

pub read_faultless-requires-clause-groups : goal.read_faultless-requires-clause-groups
read_faultless-requires-clause-groups c = few_groups c.args.net.now c.args.version (sym c.in_default.ensures)

pub read_faultless-requires-clause-pools : goal.read_faultless-requires-clause-pools
read_faultless-requires-clause-pools c = few_pools c.args.net.now c.args.version (sym c.in_default.ensures)
