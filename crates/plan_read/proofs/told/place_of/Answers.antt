use Rattle.std.proofs.Common.{nat_lt, rules}
use Rattle.std.proofs.lemmas.List.Sorted.{IsPartitionPoint-from_clause, IsPartitionedBy-ltb}
use Rattle.plan_read.specs.declared.told.Told.{Told}
use Rattle.plan_read.specs.Told.{fid_of}
use Rattle.plan_read.proofs.Halved.{trip-halved}
use Rattle.plan_read.proofs.told.place_of.Goals as goal

pub returns : goal.returns
returns c =
    let ts = c.args.told.now in
    let fid = c.args.fid in
    let point = IsPartitionPoint-from_clause (λ (t : Told). nat_lt (fid_of t) fid) ts c.partition_point.result
    c.partition_point.ensures.partitioned (IsPartitionedBy-ltb fid_of ts fid c.requires) (λ a r f' k. search rules) in
    trip-halved fid ts c.partition_point.result c.requires point c.partition_point.ensures.bound
