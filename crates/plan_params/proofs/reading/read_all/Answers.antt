use Rattle.plan_params.proofs.RangeLemmas.{groups_few, groups_rise, pools_few, pools_rise}
use Rattle.plan_params.proofs.reading.read_all.Goals as goal

pub returns-clause-ranges : goal.returns-clause-ranges
returns-clause-ranges c = record {
  settings = c.read_settings.ensures.ranges;
  few_pools = pools_few c.args.net.now c.in_ok-read_pools.field-0 c.in_ok-read_pools.ensures.value c.requires.pools;
  few_groups = groups_few c.args.net.now c.in_ok-read_groups.field-0 c.in_ok-read_groups.ensures.value c.requires.groups;
  pools = c.in_ok-read_pools.ensures.ranges;
  groups = c.in_ok-read_groups.ensures.ranges;
  ways = c.in_ok-read_ways.ensures.ranges;
  pools_rise = pools_rise c.args.net.now c.in_ok-read_pools.field-0 c.in_ok-read_pools.ensures.value;
  groups_rise = groups_rise c.args.net.now c.in_ok-read_groups.field-0 c.in_ok-read_groups.ensures.value;
}
