use Rattle.depot_network.specs.Counted.{blocks_counted}
use Rattle.depot_network.proofs.laws.counted_blocks.Goals as goal

pub returns : goal.returns
returns c = blocks_counted
