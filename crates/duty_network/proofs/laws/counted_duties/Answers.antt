use Rattle.duty_network.specs.Counted.{duties_counted}
use Rattle.duty_network.proofs.laws.counted_duties.Goals as goal

pub returns : goal.returns
returns c = duties_counted
