use Rattle.std.proofs.Common.{subst}
use Rattle.duty_network.specs.Duties.{DutyFacts}
use Rattle.duty_network.specs.Ranges.{NetFits}
use Rattle.duty_network.proofs.net.DutyNet.fits.Goals as goal

pub returns : goal.returns
returns c =
    let P : DutyFacts → Type 0 = λ d. NetFits d in
    subst P c.self.view_is c.self.invariant.0
