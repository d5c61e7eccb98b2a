use Rattle.duty_network.proofs.Modest.{few_drivers, modest_duties}
use Rattle.duty_network.proofs.columns.DutyNetColumns.classes.Goals as goal

pub returns-clause-places : goal.returns-clause-places
returns-clause-places c = few_drivers c.args.self.now c.fits.ensures

pub returns-clause-worths : goal.returns-clause-worths
returns-clause-worths c = modest_duties c.args.self.now c.fits.ensures
