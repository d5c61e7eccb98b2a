use Rattle.week_check.proofs.Entries.{tested}
use Rattle.week_check.proofs.entry.is_duty_day.Goals as goal

pub returns : goal.returns
returns c = tested c.is_civil.result c.args.day c.is_civil.ensures
