use Rattle.made_plans.proofs.MadeModel.{has_kind, no_day_fault}
use Rattle.made_plans.proofs.MadeTables.{faultless}
use Rattle.made_plans.proofs.laws.made_tables_tell_a_day.Goals as goal

pub returns-clause-faultless : goal.returns-clause-faultless
returns-clause-faultless c = faultless

pub returns-clause-day : goal.returns-clause-day
returns-clause-day c = no_day_fault

pub returns-clause-kind : goal.returns-clause-kind
returns-clause-kind c = has_kind
