use Rattle.week_check.proofs.OneList as lists
use Rattle.week_check.proofs.denial.one_list.Goals as goal

pub returns : goal.returns
returns c = lists.one_list
