use Rattle.planner_run.proofs.lines.tell.Goals as goal

pub returns-in-Input : goal.returns-in-Input
returns-in-Input g c = rw c.in-Input.is (c.tell_input.ensures c.args.day.now)

pub returns-in-ReadFault : goal.returns-in-ReadFault
returns-in-ReadFault g c = rw c.in-ReadFault.is c.tell_number.ensures

pub returns-in-WriteFault : goal.returns-in-WriteFault
returns-in-WriteFault g c = rw c.in-WriteFault.is c.write_line-in-WriteFault.ensures

pub returns-in-Memory : goal.returns-in-Memory
returns-in-Memory g c = rw c.in-Memory.is c.write_line-in-Memory.ensures

pub returns-in-NotPlaced : goal.returns-in-NotPlaced
returns-in-NotPlaced g c = rw c.in-NotPlaced.is c.tell_left.ensures

pub returns-in-NoPlan : goal.returns-in-NoPlan
returns-in-NoPlan g c = rw c.in-NoPlan.is c.tell_no_plan.ensures

pub returns-in-OldPlan : goal.returns-in-OldPlan
returns-in-OldPlan g c = rw c.in-OldPlan.is c.tell_old_plan.ensures
