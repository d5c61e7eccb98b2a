use Rattle.planner_run.proofs.answer.outcome_of.Goals as goal
