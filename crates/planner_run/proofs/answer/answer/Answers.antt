use Rattle.planner_run.proofs.answer.answer.Goals as goal
