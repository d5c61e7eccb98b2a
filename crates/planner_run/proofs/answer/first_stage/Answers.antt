use Rattle.planner_run.proofs.answer.first_stage.Goals as goal
