use Rattle.label_search.proofs.levels.is_beaten.Goals as goal
