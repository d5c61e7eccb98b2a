use Rattle.label_tests.proofs.mark_cover_tests.gap_of.Goals as goal

pub first_gap-requires-clause-there : goal.first_gap-requires-clause-there
first_gap-requires-clause-there c = c.are_there.ensures.there c.if-are_there.true
