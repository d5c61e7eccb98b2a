use Rattle.certificate_tests.proofs.label_cover_tests.gap_of.Goals as goal

pub first_gap-requires-clause-there : goal.first_gap-requires-clause-there
first_gap-requires-clause-there c = rw (c.as_slice.ensures) at (c.are_there.ensures.there c.if-are_there.true)

pub first_gap-requires-clause-few : goal.first_gap-requires-clause-few
first_gap-requires-clause-few c = rw (c.as_slice.ensures) at (c.are_there.ensures.few c.if-are_there.true)
