use Rattle.label_cover.proofs.gaps.first_gap.Goals as goal

pub first_gap-requires-clause-there : goal.first_gap-requires-clause-there
first_gap-requires-clause-there c = rw (c.as_slice.ensures) c.requires.there

pub first_gap-requires-clause-few : goal.first_gap-requires-clause-few
first_gap-requires-clause-few c = rw (c.as_slice.ensures) c.requires.few

pub returns-clause-first : goal.returns-clause-first
returns-clause-first c = rw (c.as_slice.ensures) at c.first_gap.ensures.first

pub returns-clause-none : goal.returns-clause-none
returns-clause-none c = rw (c.as_slice.ensures) at c.first_gap.ensures.none

pub returns-clause-onto : goal.returns-clause-onto
returns-clause-onto c = rw (c.as_slice.ensures) at c.first_gap.ensures.onto
