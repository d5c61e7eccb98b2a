use Rattle.std.proofs.Common.{subst, ◌∙◌}
use Rattle.day_model.specs.Facts.{DayFacts}
use Rattle.day_model.specs.Layout.{AreLaidOut}
use Rattle.day_model.proofs.Laid.{inward_is, inward_within}
use Rattle.day_model.proofs.day.Day.pull_in.Goals as goal

pub time_at-requires : goal.time_at-requires
time_at-requires c =
    let P : DayFacts → Type 0 = λ day. AreLaidOut day.trips day.params day.deads c.self.inside.layout.value in
    let laid = subst P c.self.view_is c.self.invariant.1 in
    rw (c.as_slice.ensures, c.deref-layout.ensures)
    (inward_within c.args.self.now.trips c.args.self.now.params c.args.self.now.deads c.self.inside.layout.value c.args.class c.args.t laid
    c.requires.class c.requires.trip)

pub returns-clause-value : goal.returns-clause-value
returns-clause-value c =
    let P : DayFacts → Type 0 = λ day. AreLaidOut day.trips day.params day.deads c.self.inside.layout.value in
    let laid = subst P c.self.view_is c.self.invariant.1 in
    c.time_at.ensures.value
    ∙ (rw (c.as_slice.ensures, c.deref-layout.ensures)
    (inward_is c.args.self.now c.self.inside.layout.value c.args.class c.args.t laid c.requires.class c.requires.trip))
