use Rattle.std.proofs.Common.{subst, ◌∙◌}
use Rattle.day_model.specs.Facts.{DayFacts}
use Rattle.day_model.specs.Layout.{AreLaidOut}
use Rattle.day_model.proofs.Laid.{between_is, between_within}
use Rattle.day_model.proofs.day.Day.between.Goals as goal

pub time_at-requires : goal.time_at-requires
time_at-requires c =
    let P : DayFacts → Type 0 = λ day. AreLaidOut day.trips day.params day.deads c.self.inside.layout.value in
    let laid = subst P c.self.view_is c.self.invariant.1 in
    rw (c.as_slice.ensures, c.as_slice-2.ensures, c.deref-layout.ensures)
    (between_within c.args.self.now.trips c.args.self.now.params c.args.self.now.deads c.self.inside.layout.value c.args.t c.args.u
    laid c.requires.t c.requires.u)

pub returns-clause-value : goal.returns-clause-value
returns-clause-value c =
    let P : DayFacts → Type 0 = λ day. AreLaidOut day.trips day.params day.deads c.self.inside.layout.value in
    let laid = subst P c.self.view_is c.self.invariant.1 in
    c.time_at.ensures.value
    ∙ (rw (c.as_slice.ensures, c.as_slice-2.ensures, c.deref-layout.ensures)
    (between_is c.args.self.now c.self.inside.layout.value c.args.t c.args.u laid c.requires.t c.requires.u))
