use Rattle.std.proofs.Common.{subst}
use Rattle.day_model.specs.Facts.{DayFacts}
use Rattle.day_model.specs.Layout.{AreLaidOut}
use Rattle.day_model.proofs.day.Day.departures.Goals as goal

pub returns : goal.returns
returns c =
    let P : DayFacts → Type 0 = λ day. AreLaidOut day.trips day.params day.deads c.self.inside.layout.value in
    let laid = subst P c.self.view_is c.self.invariant.1 in
    rw (c.as_slice.ensures, c.as_slice-2.ensures, c.as_slice-3.ensures, c.deref-layout.ensures) laid.departures
