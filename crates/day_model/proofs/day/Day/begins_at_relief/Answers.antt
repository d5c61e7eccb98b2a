use Rattle.std.proofs.Common.{subst}
use Rattle.day_model.specs.Facts.{DayFacts}
use Rattle.day_model.specs.Layout.{AreLaidOut}
use Rattle.day_model.proofs.Laid.{relieved_is, relieved_within}
use Rattle.day_model.proofs.day.Day.begins_at_relief.Goals as goal

pub bounds-as_slice-t : goal.bounds-as_slice-t
bounds-as_slice-t c =
    let P : DayFacts → Type 0 = λ day. AreLaidOut day.trips day.params day.deads c.self.inside.layout.value in
    let laid = subst P c.self.view_is c.self.invariant.1 in
    rw (c.as_slice.ensures, c.deref-layout.ensures)
    (relieved_within c.args.self.now.trips c.args.self.now.params c.args.self.now.deads c.self.inside.layout.value c.args.t laid c.requires)

pub returns : goal.returns
returns c = λ trip at.
    let P : DayFacts → Type 0 = λ day. AreLaidOut day.trips day.params day.deads c.self.inside.layout.value in
    let laid = subst P c.self.view_is c.self.invariant.1 in
    rw (c.as_slice.ensures, c.deref-layout.ensures) (relieved_is c.args.self.now c.self.inside.layout.value c.args.t trip laid at)
