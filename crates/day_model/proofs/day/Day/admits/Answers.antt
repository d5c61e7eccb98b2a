use Rattle.std.proofs.Common.{◌≡◌, length, subst, ap}
use Rattle.day_model.specs.Facts.{DayFacts}
use Rattle.day_model.specs.Layout.{AreLaidOut}
use Rattle.day_model.proofs.Laid.{admitted_is, admitted_within}
use Rattle.day_model.proofs.day.Day.admits.Goals as goal

pub bounds-as_slice-class : goal.bounds-as_slice-class
bounds-as_slice-class c =
    let P : DayFacts → Type 0 = λ day. AreLaidOut day.trips day.params day.deads c.self.inside.layout.value in
    let laid = subst P c.self.view_is c.self.invariant.1 in
    let same : length c.self.inside.trips ≡ length c.args.self.now.trips = ap (λ (day : DayFacts). length day.trips) c.self.view_is in
    rw (c.as_slice.ensures, c.len.ensures, c.deref-layout.ensures, same)
    (admitted_within c.args.self.now.trips c.args.self.now.params c.args.self.now.deads c.self.inside.layout.value c.args.class c.args.t
    laid c.requires.class c.requires.trip)

pub returns : goal.returns
returns c =
    let P : DayFacts → Type 0 = λ day. AreLaidOut day.trips day.params day.deads c.self.inside.layout.value in
    let laid = subst P c.self.view_is c.self.invariant.1 in
    let same : length c.self.inside.trips ≡ length c.args.self.now.trips = ap (λ (day : DayFacts). length day.trips) c.self.view_is in
    rw (c.as_slice.ensures, c.len.ensures, c.deref-layout.ensures, same)
    (admitted_is c.args.self.now c.self.inside.layout.value c.args.class c.args.t laid c.requires.class c.requires.trip)
