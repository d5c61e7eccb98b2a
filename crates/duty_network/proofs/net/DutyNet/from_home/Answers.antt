use Rattle.std.proofs.Common.{subst, ◌∙◌}
use Rattle.duty_network.specs.Duties.{DutyFacts}
use Rattle.duty_network.specs.Layout.{AreLaidOut}
use Rattle.duty_network.proofs.Laid.{outward_is, outward_within}
use Rattle.duty_network.proofs.net.DutyNet.from_home.Goals as goal

pub time_at-requires : goal.time_at-requires
time_at-requires c =
    let P : DutyFacts → Type 0 = λ d. AreLaidOut d.pieces d.params c.self.inside.layout.value in
    let laid = subst P c.self.view_is c.self.invariant.1.0 in
    rw (c.as_slice.ensures, c.deref-layout.ensures)
    (outward_within c.args.self.now.pieces c.args.self.now.params c.self.inside.layout.value c.args.class c.args.p laid
    c.requires.class c.requires.piece)

pub returns-clause-value : goal.returns-clause-value
returns-clause-value c =
    let P : DutyFacts → Type 0 = λ d. AreLaidOut d.pieces d.params c.self.inside.layout.value in
    let laid = subst P c.self.view_is c.self.invariant.1.0 in
    c.time_at.ensures.value
    ∙ (rw (c.as_slice.ensures, c.deref-layout.ensures)
    (outward_is c.args.self.now c.self.inside.layout.value c.args.class c.args.p laid c.requires.class c.requires.piece))
