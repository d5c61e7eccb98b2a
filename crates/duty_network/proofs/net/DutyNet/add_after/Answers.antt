use Rattle.std.proofs.Common.{◌≡◌, ◌∙◌, sym, refl, arith, ◌∷◌, None}
use Rattle.cover_core.proofs.Values.{AllBelow-get}
use Rattle.duty_network.specs.Courses.{drive_of, drives_on}
use Rattle.point_grid.proofs.Flat.{there}
use Rattle.duty_network.proofs.Walked.{if-none, tallying-all, tallying-falls, tallying-next, tallying-none, tallying-stops}
use Rattle.duty_network.proofs.net.DutyNet.add_after.Goals as goal

pub loop-next-init : goal.loop-next-init
loop-next-init c = record {
  limits = refl;
  there = c.requires.first;
  tallying = λ p e. tallying-none c.args.self.now c.args.first c.args.rest.now (drive_of 0 p) c.args.tally.now
      c.requires.first (c.requires.tally p e);
}

pub returns-then-next-last-clause-none : goal.returns-then-next-last-clause-none
returns-then-next-last-clause-none c =
    let p = there c.args.self.now.pieces c.args.first c.requires.first in
    tallying-falls c.args.self.now c.args.first c.args.rest.now (drive_of 0 p.0) c.loop-next.last c.loop-next.next-index c.loop-next.tally
    (c.loop-next.invariant.tallying p.0 p.1) c.loop-next-test.true c.if-next-last.true

pub pause-requires-clause-q : goal.pause-requires-clause-q
pause-requires-clause-q c = AllBelow-get _ c.args.rest.now c.loop-next.next-index c.requires.rest c.loop-next-test.true

pub returns-in_err-pause-clause-none : goal.returns-in_err-pause-clause-none
returns-in_err-pause-clause-none c =
    let p = there c.args.self.now.pieces c.args.first c.requires.first in
    if-none c.from_residual.result (drives_on c.args.self.now c.args.first c.args.rest.now ≡ None)
    (tallying-stops c.args.self.now c.args.first c.args.rest.now (drive_of 0 p.0) c.loop-next.last c.loop-next.next-index c.loop-next.tally
    (c.loop-next.invariant.tallying p.0 p.1) c.loop-next-test.true (sym c.pause.ensures ∙ c.in_err-pause.was))

pub piece-requires : goal.piece-requires
piece-requires c = AllBelow-get _ c.args.rest.now c.loop-next.next-index c.requires.rest c.loop-next-test.true

pub add-requires : goal.add-requires
add-requires c =
    let p = there c.args.self.now.pieces c.args.first c.requires.first in
    let t = c.loop-next.invariant.tallying p.0 p.1 in
    let few = t.few in
    let below = AllBelow-get _ c.args.rest.now c.loop-next.next-index c.requires.rest c.loop-next-test.true in
    let up = c.if-next-last.false in
    record {
      drives = drive_of 0 p.0 ∷ t.ds;
      stands = t.stands;
      few = omega (arith, c.fits.ensures.few);
      begins = λ e. absurd (cc);
    }

pub loop-next-preserved : goal.loop-next-preserved
loop-next-preserved c = record {
  limits = c.add.ensures.limits ∙ c.loop-next.invariant.limits;
  there = AllBelow-get _ c.args.rest.now c.loop-next.next-index c.requires.rest c.loop-next-test.true;
  tallying = λ p e.
      tallying-next c.args.self.now c.args.first c.args.rest.now (drive_of 0 p) c.loop-next.last c.loop-next.next-index c.loop-next.tally
      c.add.new.self c.in_ok-pause.pause c.piece.result.now
      (c.loop-next.invariant.tallying p e) c.loop-next-test.true c.if-next-last.false (sym c.pause.ensures ∙ c.in_ok-pause.was)
      c.piece.ensures.piece c.add.ensures.drives;
}

pub returns-clause-some : goal.returns-clause-some
returns-clause-some c = λ p e.
    tallying-all c.args.self.now c.args.first c.args.rest.now (drive_of 0 p) c.loop-next.last c.loop-next.next-index c.loop-next.tally
    (c.loop-next.invariant.tallying p e) c.loop-next-test.false
