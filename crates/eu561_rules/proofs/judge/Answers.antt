use Rattle.std.proofs.Common.{◌≡◌, List, length, take, arith, subst, ◌∙◌}
use Rattle.std.proofs.lemmas.List.{length-take-le, take_more}
use Rattle.eu561_rules.specs.declared.rules.Drive.{Drive}
use Rattle.eu561_rules.specs.declared.rules.Limits.{Limits}
use Rattle.eu561_rules.specs.Duty.{Judged}
use Rattle.eu561_rules.specs.Summary.{StandsFor}
use Rattle.eu561_rules.proofs.Breaks.{take-whole}
use Rattle.eu561_rules.proofs.Tallies.{first_pause}
use Rattle.eu561_rules.proofs.Runs.{lawful-test, test-lawful}
use Rattle.eu561_rules.proofs.Verdicts.{judged-art6, judged-art7, judged-art8, judged-lawful}
use Rattle.eu561_rules.proofs.judge.Goals as goal

pub add-requires : goal.add-requires
add-requires c = record {
  drives = take c.loop-drive.drive-index c.args.drives.now;
  stands = c.loop-drive.invariant.stands;
  few = omega (arith, length-take-le c.loop-drive.drive-index c.args.drives.now c.loop-drive.invariant.order);
  begins = first_pause c.args.drives.now c.loop-drive.drive-index _ c.requires.begins c.loop-drive-test.true;
}

pub loop-drive-preserved : goal.loop-drive-preserved
loop-drive-preserved c = record {
  order = omega arith;
  limits_are = c.add.ensures.limits ∙ c.loop-drive.invariant.limits_are;
  stands = rw (take_more c.args.drives.now c.loop-drive.drive-index (record { pause = 0; driving = 0 }) c.loop-drive-test.true)
      (c.add.ensures.drives _ c.loop-drive.invariant.stands);
}

pub returns : goal.returns
returns c =
    let end : c.loop-drive.drive-index ≡ length c.args.drives.now = omega arith in
    let all : take c.loop-drive.drive-index c.args.drives.now ≡ c.args.drives.now = rw end (take-whole c.args.drives.now) in
    let P : List Drive → Type 0 = λ drives. StandsFor c.loop-drive.tally drives in
    let Q : Limits → Type 0 = λ limits. Judged c.args.drives.now c.args.spread limits c.close.result in
    let judged : Judged c.args.drives.now c.args.spread c.args.limits.now c.close.result =
    subst Q c.loop-drive.invariant.limits_are (c.close.ensures c.args.drives.now (subst P all c.loop-drive.invariant.stands)) in
    record {
      first = judged;
      art6 = judged-art6 _ _ _ _ judged;
      art7 = judged-art7 _ _ _ _ judged;
      art8 = judged-art8 _ _ _ _ judged;
      lawful = judged-lawful _ _ _ _ judged;
      tested = (lawful-test _ _ _, test-lawful _ _ _);
    }
