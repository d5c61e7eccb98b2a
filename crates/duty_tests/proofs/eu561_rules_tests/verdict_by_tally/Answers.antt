use Rattle.std.proofs.Common.{take, arith}
use Rattle.std.proofs.lemmas.List.{length-take-le, take_more}
use Rattle.eu561_rules.proofs.Tallies.{first_pause}
use Rattle.duty_tests.proofs.eu561_rules_tests.verdict_by_tally.Goals as goal

pub add-requires : goal.add-requires
add-requires c = record {
  drives = take c.loop-drive.drive-index c.args.drives.now;
  stands = c.loop-drive.invariant.stands;
  few = omega (arith, length-take-le c.loop-drive.drive-index c.args.drives.now c.loop-drive.invariant.order);
  begins = first_pause c.args.drives.now c.loop-drive.drive-index _ c.requires.begins c.loop-drive-test.true;
}

pub loop-drive-preserved : goal.loop-drive-preserved
loop-drive-preserved c = record {
  order = omega arith;
  stands = rw (take_more c.args.drives.now c.loop-drive.drive-index (record { pause = 0; driving = 0 }) c.loop-drive-test.true)
      (c.add.ensures.drives _ c.loop-drive.invariant.stands);
}
