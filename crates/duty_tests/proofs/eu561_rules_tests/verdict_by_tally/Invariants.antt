use Rattle.std.proofs.Common.{◌≤◌, take, length}
use Rattle.eu561_rules.specs.Summary.{StandsFor}
use Rattle.duty_tests.proofs.eu561_rules_tests.verdict_by_tally.Given as goal

-- The tally stands for the drives that were added, in their order: this is what `add` asks before a further one, and by it the tally
-- judges just these drives. So the test may compare a duty that is judged drive by drive with one that is judged at once.
abbrev pub invariant-loop-drive : goal.invariant-loop-drive
invariant-loop-drive l = record {
  order : l.drive-index ≤ length l.drives;
  stands : StandsFor l.tally (take l.drive-index l.drives);
}
