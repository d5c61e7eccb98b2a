use Rattle.std.proofs.Common.{◌≡◌, ◌≤◌}
use Rattle.eu561_rules.proofs.Words.{quarter_at}
use Rattle.eu561_rules.proofs.is_full_break.Given as goal

abbrev pub invariant-loop-drive : goal.invariant-loop-drive
invariant-loop-drive l = record {
  order : l.drive-index ≤ l.place;
  quarter_is : l.quarter ≡ quarter_at l.drives l.drive-index;
}
