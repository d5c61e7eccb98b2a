use Rattle.std.proofs.Common.{◌≡◌, ◌<◌, ℕ, length, get_or}
use Rattle.column_weave.specs.declared.links.ClassLinks.{ClassLinks}
use Rattle.column_weave.specs.Webs.{AreLinks}
use Rattle.column_weave.proofs.building.all_without_links.Given as goal

abbrev pub invariant-loop-class : goal.invariant-loop-class
invariant-loop-class g l = record {
  len : length l.classes.items ≡ l.class;
  links : (k : ℕ) (d : ClassLinks) → k < l.class → AreLinks (g.C.Columns.problem l.problem) k (get_or l.classes.items k d);
}
