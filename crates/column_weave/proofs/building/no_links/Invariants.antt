use Rattle.std.proofs.Common.{◌≡◌, ◌<◌, ℕ, [], length, get_or, None}
use Rattle.column_weave.specs.Webs.{IsSingle}
use Rattle.column_weave.proofs.building.no_links.Given as goal

abbrev pub invariant-loop-item : goal.invariant-loop-item
invariant-loop-item g l = record {
  one_single : length l.single ≡ l.item;
  one_list : length l.into.items ≡ l.item;
  singles : (i : ℕ) → i < l.item → IsSingle (g.C.Columns.problem l.problem) l.class i (get_or l.single i None);
  empty : (j : ℕ) → get_or l.into.items j [] ≡ [];
}
