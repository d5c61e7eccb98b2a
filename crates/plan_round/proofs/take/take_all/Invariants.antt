use Rattle.std.proofs.Common.{◌≡◌, drop, length}
use Rattle.cover_core.specs.FirstLeast.{AreCheap}
use Rattle.plan_round.specs.Rounding.{taken, picked}
use Rattle.plan_round.specs.Drafts.{IsCounted, ShowsFree}
use Rattle.plan_round.proofs.take.take_all.Given as goal

abbrev pub invariant-loop-place : goal.invariant-loop-place
invariant-loop-place g l = record {
  taken :
      taken (g.C.Columns.problem l.columns) l.draft.columns (picked l.pool (drop l.place-index l.places)) ≡
      taken (g.C.Columns.problem l.columns) l.initial.draft.columns (picked l.pool l.places);
  cheap : AreCheap l.draft.columns;
  sized : length l.draft.counts ≡ length (g.C.Columns.problem l.columns).caps;
  counted : IsCounted l.draft.columns l.draft.counts;
  items : length l.free ≡ (g.C.Columns.problem l.columns).items;
  free : ShowsFree l.draft.columns l.free;
}
