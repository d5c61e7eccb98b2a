use Rattle.std.proofs.Common.{◌≡◌, ◌∷◌, []}
use Rattle.cover_master.specs.Method.{least_worth}
use Rattle.cover_master.specs.Fitting.{IsModerate}
use Rattle.cover_master.proofs.start.least_worth.Given as goal

abbrev pub invariant-loop-class : goal.invariant-loop-class
invariant-loop-class g l = record {
  least : l.least ≡ least_worth (g.C.Columns.problem l.columns) l.class (l.item ∷ []);
  moderate : IsModerate l.least;
}
