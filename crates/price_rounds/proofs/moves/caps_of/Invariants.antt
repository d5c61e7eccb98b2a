use Rattle.std.proofs.Common.{◌≡◌, take}
use Rattle.price_rounds.proofs.moves.caps_of.Given as goal

abbrev pub invariant-loop-class : goal.invariant-loop-class
invariant-loop-class g l = l.caps ≡ take l.class (g.C.Columns.problem l.columns).caps
