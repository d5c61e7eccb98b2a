use Rattle.std.proofs.Common.{◌≡◌, ◌++◌, drop, filter}
use Rattle.cover_master.specs.Candidates.{is_candidate}
use Rattle.cover_master.proofs.selection.candidates.Given as goal

abbrev pub invariant-loop-key : goal.invariant-loop-key
invariant-loop-key l = filter (is_candidate l.limits) l.keys ≡ l.candidates.items
    ++ filter (is_candidate l.limits) (drop l.key-index l.keys)
