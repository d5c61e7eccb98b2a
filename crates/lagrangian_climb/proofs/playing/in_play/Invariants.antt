use Rattle.std.proofs.Common.{◌≡◌, ◌++◌, drop}
use Rattle.lagrangian_climb.specs.Choices.{playing_from, playing_of}
use Rattle.lagrangian_climb.proofs.playing.in_play.Given as goal

abbrev pub invariant-loop-place : goal.invariant-loop-place
invariant-loop-place l = playing_of l.fixed l.caps l.pool ≡ l.places ++ playing_from l.fixed l.caps l.place (drop l.place l.pool)
