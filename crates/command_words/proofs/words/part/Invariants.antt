use Rattle.std.proofs.Common.{◌≡◌, ◌++◌, take, drop}
use Rattle.command_words.specs.Words as spec
use Rattle.command_words.proofs.words.part.Given as goal

-- no word so far ends the options
abbrev pub invariant-loop-place : goal.invariant-loop-place
invariant-loop-place l = record {
  before : spec.before_end l.words ≡ take l.place l.words ++ spec.before_end (drop l.place l.words);
  behind : spec.behind_end l.words ≡ spec.behind_end (drop l.place l.words);
}
