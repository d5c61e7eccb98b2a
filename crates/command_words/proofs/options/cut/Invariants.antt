use Rattle.std.proofs.Common.{◌≡◌, ◌++◌, take, drop}
use Rattle.command_words.specs.Options as spec
use Rattle.command_words.proofs.options.cut.Given as goal

-- no byte so far is a `=`
abbrev pub invariant-loop-place : goal.invariant-loop-place
invariant-loop-place l = record {
  marked : spec.has_mark l.word ≡ spec.has_mark (drop l.place l.word);
  before : spec.before_mark l.word ≡ take l.place l.word ++ spec.before_mark (drop l.place l.word);
  behind : spec.behind_mark l.word ≡ spec.behind_mark (drop l.place l.word);
}
