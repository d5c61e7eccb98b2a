use Rattle.std.proofs.Common.{◌≡◌, drop}
use Rattle.command_words.specs.Options as spec
use Rattle.command_words.proofs.OptionLemmas.{plain_after}
use Rattle.command_words.proofs.options.first_plain.Given as goal

-- no word so far is plain
abbrev pub invariant-loop-place : goal.invariant-loop-place
invariant-loop-place l = spec.plain_of (spec.said l.words) ≡ plain_after l.is_value (drop l.place l.words)
