use Rattle.std.proofs.Common.{◌≡◌, ◌++◌, length}
use Rattle.command_words.specs.Options.{plain_of, said}
use Rattle.command_words.proofs.words.add_plain_names.Given as goal

-- the plain words so far stand behind the names that were there
abbrev pub invariant-loop-first : goal.invariant-loop-first
invariant-loop-first l = l.names ++ plain_of (said l.rest) ≡ l.fn.names ++ plain_of (said l.words)

abbrev pub decreases-loop-first : goal.decreases-loop-first
decreases-loop-first l = length l.rest
