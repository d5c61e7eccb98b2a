use Rattle.std.proofs.Common.{◌≡◌, ◌+◌, ◌≤◌, length}
use Rattle.std.specs.List.{list_all}
use Rattle.command_words.specs.Options.{plain_of, said}
use Rattle.command_words.specs.Words as spec
use Rattle.command_words.proofs.words.plain_files.Given as goal

-- each plain word so far is the name of a file
abbrev pub invariant-loop-first : goal.invariant-loop-first
invariant-loop-first l = record {
  all : list_all spec.file_word (plain_of (said l.words)) ≡ list_all spec.file_word (plain_of (said l.rest));
  count : l.count + length (plain_of (said l.rest)) ≡ length (plain_of (said l.words));
  few : l.count + length l.rest ≤ length l.words;
}

abbrev pub decreases-loop-first : goal.decreases-loop-first
decreases-loop-first l = length l.rest
