use Rattle.std.proofs.Common.{◌≡◌, ◌++◌, take}
use Rattle.command_words.proofs.words.add_names.Given as goal

-- the names of the files so far stand behind those that were there
abbrev pub invariant-loop-file : goal.invariant-loop-file
invariant-loop-file l = l.names ≡ l.fn.names ++ take l.file-index l.files
