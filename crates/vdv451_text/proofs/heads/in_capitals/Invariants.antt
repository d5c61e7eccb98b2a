use Rattle.std.proofs.Common.{◌≡◌, ◌++◌, drop}
use Rattle.std.specs.Str.{str_to_ascii_uppercase}
use Rattle.vdv451_text.proofs.heads.in_capitals.Given as goal

abbrev pub invariant-loop-byte : goal.invariant-loop-byte
invariant-loop-byte l = str_to_ascii_uppercase l.bytes ≡ l.name.items ++ str_to_ascii_uppercase (drop l.byte-index l.bytes)
