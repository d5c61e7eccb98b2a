use Rattle.std.proofs.Common.{◌≡◌, ◌≤◌, length, take, reverse}
use Rattle.vdv451_text.specs.Lines.{without_front_blanks}
use Rattle.vdv451_text.proofs.pieces.before_blanks.Given as goal

-- blanks alone stand behind the end
abbrev pub invariant-loop-end : goal.invariant-loop-end
invariant-loop-end l = record {
  within : l.end ≤ length l.bytes;
  same : without_front_blanks (reverse (take l.end l.bytes)) ≡ without_front_blanks (reverse l.bytes);
}

abbrev pub decreases-loop-end : goal.decreases-loop-end
decreases-loop-end l = l.end
