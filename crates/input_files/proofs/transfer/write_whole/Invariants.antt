use Rattle.std.proofs.Common.{◌≡◌, ◌-◌, ◌≤◌, ◌++◌, length, take, Some, IfSome}
use Rattle.input_files.proofs.transfer.write_whole.Given as goal

-- what was taken so far is the initial part of the text
abbrev pub invariant-loop-at : goal.invariant-loop-at
invariant-loop-at g l = record {
  bound : l.at ≤ length l.text;
  front : IfSome (g.O.Sink.taken l.fn.out) (λ old. g.O.Sink.taken l.out ≡ Some (old ++ take l.at l.text));
  quiet : g.O.Sink.faults l.out ≡ g.O.Sink.faults l.fn.out;
  later : g.O.Sink.faults l.fn.out ≤ g.O.Sink.faults l.out;
}

abbrev pub decreases-loop-at : goal.decreases-loop-at
decreases-loop-at g l = length l.text - l.at
