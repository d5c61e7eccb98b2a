use Rattle.std.proofs.Common.{arith, length-drop}
use Rattle.std.proofs.lemmas.List.{take_rest}
use Rattle.input_files.proofs.PieceLemmas.{piece_taken}
use Rattle.input_files.proofs.transfer.write_whole.Goals as goal

pub loop-at-preserved : goal.loop-at-preserved
loop-at-preserved g c =
    let rest = take_rest c.args.text.now c.loop-at.at in
    let some = rw rest at c.in-Ok.ensures.some.bound in
    record {
      bound = omega (arith, some, length-drop c.loop-at.at c.args.text.now);
      front = piece_taken _ _ _ _ c.args.text.now _ c.loop-at.at c.in-Ok.count rest c.loop-at.invariant.front c.in-Ok.ensures.taken;
      quiet = omega (arith, c.in-Ok.ensures.cause.quiet, c.loop-at.invariant.quiet);
      later = omega (arith, c.in-Ok.ensures.cause.later);
    }
