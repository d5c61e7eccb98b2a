use Rattle.std.proofs.Common.{◌<◌, ◌∙◌, refl, arith, length, inl, inr}
use Rattle.input_files.proofs.PieceLemmas.{none_read, piece_read, all_read, too_many}
use Rattle.input_files.proofs.transfer.read_pieces.Goals as goal

pub loop-count-init : goal.loop-count-init
loop-count-init g c = record {
  bound = omega (arith, c.new-bytes.ensures.len);
  front = none_read _ _ _ c.new-bytes.ensures.items c.new-bytes.ensures.len;
  later = λ other. omega arith;
  same = λ other. refl;
  quiet = λ other. refl;
  buffer = c.requires.room;
}

pub returns-in-Err-clause-same : goal.returns-in-Err-clause-same
returns-in-Err-clause-same g c = λ other. c.read.ensures.same other ∙ c.loop-count.invariant.same other

pub returns-then-count-eq0-clause-bytes : goal.returns-then-count-eq0-clause-bytes
returns-then-count-eq0-clause-bytes g c =
    let reads = rw c.len-at.ensures at c.in-Ok.ensures.bytes in
    let room : 0 < length c.read.new.buf = omega (arith, c.loop-count.invariant.buffer, c.read.auto.buf) in
    all_read _ _ c.loop-count.bytes.items c.read.new.buf _ _ (c.loop-count.invariant.same c.args.name.now)
    c.loop-count.invariant.front reads
    c.if-count-eq0.true room

pub returns-then-count-eq0-clause-same : goal.returns-then-count-eq0-clause-same
returns-then-count-eq0-clause-same g c = λ other. c.read.ensures.same other ∙ c.loop-count.invariant.same other

pub returns-then-count-most-clause-large : goal.returns-then-count-most-clause-large
returns-then-count-most-clause-large g c =
    let reads = rw c.len-at.ensures at c.in-Ok.ensures.bytes in
    λ _. too_many _ _ c.read.new.buf _ _ c.args.most (c.loop-count.invariant.same c.args.name.now) reads c.loop-count.invariant.bound
    (omega (arith, c.len-at.ensures))

pub returns-then-count-most-clause-same : goal.returns-then-count-most-clause-same
returns-then-count-most-clause-same g c = λ other. c.read.ensures.same other ∙ c.loop-count.invariant.same other

pub returns-in_err-append_front-clause-same : goal.returns-in_err-append_front-clause-same
returns-in_err-append_front-clause-same g c = λ other. c.read.ensures.same other ∙ c.loop-count.invariant.same other

pub loop-count-preserved : goal.loop-count-preserved
loop-count-preserved g c =
    let reads = rw c.len-at.ensures at c.in-Ok.ensures.bytes in
    let same = c.loop-count.invariant.same c.args.name.now in
    let more = piece_read _ _ c.loop-count.bytes.items c.read.new.buf _ c.in-Ok.count same c.loop-count.invariant.front reads in
    record {
      bound = omega (arith, c.in_ok-append_front.ensures.len, c.len-at.ensures);
      front = rw (c.in_ok-append_front.ensures.items, c.in_ok-append_front.ensures.len) more;
      later = λ other. omega (arith, c.loop-count.invariant.later other, c.read.ensures.cause.later other);
      same = λ other. c.read.ensures.same other ∙ c.loop-count.invariant.same other;
      quiet = λ other. c.in-Ok.ensures.cause.quiet other ∙ c.loop-count.invariant.quiet other;
      buffer = omega (arith, c.loop-count.invariant.buffer, c.read.auto.buf);
    }

pub returns-in-Err-clause-ended : goal.returns-in-Err-clause-ended
returns-in-Err-clause-ended g c = λ other. inl refl

pub returns-then-count-eq0-clause-ended : goal.returns-then-count-eq0-clause-ended
returns-then-count-eq0-clause-ended g c = λ other. inr (c.in-Ok.ensures.cause.quiet other ∙ c.loop-count.invariant.quiet other)

pub returns-then-count-most-clause-ended : goal.returns-then-count-most-clause-ended
returns-then-count-most-clause-ended g c = λ other. inr (c.in-Ok.ensures.cause.quiet other ∙ c.loop-count.invariant.quiet other)

pub returns-in_err-append_front-clause-ended : goal.returns-in_err-append_front-clause-ended
returns-in_err-append_front-clause-ended g c = λ other. inr (c.in-Ok.ensures.cause.quiet other ∙ c.loop-count.invariant.quiet other)
