use Rattle.std.proofs.Common.{arith}
use Rattle.vdv452_tables.proofs.LookUpLemmas.{index_step}
use Rattle.vdv452_tables.proofs.index.index_of.Goals as goal

pub loop-left-preserved : goal.loop-left-preserved
loop-left-preserved g c = record {
  within = omega (arith, c.loop-left.invariant.within);
  index = index_step g.K.PartialEq.eq g.R.KeyedRow.key_of g.R.KeyedRow.value_of c.loop-left.index c.insert.new.self c.args.rows.now
      c.loop-left.left c.index-rows-left.result _ (omega (arith, c.loop-left-test.true))
      (omega (arith, c.loop-left-test.true, c.loop-left.invariant.within)) c.index-rows-left.is c.in_ok-key.ensures
      c.in_ok-insert.ensures.updates.0 c.loop-left.invariant.index;
}

pub loop-left-preserved-in_ok-insert : goal.loop-left-preserved-in_ok-insert
loop-left-preserved-in_ok-insert g c = record {
  within = omega (arith, c.loop-left.invariant.within);
  index = index_step g.K.PartialEq.eq g.R.KeyedRow.key_of g.R.KeyedRow.value_of c.loop-left.index c.insert.new.self c.args.rows.now
      c.loop-left.left c.index-rows-left.result _ (omega (arith, c.loop-left-test.true))
      (omega (arith, c.loop-left-test.true, c.loop-left.invariant.within)) c.index-rows-left.is c.in_ok-key.ensures
      c.in_ok-insert.ensures.updates.0 c.loop-left.invariant.index;
}
