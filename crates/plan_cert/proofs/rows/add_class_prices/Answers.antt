use Rattle.std.proofs.Common.{get_or, pos, rules, w64, to_z-of_z, FitsSigned}
use Rattle.plan_cert.proofs.TableRows.{class-more}
use Rattle.plan_cert.proofs.rows.add_class_prices.Goals as goal

pub loop-place-preserved : goal.loop-place-preserved
loop-place-preserved c =
    let fits : FitsSigned w64 (get_or c.args.prices.now c.loop-place.place (pos 0)) = search rules in
    class-more c.loop-place.rows c.add_class_price.new.rows _ c.args.pass c.args.numbers.now c.loop-place.place c.args.prices.now _ (pos 0)
    c.loop-place-test.true (to_z-of_z {w = w64} fits)
    c.in_ok-add_class_price.ensures c.loop-place.invariant
