use Rattle.std.proofs.Common.{◌≡◌, ◌==◌, true, false, arith, rules}
use Rattle.cover_core.specs.declared.Column.{Column}
use Rattle.tail_exchange.proofs.Moderate.{counted-more}
use Rattle.tail_exchange.proofs.exchange.count_of.Goals as goal
use Rattle.tail_exchange.proofs.exchange.count_of.Goals.{then-column-class, else-column-class}

pub loop-column-preserved : goal.loop-column-preserved
loop-column-preserved c =
    let column : Column = c.column-item.result in
    let class = c.args.class in
    let k = c.loop-column.column-index in
    let plan = c.args.plan.now in
    let more = counted-more class plan k column c.loop-column-test.true c.column-item.is in
    let before = c.loop-column.invariant.count in
    let few = c.loop-column.invariant.few in
    elim c.if-column-class.branch [
      | then-column-class w ↦
          let test : (class == column.class) ≡ true = search rules in
          let sum = rw test at more in
          let is = w.count-is in
          record { count = omega arith; few = omega arith }
      | else-column-class w ↦
          let test : (class == column.class) ≡ false = search rules in
          let sum = rw test at more in
          let is = w.count-is in
          record { count = omega arith; few = omega arith }
    ]
