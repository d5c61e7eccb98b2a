use Rattle.std.proofs.Common.{◌+◌, ◌<◌, drop, length, ap, ◌∙◌, arith}
use Rattle.cover_core.specs.Plans.{all_items, times}
use Rattle.cover_core.proofs.Parts.{times-append}
use Rattle.plan_check.proofs.Counted.{items-step}
use Rattle.plan_check.proofs.counts.count_items.Goals as goal

pub count_numbers-requires : goal.count_numbers-requires
count_numbers-requires c = λ n below.
    let i = c.loop-list.list-index in
    let lists = c.args.lists.now in
    let long = c.loop-list.invariant.long in
    let below' : n < length c.args.counts.now = omega arith in
    let left = c.loop-list.invariant.left n below' in
    let rest = all_items (drop (i + 1) lists) in
    let step = ap (times n) (items-step lists i c.list-item.result c.loop-list-test.true c.list-item.is)
    ∙ times-append n c.list-item.result.items rest in
    let here = ap (times n) c.as_slice.ensures in
    let few = c.requires n below' in
    omega arith

pub loop-list-preserved : goal.loop-list-preserved
loop-list-preserved c =
    let i = c.loop-list.list-index in
    let lists = c.args.lists.now in
    let long = c.loop-list.invariant.long in
    let kept = c.count_numbers.ensures.length in
    record {
      long = omega arith;
      left = λ n below.
          let below' : n < length c.loop-list.counts = omega arith in
          let left = c.loop-list.invariant.left n below in
          let rest = all_items (drop (i + 1) lists) in
          let step = ap (times n) (items-step lists i c.list-item.result c.loop-list-test.true c.list-item.is)
          ∙ times-append n c.list-item.result.items rest in
          let here = ap (times n) c.as_slice.ensures in
          let risen = c.count_numbers.ensures.risen n below' in
          omega arith;
    }
