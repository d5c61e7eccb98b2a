use Rattle.std.proofs.Common.{◌≡◌, ◌∙◌, ◌*◌, ◌<◌, Some, length, arith, ap}
use Rattle.std.proofs.lemmas.List.{length-set}
use Rattle.std.proofs.lemmas.List.Elements.{All-pop}
use Rattle.cover_core.specs.Best.{best_of}
use Rattle.worker_price.specs.Work.{IsSoundFound}
use Rattle.worker_price.specs.Order.{IsKeptAsBest}
use Rattle.worker_price.proofs.InOrder.{placed_step, placed_all}
use Rattle.worker_price.proofs.order.kept_slots.Goals as goal

pub loop-one-preserved : goal.loop-one-preserved
loop-one-preserved g c =
    let best = best_of (g.P.Columns.problem c.args._pricer.now) c.args.prices.now.items in
    let sound = All-pop (IsSoundFound c.args.prices.now.items c.args.classes c.args.groups) c.loop-one.found.items c.pop.new.self.items
    (Some c.in-Some.one) c.in-Some.ensures.items c.loop-one.invariant.sound in
    let kept_as = All-pop (IsKeptAsBest best c.args.prices.now.items c.args.groups c.args.least.now) c.loop-one.found.items
    c.pop.new.self.items (Some c.in-Some.one) c.in-Some.ensures.items c.loop-one.invariant.kept in
    let task = sound.1.task in
    let low : c.in-Some.one.task < length c.loop-one.slots = (let len = c.loop-one.invariant.len in omega arith) in
    record {
      len = ap length c.set.ensures ∙ (length-set c.loop-one.slots c.in-Some.one.task c.keep-kept.result ∙ c.loop-one.invariant.len);
      sound = sound.0;
      kept = kept_as.0;
      placed = λ f h. rw (c.set.ensures, c.keep-kept.ensures)
          (placed_step best c.args.prices.now.items c.args.groups c.args.least.now c.loop-one.slots c.loop-one.found.items
          c.pop.new.self.items c.in-Some.one f c.in-Some.ensures.items low kept_as.1 (c.loop-one.invariant.placed f h));
    }

pub returns : goal.returns
returns g c =
    let best = best_of (g.P.Columns.problem c.args._pricer.now) c.args.prices.now.items in
    let none : length c.loop-one.found.items ≡ 0 = (let a = c.in_default.ensures.cases in omega (arith, c.loop-one.found.ok)) in
    placed_all best c.args.prices.now.items c.args.groups c.args.least.now c.loop-one.slots c.args.found.items c.loop-one.found.items
    (c.args.classes * c.args.groups) c.loop-one.invariant.len none
    c.requires.all c.loop-one.invariant.placed
