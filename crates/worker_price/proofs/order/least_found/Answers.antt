use Rattle.std.proofs.Common.{◌≡◌, ◌∙◌, ◌/◌, ◌<◌, sym, pos, length, take, get_or, arith, ap}
use Rattle.std.proofs.Math.Seq.{take-length}
use Rattle.std.proofs.lemmas.List.FromFn.{fill_by_all}
use Rattle.std.proofs.lemmas.List.Elements.{All-get_or}
use Rattle.worker_price.specs.Work.{lowerings, IsSoundFound}
use Rattle.worker_price.specs.Gathered.{least_lowered}
use Rattle.worker_price.proofs.InOrder.{least_step, length_after, lowerings-take, class_of_task}
use Rattle.worker_price.proofs.order.least_found.Goals as goal

pub loop-one-preserved : goal.loop-one-preserved
loop-one-preserved c =
    let below : c.loop-one.one-index < length c.args.found.now = omega arith in
    let sound : IsSoundFound c.args.prices.now.items c.args.classes c.args.groups c.one-item.result =
    rw c.one-item.is (All-get_or (IsSoundFound c.args.prices.now.items c.args.classes c.args.groups) c.args.found.now c.loop-one.one-index
    c.one-item.result below c.requires.sound) in
    let small : c.one-item.result.task / c.args.groups < c.args.classes = class_of_task _ _ _ sound.task in
    record {
      order = omega arith;
      len = ap length c.lower_least.ensures ∙ (length_after _ _ _ _ ∙ c.loop-one.invariant.len);
      least = λ k h.
          let step = least_step c.args.prices.now.items c.loop-one.least
          (lowerings c.args.prices.now.items c.args.groups (take c.loop-one.one-index c.args.found.now)) c.args.classes
          (c.one-item.result.task / c.args.groups) c.one-item.result.column c.loop-one.invariant.len small c.loop-one.invariant.least k h in
          ap (λ l. get_or l k (pos 0)) c.lower_least.ensures
          ∙ (step ∙ ap (λ l. least_lowered l k)
          (sym (lowerings-take c.args.prices.now.items c.args.groups c.args.found.now c.loop-one.one-index
          c.one-item.result below c.one-item.is)));
    }

pub returns : goal.returns
returns c =
    let end : c.loop-one.one-index ≡ length c.args.found.now = omega arith in
    let all : take c.loop-one.one-index c.args.found.now ≡ c.args.found.now = rw end (take-length c.args.found.now) in
    fill_by_all (least_lowered (lowerings c.args.prices.now.items c.args.groups c.args.found.now)) c.loop-one.least c.args.classes
    (pos 0) c.loop-one.invariant.len
    (λ k h. c.loop-one.invariant.least k h ∙ ap (λ fs. least_lowered (lowerings c.args.prices.now.items c.args.groups fs) k) all)
