use Rattle.std.proofs.Common.{◌≡◌, false, get_or, drop, sym, ap, ◌∙◌, rules, drop-cons, suc}
use Rattle.std.specs.Prelude.{◌&&◌}
use Rattle.cover_core.specs.Parts.{is_free}
use Rattle.cover_core.proofs.Values.{AllBelow-get}
use Rattle.plan_round.specs.Rounding.{all_free}
use Rattle.plan_round.proofs.take.all_free.Goals as goal

pub bounds-free-item : goal.bounds-free-item
bounds-free-item c = AllBelow-get _ c.args.list.now c.loop-item.item-index c.requires.items c.loop-item-test.true

pub returns-then-not-free-item : goal.returns-then-not-free-item
returns-then-not-free-item c =
    let list = c.args.list.now in
    let part = c.args.part.now in
    let k = c.loop-item.item-index in
    let item = get_or list k 0 in
    let taken : get_or c.args.free.now item false ≡ false = search rules in
    let is : is_free part item ≡ false =
    sym (c.requires.free item (AllBelow-get _ list k c.requires.items c.loop-item-test.true)) ∙ taken in
    let here : all_free part (drop k list) ≡ false =
    ap (all_free part) (drop-cons list k 0 c.loop-item-test.true) ∙ ap (λ b. b && all_free part (drop (suc k) list)) is in
    sym (c.loop-item.invariant ∙ here)
