use Rattle.std.proofs.Common.{◌≡◌, ◌<◌, ◌+◌, length, get_or, arith, ap, ◌∙◌, List, ℕ}
use Rattle.std.proofs.Math.ListN.{length-set}
use Rattle.cover_core.proofs.Values.{AllBelow-get}
use Rattle.cover_core.proofs.Times.{times-front, added-more}
use Rattle.cover_core.proofs.tally.add_items.Goals as goal

pub bounds-as_slice-item : goal.bounds-as_slice-item
bounds-as_slice-item c =
    let item = get_or c.args.list.now c.loop-item.item-index 0 in
    let below : item < length c.args.cover.now =
    AllBelow-get _ c.args.list.now c.loop-item.item-index c.requires.items c.loop-item-test.true in
    let same = ap (λ (l : List ℕ). length l) c.as_slice.ensures in
    omega (arith, c.loop-item.invariant.len)

pub overflow_add-count : goal.overflow_add-count
overflow_add-count c =
    let item = get_or c.args.list.now c.loop-item.item-index 0 in
    let front = times-front item c.loop-item.item-index c.args.list.now (omega arith) in
    let short = c.requires.short in
    let is = ap (λ (l : List ℕ). get_or l item 0) c.as_slice.ensures in
    omega (arith, is, c.loop-item.invariant.added item, c.requires.small item)

pub set-requires : goal.set-requires
set-requires c =
    let item = get_or c.args.list.now c.loop-item.item-index 0 in
    let below : item < length c.args.cover.now =
    AllBelow-get _ c.args.list.now c.loop-item.item-index c.requires.items c.loop-item-test.true in
    omega (arith, c.loop-item.invariant.len)

pub loop-item-preserved : goal.loop-item-preserved
loop-item-preserved c =
    let list = c.args.list.now in
    let cover = c.loop-item.cover in
    let item = get_or list c.loop-item.item-index 0 in
    let v = get_or c.as_slice.result.now item 0 in
    let below : item < length c.args.cover.now = AllBelow-get _ list c.loop-item.item-index c.requires.items c.loop-item-test.true in
    let inside : item < length cover = omega (arith, c.loop-item.invariant.len) in
    let is : v ≡ get_or cover item 0 = ap (λ (l : List ℕ). get_or l item 0) c.as_slice.ensures in
    record {
      len = ap (λ (l : List ℕ). length l) c.set.ensures ∙ (length-set cover item (v + 1) ∙ c.loop-item.invariant.len);
      added = λ i. ap (λ (l : List ℕ). get_or l i 0) c.set.ensures
          ∙ added-more c.args.cover.now cover list c.loop-item.item-index v i c.loop-item-test.true inside is
          (c.loop-item.invariant.added i);
    }
