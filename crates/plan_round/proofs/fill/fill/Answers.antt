use Rattle.std.proofs.Common.{◌≡◌, ◌<◌, ◌≤◌, ◌+◌, length, true, false, sym, ap, ◌∙◌, subst, arith}
use Rattle.cover_core.specs.Parts.{is_free}
use Rattle.plan_round.specs.Rounding.{round_items, whole, left}
use Rattle.cover_core.specs.FirstLeast.{AreCheap}
use Rattle.plan_round.specs.declared.draft.Draft.{Draft}
use Rattle.plan_round.specs.Drafts.{IsPlaced, IsCounted}
use Rattle.plan_round.specs.Laws.{IsStuck}
use Rattle.plan_round.proofs.Fills.{filled-so_far, free-still, round_items-step, left-at, stuck-at, plan-at}
use Rattle.plan_round.proofs.fill.fill.Goals as goal
use Rattle.plan_round.proofs.fill.fill.Goals.{then-free-item+in-Ok-true, else-free-item}

pub place_item-requires-clause-part : goal.place_item-requires-clause-part
place_item-requires-clause-part g c =
    let p = g.C.Columns.problem c.args.columns.now in
    let most : c.loop-item.item ≤ p.items = omega (arith, c.items-item-end.ensures.value) in
    (filled-so_far p c.args.draft.columns c.loop-item.item c.loop-item.part.columns most c.requires.part
    c.loop-item.invariant.so_far).part.worths

pub returns-in-Ok-false-clause-fault : goal.returns-in-Ok-false-clause-fault
returns-in-Ok-false-clause-fault g c =
    let p = g.C.Columns.problem c.args.columns.now in
    let start = c.args.draft.columns in
    let n = c.loop-item.item in
    let columns = c.loop-item.part.columns in
    let less : n < p.items = omega (arith, c.items-item-end.ensures.value) in
    let most : n ≤ p.items = omega arith in
    let filled = filled-so_far p start n columns most c.requires.part c.loop-item.invariant.so_far in
    let free : is_free columns n ≡ true =
    free-still p start n columns filled ∙ sym (c.requires.free n (omega (arith, c.requires.items))) ∙ c.if-free-item.true in
    let placed = subst (IsPlaced p n columns c.place_item.new.draft.columns) c.in-Ok-false.field-0-test c.in-Ok-false.ensures.placed in
    let is : round_items p p.items start ≡ left n columns = left-at p start n columns less c.loop-item.invariant.so_far free placed.0 in
    let stuck : IsStuck p n columns = stuck-at p start n columns c.requires.part is in
    (is ∙ ap (left n) (sym placed.1), subst (IsStuck p n) (sym placed.1) stuck)

pub loop-item-preserved : goal.loop-item-preserved
loop-item-preserved g c =
    let p = g.C.Columns.problem c.args.columns.now in
    let start = c.args.draft.columns in
    let n = c.loop-item.item in
    let columns = c.loop-item.part.columns in
    let less : n < p.items = omega (arith, c.items-item-end.ensures.value) in
    let most : n ≤ p.items = omega arith in
    let filled = filled-so_far p start n columns most c.requires.part c.loop-item.invariant.so_far in
    let shown = free-still p start n columns filled ∙ sym (c.requires.free n (omega (arith, c.requires.items))) in
    elim c.if-free-item.branch [
      | then-free-item+in-Ok-true w ↦
          let free : is_free columns n ≡ true = shown ∙ w.if-free-item.true in
          let placed = subst (IsPlaced p n columns w.place_item.new.draft.columns) w.in-Ok-true.field-0-test w.in-Ok-true.ensures.placed in
          let Rounds : Draft → Type 0 = λ d. round_items p (n + 1) start ≡ whole d.columns in
          let Cheap : Draft → Type 0 = λ d. AreCheap d.columns in
          let Sized : Draft → Type 0 = λ d. length d.counts ≡ length p.caps in
          let Counted : Draft → Type 0 = λ d. IsCounted d.columns d.counts in
          record {
            so_far = subst Rounds (sym w.part-is) (round_items-step p start n columns true c.loop-item.invariant.so_far free ∙ placed);
            cheap = subst Cheap (sym w.part-is) w.in-Ok-true.ensures.cheap;
            sized = subst Sized (sym w.part-is) (w.in-Ok-true.ensures.sized ∙ c.loop-item.invariant.sized);
            counted = subst Counted (sym w.part-is) w.in-Ok-true.ensures.counted;
          }
      | else-free-item w ↦
          let taken : is_free columns n ≡ false = shown ∙ w.if-free-item.false in
          let Rounds : Draft → Type 0 = λ d. round_items p (n + 1) start ≡ whole d.columns in
          let Cheap : Draft → Type 0 = λ d. AreCheap d.columns in
          let Sized : Draft → Type 0 = λ d. length d.counts ≡ length p.caps in
          let Counted : Draft → Type 0 = λ d. IsCounted d.columns d.counts in
          record {
            so_far = subst Rounds (sym w.part-is) (round_items-step p start n columns false c.loop-item.invariant.so_far taken);
            cheap = subst Cheap (sym w.part-is) c.loop-item.invariant.cheap;
            sized = subst Sized (sym w.part-is) c.loop-item.invariant.sized;
            counted = subst Counted (sym w.part-is) c.loop-item.invariant.counted;
          }
    ]

pub returns-clause-plan : goal.returns-clause-plan
returns-clause-plan g c =
    let p = g.C.Columns.problem c.args.columns.now in
    let end : c.loop-item.item ≡ p.items = omega (arith, c.items-item-end.ensures.value) in
    plan-at p c.args.draft.columns c.loop-item.part.columns c.requires.part (ap (λ k. round_items p k c.args.draft.columns) (sym end)
    ∙ c.loop-item.invariant.so_far)
