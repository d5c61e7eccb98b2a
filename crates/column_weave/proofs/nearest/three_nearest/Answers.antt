use Rattle.std.proofs.Common.{sym, ◌∙◌, subst, arith, w64, to_z, of_z}
use Rattle.column_weave.specs.declared.nearest.Near.{Near}
use Rattle.column_weave.specs.declared.nearest.Nearest.{Nearest}
use Rattle.column_weave.specs.Nearest.{AreNearest, IsLater}
use Rattle.column_weave.proofs.Nears.{nearest-next}
use Rattle.column_weave.proofs.nearest.three_nearest.Goals as goal
use Rattle.column_weave.proofs.nearest.three_nearest.Goals.{in-None, in-Some}

pub loop-item-preserved : goal.loop-item-preserved
loop-item-preserved g c =
    let p = g.C.Columns.problem c.args.problem.now in
    let P : Nearest → Type 0 = λ n. AreNearest c.args.from p.items n in
    elim c.match-rise_of.branch [
      | in-None w ↦ subst P (sym w.nearest-is) c.loop-item.invariant
      | in-Some w ↦
          let near : Near = record { rise = to_z w64 (of_z w64 w.in-Some.rise); item = c.loop-item.item } in
          let after = c.loop-item.auto.item in
          let test = c.loop-item-test.true in
          let all = c.items-items.ensures.value in
          let later : IsLater c.args.from p.items near = record { after = omega arith; there = omega arith } in
          subst P (sym (w.nearest-is ∙ w.with_next-nearest.ensures))
          (nearest-next c.args.from p.items c.loop-item.nearest near c.loop-item.invariant later)
    ]
