use Rattle.std.proofs.Common.{◌≤◌, ◌≡◌, All, AllPairs, List, ap, arith, length, subst, sym, rules}
use Rattle.plan_core.specs.declared.types.Piece.{Piece}
use Rattle.cover_core.specs.Plans.{all_items}
use Rattle.vdv452_tables.proofs.OrderLemmas.{order_all, order_length}
use Rattle.plan_params.specs.Settings.{in_order}
use Rattle.block_cut.specs.Cuts.{IsEarlier, IsShift, moment, pieces_by_block}
use Rattle.block_cut.proofs.Few.{all_few, plan_items}
use Rattle.block_cut.proofs.Ordered.{plan_ordered}
use Rattle.block_cut.proofs.Times.{ok_made}
use Rattle.block_cut.proofs.cutting.cut.Goals as goal

pub returns-clause-order : goal.returns-clause-order
returns-clause-order c =
    let day = c.args.day.now in
    let columns = c.args.blocks.now.columns in
    let is : c.in_ok-pieces.pieces ≡ pieces_by_block day 1 columns = search rules in
    let P : List Piece → Type 0 = λ ps. All IsShift ps in
    let Q : List Piece → Type 0 = λ ps. AllPairs IsEarlier (in_order moment ps) in
    ok_made c.in_order.result (λ ps. AllPairs IsEarlier ps) (in_order moment c.in_ok-pieces.pieces) c.in_order.ensures
    (subst Q (sym is) (plan_ordered day columns (subst P is c.in_ok-pieces.ensures.shifts)))

pub returns-clause-shifts : goal.returns-clause-shifts
returns-clause-shifts c =
    ok_made c.in_order.result (λ ps. All IsShift ps) (in_order moment c.in_ok-pieces.pieces) c.in_order.ensures
    (order_all moment IsShift c.in_ok-pieces.pieces c.in_ok-pieces.ensures.shifts)

pub returns-clause-few : goal.returns-clause-few
returns-clause-few c =
    let columns = c.args.blocks.now.columns in
    let is : c.in_ok-pieces.pieces ≡ pieces_by_block c.args.day.now 1 columns = search rules in
    ok_made c.in_order.result (λ ps. length ps ≤ length (all_items columns)) (in_order moment c.in_ok-pieces.pieces) c.in_order.ensures
    (omega (arith, order_length moment c.in_ok-pieces.pieces, ap length is, all_few c.args.day.now 1 columns))

pub returns-clause-plan : goal.returns-clause-plan
returns-clause-plan c = λ p listed plan.
    let columns = c.args.blocks.now.columns in
    let is : c.in_ok-pieces.pieces ≡ pieces_by_block c.args.day.now 1 columns = search rules in
    ok_made c.in_order.result (λ ps. length ps ≤ p.items) (in_order moment c.in_ok-pieces.pieces) c.in_order.ensures
    (omega (
      arith,
      order_length moment c.in_ok-pieces.pieces,
      ap length is,
      all_few c.args.day.now 1 columns,
      plan_items p columns listed plan,
    ))
