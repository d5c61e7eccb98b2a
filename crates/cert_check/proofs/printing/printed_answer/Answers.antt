use Rattle.std.proofs.Common.{◌≡◌, ◌<◌, ◌≤◌, ℕ, false, All, List, length, ap, ◌∙◌, subst, sym, arith}
use Rattle.cover_core.specs.declared.Column.{Column}
use Rattle.cover_core.specs.declared.Plan.{Plan}
use Rattle.cover_core.specs.Plans.{IsPlan}
use Rattle.block_cut.specs.Legs.{HasWorth}
use Rattle.cert_check.specs.Judging.{Case, blocks_in}
use Rattle.cert_check.proofs.Again.{duty_items, order_long, plan_worths}
use Rattle.cert_check.proofs.printing.printed_answer.Goals as goal

pub block_pieces-requires : goal.block_pieces-requires
block_pieces-requires c =
    c.in_ok-sorted.ensures.plan (blocks_in c.args.case.now false)
    (subst (λ (b : Plan). IsPlan (blocks_in c.args.case.now false) b.columns) (sym c.in_ok-copied_plan.ensures) c.requires.plan)

pub renumbered_all-requires-clause-few : goal.renumbered_all-requires-clause-few
renumbered_all-requires-clause-few c =
    let copied : length c.in_ok-copied_plan.field-0.columns ≤ 3000 =
    subst (λ (b : Plan). length b.columns ≤ 3000) (sym c.in_ok-copied_plan.ensures) c.requires.few_blocks in
    let same : length c.in_ok-sorted.sorted.columns ≡ length c.in_ok-copied_plan.field-0.columns =
    ap (λ (l : List Column). length l) c.in_ok-sorted.ensures.order ∙ order_long c.in_ok-copied_plan.field-0.columns in
    subst (λ (l : List Column). length l ≤ 3000) (sym c.as_slice-2.ensures) (omega (arith, same, copied))

pub renumbered_all-requires-clause-items : goal.renumbered_all-requires-clause-items
renumbered_all-requires-clause-items c =
    subst (λ (l : List Column). All (λ (duty : Column). All (λ (item : ℕ). item < length c.args.pieces.now) duty.items) l)
    (sym c.as_slice-4.ensures)
    (duty_items c.args.case.now c.args.pieces.now c.args.duties.now.columns c.requires.duties)

pub block_legs-requires : goal.block_legs-requires
block_legs-requires c =
    let plan : IsPlan (blocks_in c.args.case.now false) c.in_ok-sorted.sorted.columns =
    c.in_ok-sorted.ensures.plan (blocks_in c.args.case.now false)
    (subst (λ (b : Plan). IsPlan (blocks_in c.args.case.now false) b.columns) (sym c.in_ok-copied_plan.ensures) c.requires.plan) in
    let P : Case → List Column → Type 0 = λ k l. All (HasWorth k.day) l in
    subst (λ (k : Case). P k c.as_slice-5.result.now) (sym c.case.view_is)
    (subst (P c.args.case.now) (sym c.as_slice-5.ensures) (plan_worths c.args.case.now.day c.in_ok-sorted.sorted.columns plan))
