use Rattle.std.proofs.Common.{◌<ℤ◌, ◌+ℤ◌, ◌-ℤ◌, ℕ, subst, rules, w64}
use Rattle.std.specs.Prelude.{FitsSigned}
use Rattle.cover_core.specs.Plans.{price_at}
use Rattle.duty_pricing.specs.Bounds.{cell_at}
use Rattle.duty_pricing.specs.Laws.{none-after}
use Rattle.duty_pricing.proofs.Checks.{too-high}
use Rattle.duty_pricing.proofs.labels.DutyLabels.is_over.Goals as goal

pub returns : goal.returns
returns c = λ over.
    let s = c.args.self.now in
    let limit_fits : FitsSigned w64 c.args.limit = search rules in
    let value_fits : FitsSigned w64 c.args.mark.now.value = search rules in
    let high = too-high c.is_too_high.result c.args.limit c.args.mark.now.value _ _ limit_fits value_fits c.is_too_high.ensures over in
    let P : ℕ → Type 0 = λ n. c.args.limit <ℤ
    ((c.args.mark.now.value -ℤ price_at s.prices.now c.args.item) +ℤ cell_at s.over.items c.args.item n) in
    none-after s.net.now s.prices.now s.crew s.reach s.latest _ s.rows.items s.over.items c.args.limit c.args.mark.now c.args.item
    c.piece.result.now s.in_reach s.bound c.piece.ensures.piece
    (subst P c.left-left.ensures.value high)
