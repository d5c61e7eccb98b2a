use Rattle.std.proofs.Common.{◌∙◌, sym, length, rules, w64}
use Rattle.std.proofs.lemmas.Int.{to_z-of_z}
use Rattle.std.specs.Prelude.{FitsSigned}
use Rattle.duty_pricing.specs.Bounds.{IsRangeMark}
use Rattle.duty_pricing.specs.Laws.{duty-safe}
use Rattle.duty_pricing.proofs.Checks.{if-some}
use Rattle.duty_pricing.proofs.labels.DutyLabelsLabels.extend.Goals as goal

pub returns-then-is_over : goal.returns-then-is_over
returns-then-is_over c =
    let limit_fits : FitsSigned w64 c.args.limit = search rules in
    sym (rw (to_z-of_z w64 _ limit_fits) at (c.is_over.ensures c.if-is_over.true))

pub within-requires : goal.within-requires
within-requires c =
    let s = c.args.self.now in
    let safe = duty-safe s.net.now s.prices.now s.class s.crew s.first s.end s.latest s.fits s.ranges s.moderate s.starts in
    if-some (IsRangeMark (length s.net.now.pieces) s.first s.latest) c.next.result
    (λ a e. safe.steps c.args.label.now a c.args.item c.requires.sound (sym c.next.ensures ∙ e))
