use Rattle.std.proofs.Common.{◌∙◌, ap, sym, length, cond, rules, w64}
use Rattle.std.proofs.lemmas.Int.{to_z-of_z}
use Rattle.std.specs.Prelude.{FitsSigned, None}
use Rattle.label_search.specs.Limits.{is_low, passed}
use Rattle.duty_pricing.specs.Bounds.{IsRangeMark, floor_of}
use Rattle.duty_pricing.specs.Laws.{duty-safe}
use Rattle.duty_network.specs.Marks.{first_mark}
use Rattle.duty_pricing.proofs.Checks.{between-test, if-some}
use Rattle.duty_pricing.proofs.labels.DutyLabelsLabels.start.Goals as goal

pub within-requires : goal.within-requires
within-requires c =
    let s = c.args.self.now in
    let safe = duty-safe s.net.now s.prices.now s.class s.crew s.first s.end s.latest s.fits s.ranges s.moderate s.starts in
    if-some (IsRangeMark (length s.net.now.pieces) s.first s.latest) c.first.result (λ a e. safe.starts c.args.item a
    (ap (λ t. cond t (first_mark s.net.now s.prices.now s.class s.crew c.args.item) None)
    (between-test s.first s.end c.args.item c.if-self-item.true c.if-item-self.true) ∙ sym c.first.ensures ∙ e))

pub returns-then-item-self : goal.returns-then-item-self
returns-then-item-self c =
    let s = c.args.self.now in
    let limit_fits : FitsSigned w64 c.args.limit = search rules in
    let own = ap (λ t. cond t (first_mark s.net.now s.prices.now s.class s.crew c.args.item) None)
    (between-test s.first s.end c.args.item c.if-self-item.true c.if-item-self.true) in
    (rw (to_z-of_z w64 _ limit_fits) at c.within.ensures)
    ∙ ap (passed (is_low (floor_of s.reach s.crew s.rows.items s.over.items) c.args.limit)) (c.first.ensures ∙ sym own)
