use Rattle.std.proofs.Common.{◌≡◌, ℤ, rules, subst, w64}
use Rattle.std.proofs.lemmas.Int.{to_z-of_z}
use Rattle.std.specs.Prelude.{FitsSigned, IfOk}
use Rattle.cover_core.specs.Best.{best_of, within}
use Rattle.duty_network.specs.Duties.{duties}
use Rattle.duty_pricing.proofs.Ties.{made-tied}
use Rattle.duty_pricing.proofs.pricer.best_duty.Goals as goal

pub returns-then-not-begins_within-clause-best : goal.returns-then-not-begins_within-clause-best
returns-then-not-begins_within-clause-best c =
    let d = c.args.net.now in
    let labels = c.in_ok-whole.whole in
    let own = c.in_ok-whole.ensures in
    let fits : FitsSigned w64 c.args.limit = search rules in
    let P : ℤ → Type 0 = λ z. IfOk c.best_column.result
    (λ answer. answer ≡ within z c.args.prices.now (best_of (duties d) c.args.prices.now c.args.class c.args.group)) in
    subst P (to_z-of_z w64 c.args.limit fits) (c.best_column.ensures.best c.args.prices.now c.args.group
    (made-tied d labels.net.now c.args.prices.now labels.prices.now c.args.class labels.class labels.crew c.args.group labels.first
    labels.end own.net own.prices own.class own.first own.end own.crew
    c.fits.ensures))

pub returns-clause-best : goal.returns-clause-best
returns-clause-best c =
    let d = c.args.net.now in
    let labels = c.in_ok-parted.parted in
    let own = c.in_ok-parted.ensures in
    let fits : FitsSigned w64 c.args.limit = search rules in
    let P : ℤ → Type 0 = λ z. IfOk c.best_column-2.result
    (λ answer. answer ≡ within z c.args.prices.now (best_of (duties d) c.args.prices.now c.args.class c.args.group)) in
    subst P (to_z-of_z w64 c.args.limit fits) (c.best_column-2.ensures.best c.args.prices.now c.args.group
    (made-tied d labels.net.now c.args.prices.now labels.prices.now c.args.class labels.class labels.crew c.args.group labels.first
    labels.end own.net own.prices own.class own.first own.end own.crew
    c.fits.ensures))
