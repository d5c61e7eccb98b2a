use Rattle.std.proofs.Common.{◌≡◌, ℤ, ◌≤◌, ◌*◌, ◌+◌, List, ◌∙◌, rules, sym, subst, length, w64}
use Rattle.std.proofs.lemmas.Int.{to_z-of_z}
use Rattle.std.specs.Prelude.{FitsSigned, IfOk}
use Rattle.plan_core.specs.declared.types.Price.{Price}
use Rattle.cover_core.specs.Best.{best_of, within}
use Rattle.cover_core.specs.FirstLeast.{AllWithin}
use Rattle.duty_network.specs.Duties.{duties}
use Rattle.duty_pricing.specs.Early.{priced_before}
use Rattle.duty_pricing.proofs.Early.{before-price, before-within, made-same}
use Rattle.duty_pricing.proofs.Ties.{made-tied}
use Rattle.duty_pricing.proofs.counted.best_counted.Goals as goal

pub returns-in-None-clause-best : goal.returns-in-None-clause-best
returns-in-None-clause-best c =
    let d = c.args.net.now in
    let labels = c.in_ok-labels.labels in
    let own = c.in_ok-labels.ensures in
    let fits : FitsSigned w64 c.args.limit = search rules in
    let P : ℤ → Type 0 = λ z. IfOk c.best_column.result
    (λ answer. answer ≡ within z c.args.prices.now (best_of (duties d) c.args.prices.now c.args.class c.args.group)) in
    subst P (to_z-of_z w64 c.args.limit fits) (c.best_column.ensures.best c.args.prices.now c.args.group
    (made-tied d labels.net.now c.args.prices.now labels.prices.now c.args.class labels.class labels.crew c.args.group labels.first
    labels.end own.net own.prices own.class own.first own.end own.crew
    c.fits.ensures))

pub new-requires-in-Some-clause-moderate : goal.new-requires-in-Some-clause-moderate
new-requires-in-Some-clause-moderate c =
    let P : List Price → Type 0 = λ l. AllWithin 10000000000000 l in
    subst P (sym (c.as_slice.ensures.value ∙ c.in_ok-before-in-Some.ensures))
    (before-within c.min-end.result c.args.prices.now c.requires.moderate)

pub best_column_by_value-requires-clause-same : goal.best_column_by_value-requires-clause-same
best_column_by_value-requires-clause-same c =
    let d = c.args.net.now in
    let prices = c.args.prices.now in
    let labels = c.in_ok-labels.labels in
    let own = c.in_ok-labels.ensures in
    let early = c.in_ok-early-in-Some.early in
    let other = c.in_ok-early-in-Some.ensures in
    let first = 16 * c.args.group in
    let end = c.min-end.result in
    let there : end ≤ length prices = search rules in
    made-same d labels.net.now early.net.now prices labels.prices.now (priced_before end prices) early.prices.now c.args.class labels.class
    early.class labels.crew early.crew first labels.first early.first (first + 16)
    labels.end early.end own.net other.net own.crew other.crew end own.prices
    (other.prices ∙ (c.as_slice.ensures.value ∙ c.in_ok-before-in-Some.ensures)) own.class other.class own.first
    other.first own.end other.end
    (before-price end prices there)

pub returns-clause-best : goal.returns-clause-best
returns-clause-best c =
    let d = c.args.net.now in
    let labels = c.in_ok-labels.labels in
    let own = c.in_ok-labels.ensures in
    let fits : FitsSigned w64 c.args.limit = search rules in
    let P : ℤ → Type 0 = λ z. IfOk c.best_column_by_value.result
    (λ answer. answer ≡ within z c.args.prices.now (best_of (duties d) c.args.prices.now c.args.class c.args.group)) in
    subst P (to_z-of_z w64 c.args.limit fits) (c.best_column_by_value.ensures.best c.args.prices.now c.args.group
    (made-tied d labels.net.now c.args.prices.now labels.prices.now c.args.class labels.class labels.crew c.args.group labels.first
    labels.end own.net own.prices own.class own.first own.end own.crew
    c.fits.ensures))
