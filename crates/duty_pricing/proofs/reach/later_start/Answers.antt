use Rattle.std.proofs.Common.{◌≡◌, ◌∙◌, ◌≤ℤ◌, sym, subst, rules, pos, w64}
use Rattle.std.proofs.lemmas.Int.{to_z-of_z}
use Rattle.std.specs.Prelude.{FitsSigned, Some, None}
use Rattle.cover_core.specs.declared.marks.Mark.{Mark}
use Rattle.duty_network.proofs.Better.{Some-same}
use Rattle.duty_network.proofs.Sizes.{marking-safe}
use Rattle.duty_pricing.proofs.reach.later_start.Goals as goal

pub returns-in-Some-clause-own : goal.returns-in-Some-clause-own
returns-in-Some-clause-own c = λ m from up e.
    let fits : FitsSigned w64 c.greater.result = search rules in
    let start_fits : FitsSigned w64 c.in-Some.mark.start.0 = search rules in
    let same : c.in-Some.mark ≡ m = Some-same c.in-Some.mark m (sym c.in-Some.is ∙ c.first.ensures ∙ e) in
    let P : Mark → Type 0 = λ a. a.start.0 ≤ℤ c.greater.result in
    rw (to_z-of_z w64 _ fits) (subst P same (rw (to_z-of_z w64 _ start_fits) at c.greater.ensures.second))

pub returns-in-Some-clause-high : goal.returns-in-Some-clause-high
returns-in-Some-clause-high c =
    let fits : FitsSigned w64 c.greater.result = search rules in
    let start_fits : FitsSigned w64 c.in-Some.mark.start.0 = search rules in
    let latest_fits : FitsSigned w64 c.args.latest = search rules in
    let safe = marking-safe c.args.net.now c.args.prices.now c.args.class c.args.crew.now c.fits.ensures
    c.requires.ranges c.requires.moderate in
    let mark = safe.starts c.args.item c.in-Some.mark (sym c.first.ensures ∙ c.in-Some.is) in
    rw (to_z-of_z w64 _ fits)
    ((rw (to_z-of_z w64 _ latest_fits, to_z-of_z w64 _ start_fits) at c.greater.ensures.least) (pos 345600) c.requires.high mark.late)

pub returns-in-None-clause-own : goal.returns-in-None-clause-own
returns-in-None-clause-own c = λ m from up e. absurd (let bad : None ≡ Some m = sym c.in-None.is ∙ c.first.ensures ∙ e in cc)
