use Rattle.std.proofs.Common.{List, ℤ, pos, length, ap, ◌∙◌, sym, subst}
use Rattle.dual_bound.specs.Ranges.{AreAtLeast}
use Rattle.dual_bound.proofs.Bounds.{AllWithin-wider, class_prices_of-charged, length-class_prices_of}
use Rattle.dual_bound.proofs.kept.class_prices_and_bound.Goals as goal

pub bound-bound-requires-clause-moderate : goal.bound-bound-requires-clause-moderate
bound-bound-requires-clause-moderate c = AllWithin-wider c.args.prices.now.items c.requires.moderate

pub bound-bound-requires-clause-one_each : goal.bound-bound-requires-clause-one_each
bound-bound-requires-clause-one_each c =
    ap length (c.as_slice.ensures ∙ c.in_ok-class_prices.ensures) ∙ length-class_prices_of c.args.least.now ∙ c.requires.one_each

pub bound-bound-requires-clause-charged : goal.bound-bound-requires-clause-charged
bound-bound-requires-clause-charged c =
    let P : List ℤ → Type 0 = λ zs. AreAtLeast (pos 0) zs in
    subst P (sym (c.as_slice.ensures ∙ c.in_ok-class_prices.ensures)) (class_prices_of-charged c.args.least.now)
