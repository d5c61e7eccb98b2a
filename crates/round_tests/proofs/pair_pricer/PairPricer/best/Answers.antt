use Rattle.std.proofs.Common.{◌≡◌, ℤ, Option, Some, sym, ap, ◌∙◌, rules, FitsSigned, w64, to_z-of_z}
use Rattle.cover_core.specs.declared.Column.{Column}
use Rattle.cover_core.specs.Best.{best_of, within}
use Rattle.round_tests.specs.Pair.{pair}
use Rattle.round_tests.proofs.Pairs.{pair_best}
use Rattle.round_tests.proofs.pair_pricer.PairPricer.best.Goals as goal

pub returns-clause-best : goal.returns-clause-best
returns-clause-best c =
    let is : Some c.in_ok-best.best ≡ best_of (pair c.args.self.now.alone c.args.self.now.both c.args.self.now.places)
    c.args.prices.now.items c.args._class c.args._group =
    ap (λ (x : Column). Some x) c.in_ok-best.ensures
    ∙ sym (pair_best c.args.self.now.alone c.args.self.now.places c.args._class c.args._group c.args.self.now.both c.args.prices.now.items
    c.requires.class c.requires.group) in
    let fits : FitsSigned w64 c.args.limit = search rules in
    c.column_within.ensures.within
    ∙ (ap (λ (l : ℤ). within l c.args.prices.now.items (Some c.in_ok-best.best)) (to_z-of_z fits)
    ∙ ap (λ (o : Option Column). within c.args.limit c.args.prices.now.items o) is)
