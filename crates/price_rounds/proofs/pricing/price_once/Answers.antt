use Rattle.std.proofs.Common.{ℤ, ℕ, List, neg_ℤ, pos, length, sym, ap, ◌∙◌, subst}
use Rattle.cover_core.specs.declared.Column.{Column}
use Rattle.cover_core.specs.Fitting.{AreFit}
use Rattle.cover_core.specs.Plans.{AreColumns}
use Rattle.dual_bound.specs.Ranges.{AreAtLeast}
use Rattle.price_rounds.proofs.Leasts.{priced_are_columns, least_is_low, least_length}
use Rattle.price_rounds.proofs.pricing.price_once.Goals as goal

pub returns : goal.returns
returns g c =
    let p = g.P.Columns.problem c.args.pricer.now in
    let prices = c.args.prices.now.items in
    let columns = c.in_ok-priced.ensures.columns in
    let least = c.in_ok-priced.ensures.least in
    let P : List Column → Type 0 = λ l. AreColumns p l in
    let Q : ℕ → Type 0 = λ n. AreFit n (length p.caps) c.in_ok-priced.priced.columns in
    let R : List ℤ → Type 0 = λ l. AreAtLeast (neg_ℤ (pos 1000000000000000000)) l in
    record {
      columns = columns;
      ready = record {
        are = subst P (sym columns) (priced_are_columns p prices (c.best_is_first_least.ensures.best c.args.pricer.now));
        fit = subst Q c.requires.prices.0 c.in_ok-priced.ensures.fit;
      };
      least = least;
      one_each = ap (λ (l : List ℤ). length l) least ∙ least_length p prices;
      low = subst R (sym least)
          (least_is_low p prices (c.least_values.ensures.bound c.args.pricer.now) c.requires.sized.items c.requires.prices.1);
    }
