use Rattle.std.proofs.Common.{◌≡◌, List, length, sym, ap, ◌∙◌, subst, arith}
use Rattle.plan_core.specs.declared.Price.{Price}
use Rattle.cover_core.specs.FirstLeast.{AllWithin}
use Rattle.lagrangian_climb.proofs.Ranges.{near-zeros}
use Rattle.lagrangian_climb.proofs.climbing.back.Goals as goal

pub returns : goal.returns
returns c = λ items classes columns h.
    let P : List Price → Type 0 = λ l. AllWithin 10000000000000 l in
    let pace = c.requires in
    let same : c.in_ok-prices.prices.items ≡ c.args.ascent.peak.prices.items = c.in_ok-prices.ensures in
    let len : length c.in_ok-prices.prices.items ≡ items = ap (λ (l : List Price). length l) same ∙ h.peak.prices.len in
    record {
      prices = record { len = len; moderate = subst P (sym same) h.peak.prices.moderate };
      directions = c.in_ok-directions.ensures.0 ∙ (c.len.ensures ∙ len);
      near = near-zeros 1600000 c.in_ok-directions.directions c.in_ok-directions.ensures.1;
      idle = omega arith;
      pace = omega arith;
      peak = record {
        prices = record { len = h.peak.prices.len; moderate = h.peak.prices.moderate };
        classes = h.peak.classes;
        asked = h.peak.asked;
        low = h.peak.low;
        high = h.peak.high;
        pace = h.peak.pace;
      };
      counts = h.counts;
    }
