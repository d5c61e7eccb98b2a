use Rattle.std.proofs.Common.{List, length, sym, ap, ◌∙◌, subst, arith}
use Rattle.std.proofs.lemmas.Int.{ints}
use Rattle.plan_core.specs.declared.Price.{Price}
use Rattle.cover_core.specs.FirstLeast.{AllWithin}
use Rattle.lagrangian_climb.proofs.Walks.{zero-asked}
use Rattle.lagrangian_climb.proofs.Ranges.{near-zeros}
use Rattle.lagrangian_climb.proofs.climbing.begin.Goals as goal

pub returns : goal.returns
returns c =
    let P : List Price → Type 0 = λ l. AllWithin 10000000000000 l in
    let pace = c.requires.pace in
    record {
      prices = record {
        len = ap (λ (l : List Price). length l) c.in_ok-copy_of-2.ensures;
        moderate =
            subst P (sym c.in_ok-copy_of-2.ensures) c.requires.moderate;
      };
      directions = c.in_ok-zero_numbers-2.ensures.0 ∙ c.len.ensures;
      near = near-zeros 1600000 c.in_ok-zero_numbers-2.field-0 c.in_ok-zero_numbers-2.ensures.1;
      idle = omega arith;
      pace = c.requires.pace;
      peak = record {
        prices = record {
          len = ap (λ (l : List Price). length l) c.in_ok-copy_of.ensures;
          moderate =
              subst P (sym c.in_ok-copy_of.ensures) c.requires.moderate;
        };
        classes = c.in_ok-zero_numbers.ensures.0;
        asked = zero-asked c.in_ok-zero_numbers.field-0 c.in_ok-zero_numbers.ensures.1;
        low = omega (arith, ints);
        high = omega (arith, ints);
        pace = c.requires.pace;
      };
      counts = c.in_ok-zero_counts.ensures.len;
    }
