use Rattle.std.proofs.Common.{◌≡◌, ◌≤◌, ap, refl, sym, arith, ◌∙◌}
use Rattle.std.specs.Prelude.{None}
use Rattle.eu561_rules.specs.Duty.{spread_limit}
use Rattle.eu561_rules.specs.Summary.{Summary}
use Rattle.eu561_rules.proofs.Tallies.{keeps-all, spread_limit-is}
use Rattle.eu561_rules.proofs.counting.Tally.close.Goals as goal

pub returns-then-spread-most_spread : goal.returns-then-spread-most_spread
returns-then-spread-most_spread c = λ drives stands.
    let most : spread_limit c.args.self.now.limits drives ≡ c.most_spread.result =
    spread_limit-is _ drives stands ∙ sym c.most_spread.ensures in
    let none : c.args.self.now.over ≡ None = ap (λ (t : Summary). t.over) (sym c.self.view_is) ∙ c.in_default.is in
    let small : c.args.self.now.driving ≤ c.args.self.now.limits.block = rw (← c.self.view_is) c.if-self-2.false in (
      refl,
      record {
        article6 =
            omega (arith, stands.total, ap (λ (t : Summary). t.total) c.self.view_is, ap (λ (t : Summary). t.limits.day) c.self.view_is);
        article7 = keeps-all _ drives stands none small;
        exceeds = omega arith;
      },
    )

pub returns-else-spread-most_spread : goal.returns-else-spread-most_spread
returns-else-spread-most_spread c = λ drives stands.
    let most : spread_limit c.args.self.now.limits drives ≡ c.most_spread.result =
    spread_limit-is _ drives stands ∙ sym c.most_spread.ensures in
    let none : c.args.self.now.over ≡ None = ap (λ (t : Summary). t.over) (sym c.self.view_is) ∙ c.in_default.is in
    let small : c.args.self.now.driving ≤ c.args.self.now.limits.block = rw (← c.self.view_is) c.if-self-2.false in
    record {
      article6 = omega
          (arith, stands.total, ap (λ (t : Summary). t.total) c.self.view_is, ap (λ (t : Summary). t.limits.day) c.self.view_is);
      article7 = keeps-all _ drives stands none small;
      article8 = omega arith;
    }
