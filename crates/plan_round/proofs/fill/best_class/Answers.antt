use Rattle.std.proofs.Common.{◌∙◌, sym, ap, Option}
use Rattle.plan_round.specs.declared.choice.Choice.{Choice}
use Rattle.plan_round.specs.Rounding.{first_cheapest, class_choice}
use Rattle.plan_round.proofs.Inserts.{into_classes-more}
use Rattle.plan_round.proofs.fill.best_class.Goals as goal

pub loop-class-preserved : goal.loop-class-preserved
loop-class-preserved g c =
    let p = g.C.Columns.problem c.args.columns.now in
    let part = c.args.draft.now.columns in
    record {
      least = c.consider_class-least.ensures.best ∙
          ap (λ (o : Option Choice). first_cheapest o (class_choice p c.args.item part c.loop-class.class)) c.loop-class.invariant.least ∙
          sym (into_classes-more p c.args.item part c.loop-class.class c.args.best);
      cheap = c.consider_class-least.ensures.cheap;
    }
