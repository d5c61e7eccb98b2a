use Rattle.std.proofs.Common.{◌≡◌, List, [], ◌∷◌, ◌++◌, length, sym, ap, ◌∙◌, subst, arith, length-append}
use Rattle.lagrangian_climb.specs.declared.vectors.Span.{Span}
use Rattle.lagrangian_climb.specs.Climbs.{AreSpans}
use Rattle.plan_dive.proofs.Readies.{IsSpan, spans_push}
use Rattle.plan_dive.proofs.ground.Ground.new.Goals as goal

pub loop-item-preserved : goal.loop-item-preserved
loop-item-preserved g c =
    let pushed : c.push.new.self ≡ c.loop-item.spans ++ c.span_of.result ∷ [] = c.in_ok-push.ensures.ok in
    let P : List Span → Type 0 = λ l. AreSpans l in
    let is : IsSpan c.span_of.result =
    record { low = c.span_of.ensures.low; ordered = c.span_of.ensures.ordered; high = c.span_of.ensures.high } in
    record {
      one_each = ap (λ (l : List Span). length l) pushed
          ∙ (omega (arith, length-append c.loop-item.spans (c.span_of.result ∷ []), c.loop-item.invariant.one_each));
      spans = subst P (sym pushed) (spans_push c.loop-item.spans c.span_of.result c.loop-item.invariant.spans is);
    }
