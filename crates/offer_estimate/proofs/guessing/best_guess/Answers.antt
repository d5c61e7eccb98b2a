use Rattle.std.proofs.Common.{◌≡◌, ℤ, pos, ◌+◌, int_lt, true, false, List, [], ◌∷◌, ◌++◌, sym, ap, ◌∙◌, subst, arith, rules, FitsSigned, w64, to_z, of_z, to_z-of_z}
use Rattle.std.specs.Int.{w128}
use Rattle.std.proofs.lemmas.Int.{ints}
use Rattle.cover_core.specs.Plans.{number_at}
use Rattle.offer_estimate.specs.declared.scales.Scale.{Scale}
use Rattle.offer_estimate.specs.declared.guessing.Estimate.{Estimate}
use Rattle.offer_estimate.specs.Scales.{IsScale}
use Rattle.offer_estimate.specs.Estimates.{IsFirstGreatest, estimate_of, guess_at, guesses, proposed, unscaled}
use Rattle.offer_estimate.proofs.Guesses.{first-alone, first-better, guesses-some, guesses-none}
use Rattle.offer_estimate.proofs.guessing.best_guess.Goals as goal
use Rattle.offer_estimate.proofs.guessing.best_guess.Goals.{then-value-lt0, else-value-lt0}

pub loop-class-init : goal.loop-class-init
loop-class-init c =
    let sum : ℤ = to_z w128 (of_z w128 c.args.sum) in
    let fits : FitsSigned w128 c.guess.result = search rules in
    let first : Estimate = guess_at sum c.args.least.now c.args.worths.now c.args.caps.now unscaled in
    let is : to_z w128 (of_z w128 c.guess.result) ≡ first.bound = to_z-of_z fits ∙ c.guess.ensures.value in
    let P : ℤ → Type 0 = λ z. IsFirstGreatest (first ∷ []) (record { scale = unscaled; bound = z }) in
    record {
      order = omega arith;
      best = subst P (sym is) (first-alone first);
      scale = record { some = omega (arith, ints); ordered = omega (arith, ints); part = omega (arith, ints); whole = omega (arith, ints) };
    }

pub loop-class-preserved : goal.loop-class-preserved
loop-class-preserved c =
    let k = c.loop-class.class in
    let caps = c.args.caps.now in
    let least = c.args.least.now in
    let worths = c.args.worths.now in
    let sum : ℤ = to_z w128 (of_z w128 c.args.sum) in
    let old : Estimate = c.loop-class.best in
    let before : List Estimate = guesses sum least worths caps k in
    let least_fits : FitsSigned w64 c.least_at-value.result = search rules in
    let least_is : to_z w64 (of_z w64 c.least_at-value.result) ≡ number_at least k =
    to_z-of_z least_fits ∙ c.least_at-value.ensures.value in
    let S : Estimate → Type 0 = λ e. IsScale e.scale in
    elim c.if-value-lt0.branch [
      | then-value-lt0 w ↦
          let test : int_lt (number_at least k) (pos 0) ≡ true = (let loss = w.if-value-lt0.true in grind (arith, ints)) in
          let worth_fits : FitsSigned w64 w.worth_at.result = search rules in
          let worth_is : to_z w64 (of_z w64 w.worth_at.result) ≡ number_at worths k = to_z-of_z worth_fits ∙ w.worth_at.ensures.value in
          let scale : w.proposal-scale.result ≡ proposed (number_at least k) (number_at worths k) =
          w.proposal-scale.ensures.value ∙ ap (λ (z : ℤ). proposed z (to_z w64 (of_z w64 w.worth_at.result))) least_is
          ∙ ap (λ (z : ℤ). proposed (number_at least k) z) worth_is in
          let some = w.proposal-scale.ensures.scale.some in
          let ordered = w.proposal-scale.ensures.scale.ordered in
          let part_high = w.proposal-scale.ensures.scale.part in
          let whole_high = w.proposal-scale.ensures.scale.whole in
          let part_is : to_z w64 (of_z w64 w.proposal-scale.result.part) ≡ w.proposal-scale.result.part = omega (arith, ints) in
          let whole_is : to_z w64 (of_z w64 w.proposal-scale.result.whole) ≡ w.proposal-scale.result.whole = omega (arith, ints) in
          let guess_fits : FitsSigned w128 w.guess-bound.result = search rules in
          let guess_is : to_z w128 (of_z w128 w.guess-bound.result) ≡ estimate_of sum least worths caps w.proposal-scale.result.part
          w.proposal-scale.result.whole =
          to_z-of_z guess_fits ∙ w.guess-bound.ensures.value
          ∙ ap (λ (z : ℤ). estimate_of sum least worths caps z (to_z w64 (of_z w64 w.proposal-scale.result.whole))) part_is ∙
          ap (λ (z : ℤ). estimate_of sum least worths caps w.proposal-scale.result.part z) whole_is in
          let new : Estimate = record { scale = w.proposal-scale.result; bound = to_z w128 (of_z w128 w.guess-bound.result) } in
          let mk : ℤ → Estimate = λ z. record { scale = w.proposal-scale.result; bound = z } in
          let new_is : new ≡ guess_at sum least worths caps (proposed (number_at least k) (number_at worths k)) =
          ap mk guess_is ∙ ap (λ (s : Scale). guess_at sum least worths caps s) scale in
          let best : IsFirstGreatest (before ++ new ∷ []) w.better-best.result =
          first-better before old new w.better-best.result w.better-best.ensures.greater w.better-best.ensures.no_greater
          c.loop-class.invariant.best in
          let all : before ++ new ∷ [] ≡ guesses sum least worths caps (k + 1) =
          ap (λ (e : Estimate). before ++ e ∷ []) new_is ∙ sym (guesses-some sum least worths caps k test) in
          let P : List Estimate → Type 0 = λ l. IsFirstGreatest l w.better-best.result in
          let Q : Estimate → Type 0 = λ e. IsFirstGreatest (guesses sum least worths caps (k + 1)) e in
          record {
            order = omega arith;
            best = subst Q (sym w.best-is) (subst P all best);
            scale = subst S (sym w.best-is) w.better-best.ensures.scale;
          }
      | else-value-lt0 w ↦
          let test : int_lt (number_at least k) (pos 0) ≡ false = (let none = w.if-value-lt0.false in grind (arith, ints)) in
          let P : List Estimate → Type 0 = λ l. IsFirstGreatest l old in
          let Q : Estimate → Type 0 = λ e. IsFirstGreatest (guesses sum least worths caps (k + 1)) e in
          record {
            order = omega arith;
            best = subst Q (sym w.best-is) (subst P (sym (guesses-none sum least worths caps k test)) c.loop-class.invariant.best);
            scale = subst S (sym w.best-is) c.loop-class.invariant.scale;
          }
    ]
