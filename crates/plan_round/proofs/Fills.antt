-- Steps of the loop that fills in the free items.
use Rattle.std.proofs.Common.{◌≡◌, ◌==◌, ℕ, ◌+◌, ◌<◌, ◌≤◌, Bool, true, cond, zero, suc, List, None, sym, ap, ◌∙◌, subst, inl, inr, add-one, arith}
use Rattle.std.proofs.lemmas.Bool.{cases_eq}
use Rattle.cover_core.specs.declared.Column.{Column}
use Rattle.cover_core.specs.Cover.{Problem}
use Rattle.cover_core.specs.Plans.{IsPlan}
use Rattle.cover_core.specs.Parts.{IsPart, is_free}
use Rattle.plan_round.specs.Rounding.{whole, left, with_choice, first_cheapest, choices, round_item, round_items}
use Rattle.plan_round.specs.Laws.{IsStuck, IsRounding}
use Rattle.plan_round.proofs.Rounds.{IsFilled, IsFilledOr, round_items-filled, items-rounding}

module _ (p : Problem) (start : List Column) where
  pub filled-so_far : (n : ℕ) (columns : List Column) → n ≤ p.items → IsPart p start → round_items p n start ≡ whole columns →
      IsFilled p start n columns
  filled-so_far n columns h part e = subst (IsFilledOr p start n) e (round_items-filled p start n h part)

  -- an item that no earlier one touched is as free as at the start
  pub free-still : (n : ℕ) (columns : List Column) → IsFilled p start n columns → is_free columns n ≡ is_free start n
  free-still n columns filled = let same = filled.above n (omega arith) in ap (λ k. k == 0) same

  pub round_items-step : (n : ℕ) (columns : List Column) (free : Bool) → round_items p n start ≡ whole columns → is_free columns n ≡ free →
      round_items p (n + 1) start ≡ cond free (with_choice n columns (first_cheapest None (choices p n columns))) (whole columns)
  round_items-step n columns free e is =
      ap (λ k. round_items p k start) (add-one n) ∙ ap (round_item p n) e ∙
      ap (λ b. cond b (with_choice n columns (first_cheapest None (choices p n columns))) (whole columns)) is

  -- An item that is left stays left: the definition goes on over the items, and changes nothing any more. So the code may end at
  -- the first one.
  pub left-stays : (n m item : ℕ) (columns : List Column) → round_items p n start ≡ left item columns → n ≤ m →
      round_items p m start ≡ left item columns
  left-stays n zero item columns e h = let same : 0 ≡ n = omega arith in ap (λ k. round_items p k start) same ∙ e
  left-stays n (suc m) item columns e h =
      elim (cases_eq n (suc m)) [
        | inl same ↦ ap (λ k. round_items p k start) (sym same) ∙ e
        | inr apart ↦ ap (round_item p m) (left-stays n m item columns e (omega arith))
      ]

  pub left-at : (n : ℕ) (columns : List Column) → n < p.items → round_items p n start ≡ whole columns → is_free columns n ≡ true →
      with_choice n columns (first_cheapest None (choices p n columns)) ≡ left n columns → round_items p p.items start ≡ left n columns
  left-at n columns h e is none = left-stays (n + 1) p.items n columns (round_items-step n columns true e is ∙ none) (omega arith)

  pub stuck-at : (item : ℕ) (columns : List Column) → IsPart p start → round_items p p.items start ≡ left item columns →
      IsStuck p item columns
  stuck-at item columns part e = subst (IsRounding p) e (items-rounding p start part)

  pub plan-at : (columns : List Column) → IsPart p start → round_items p p.items start ≡ whole columns → IsPlan p columns
  plan-at columns part e = subst (IsRounding p) e (items-rounding p start part)
