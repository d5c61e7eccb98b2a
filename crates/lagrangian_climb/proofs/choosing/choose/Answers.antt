use Rattle.std.proofs.Common.{◌≡◌, ◌∙◌, ℕ, ◌≤◌, ◌+◌, List, length, sym, ap, subst, arith, IfOk}
use Rattle.cover_core.specs.Cover.{AllBelow}
use Rattle.cover_core.specs.declared.column_keys.ColumnKey.{ColumnKey}
use Rattle.lagrangian_climb.specs.Choices.{IsChosen, gains_at}
use Rattle.lagrangian_climb.proofs.InPlay.{gains-all, playing-below, playing-few}
use Rattle.lagrangian_climb.proofs.choosing.choose.Goals as goal

pub choose_of-requires-clause-places : goal.choose_of-requires-clause-places
choose_of-requires-clause-places c =
    let pool = c.args.pool.now in
    let start : 0 + length pool ≤ length pool = omega arith in
    subst (AllBelow (length pool)) (sym (c.as_slice.ensures ∙ c.in_ok-places.ensures))
    (playing-below c.args.fixed.now c.args.caps.now (length pool) 0 pool start)

pub choose_of-requires-clause-count : goal.choose_of-requires-clause-count
choose_of-requires-clause-count c =
    let pool = c.args.pool.now in
    subst (λ (l : List ℕ). length l ≤ length pool) (sym (c.as_slice.ensures ∙ c.in_ok-places.ensures))
    (playing-few c.args.fixed.now c.args.caps.now 0 pool)

pub returns-clause-choice : goal.returns-clause-choice
returns-clause-choice c =
    let pool = c.args.pool.now in
    let prices = c.args.prices.now.items in
    let same : gains_at prices pool c.as_slice.result.now ≡ _ =
    ap (gains_at prices pool) (c.as_slice.ensures ∙ c.in_ok-places.ensures) ∙ gains-all c.args.fixed.now c.args.caps.now prices pool in
    subst (λ (keys : List ColumnKey). IfOk c.choose_of.result (IsChosen keys c.args.caps.now)) same c.choose_of.ensures.choice
