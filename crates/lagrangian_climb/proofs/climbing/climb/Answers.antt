use Rattle.std.proofs.Common.{◌∙◌, ℕ, ◌≤◌, ◌+◌, List, length, sym, subst, arith}
use Rattle.cover_core.specs.Cover.{AllBelow}
use Rattle.lagrangian_climb.proofs.InPlay.{playing-below, playing-few}
use Rattle.lagrangian_climb.proofs.climbing.climb.Goals as goal

pub turn-requires-clause-playing : goal.turn-requires-clause-playing
turn-requires-clause-playing c =
    let pool = c.args.pool.now in
    let start : 0 + length pool ≤ length pool = omega arith in
    subst (AllBelow (length pool)) (sym (c.as_slice-places.ensures ∙ c.in_ok-playing.ensures))
    (playing-below c.as_slice.result.now c.as_slice-2.result.now (length pool) 0 pool start)

pub turn-requires-clause-count : goal.turn-requires-clause-count
turn-requires-clause-count c =
    let pool = c.args.pool.now in
    subst (λ (l : List ℕ). length l ≤ length pool) (sym (c.as_slice-places.ensures ∙ c.in_ok-playing.ensures))
    (playing-few c.as_slice.result.now c.as_slice-2.result.now 0 pool)
