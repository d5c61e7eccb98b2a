-- Lowering along places, one more at a time.
use Rattle.std.proofs.Common.{◌≡◌, ℕ, ℤ, ◌+◌, ◌<◌, ◌≤◌, List, [], ◌∷◌, length, get_or, drop, sym, ap, ◌∙◌, add-one, drop-cons}
use Rattle.std.proofs.lemmas.List.{drop_all}
use Rattle.plan_core.specs.declared.Price.{Price}
use Rattle.cover_core.specs.declared.Column.{Column}
use Rattle.cover_core.specs.Parts.{column_at}
use Rattle.cover_core.specs.Plans.{number_at}
use Rattle.class_lowering.specs.Lowering.{lowered_along, lowered_prices}

-- One place more. The invariant of the loop is that lowering along the places left, from the prices reached, gives the prices that
-- lowering along all places gives from the first ones: so each column is lowered at the prices that the earlier ones left, as the
-- definition has it.
pub along-more : (pool : List Column) (asked : List ℤ) (places : List ℕ) (i : ℕ) (now new : List Price) (goal : List Price) →
    i < length places →
    new ≡ lowered_prices now (column_at pool (get_or places i 0)) (number_at asked (column_at pool (get_or places i 0)).class) →
    lowered_along pool asked (drop i places) now ≡ goal → lowered_along pool asked (drop (i + 1) places) new ≡ goal
along-more pool asked places i now new goal h is so_far =
    let cons : drop i places ≡ get_or places i 0 ∷ drop (i + 1) places = rw add-one (drop-cons places i 0 h) in
    let step : lowered_along pool asked (get_or places i 0 ∷ drop (i + 1) places) now ≡ goal =
    ap (λ (l : List ℕ). lowered_along pool asked l now) (sym cons) ∙ so_far in
    ap (λ (l : List Price). lowered_along pool asked (drop (i + 1) places) l) is ∙ step

pub along-end : (pool : List Column) (asked : List ℤ) (places : List ℕ) (i : ℕ) (now goal : List Price) → length places ≤ i →
    lowered_along pool asked (drop i places) now ≡ goal → now ≡ goal
along-end pool asked places i now goal h so_far =
    let none : drop i places ≡ [] = drop_all i places h in
    ap (λ (l : List ℕ). lowered_along pool asked l now) (sym none) ∙ so_far
