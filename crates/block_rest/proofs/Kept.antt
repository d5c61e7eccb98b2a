-- The trips of a block that are kept, one after another.
use Rattle.std.proofs.Common.{◌≡◌, ℕ, ◌+◌, ◌-◌, ◌<◌, zero, suc, arith, subst, true, false, cond, List, [], ◌∷◌, ◌++◌, length, drop, refl, sym, ap, ◌∙◌, slice_index_or}
use Rattle.std.proofs.lemmas.List.{drop_more}
use Rattle.std.proofs.lemmas.List.{append_assoc}
use Rattle.day_model.specs.Facts.{DayFacts}
use Rattle.cover_core.specs.declared.Column.{Column}
use Rattle.cover_core.specs.Cover.{AllBelow}
use Rattle.block_rest.specs.declared.head.Head.{Head}
use Rattle.block_rest.specs.Heads.{AreOfDay, ends_before, heads_at, heads_from, kept_after}

pub kept-stop : (day : DayFacts) (moment t : ℕ) (us : List ℕ) → false ≡ ends_before day moment t → kept_after day moment t us ≡ []
kept-stop day moment t [] is = refl
kept-stop day moment t (u ∷ us) is = ap (λ b. cond b (u ∷ kept_after day moment u us) []) (sym is)

pub kept-step : (day : DayFacts) (moment t : ℕ) (rest : List ℕ) (i : ℕ) → i < length rest → true ≡ ends_before day moment t →
    kept_after day moment t (drop i rest) ≡ slice_index_or rest i 0 ∷ kept_after day moment (slice_index_or rest i 0) (drop (i + 1) rest)
kept-step day moment t rest i within is =
    let u : ℕ = slice_index_or rest i 0 in
    ap (kept_after day moment t) (drop_more rest i 0 within)
    ∙ ap (λ b. cond b (u ∷ kept_after day moment u (drop (i + 1) rest)) []) (sym is)

pub put-last : (xs ys : List ℕ) (u : ℕ) → (xs ++ u ∷ []) ++ ys ≡ xs ++ u ∷ ys
put-last [] ys u = refl
put-last (x ∷ xs) ys u = ap (λ l. x ∷ l) (put-last xs ys u)

pub no-more : (xs : List ℕ) → xs ++ [] ≡ xs
no-more [] = refl
no-more (x ∷ xs) = ap (λ l. x ∷ l) (no-more xs)

pub of-day-at : (day : DayFacts) (cs : List Column) (i : ℕ) (c : Column) → AreOfDay day cs → i < length cs → c ≡ slice_index_or cs i c →
    (c.class < length day.params.pools) × AllBelow (length day.trips) c.items
of-day-at day [] i c are h is = absurd (omega arith)
of-day-at day (d ∷ ds) zero c are h is =
    let P : Column → Type 0 = λ c. (c.class < length day.params.pools) × AllBelow (length day.trips) c.items in subst P (sym is) are.0
of-day-at day (d ∷ ds) (suc i) c are h is = of-day-at day ds i c are.1 (omega (arith, h)) is

-- the heads of blocks that begin with one trip more
pub heads-more : (day : DayFacts) (moment : ℕ) (blocks : List Column) (count first : ℕ) (before after : List Head) → first < count →
    after ≡ before ++ heads_at day moment blocks first →
    after ++ heads_from day moment blocks (count - (first + 1)) (first + 1) ≡ before ++ heads_from day moment blocks (count - first) first
heads-more day moment blocks count first before after h is =
    let left : count - first ≡ suc (count - (first + 1)) = omega (arith, h) in
    let next : suc first ≡ first + 1 = omega arith in
    let rest : List Head = heads_from day moment blocks (count - (first + 1)) (first + 1) in
    ap (λ (l : List Head). l ++ rest) is ∙ append_assoc before (heads_at day moment blocks first) rest
    ∙ ap (λ (i : ℕ). before ++ (heads_at day moment blocks first ++ heads_from day moment blocks (count - (first + 1)) i)) (sym next)
    ∙ ap (λ (n : ℕ). before ++ heads_from day moment blocks n first) (sym left)
