-- Begun pieces and heads, one after another.
use Rattle.std.proofs.Common.{◌≡◌, ℕ, ◌+◌, ◌-◌, ◌<◌, ◌≤◌, zero, suc, arith, subst, true, false, cond, List, [], ◌∷◌, ◌++◌, length, refl, sym, ap, ◌∙◌, Option, Some, slice_get}
use Rattle.std.proofs.lemmas.List.{append_assoc}
use Rattle.std.proofs.lemmas.Option.{same_Some}
use Rattle.plan_core.specs.declared.types.Piece.{Piece}
use Rattle.cover_core.specs.declared.Column.{Column}
use Rattle.cover_core.specs.Cover.{AllBelow}
use Rattle.duty_rest.specs.declared.head.DutyHead.{DutyHead}
use Rattle.duty_rest.specs.Heads.{begun_from, begun_parts, by_first, heads_at, is_one_of}

-- there is one for each piece
pub parts-length : (blocks earlier : List Column) (moment : ℕ) (ps : List Piece) → length (begun_parts blocks earlier moment ps) ≡ length ps
parts-length blocks earlier moment [] = refl
parts-length blocks earlier moment (p ∷ ps) = let rest = parts-length blocks earlier moment ps in omega (arith, rest)

-- begun pieces are there
pub from-below : (n : ℕ) (begun : List (Option (ℕ × ℕ))) (parts : List (ℕ × ℕ)) (k : ℕ) → k + length begun ≤ n →
    AllBelow n (begun_from begun parts k)
from-below n [] parts k few = tt
from-below n (o ∷ os) parts k few =
    let rest : AllBelow n (begun_from os parts (suc k)) = from-below n os parts (suc k) (omega (arith, few)) in
    elim (is_one_of o parts) as (λ b. AllBelow n (cond b (k ∷ begun_from os parts (suc k)) (begun_from os parts (suc k)))) [
      | true ↦ (omega (arith, few), rest)
      | false ↦ rest
    ]

pub below-at : (n : ℕ) (ks : List ℕ) (i k : ℕ) → AllBelow n ks → slice_get ks i ≡ Some k → k < n
below-at n [] i k below is = absurd (cc)
below-at n (l ∷ ls) zero k below is = let P : ℕ → Type 0 = λ k. k < n in subst P (same_Some l k is) below.0
below-at n (l ∷ ls) (suc i) k below is = below-at n ls i k below.1 is

-- the heads that begin with one piece more
pub heads-more : (rows : List DutyHead) (count first : ℕ) (before after : List DutyHead) → first < count →
    after ≡ before ++ heads_at rows first →
    after ++ by_first rows (count - (first + 1)) (first + 1) ≡ before ++ by_first rows (count - first) first
heads-more rows count first before after h is =
    let left : count - first ≡ suc (count - (first + 1)) = omega (arith, h) in
    let next : suc first ≡ first + 1 = omega arith in
    let rest : List DutyHead = by_first rows (count - (first + 1)) (first + 1) in
    ap (λ (l : List DutyHead). l ++ rest) is ∙ append_assoc before (heads_at rows first) rest
    ∙ ap (λ (i : ℕ). before ++ (heads_at rows first ++ by_first rows (count - (first + 1)) i)) (sym next)
    ∙ ap (λ (n : ℕ). before ++ by_first rows n first) (sym left)
