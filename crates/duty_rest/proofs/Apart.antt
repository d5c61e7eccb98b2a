-- The heads of a plan hold no piece twice. A piece stands in the head of a duty at most as often as the part that stands for it is named by
-- the duty, and each head comes once, at its first piece; so a piece stands in heads at most as often as its part stands in all duties,
-- which is once where it has begun, and a piece for which no part stands is in none.
use Rattle.std.proofs.Common.{◌≡◌, ◌==◌, ℕ, ◌+◌, ◌<◌, ◌≤◌, true, false, cond, ◌||◌, zero, suc, List, [], ◌∷◌, ◌++◌, length, refl, ap, arith, inl, inr, Option, Some, None, slice_get, nat_eq}
use Rattle.std.specs.Option.{option_map, option_map_or}
use Rattle.std.specs.Prelude.{option_and_then}
use Rattle.std.proofs.lemmas.Bool.{cases_lt}
use Rattle.std.proofs.lemmas.Bool.Decides.{nat_tests}
use Rattle.plan_core.specs.declared.types.Piece.{Piece}
use Rattle.cover_core.specs.declared.Column.{Column}
use Rattle.cover_core.specs.Cover.{AllBelow}
use Rattle.cover_core.specs.Plans.{times}
use Rattle.cover_core.proofs.Parts.{times-append}
use Rattle.duty_network.specs.Duties.{DutyFacts}
use Rattle.umlauf_write.specs.declared.text.DutyRow.{DutyRow}
use Rattle.cover_rest.specs.Rest.{begun_lists, joined}
use Rattle.cover_rest.specs.Keeping.{NoneEmpty}
use Rattle.duty_rest.specs.declared.head.DutyHead.{DutyHead}
use Rattle.duty_rest.specs.Heads.{begun_from, begun_part, begun_parts, by_first, class_of, duty_head, duty_heads_of, head_of, heads_at, is_finished, is_one_of, last_of, listed, row_heads, same_part, starts_at}
use Rattle.duty_rest.specs.Rest.{begun_of}
use Rattle.duty_rest.specs.Laws.{HeadsAreHeads, all_parts, part_times}
use Rattle.duty_rest.proofs.Found.{parts-length}

-- the pieces of heads, one head after another
abbrev pub held : List DutyHead → List ℕ
held hs = joined (begun_lists (begun_of hs))

-- how often a piece stands in heads
abbrev pub held_times : ℕ → List DutyHead → ℕ
held_times i hs = times i (held hs)

pub held-append : (i : ℕ) (gs hs : List DutyHead) → held_times i (gs ++ hs) ≡ held_times i gs + held_times i hs
held-append i [] hs = omega arith
held-append i (g ∷ gs) hs =
    let rest = held-append i gs hs in
    let whole = times-append i g.pieces (held (gs ++ hs)) in
    let part = times-append i g.pieces (held gs) in
    omega arith

-- the part that stands for the piece of a number
abbrev pub part_at : List (Option (ℕ × ℕ)) → ℕ → Option (ℕ × ℕ)
part_at [] i = None
part_at (o ∷ os) zero = o
part_at (o ∷ os) (suc i) = part_at os i

past-at : (os : List (Option (ℕ × ℕ))) (i : ℕ) → length os ≤ i → part_at os i ≡ None
past-at [] i past = refl
past-at (o ∷ os) zero past = absurd (omega (arith, past))
past-at (o ∷ os) (suc i) past = past-at os i (omega (arith, past))

-- where it is there the piece is, which has begun
part-there : (blocks earlier : List Column) (moment : ℕ) (ps : List Piece) (i : ℕ) (x : ℕ × ℕ) →
    part_at (begun_parts blocks earlier moment ps) i ≡ Some x →
    (p : Piece) × (slice_get ps i ≡ Some p) × (begun_part blocks earlier moment p ≡ Some x)
part-there blocks earlier moment [] i x is = absurd (cc)
part-there blocks earlier moment (p ∷ ps) zero x is = (p, refl, is)
part-there blocks earlier moment (p ∷ ps) (suc i) x is = part-there blocks earlier moment ps i x is

-- how often it is named
abbrev named : Option (ℕ × ℕ) → List (ℕ × ℕ) → ℕ
named None parts = 0
named (Some x) parts = part_times x parts

named-append : (o : Option (ℕ × ℕ)) (xs ys : List (ℕ × ℕ)) → named o (xs ++ ys) ≡ named o xs + named o ys
named-append None xs ys = refl
named-append (Some x) [] ys = omega arith
named-append (Some x) (y ∷ xs) ys = let rest = named-append (Some x) xs ys in omega (arith, rest)

one-named : (o : Option (ℕ × ℕ)) (parts : List (ℕ × ℕ)) → cond (is_one_of o parts) 1 0 ≤ named o parts
one-named None [] = omega arith
one-named None (x ∷ xs) = one-named None xs
one-named (Some y) [] = omega arith
one-named (Some y) (x ∷ xs) =
    let rest = one-named (Some y) xs in
    elim (same_part y x) as (λ b. cond (b || is_one_of (Some y) xs) 1 0 ≤ cond b 1 0 + part_times y xs) [
      | true ↦ omega arith
      | false ↦ omega (arith, rest)
    ]

-- a piece before the first is not there
from-none : (os : List (Option (ℕ × ℕ))) (parts : List (ℕ × ℕ)) (k i : ℕ) → i < k → times i (begun_from os parts k) ≡ 0
from-none [] parts k i before = refl
from-none (o ∷ os) parts k i before =
    let rest = from-none os parts (suc k) i (omega (arith, before)) in
    let test : (i == k) ≡ false = grind (arith, nat_tests) in
    elim (is_one_of o parts) as (λ b. times i (cond b (k ∷ begun_from os parts (suc k)) (begun_from os parts (suc k))) ≡ 0) [
      | true ↦ rw test (omega (arith, rest))
      | false ↦ rest
    ]

-- A piece is there at most once, and where its part is one of the duty's. Pieces are counted on from `k`; a number comes from its own
-- place alone, since those behind have greater ones (`from-none`).
from-once : (os : List (Option (ℕ × ℕ))) (parts : List (ℕ × ℕ)) (k j i : ℕ) → i ≡ k + j →
    times i (begun_from os parts k) ≤ cond (is_one_of (part_at os j) parts) 1 0
from-once [] parts k j i is = omega arith
from-once (o ∷ os) parts k zero i is =
    let rest = from-none os parts (suc k) i (omega (arith, is)) in
    elim (is_one_of o parts) as (λ b. times i (cond b (k ∷ begun_from os parts (suc k)) (begun_from os parts (suc k))) ≤ cond b 1 0) [
      | true ↦ let test : (i == k) ≡ true = grind (arith, nat_tests) in rw test (omega (arith, rest))
      | false ↦ omega (arith, rest)
    ]
from-once (o ∷ os) parts k (suc j) i is =
    let rest = from-once os parts (suc k) j i (omega (arith, is)) in
    let test : (i == k) ≡ false = grind (arith, nat_tests) in
    elim (is_one_of o parts) as
    (λ b. times i (cond b (k ∷ begun_from os parts (suc k)) (begun_from os parts (suc k))) ≤ cond (is_one_of (part_at os j) parts) 1 0) [
      | true ↦ rw test (omega (arith, rest))
      | false ↦ rest
    ]

module _ (d : DutyFacts) (begun : List (Option (ℕ × ℕ))) (moment : ℕ) where
  abbrev pub head_with : List (ℕ × ℕ) → ℕ → List ℕ → ℕ → DutyHead
  head_with parts class pieces last = record { class = class; pieces = pieces; finished = is_finished d begun moment parts class last }

  head-times : (i : ℕ) (parts : List (ℕ × ℕ)) (class : ℕ) (pieces : List ℕ) →
      held_times i (listed (head_of d begun moment parts class pieces)) ≤ times i pieces
  head-times i parts class pieces =
      let none = times-append i pieces [] in
      elim (last_of pieces) as (λ o. held_times i (listed (option_map (head_with parts class pieces) o)) ≤ times i pieces) [
        | None ↦ omega arith
        | Some last ↦ omega (arith, none)
      ]

  duty-times : (i : ℕ) (row : DutyRow) → held_times i (listed (duty_head d begun moment row)) ≤ named (part_at begun i) row.parts
  duty-times i row =
      let pieces : List ℕ = begun_from begun row.parts 0 in
      let once = from-once begun row.parts 0 i i (omega arith) in
      let one = one-named (part_at begun i) row.parts in
      elim (class_of d.params.groups row.group 0) as
      (λ o. held_times i (listed (option_and_then (λ (class : ℕ). head_of d begun moment row.parts class pieces) o))
      ≤ named (part_at begun i) row.parts) [
        | None ↦ omega arith
        | Some class ↦ let few = head-times i row.parts class pieces in omega (arith, few, once, one)
      ]

  -- A head has the begun pieces of its duty, or there is none; so of each duty the piece counts at most once, and only where its part
  -- is one of the duty's. Added up over all duties, heads hold it at most as often as all duties name its part.
  rows-times : (i : ℕ) (rows : List DutyRow) → held_times i (row_heads d begun moment rows) ≤ named (part_at begun i) (all_parts rows)
  rows-times i [] = omega arith
  rows-times i (row ∷ rows) =
      let rest = rows-times i rows in
      let here = duty-times i row in
      let heads = held-append i (listed (duty_head d begun moment row)) (row_heads d begun moment rows) in
      let parts = named-append (part_at begun i) row.parts (all_parts rows) in
      omega (arith, rest, here, heads, parts)

  head-some : (parts : List (ℕ × ℕ)) (class : ℕ) (pieces : List ℕ) →
      NoneEmpty (begun_of (listed (head_of d begun moment parts class pieces)))
  head-some parts class [] = tt
  head-some parts class (k ∷ ks) =
      elim (last_of (k ∷ ks)) as (λ o. NoneEmpty (begun_of (listed (option_map (head_with parts class (k ∷ ks)) o)))) [
        | None ↦ tt
        | Some last ↦ ((λ e. cc), tt)
      ]

  duty-some : (row : DutyRow) → NoneEmpty (begun_of (listed (duty_head d begun moment row)))
  duty-some row =
      let pieces : List ℕ = begun_from begun row.parts 0 in
      elim (class_of d.params.groups row.group 0) as
      (λ o. NoneEmpty (begun_of (listed (option_and_then (λ (class : ℕ). head_of d begun moment row.parts class pieces) o)))) [
        | None ↦ tt
        | Some class ↦ head-some row.parts class pieces
      ]

-- each head comes once, at its first piece
abbrev pub times_from : Option ℕ → ℕ → ℕ → ℕ → ℕ
times_from o t zero k = 0
times_from o t (suc n) k = cond (option_map_or (λ (l : ℕ). nat_eq l k) o false) t 0 + times_from o t n (suc k)

none-from : (t n k : ℕ) → times_from None t n k ≡ 0
none-from t zero k = refl
none-from t (suc n) k = omega (arith, none-from t n (suc k))

past-from : (l t n k : ℕ) → l < k → times_from (Some l) t n k ≡ 0
past-from l t zero k past = refl
past-from l t (suc n) k past =
    let rest = past-from l t n (suc k) (omega (arith, past)) in
    let test : nat_eq l k ≡ false = grind (arith, nat_tests) in
    rw test (omega (arith, rest))

-- Going over the pieces from `k` on, a head is taken at its first piece alone; where that is before `k` it is not taken at all
-- (`past-from`).
one-from : (o : Option ℕ) (t n k : ℕ) → times_from o t n k ≤ t
one-from None t n k = omega (arith, none-from t n k)
one-from (Some l) t zero k = omega arith
one-from (Some l) t (suc n) k =
    elim (nat_eq l k) as (λ b. nat_eq l k ≡ b → cond b t 0 + times_from (Some l) t n (suc k) ≤ t) [
      | true ↦ λ is.
          let same : l ≡ k = grind (arith, nat_tests) in
          let rest = past-from l t n (suc k) (omega (arith, same)) in
          omega (arith, rest)
      | false ↦ λ is. omega (arith, one-from (Some l) t n (suc k))
    ] refl

at-times : (i : ℕ) (h : DutyHead) (hs : List DutyHead) (k : ℕ) →
    held_times i (heads_at (h ∷ hs) k) ≡ cond (starts_at k h) (times i h.pieces) 0 + held_times i (heads_at hs k)
at-times i h hs k =
    let both = times-append i h.pieces (held (heads_at hs k)) in
    elim (starts_at k h) as
    (λ b. held_times i (cond b (h ∷ heads_at hs k) (heads_at hs k)) ≡ cond b (times i h.pieces) 0 + held_times i (heads_at hs k)) [
      | true ↦ both
      | false ↦ omega arith
    ]

-- To put heads in order with one head more adds what is taken of that head at each piece. It splits the count by heads, so that what
-- is shown of one head going over all pieces can be added up.
pub head-more : (i : ℕ) (h : DutyHead) (hs : List DutyHead) (n k : ℕ) →
    held_times i (by_first (h ∷ hs) n k) ≡ times_from (slice_get h.pieces 0) (times i h.pieces) n k + held_times i (by_first hs n k)
head-more i h hs zero k = refl
head-more i h hs (suc n) k =
    let rest = head-more i h hs n (suc k) in
    let here = at-times i h hs k in
    let all = held-append i (heads_at (h ∷ hs) k) (by_first (h ∷ hs) n (suc k)) in
    let others = held-append i (heads_at hs k) (by_first hs n (suc k)) in
    omega (arith, rest, here, all, others)

no-heads : (i n k : ℕ) → held_times i (by_first [] n k) ≡ 0
no-heads i zero k = refl
no-heads i (suc n) k = no-heads i n (suc k)

-- To put heads in order takes none of them twice, as each is taken at its first piece alone (`one-from`).
first-times : (i : ℕ) (hs : List DutyHead) (n k : ℕ) → held_times i (by_first hs n k) ≤ held_times i hs
first-times i [] n k = omega (arith, no-heads i n k)
first-times i (h ∷ hs) n k =
    let more = head-more i h hs n k in
    let one = one-from (slice_get h.pieces 0) (times i h.pieces) n k in
    let rest = first-times i hs n k in
    let both = times-append i h.pieces (held hs) in
    omega (arith, more, one, rest, both)

some-append : (gs hs : List DutyHead) → NoneEmpty (begun_of gs) → NoneEmpty (begun_of hs) → NoneEmpty (begun_of (gs ++ hs))
some-append [] hs a b = b
some-append (g ∷ gs) hs a b = (a.0, some-append gs hs a.1 b)

rows-some : (d : DutyFacts) (begun : List (Option (ℕ × ℕ))) (moment : ℕ) (rows : List DutyRow) →
    NoneEmpty (begun_of (row_heads d begun moment rows))
rows-some d begun moment [] = tt
rows-some d begun moment (row ∷ rows) =
    some-append (listed (duty_head d begun moment row)) (row_heads d begun moment rows) (duty-some d begun moment row)
    (rows-some d begun moment rows)

at-some : (hs : List DutyHead) (k : ℕ) → NoneEmpty (begun_of hs) → NoneEmpty (begun_of (heads_at hs k))
at-some [] k some = tt
at-some (h ∷ hs) k some =
    elim (starts_at k h) as (λ b. NoneEmpty (begun_of (cond b (h ∷ heads_at hs k) (heads_at hs k)))) [
      | true ↦ (some.0, at-some hs k some.1)
      | false ↦ at-some hs k some.1
    ]

first-some : (hs : List DutyHead) (n k : ℕ) → NoneEmpty (begun_of hs) → NoneEmpty (begun_of (by_first hs n k))
first-some hs zero k some = tt
first-some hs (suc n) k some = some-append (heads_at hs k) (by_first hs n (suc k)) (at-some hs k some) (first-some hs n (suc k) some)

below-times : (n : ℕ) (xs : List ℕ) → ((j : ℕ) → 1 ≤ times j xs → j < n) → AllBelow n xs
below-times n [] each = tt
below-times n (x ∷ xs) each =
    let same : (x == x) ≡ true = grind (arith, nat_tests) in
    (each x (rw same (omega arith)), below-times n xs (λ j some. each j (omega (arith, some))))

-- The heads of an earlier plan are heads of the day's duties. That none is empty is seen head by head, and all else is a count: heads
-- hold a piece at most as often as all earlier duties name its part (`few`). A number past all pieces has no part, so no head holds
-- it; a begun piece has a part that is named once at most, which is the premise; any other piece has no part. It is the contract of
-- `heads_are_heads`, by which each head may be one item of the rest.
pub heads-are : HeadsAreHeads
heads-are d blocks earlier moment each =
    let begun : List (Option (ℕ × ℕ)) = begun_parts blocks earlier.blocks.columns moment d.pieces in
    let all = parts-length blocks earlier.blocks.columns moment d.pieces in
    let rows : List DutyHead = row_heads d begun moment earlier.duties in
    let heads : List DutyHead = duty_heads_of d blocks earlier moment in
    let few : (i : ℕ) → held_times i heads ≤ named (part_at begun i) (all_parts earlier.duties) = λ i.
    let first = first-times i rows (length d.pieces) 0 in let most = rows-times d begun moment i earlier.duties in
    omega (arith, first, most) in
    record {
      some = first-some rows (length d.pieces) 0 (rows-some d begun moment earlier.duties);
      below = below-times (length d.pieces) (held heads) (λ j some.
          elim (cases_lt j (length d.pieces)) [
            | inl there ↦ there
            | inr past ↦
                let none : named (part_at begun j) (all_parts earlier.duties) ≡ 0 =
                ap (λ (o : Option (ℕ × ℕ)). named o (all_parts earlier.duties)) (past-at begun j (omega (arith, all, past))) in
                let most = few j in
                absurd (omega (arith, none, most, some))
          ]);
      once = λ i. let most = few i in let one = once-named i (part_at begun i) refl in omega (arith, most, one);
    }
  where
    once-named : (i : ℕ) (o : Option (ℕ × ℕ)) → part_at (begun_parts blocks earlier.blocks.columns moment d.pieces) i ≡ o →
        named o (all_parts earlier.duties) ≤ 1
    once-named i None is = omega arith
    once-named i (Some x) is =
        let (p, at, begun) = part-there blocks earlier.blocks.columns moment d.pieces i x is in
        each i p x at begun
