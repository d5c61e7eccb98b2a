-- Which columns are in play is looked up once: the columns of value below 0 at those places are those of the whole pool.
use Rattle.std.proofs.Common.{◌≡◌, ℕ, pos, ◌<ℤ◌, int_lt, ◌+◌, ◌≤◌, ◌<◌, Bool, true, false, cond, ◌&&◌, suc, List, [], ◌∷◌, ◌++◌, drop, length, Option, Some, None, slice_get, get_or, refl, sym, ap, ◌∙◌, arith, All}
use Rattle.std.proofs.lemmas.Int.{ints}
use Rattle.std.proofs.lemmas.List.Elements.{All-nil, All-cons}
use Rattle.std.proofs.lemmas.List.{append_assoc, at_drop_more}
use Rattle.std.proofs.lemmas.Option.{get_or_from_slice_get}
use Rattle.plan_core.specs.declared.Price.{Price}
use Rattle.cover_core.specs.declared.Column.{Column}
use Rattle.cover_core.specs.Cover.{AllBelow}
use Rattle.cover_core.specs.Fitting.{AreFit}
use Rattle.cover_core.specs.FirstLeast.{AllWithin, value}
use Rattle.cover_core.proofs.Fits.{IsFit, fit-at}
use Rattle.cover_core.proofs.Values.{Rises-length, price_of-within}
use Rattle.cover_core.specs.declared.column_keys.ColumnKey.{ColumnKey}
use Rattle.lagrangian_climb.specs.Choices.{is_in_play, playing_from, playing_of, gain_before, gains_at, gains_from, gains_of, IsGain}

-- the places are there, and no more than the columns
pub playing-below : (fixed : List Bool) (caps : List ℕ) (m place : ℕ) (cs : List Column) → place + length cs ≤ m →
    AllBelow m (playing_from fixed caps place cs)
playing-below fixed caps m place [] h = tt
playing-below fixed caps m place (c ∷ cs) h =
    let rest : AllBelow m (playing_from fixed caps (suc place) cs) = playing-below fixed caps m (suc place) cs (omega arith) in
    let here : place < m = omega arith in
    elim (is_in_play fixed caps c) as
    (λ b. AllBelow m (cond b (place ∷ playing_from fixed caps (suc place) cs) (playing_from fixed caps (suc place) cs))) [
      | true ↦
          (here, rest)
      | false ↦ rest
    ]

pub playing-few : (fixed : List Bool) (caps : List ℕ) (place : ℕ) (cs : List Column) → length (playing_from fixed caps place cs) ≤ length cs
playing-few fixed caps place [] = omega arith
playing-few fixed caps place (c ∷ cs) =
    let rest : length (playing_from fixed caps (suc place) cs) ≤ length cs = playing-few fixed caps (suc place) cs in
    elim (is_in_play fixed caps c) as
    (λ b. length (cond b (place ∷ playing_from fixed caps (suc place) cs) (playing_from fixed caps (suc place) cs))
    ≤ suc (length cs)) [ true ↦ omega arith | false ↦ omega arith ]

-- The columns from a place on are those that the pool has there. So each place in play has its own column, and what is made of it there is
-- what is made of it on the way through the whole pool.
-- By induction over the columns that are left; that each place holds the column met there is carried along, as the pool itself
-- stays whole. So a climb looks once which columns are in play, and each of its price steps may go over their places alone.
pub gains-playing : (fixed : List Bool) (caps : List ℕ) (prices : List Price) (pool : List Column) (place : ℕ) (cs : List Column) →
    ((i : ℕ) → slice_get pool (place + i) ≡ slice_get cs i) →
    gains_at prices pool (playing_from fixed caps place cs) ≡ gains_from fixed caps prices place cs
gains-playing fixed caps prices pool place [] at = refl
gains-playing fixed caps prices pool place (c ∷ cs) at =
    let further : (i : ℕ) → slice_get pool (suc place + i) ≡ slice_get cs i =
    λ i. (let e : suc place + i ≡ place + suc i = omega arith in ap (slice_get pool) e ∙ at (suc i)) in
    let rest : gains_at prices pool (playing_from fixed caps (suc place) cs) ≡ gains_from fixed caps prices (suc place) cs =
    gains-playing fixed caps prices pool (suc place) cs further in
    let here : slice_get pool place ≡ Some c = (let e : place ≡ place + 0 = omega arith in ap (slice_get pool) e ∙ at 0) in
    let key : ColumnKey = record { class = c.class; value = value prices c; place = place } in
    let more = gains_from fixed caps prices (suc place) cs in
    let first : gain_before prices place (gains_at prices pool (playing_from fixed caps (suc place) cs)) (slice_get pool place)
    ≡ gain_before prices place more (Some c) =
    ap (λ r. gain_before prices place r (slice_get pool place)) rest ∙ ap (gain_before prices place more) here in
    elim (is_in_play fixed caps c) as
    (λ b. gains_at prices pool (cond b (place ∷ playing_from fixed caps (suc place) cs) (playing_from fixed caps (suc place) cs)) ≡
    cond (b && int_lt (value prices c) (pos 0)) (key ∷ more) more) [ true ↦ first | false ↦ rest ]

pub gains-all : (fixed : List Bool) (caps : List ℕ) (prices : List Price) (pool : List Column) →
    gains_at prices pool (playing_of fixed caps pool) ≡ gains_of fixed caps prices pool
gains-all fixed caps prices pool =
    gains-playing fixed caps prices pool 0 pool (λ i. let e : 0 + i ≡ i = omega arith in ap (slice_get pool) e)

-- a column with a value below 0 is a gain
gain-here : (n k m : ℕ) (prices : List Price) (place : ℕ) (c : Column) → n ≤ 3000 → AllWithin 10000000000000 prices → place < m →
    IsFit n k c → value prices c <ℤ pos 0 →
    IsGain k m (record { class = c.class; value = value prices c; place = place })
gain-here n k m prices place c few w there fit below =
    let short = Rises-length n c.items fit.rises fit.items in
    let part = price_of-within 10000000000000 prices c.items w in
    record { class = fit.class; place = there; low = omega (arith, ints, part.high); below = below }

before-are : (n k m : ℕ) (prices : List Price) (place : ℕ) (rest : List ColumnKey) (found : Option Column) → n ≤ 3000 →
    AllWithin 10000000000000 prices → place < m →
    ((c : Column) → found ≡ Some c → IsFit n k c) → All (IsGain k m) rest → All (IsGain k m) (gain_before prices place rest found)
before-are n k m prices place rest None few w there fit all = all
before-are n k m prices place rest (Some c) few w there fit all =
    let key : ColumnKey = record { class = c.class; value = value prices c; place = place } in
    elim (int_lt (value prices c) (pos 0)) as (λ b. int_lt (value prices c) (pos 0) ≡ b → All (IsGain k m) (cond b (key ∷ rest) rest)) [
      | true ↦ λ e. All-cons (IsGain k m) key rest (gain-here n k m prices place c few w there (fit c refl) (grind (arith, ints))) all
      | false ↦ λ e. all
    ] refl

pub gains-at-are : (n k : ℕ) (prices : List Price) (pool : List Column) (places : List ℕ) → n ≤ 3000 → AllWithin 10000000000000 prices →
    AreFit n k pool → AllBelow (length pool) places →
    All (IsGain k (length pool)) (gains_at prices pool places)
gains-at-are n k prices pool [] few w fit below = All-nil (IsGain k (length pool))
gains-at-are n k prices pool (p ∷ ps) few w fit below =
    let one : (c : Column) → slice_get pool p ≡ Some c → IsFit n k c =
    λ c e. fit-at n k pool p c below.0 (sym (get_or_from_slice_get pool p c c e)) fit in
    before-are n k (length pool) prices p (gains_at prices pool ps) (slice_get pool p) few w below.0 one
    (gains-at-are n k prices pool ps few w fit below.1)

before-few : (prices : List Price) (place : ℕ) (rest : List ColumnKey) (found : Option Column) →
    length (gain_before prices place rest found) ≤ suc (length rest)
before-few prices place rest None = omega arith
before-few prices place rest (Some c) =
    let key : ColumnKey = record { class = c.class; value = value prices c; place = place } in
    elim (int_lt (value prices c) (pos 0)) as (λ b. length (cond b (key ∷ rest) rest) ≤ suc (length rest)) [
      | true ↦
          omega arith
      | false ↦ omega arith
    ]

pub gains-at-few : (prices : List Price) (pool : List Column) (places : List ℕ) → length (gains_at prices pool places) ≤ length places
gains-at-few prices pool [] = omega arith
gains-at-few prices pool (p ∷ ps) =
    let one = before-few prices p (gains_at prices pool ps) (slice_get pool p) in
    let rest = gains-at-few prices pool ps in
    omega arith

-- one place more
pub gains-step : (prices : List Price) (pool : List Column) (places : List ℕ) (i : ℕ) (c : Column) → i < length places →
    slice_get pool (get_or places i 0) ≡ Some c →
    gains_at prices pool (drop i places) ≡ gain_before prices (get_or places i 0) (gains_at prices pool (drop (i + 1) places)) (Some c)
gains-step prices pool places i c h at =
    at_drop_more (gains_at prices pool) places i 0 h
    ∙ ap (gain_before prices (get_or places i 0) (gains_at prices pool (drop (i + 1) places))) at

-- Where the value is below 0 the column is one more of those so far, else nothing changes. The invariant of the loop over the
-- places: the columns found so far, followed by what the places left will give, are all there are to find. A column of value below
-- 0 moves from the second part to the first; the lemma below is the other case, where nothing moves.
pub gains-taken : (prices : List Price) (pool : List Column) (places : List ℕ) (i : ℕ) (c : Column) (all so_far now : List ColumnKey) →
    i < length places → slice_get pool (get_or places i 0) ≡ Some c →
    value prices c <ℤ pos 0 → now ≡ so_far ++ record { class = c.class; value = value prices c; place = get_or places i 0 } ∷ [] →
    all ≡ so_far ++ gains_at prices pool (drop i places) → all ≡ now ++ gains_at prices pool (drop (i + 1) places)
gains-taken prices pool places i c all so_far now h at below is so =
    let key : ColumnKey = record { class = c.class; value = value prices c; place = get_or places i 0 } in
    let rest = gains_at prices pool (drop (i + 1) places) in
    let test : int_lt (value prices c) (pos 0) ≡ true = grind (arith, ints) in
    let step : gains_at prices pool (drop i places) ≡ key ∷ rest =
    gains-step prices pool places i c h at ∙ ap (λ b. cond b (key ∷ rest) rest) test in
    so ∙ (ap (λ l. so_far ++ l) step ∙ (sym (append_assoc so_far (key ∷ []) rest) ∙ ap (λ l. l ++ rest) (sym is)))

pub gains-left : (prices : List Price) (pool : List Column) (places : List ℕ) (i : ℕ) (c : Column) (all so_far : List ColumnKey) →
    i < length places → slice_get pool (get_or places i 0) ≡ Some c →
    (value prices c <ℤ pos 0 → ⊥) → all ≡ so_far ++ gains_at prices pool (drop i places) →
    all ≡ so_far ++ gains_at prices pool (drop (i + 1) places)
gains-left prices pool places i c all so_far h at above so =
    let key : ColumnKey = record { class = c.class; value = value prices c; place = get_or places i 0 } in
    let rest = gains_at prices pool (drop (i + 1) places) in
    let none : (b : Bool) → int_lt (value prices c) (pos 0) ≡ b → cond b (key ∷ rest) rest ≡ rest =
    λ b e. elim b as (λ b. int_lt (value prices c) (pos 0) ≡ b → cond b (key ∷ rest) rest ≡ rest) [
      | true ↦
          λ t. absurd (above (grind (arith, ints)))
      | false ↦ λ f. refl
    ] e in
    let step : gains_at prices pool (drop i places) ≡ rest =
    gains-step prices pool places i c h at ∙ none (int_lt (value prices c) (pos 0)) refl in
    so ∙ ap (λ l. so_far ++ l) step
