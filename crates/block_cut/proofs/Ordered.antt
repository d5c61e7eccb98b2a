-- The pieces of a plan in their order.
use Rattle.std.proofs.Common.{◌≡◌, ℕ, ℤ, pos, suc, ◌+◌, ◌<◌, ◌≤◌, ◌≤ℤ◌, Bool, true, false, if◌then◌else◌, All, AllPairs, List, [], ◌∷◌, ◌++◌, length, get_or, drop, Option, Some, None, refl, sym, ap, ◌∙◌, arith, append_assoc, inl, inr, nat_lt, slice_get, add-one, drop-cons}
use Rattle.std.specs.Prelude.{option_and_then, unwrap_or}
use Rattle.std.proofs.lemmas.Bool.{cases_lt}
use Rattle.std.proofs.lemmas.Bool.Decides.{nat_tests}
use Rattle.std.proofs.lemmas.Int.{ints}
use Rattle.std.proofs.lemmas.List.Elements.{All-append, All-cons, All-head, All-nil, All-tail, All-weaker}
use Rattle.std.proofs.lemmas.List.Kept.{AllPairs-cons}
use Rattle.plan_core.specs.declared.types.Leg.{Leg}
use Rattle.plan_core.specs.declared.types.Piece.{Piece}
use Rattle.cover_core.specs.declared.Column.{Column}
use Rattle.plan_params.specs.declared.rows.pool.Pool.{Pool}
use Rattle.plan_params.specs.Settings.{in_order, put_in_order}
use Rattle.vdv452_tables.proofs.OrderLemmas.{order_all, put_all}
use Rattle.day_model.specs.Facts.{DayFacts}
use Rattle.day_model.specs.Pieces.{legs_of, parts, piece_of, pieces_from, pieces_of}
use Rattle.block_cut.specs.Cuts.{IsEarlier, IsEarlierInBlocks, IsShift, block_pieces, moment, pieces_by_block}

-- one block more
-- One block more in the loop: the pieces so far, and those of the blocks that are left, numbered from the next number on, are all
-- pieces of the plan, block after block. At the end none are left, so the loop has made `pieces_by_block` from number 1.
pub blocks_more : (day : DayFacts) (place : ℕ) (blocks : List Column) (block : Column) (old new all : List Piece) → place < length blocks →
    block ≡ get_or blocks place block → new ≡ old ++ block_pieces day (place + 1) block →
    old ++ pieces_by_block day (1 + place) (drop place blocks) ≡ all →
    new ++ pieces_by_block day (1 + (place + 1)) (drop (place + 1) blocks) ≡ all
blocks_more day place blocks block old new all within is pushed so_far =
    let at : drop place blocks ≡ block ∷ drop (place + 1) blocks =
    rw add-one (drop-cons blocks place block within ∙ ap (λ x. x ∷ drop (suc place) blocks) (sym is)) in
    let later : List Piece = pieces_by_block day (1 + (place + 1)) (drop (place + 1) blocks) in
    let n : place + 1 ≡ 1 + place = omega arith in
    let m : 1 + (place + 1) ≡ 1 + place + 1 = omega arith in
    let first : new ++ later ≡ old ++ (block_pieces day (place + 1) block ++ later) =
    ap (λ (ps : List Piece). ps ++ later) pushed ∙ append_assoc old (block_pieces day (place + 1) block) later in
    let second : old ++ (block_pieces day (place + 1) block ++ later) ≡ old ++ (block_pieces day (1 + place) block ++ later) =
    ap (λ (k : ℕ). old ++ (block_pieces day k block ++ later)) n in
    let third : old ++ (block_pieces day (1 + place) block ++ later)
    ≡ old ++ pieces_by_block day (1 + place) (block ∷ drop (place + 1) blocks) =
    ap (λ (k : ℕ). old ++ (block_pieces day (1 + place) block ++ pieces_by_block day k (drop (place + 1) blocks))) m in
    let fourth : old ++ pieces_by_block day (1 + place) (block ∷ drop (place + 1) blocks)
    ≡ old ++ pieces_by_block day (1 + place) (drop place blocks) =
    ap (λ (bs : List Column). old ++ pieces_by_block day (1 + place) bs) (sym at) in
    first ∙ second ∙ third ∙ fourth ∙ so_far

-- By block and index.
abbrev IsOf : ℕ → ℕ → Piece → Type 0
IsOf block index p = (p.block ≡ block) × (index ≤ p.index)

abbrev Ordered : List Piece → Type 0
Ordered [] = Unit {0}
Ordered (p ∷ ps) = All (IsEarlierInBlocks p) ps × Ordered ps

of_block : (block index : ℕ) (ps : List (List Leg)) → All (IsOf block index) (pieces_from block index ps)
of_block block index [] = All-nil (IsOf block index)
of_block block index ([] ∷ rest) = of_block block index rest
of_block block index ((l ∷ ls) ∷ rest) =
    All-cons (IsOf block index) _ (pieces_from block (index + 1) rest) (refl, omega arith)
    (All-weaker (IsOf block (index + 1)) (IsOf block index) (λ p is. (is.0, omega (arith, is.1))) (pieces_from block (index + 1) rest)
    (of_block block (index + 1) rest))

block_ordered : (block index : ℕ) (ps : List (List Leg)) → Ordered (pieces_from block index ps)
block_ordered block index [] = tt
block_ordered block index ([] ∷ rest) = block_ordered block index rest
block_ordered block index ((l ∷ ls) ∷ rest) = (
  All-weaker (IsOf block (index + 1)) (IsEarlierInBlocks (piece_of block index l ls)) (λ p is. inr (sym is.0, omega (arith, is.1)))
      (pieces_from block (index + 1) rest) (of_block block (index + 1) rest),
  block_ordered block (index + 1) rest,
)

apart : (block next : ℕ) (p : Piece) (ps : List Piece) → p.block ≡ block → block < next → All (λ (q : Piece). next ≤ q.block) ps →
    All (IsEarlierInBlocks p) ps
apart block next p ps is below later =
    All-weaker (λ (q : Piece). next ≤ q.block) (IsEarlierInBlocks p) (λ q from. inl (omega (arith, is, below, from))) ps later

-- Before they are sorted the pieces stand by block and index: within a block indexes rise, as each piece takes the next one, and all
-- pieces of a block stand before those of blocks with greater numbers. Of any two pieces the earlier one is therefore the smaller by
-- block and index.
before_others : (block next : ℕ) (ps qs : List Piece) → All (λ (p : Piece). p.block ≡ block) ps → Ordered ps → block < next →
    All (λ (q : Piece). next ≤ q.block) qs → Ordered qs → Ordered (ps ++ qs)
before_others block next [] qs of ordered below later others = others
before_others block next (p ∷ ps) qs of ordered below later others = (
  All-append (IsEarlierInBlocks p) ps qs ordered.0 (apart block next p qs (All-head (λ (p : Piece). p.block ≡ block) p ps of) below later),
  before_others block next ps qs (All-tail (λ (p : Piece). p.block ≡ block) p ps of) ordered.1 below later others,
)

-- what holds of the pieces of all lists of parts holds of those of a block
by_parts : (day : DayFacts) (number : ℕ) (column : Column) (P : List Piece → Type 0) → P [] →
    ((ps : List (List Leg)) → P (pieces_from number 1 ps)) → P (block_pieces day number column)
by_parts day number column P none some = of_pool (slice_get day.params.pools column.class)
  where
    of_legs : (pool : Pool) (o : Option (List Leg)) →
        P (unwrap_or (option_and_then (λ (legs : List Leg). Some (pieces_from number 1 (parts day pool legs))) o) [])
    of_legs pool None = none
    of_legs pool (Some legs) = some (parts day pool legs)

    of_pool : (o : Option Pool) → P (unwrap_or (option_and_then (λ (pool : Pool). pieces_of day pool number column.items) o) [])
    of_pool None = none
    of_pool (Some pool) = of_legs pool (legs_of day pool column.items)

number_all : (day : DayFacts) (number : ℕ) (column : Column) → All (λ (p : Piece). p.block ≡ number) (block_pieces day number column)
number_all day number column =
    by_parts day number column (λ ps. All (λ (p : Piece). p.block ≡ number) ps) (All-nil (λ (p : Piece). p.block ≡ number))
    (λ ps. All-weaker (IsOf number 1) (λ (p : Piece). p.block ≡ number) (λ p is. is.0) (pieces_from number 1 ps) (of_block number 1 ps))

numbers_from : (day : DayFacts) (number : ℕ) (columns : List Column) →
    All (λ (p : Piece). number ≤ p.block) (pieces_by_block day number columns)
numbers_from day number [] = All-nil (λ (p : Piece). number ≤ p.block)
numbers_from day number (column ∷ columns) =
    All-append (λ (p : Piece). number ≤ p.block) (block_pieces day number column) (pieces_by_block day (number + 1) columns)
    (All-weaker (λ (p : Piece). p.block ≡ number) (λ (p : Piece). number ≤ p.block) (λ p is. omega (arith, is))
    (block_pieces day number column) (number_all day number column))
    (All-weaker (λ (p : Piece). number + 1 ≤ p.block) (λ (p : Piece). number ≤ p.block) (λ p is. omega (arith, is))
    (pieces_by_block day (number + 1) columns) (numbers_from day (number + 1) columns))

all_ordered : (day : DayFacts) (number : ℕ) (columns : List Column) → Ordered (pieces_by_block day number columns)
all_ordered day number [] = tt
all_ordered day number (column ∷ columns) =
    before_others number (number + 1) (block_pieces day number column) (pieces_by_block day (number + 1) columns)
    (number_all day number column)
    (by_parts day number column (λ ps. Ordered ps) tt (λ ps. block_ordered number 1 ps)) (omega arith)
    (numbers_from day (number + 1) columns) (all_ordered day (number + 1) columns)

-- By begin, block and index.
abbrev Sorted : List Piece → Type 0
Sorted [] = Unit {0}
Sorted (p ∷ ps) = All (IsEarlier p) ps × Sorted ps

abbrev Starts : Piece → Type 0
Starts p = pos 0 ≤ℤ p.begin.0

at_moment : (p : Piece) → Starts p → pos (moment p) ≡ p.begin.0
at_moment p starts = omega (arith, ints, starts)

earlier_moment : (p q : Piece) → Starts p → Starts q → moment p < moment q → IsEarlier p q
earlier_moment p q from from' below = inl (omega (arith, ints, at_moment p from, at_moment q from', below))

begins_rise : (p q : Piece) → IsEarlier p q → p.begin.0 ≤ℤ q.begin.0
begins_rise p q e = elim e [ inl below ↦ omega (arith, ints, below) | inr same ↦ omega (arith, ints, same.0) ]

later_moment : (p q : Piece) → Starts p → Starts q → p.begin.0 ≤ℤ q.begin.0 → IsEarlierInBlocks p q → IsEarlier p q
later_moment p q from from' low earlier = elim (cases_lt (moment p) (moment q)) [
  | inl below ↦ earlier_moment p q from from' below
  | inr above ↦ inr (omega (arith, ints, at_moment p from, at_moment q from', above, low), earlier)
]

-- Sorting by start keeps the order by block and index among pieces of one start: a piece is put in before the first one that does
-- not begin earlier, and all pieces that are there come after it by block and index. So of those that begin at the same moment it
-- stands first. The insertion from the right is how the sort by key is defined (`in_order`), whose order of equal keys is thereby
-- the one before.
put_sorted : (x : Piece) (ps : List Piece) → Starts x → All Starts ps → All (IsEarlierInBlocks x) ps → Sorted ps →
    Sorted (put_in_order moment x ps)
put_sorted x [] from all earlier sorted = (All-nil (IsEarlier x), tt)
put_sorted x (next ∷ ps) from all earlier sorted =
    by (nat_lt (moment next) (moment x)) refl
    (put_sorted x ps from (All-tail Starts next ps all) (All-tail (IsEarlierInBlocks x) next ps earlier) sorted.1)
  where
    start : Starts next
    start = All-head Starts next ps all

    by : (b : Bool) → nat_lt (moment next) (moment x) ≡ b → Sorted (put_in_order moment x ps) →
        Sorted (if b then next ∷ put_in_order moment x ps else x ∷ next ∷ ps)
    by true e later =
        let below : moment next < moment x = grind (arith, nat_tests) in
        (put_all moment (IsEarlier next) x ps (earlier_moment next x start from below) sorted.0, later)
    by false e later =
        let above : moment x ≤ moment next = grind (arith, nat_tests) in
        let low : x.begin.0 ≤ℤ next.begin.0 = omega (arith, ints, at_moment x from, at_moment next start, above) in (
          All-cons (IsEarlier x) next ps (later_moment x next from start low (All-head (IsEarlierInBlocks x) next ps earlier))
              (λ k d within. let q : Piece = get_or ps k d in
              later_moment x q from (All-tail Starts next ps all k d within)
              (omega (arith, ints, low, begins_rise next q (sorted.0 k d within)))
              (All-tail (IsEarlierInBlocks x) next ps earlier k d within)),
          sorted,
        )

all_sorted : (ps : List Piece) → All Starts ps → Ordered ps → Sorted (in_order moment ps)
all_sorted [] all ordered = tt
all_sorted (p ∷ ps) all ordered =
    put_sorted p (in_order moment ps) (All-head Starts p ps all) (order_all moment Starts ps (All-tail Starts p ps all))
    (order_all moment (IsEarlierInBlocks p) ps ordered.0) (all_sorted ps (All-tail Starts p ps all) ordered.1)

pairs_from : (ps : List Piece) → Sorted ps → AllPairs IsEarlier ps
pairs_from [] sorted = λ i j d below within. absurd (omega (arith, within))
pairs_from (p ∷ ps) sorted = AllPairs-cons IsEarlier p ps sorted.0 (pairs_from ps sorted.1)

-- The pieces of a plan stand by start, of equal starts by block, and of those by index: `all_ordered` has the order by block and
-- index before the sort, and `all_sorted` carries it through. Of two pieces with one block and index neither is before the other, so
-- each pair of places holds two different ones. It is the clause `order` of the contract of `cut`.
pub plan_ordered : (day : DayFacts) (columns : List Column) → All IsShift (pieces_by_block day 1 columns) →
    AllPairs IsEarlier (in_order moment (pieces_by_block day 1 columns))
plan_ordered day columns shifts =
    let ps : List Piece = pieces_by_block day 1 columns in
    pairs_from (in_order moment ps)
    (all_sorted ps (All-weaker IsShift Starts (λ p shift. shift.begins) ps shifts) (all_ordered day 1 columns))
