-- Pieces are told apart by their blocks and indexes.
use Rattle.std.proofs.Common.{◌≡◌, ℕ, suc, ◌+◌, ◌<◌, ◌≤◌, Bool, true, false, ◌&&◌, nat_eq, All, List, ◌∷◌, ◌++◌, length, get_or, Option, Some, None, refl, ap, ◌∙◌, arith, slice_get, length-append, []}
use Rattle.std.specs.Prelude.{option_and_then, unwrap_or, slice_index_or}
use Rattle.std.proofs.lemmas.Bool.Decides.{nat_tests}
use Rattle.std.proofs.lemmas.List.Elements.{All-from_recursion}
use Rattle.std.specs.List.{AllByRecursion, position_from}
use Rattle.plan_core.specs.declared.types.Leg.{Leg}
use Rattle.plan_core.specs.declared.types.Piece.{Piece}
use Rattle.cover_core.specs.declared.Column.{Column}
use Rattle.cover_core.specs.Plans.{IsPlan}
use Rattle.plan_params.specs.declared.rows.pool.Pool.{Pool}
use Rattle.vdv452_tables.proofs.OrderLemmas.{order_length}
use Rattle.day_model.specs.Facts.{DayFacts}
use Rattle.day_model.specs.Pieces.{legs_of, parts, piece_of, pieces_from, pieces_of}
use Rattle.depot_network.specs.Listed.{blocks_listed}
use Rattle.depot_network.specs.Network.{blocks_of}
use Rattle.block_cut.specs.Cuts.{block_pieces, moment, pieces_by_block, pieces_of_plan}
use Rattle.block_cut.proofs.Few.{all_few, plan_items}
use Rattle.plan_read.specs.ReadsBack.{IsPieceOf}
use Rattle.cert_check.specs.Judging.{is_piece_of, piece_number}
use Rattle.check_answers.proofs.Apart.{Apart, IsOther, apart-append, each, each-append, order-apart, order-each, place-at}

-- a piece by the test of another's block and index
abbrev pub same_piece : Piece → Piece → Bool
same_piece p q = is_piece_of p.block p.index q

unequal : (m n : ℕ) → m < n → (nat_eq m n ≡ false) × (nat_eq n m ≡ false)
unequal m n below = (grind (arith, nat_tests), grind (arith, nat_tests))

and-false : (b c : Bool) → c ≡ false → (b && c) ≡ false
and-false true c e = e
and-false false c e = refl

-- pieces of different blocks, and pieces of different indexes
earlier-block : (p q : Piece) → p.block < q.block → IsOther same_piece p q
earlier-block p q below =
    let (one, other) = unequal p.block q.block below in
    (ap (λ (b : Bool). b && nat_eq q.index p.index) other, ap (λ (b : Bool). b && nat_eq p.index q.index) one)

earlier-index : (p q : Piece) → p.index < q.index → IsOther same_piece p q
earlier-index p q below =
    let (one, other) = unequal p.index q.index below in
    (and-false (nat_eq q.block p.block) (nat_eq q.index p.index) other, and-false (nat_eq p.block q.block) (nat_eq p.index q.index) one)

own-piece : (p : Piece) → same_piece p p ≡ true
own-piece p =
    let block : nat_eq p.block p.block ≡ true = grind (arith, nat_tests) in
    let index : nat_eq p.index p.index ≡ true = grind (arith, nat_tests) in
    ap (λ (b : Bool). b && nat_eq p.index p.index) block ∙ index

-- The pieces of one block: of the block, with indexes that rise.
abbrev IsOf : ℕ → ℕ → ℕ → Piece → Type 0
IsOf block from to p = (p.block ≡ block) × (from ≤ p.index) × (p.index < to)

of-block : (block index : ℕ) (ps : List (List Leg)) →
    AllByRecursion (IsOf block index (index + length (pieces_from block index ps))) (pieces_from block index ps)
of-block block index [] = tt
of-block block index ([] ∷ rest) = of-block block index rest
of-block block index ((l ∷ ls) ∷ rest) =
    let later : List Piece = pieces_from block (index + 1) rest in
    let P : Piece → Type 0 = IsOf block (index + 1) (index + 1 + length later) in
    let Q : Piece → Type 0 = IsOf block index (index + suc (length later)) in (
      (refl, omega arith, omega arith),
      each P Q (λ p is. (is.0, omega (arith, is.1), omega (arith, is.2))) later (of-block block (index + 1) rest),
    )

block-apart : (block index : ℕ) (ps : List (List Leg)) → Apart same_piece (pieces_from block index ps)
block-apart block index [] = tt
block-apart block index ([] ∷ rest) = block-apart block index rest
block-apart block index ((l ∷ ls) ∷ rest) =
    let later : List Piece = pieces_from block (index + 1) rest in
    let P : Piece → Type 0 = IsOf block (index + 1) (index + 1 + length later) in
    let first : Piece = piece_of block index l ls in (
      each P (IsOther same_piece first) (λ p is. earlier-index first p (omega (arith, is.1))) later (of-block block (index + 1) rest),
      block-apart block (index + 1) rest,
    )

-- what holds of the pieces of all lists of parts holds of those of a block
by-parts : (day : DayFacts) (number : ℕ) (column : Column) (P : List Piece → Type 0) → P [] →
    ((ps : List (List Leg)) → P (pieces_from number 1 ps)) →
    P (block_pieces day number column)
by-parts day number column P none some = of-pool (slice_get day.params.pools column.class)
  where
    of-legs : (pool : Pool) (o : Option (List Leg)) →
        P (unwrap_or (option_and_then (λ (legs : List Leg). Some (pieces_from number 1 (parts day pool legs))) o) [])
    of-legs pool None = none
    of-legs pool (Some legs) = some (parts day pool legs)

    of-pool : (o : Option Pool) → P (unwrap_or (option_and_then (λ (pool : Pool). pieces_of day pool number column.items) o) [])
    of-pool None = none
    of-pool (Some pool) = of-legs pool (legs_of day pool column.items)

in-block : (day : DayFacts) (number : ℕ) (column : Column) →
    AllByRecursion (IsOf number 1 (1 + length (block_pieces day number column))) (block_pieces day number column)
in-block day number column =
    by-parts day number column (λ ps. AllByRecursion (IsOf number 1 (1 + length ps)) ps) tt (λ ps. of-block number 1 ps)

-- The pieces of all blocks.
abbrev IsAmong : ℕ → ℕ → ℕ → Piece → Type 0
IsAmong from to most p = (from ≤ p.block) × (p.block < to) × (p.index ≤ most)

in-blocks : (day : DayFacts) (number : ℕ) (columns : List Column) →
    AllByRecursion (IsAmong number (number + length columns) (length (pieces_by_block day number columns)))
    (pieces_by_block day number columns)
in-blocks day number [] = tt
in-blocks day number (column ∷ columns) =
    let here : List Piece = block_pieces day number column in
    let later : List Piece = pieces_by_block day (number + 1) columns in
    let both : length (here ++ later) ≡ length here + length later = length-append here later in
    let P : Piece → Type 0 = IsOf number 1 (1 + length here) in
    let Q : Piece → Type 0 = IsAmong (number + 1) (number + 1 + length columns) (length later) in
    let R : Piece → Type 0 = IsAmong number (number + suc (length columns)) (length (here ++ later)) in
    each-append R here later
    (each P R (λ p is. (omega (arith, is.0), omega (arith, is.0), omega (arith, both, is.2))) here (in-block day number column))
    (each Q R (λ p is. (omega (arith, is.0), omega (arith, is.1), omega (arith, both, is.2))) later (in-blocks day (number + 1) columns))

-- Within a block indexes rise from 1 on (`block-apart`), and blocks have numbers that rise (`in-blocks`), so no two pieces of a plan
-- agree in both. The induction carries from which number on blocks are counted, by which the pieces of later blocks are other than
-- those of this one.
blocks-apart : (day : DayFacts) (number : ℕ) (columns : List Column) → Apart same_piece (pieces_by_block day number columns)
blocks-apart day number [] = tt
blocks-apart day number (column ∷ columns) =
    let here : List Piece = block_pieces day number column in
    let later : List Piece = pieces_by_block day (number + 1) columns in
    let P : Piece → Type 0 = IsOf number 1 (1 + length here) in
    let Q : Piece → Type 0 = IsAmong (number + 1) (number + 1 + length columns) (length later) in
    let R : Piece → Type 0 = λ p. AllByRecursion (IsOther same_piece p) later in
    apart-append same_piece here later (by-parts day number column (λ ps. Apart same_piece ps) tt (λ ps. block-apart number 1 ps))
    (blocks-apart day (number + 1) columns)
    (each P R (λ p is. each Q (IsOther same_piece p) (λ q from. earlier-block p q (omega (arith, is.0, from.0))) later
    (in-blocks day (number + 1) columns)) here (in-block day number column))

-- There are never more pieces than trips.
pub few-pieces : (facts : DayFacts) (columns : List Column) → IsPlan (blocks_of facts false) columns → length facts.trips ≤ 3000 →
    length (pieces_of_plan facts columns) ≤ 3000
few-pieces facts columns plan few =
    let same : length (pieces_of_plan facts columns) ≡ length (pieces_by_block facts 1 columns) =
    order_length moment (pieces_by_block facts 1 columns) in
    omega (
      arith,
      same,
      all_few facts 1 columns,
      plan_items (blocks_of facts false) columns (blocks_listed (record { day = facts; counts = false })) plan,
      few,
    )

-- Each is of a block that is there, and its index has 32 bits.
pub pieces-of-blocks : (facts : DayFacts) (columns : List Column) → length (pieces_of_plan facts columns) ≤ 3000 →
    All (IsPieceOf (length columns)) (pieces_of_plan facts columns)
pieces-of-blocks facts columns few =
    let by_block : List Piece = pieces_by_block facts 1 columns in
    let same : length (pieces_of_plan facts columns) ≡ length by_block = order_length moment by_block in
    let P : Piece → Type 0 = IsAmong 1 (1 + length columns) (length by_block) in
    let Q : Piece → Type 0 = IsPieceOf (length columns) in
    All-from_recursion Q (pieces_of_plan facts columns)
    (order-each moment Q by_block
    (each P Q (λ p is. record { first = is.0; last = omega (arith, is.1); index = omega (arith, same, few, is.2) }) by_block
    (in-blocks facts 1 columns)))

-- A piece is found again by its block and its index.
-- Pieces are apart by block and index, before and after they are put in order by time (`order-apart`), so the first with both is the
-- piece itself (`place-at`). X_DIENST_STUECK names pieces by block and index alone; so the checker reads back the duties' own items.
pub number-again : (facts : DayFacts) (columns : List Column) (item : ℕ) (d : Piece) → item < length (pieces_of_plan facts columns) →
    let pieces = pieces_of_plan facts columns in
    let piece = slice_index_or pieces item d in
    piece_number pieces piece.block piece.index ≡ item
number-again facts columns item d within =
    let pieces = pieces_of_plan facts columns in
    let found : position_from (same_piece (get_or pieces item d)) 0 pieces ≡ Some (0 + item) =
    place-at same_piece own-piece pieces item 0 d
    (order-apart same_piece moment (pieces_by_block facts 1 columns) (blocks-apart facts 1 columns)) within in
    let here : 0 + item ≡ item = omega arith in
    ap (λ (o : Option ℕ). unwrap_or o (length pieces)) found ∙ here
