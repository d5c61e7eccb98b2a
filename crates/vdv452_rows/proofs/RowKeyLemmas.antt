-- Short keys are the same where their cells are.
use Rattle.std.proofs.Common.{◌≡◌, ◌++◌, Bool, true, false, ℕ, nat_le, List, [], ◌∷◌, length, map, All, Option, Some, None, refl, sym, ap, subst, ◌∙◌, not, if◌then◌else◌, ◌||◌, ◌&&◌, ◌==◌, slice_get, arith}
use Rattle.std.specs.Prelude.{IfSome}
use Rattle.std.specs.Option.{option_map}
use Rattle.std.specs.List.{list_any}
use Rattle.std.proofs.lemmas.List.Elements.{All-head, All-push, All-tail}
use Rattle.std.proofs.lemmas.List.{map-append}
use Rattle.indexmap.specs.IndexSet.{insert_key}
use Rattle.std.specs.Cmp.{unsigned_Decides}
use Rattle.arrayvec.specs.ArrayVec.{ArrayVec}
use Rattle.std.specs.Cmp.Lexicographic.{bytes_decides, pointwise, pointwise_decides}
use Rattle.std.proofs.lemmas.Bool.{and_from, and_parts}
use Rattle.vdv452_rows.specs.declared.cell.Cell.{Cell}
use Rattle.vdv452_rows.specs.declared.cell.Cell.TheVariants.{Nothing, Number, Long, Word}
use Rattle.vdv452_rows.specs.declared.row_key.RowKey.{RowKey}
use Rattle.vdv452_rows.specs.declared.row_key.RowKey.TheVariants.{Numbers, Trip, Cells}
use Rattle.vdv452_rows.specs.Cells.{same_cell, same_cells}
use Rattle.vdv452_rows.specs.RowKeys.{IsShort, cells_of, has, is_long, is_number, is_trip, key_of_numbers, numbers_of, short}
use Rattle.vdv452_rows.specs.Values.{long_at, number_at}

-- numbers that were found are those of the cells
numbers_back : (cells : List Cell) → IfSome (numbers_of cells) (λ ns. map Number ns ≡ cells)
numbers_back [] = refl
numbers_back (Number n ∷ cells) = step (numbers_of cells) (numbers_back cells)
  where
    step : (found : Option (List ℕ)) → IfSome found (λ ns. map Number ns ≡ cells) →
        IfSome (option_map (λ ns. n ∷ ns) found) (λ ns. map Number ns ≡ Number n ∷ cells)
    step None back = tt
    step (Some ns) back = ap (λ cs. Number n ∷ cs) back
numbers_back (Nothing ∷ cells) = tt
numbers_back (Long n ∷ cells) = tt
numbers_back (Word w ∷ cells) = tt

not_first : (cell : Cell) (cells : List Cell) → is_number cell ≡ false → is_trip (cell ∷ cells) ≡ true → ⊥
not_first cell cells other e = by (length (cell ∷ cells) == 2) (is_number cell) other e
  where
    by : (two number : Bool) → number ≡ false → (two && (number && has is_long (slice_get (cell ∷ cells) 1))) ≡ true → ⊥
    by true true other e = cc
    by true false other e = cc
    by false number other e = cc

not_second : (first second : Cell) (cells : List Cell) → is_long second ≡ false → is_trip (first ∷ second ∷ cells) ≡ true → ⊥
not_second first second cells other e = by (length (first ∷ second ∷ cells) == 2) (is_number first) (is_long second) other e
  where
    by : (two number long : Bool) → long ≡ false → (two && (number && long)) ≡ true → ⊥
    by true true true other e = cc
    by true true false other e = cc
    by true false long other e = cc
    by false number long other e = cc

too_long : (first second third : Cell) (cells : List Cell) → is_trip (first ∷ second ∷ third ∷ cells) ≡ true → ⊥
too_long first second third cells e = by (length (first ∷ second ∷ third ∷ cells) == 2) refl e
  where
    by : (two : Bool) → (length (first ∷ second ∷ third ∷ cells) == 2) ≡ two → (two && (is_number first && is_long second)) ≡ true → ⊥
    by true two e = omega (arith, (unsigned_Decides (length (first ∷ second ∷ third ∷ cells)) 2).0 two)
    by false two e = cc

trip_back : (cells : List Cell) → is_trip cells ≡ true → Number (number_at cells 0) ∷ Long (long_at cells 1) ∷ [] ≡ cells
trip_back (Number n ∷ Long m ∷ []) e = refl
trip_back [] e = absurd cc
trip_back (Nothing ∷ cells) e = absurd (not_first Nothing cells refl e)
trip_back (Long n ∷ cells) e = absurd (not_first (Long n) cells refl e)
trip_back (Word w ∷ cells) e = absurd (not_first (Word w) cells refl e)
trip_back (Number n ∷ []) e = absurd cc
trip_back (Number n ∷ Nothing ∷ cells) e = absurd (not_second (Number n) Nothing cells refl e)
trip_back (Number n ∷ Number m ∷ cells) e = absurd (not_second (Number n) (Number m) cells refl e)
trip_back (Number n ∷ Word w ∷ cells) e = absurd (not_second (Number n) (Word w) cells refl e)
trip_back (Number n ∷ Long m ∷ cell ∷ cells) e = absurd (too_long (Number n) (Long m) cell cells e)

-- A short key keeps its cells: whichever of its three forms it has, trip, numbers or all cells, they are got back from it. The form
-- is chosen by what the cells are, so in the first two each number is the one that stood there (`trip_back`, `numbers_back`), and a
-- cell that is no such number leaves the third. So keys may be compared and hashed in little room without two keys becoming one.
pub cells_back : (cells : List Cell) → cells_of (short cells) ≡ cells
cells_back cells = by (is_trip cells) (trip_back cells) (nat_le (length cells) 7) (numbers_of cells) (numbers_back cells)
  where
    by : (trip : Bool) → (trip ≡ true → Number (number_at cells 0) ∷ Long (long_at cells 1) ∷ [] ≡ cells) →
        (few : Bool) (found : Option (List ℕ)) → IfSome found (λ ns. map Number ns ≡ cells)
        → cells_of (if trip then Trip (number_at cells 0) (long_at cells 1) else (if few then key_of_numbers found cells else Cells cells))
        ≡ cells
    by true back few found numbers = back refl
    by false back true None numbers = refl
    by false back true (Some ns) numbers = numbers
    by false back false found numbers = refl

pub is_short : (cells : List Cell) → IsShort (short cells)
is_short cells = ap short (cells_back cells)

cell_decides : (a b : Cell) → (same_cell a b ≡ true → a ≡ b) × (a ≡ b → same_cell a b ≡ true)
cell_decides Nothing Nothing = (λ _. refl, λ _. refl)
cell_decides (Number m) (Number n) = (λ e. ap Number ((unsigned_Decides m n).0 e), λ e. (unsigned_Decides m n).1 cc)
cell_decides (Long m) (Long n) = (λ e. ap Long ((unsigned_Decides m n).0 e), λ e. (unsigned_Decides m n).1 cc)
cell_decides (Word v) (Word w) = (λ e. ap Word ((bytes_decides v w).0 e), λ e. (bytes_decides v w).1 cc)
cell_decides a b = (λ e. absurd cc, λ e. absurd cc)

cells_decide : (a b : List Cell) → (same_cells a b ≡ true → a ≡ b) × (a ≡ b → same_cells a b ≡ true)
cells_decide = pointwise_decides cell_decides

-- how keys compare
abbrev pub key_eq : RowKey → RowKey → Bool
key_eq (Numbers v) (Numbers w) = pointwise (λ m n. m == n) v.items w.items
key_eq (Trip version fid) (Trip version' fid') = (version == version') && (fid == fid')
key_eq (Cells a) (Cells b) = same_cells a b
key_eq _ _ = false

abbrev made_of : List ℕ → ArrayVec ℕ
made_of numbers = record { items = numbers }

numbers_decide : (v w : ArrayVec ℕ) → (key_eq (Numbers v) (Numbers w) ≡ true → v ≡ w) × (v ≡ w → key_eq (Numbers v) (Numbers w) ≡ true)
numbers_decide v w = (λ e. ap made_of ((bytes_decides v.items w.items).0 e), λ e. (bytes_decides v.items w.items).1 (ap (λ u. u.items) e))

trips_decide : (v f v' f' : ℕ) → (key_eq (Trip v f) (Trip v' f') ≡ true → Trip v f ≡ Trip v' f')
    × (Trip v f ≡ Trip v' f' → key_eq (Trip v f) (Trip v' f') ≡ true)
trips_decide v f v' f' = (
  λ e. λ i. Trip ((unsigned_Decides v v').0 (and_parts (v == v') (f == f') e).0 i)
      ((unsigned_Decides f f').0 (and_parts (v == v') (f == f') e).1 i),
  λ e. and_from (v == v') (f == f') ((unsigned_Decides v v').1 cc) ((unsigned_Decides f f').1 cc),
)

key_decides : (x y : RowKey) → (key_eq x y ≡ true → x ≡ y) × (x ≡ y → key_eq x y ≡ true)
key_decides (Numbers v) (Numbers w) = (λ e. ap Numbers ((numbers_decide v w).0 e), λ e. (numbers_decide v w).1 cc)
key_decides (Trip v f) (Trip v' f') = trips_decide v f v' f'
key_decides (Cells a) (Cells b) = (λ e. ap Cells ((cells_decide a b).0 e), λ e. (cells_decide a b).1 cc)
key_decides (Numbers v) (Trip v' f') = (λ e. absurd cc, λ e. absurd cc)
key_decides (Numbers v) (Cells b) = (λ e. absurd cc, λ e. absurd cc)
key_decides (Trip v f) (Numbers w) = (λ e. absurd cc, λ e. absurd cc)
key_decides (Trip v f) (Cells b) = (λ e. absurd cc, λ e. absurd cc)
key_decides (Cells a) (Numbers w) = (λ e. absurd cc, λ e. absurd cc)
key_decides (Cells a) (Trip v' f') = (λ e. absurd cc, λ e. absurd cc)

both_same : (p q : Bool) → (p ≡ true → q ≡ true) → (q ≡ true → p ≡ true) → p ≡ q
both_same true true there back = refl
both_same true false there back = sym (there refl)
both_same false true there back = back refl
both_same false false there back = refl

-- A short key is another one where their cells are the same: from keys to cells as a key keeps its cells (`cells_back`), and from
-- cells to keys as each key has one short form. That the other key is in its short form is needed, since the same cells may stand
-- in two forms; the set of keys keeps it as its invariant.
short_same : (cells : List Cell) (key : RowKey) → IsShort key → key_eq (short cells) key ≡ same_cells cells (cells_of key)
short_same cells key is_short =
    both_same _ _
    (λ e. (cells_decide cells (cells_of key)).1 (sym (cells_back cells) ∙ ap cells_of ((key_decides (short cells) key).0 e)))
    (λ e. (key_decides (short cells) key).1 (ap short ((cells_decide cells (cells_of key)).0 e) ∙ is_short))

-- A key is in the set of short keys exactly where a key before has the same cells, whatever comparison the code uses, if it agrees
-- with that of keys. So whether a row's key is there twice, which the definition asks of all keys before, is one look into the set.
-- That the code's derived comparison is the one of keys is shown where the set is (`insert`).
pub any_short : (same : RowKey → RowKey → Bool) → ((x y : RowKey) → same x y ≡ key_eq x y) → (cells : List Cell) (keys : List RowKey) →
    All IsShort keys → list_any (same (short cells)) keys ≡ list_any (same_cells cells) (map cells_of keys)
any_short same agrees cells [] all_short = refl
any_short same agrees cells (key ∷ keys) all_short =
    λ i. (agrees (short cells) key ∙ short_same cells key (All-head IsShort key keys all_short)) i
    || any_short same agrees cells keys (All-tail IsShort key keys all_short) i

module _ (same : RowKey → RowKey → Bool) (keys after : List RowKey) (key : RowKey) (cells : List Cell) (is : key ≡ short cells)
    (after_is : after ≡ insert_key same keys key) where
  -- the keys stay short
  pub still_short : All IsShort keys → All IsShort after
  still_short all_short = subst (All IsShort) (sym after_is) (by (list_any (same key) keys))
    where
      by : (b : Bool) → All IsShort (if b then keys else keys ++ key ∷ [])
      by true = all_short
      by false = All-push IsShort keys key all_short (subst IsShort (sym is) (is_short cells))

  -- a new key stands behind the others
  pub one_more : not (list_any (same key) keys) ≡ true → map cells_of after ≡ map cells_of keys ++ cells ∷ []
  one_more new = ap (map cells_of) after_is ∙ by (list_any (same key) keys) new
    where
      by : (b : Bool) → not b ≡ true → map cells_of (if b then keys else keys ++ key ∷ []) ≡ map cells_of keys ++ cells ∷ []
      by true new = absurd cc
      by false new = map-append cells_of keys (key ∷ []) ∙ ap (λ cs. map cells_of keys ++ cs ∷ []) (ap cells_of is ∙ cells_back cells)
