-- The rows of an answer's tables say its blocks, duties, pieces and bounds, one row after another.
use Rattle.std.proofs.Common.{◌≡◌, ◌≢◌, ℕ, ℤ, pos, zero, suc, ◌+◌, ◌-◌, ◌^◌, ◌<◌, ◌≤◌, true, false, if◌then◌else◌, List, [], ◌∷◌, ◌++◌, length, map, get_or, refl, sym, ap, ◌∙◌, arith}
use Rattle.std.specs.Option.{option_map}
use Rattle.std.specs.Prelude.{Option, Some, None, codes, option_and_then, slice_get, slice_set}
use Rattle.std.specs.Str.{bytes_eq}
use Rattle.std.proofs.lemmas.Slice.Eq.{bytes_eq-Decides}
use Rattle.plan_core.specs.declared.types.Piece.{Piece}
use Rattle.vdv451_text.specs.declared.table.Field.{Field}
use Rattle.vdv451_text.specs.declared.table.Head.{Head}
use Rattle.vdv452_rows.specs.Cells.{whole_number}
use Rattle.vdv452_rows.specs.Rows.{place_of}
use Rattle.cover_core.specs.declared.Column.{Column}
use Rattle.day_model.specs.Facts.{DayFacts}
use Rattle.number_tables.specs.Numbers.{number_rows}
use Rattle.number_tables.specs.Outlines.{class_among, counted, numbers, place, place_in, word}
use Rattle.number_tables.specs.Signed.{signed_row, signed_rows}
use Rattle.umlauf_write.specs.Answers.{all_rows, bound_rows, bound_table, duty_row, duty_table, group_of, part_row, part_rows, part_table, piece_at, values_of}
use Rattle.umlauf_write.specs.Reading as reading
use Rattle.umlauf_write.specs.Reading.{Numbers, Part, entries_from, part, two}
use Rattle.umlauf_write.specs.Tables.{cost_row, cost_table, format_at, numbered, pool_of, uid_field, with_uid}
use Rattle.plan_read.specs.ReadsBack.{IsPieceOf, part_at}
use Rattle.plan_read.proofs.WrittenLists.{all_tagged, tag_all}
use Rattle.plan_read.proofs.WrittenNumbers.{counted-back, own-back, uid-back, word-back}

-- something holds of each item
abbrev pub Each : {A : Type 0} → (A → Type 0) → List A → Type 0
Each P [] = Unit {0}
Each P (x ∷ xs) = P x × Each P xs

abbrev pub given : {A : Type 0} → List A → List (Option A)
given xs = map (λ x. Some x) xs

-- X_UMLAUF: each row has the number of its place, and the number of its pool.
pub blocks-given : (day : DayFacts) (n : Numbers) (all : List Column) (row : ℕ) (cs : List Column) →
    Each (λ (c : Column). place_in n.pools (pool_of day c.class).number ≡ Some c.class) cs →
    entries_from (reading.block_entry n) row
    (map (numbers reading.blocks.columns (cost_table day all)) (number_rows (numbered (cost_row day) (row + 1) cs)))
    ≡ given (map (λ (c : Column). c.class) cs)
blocks-given day n all row [] each = refl
blocks-given day n all row (c ∷ cs) each =
    let rest : List (Option ℕ) =
    entries_from (reading.block_entry n) (row + 1)
    (map (numbers reading.blocks.columns (cost_table day all)) (number_rows (numbered (cost_row day) (row + 1 + 1) cs))) in
    let say : Option ℕ → Option ℕ = λ o. option_and_then (λ own. class_among n.pools (Some (pos (pool_of day c.class).number))) o in
    ap (λ (o : Option ℕ). say o ∷ rest) (own-back row)
    ∙ (ap (λ (o : Option ℕ). o ∷ rest) each.0 ∙ ap (λ (l : List (Option ℕ)). Some c.class ∷ l) (blocks-given day n all (row + 1) cs each.1))

-- X_DIENST: each row has the number of its place, and the number of its group.
pub duties-given : (day : DayFacts) (pieces : List Piece) (n : Numbers) (all : List Column) (row : ℕ) (cs : List Column) →
    Each (λ (c : Column). reading.number_among n.groups (Some (pos (group_of day c.class).number))
    ≡ Some (group_of day c.class).number) cs →
    entries_from (reading.duty_entry n) row
    (map (numbers reading.duties.columns (duty_table day pieces all)) (signed_rows (numbered (duty_row day pieces) (row + 1) cs)))
    ≡ given (map (λ (c : Column). (group_of day c.class).number) cs)
duties-given day pieces n all row [] each = refl
duties-given day pieces n all row (c ∷ cs) each =
    let rest : List (Option ℕ) =
    entries_from (reading.duty_entry n) (row + 1)
    (map (numbers reading.duties.columns (duty_table day pieces all)) (signed_rows (numbered (duty_row day pieces) (row + 1 + 1) cs))) in
    let say : Option ℕ → Option ℕ =
    λ o. option_and_then (λ own. reading.number_among n.groups (Some (pos (group_of day c.class).number))) o in
    ap (λ (o : Option ℕ). say o ∷ rest) (own-back row)
    ∙ (ap (λ (o : Option ℕ). o ∷ rest) each.0
    ∙ ap (λ (l : List (Option ℕ)). Some (group_of day c.class).number ∷ l) (duties-given day pieces n all (row + 1) cs each.1))

-- X_DIENST_STUECK: each row has the number of its duty, and block and index of its piece.
map-both : {A B : Type 0} (f : A → B) (xs ys : List A) → map f (xs ++ ys) ≡ map f xs ++ map f ys
map-both f [] ys = refl
map-both f (x ∷ xs) ys = ap (λ l. f x ∷ l) (map-both f xs ys)

piece-given : (n : Numbers) (duty : ℕ) (piece : Piece) → duty < n.duties → IsPieceOf n.blocks piece →
    reading.part_entry n (Some (pos (duty + 1)) ∷ Some (pos piece.block) ∷ Some (pos piece.index) ∷ [])
    ≡ Some (part duty piece.block piece.index)
piece-given n duty piece there is =
    let first = is.first in
    let last = is.last in
    let back : piece.block - 1 + 1 ≡ piece.block = omega arith in
    let block : counted n.blocks (Some (pos piece.block)) ≡ Some (piece.block - 1) =
    ap (λ (m : ℕ). counted n.blocks (Some (pos m))) (sym back) ∙ counted-back n.blocks (piece.block - 1) (omega arith) in
    let three : Option ℕ → Option ℕ → Option ℕ → Option Part =
    λ d b i. option_and_then (λ d. option_and_then (λ b. option_map (λ i. part d (b + 1) i) i) b) d in
    ap (λ (o : Option ℕ). three o (counted n.blocks (Some (pos piece.block))) (word (Some (pos piece.index))))
    (counted-back n.duties duty there)
    ∙ (ap (λ (o : Option ℕ). three (Some duty) o (word (Some (pos piece.index)))) block
    ∙ (ap (λ (o : Option ℕ). three (Some duty) (Some (piece.block - 1)) o) (word-back piece.index is.index)
    ∙ ap (λ (m : ℕ). Some (part duty m piece.index)) back))

duty-given : (pieces : List Piece) (duties : List Column) (n : Numbers) (duty k : ℕ) (items : List ℕ) → duty < n.duties →
    Each (λ (item : ℕ). IsPieceOf n.blocks (piece_at pieces item)) items →
    map (reading.part_entry n)
    (map (numbers reading.parts.columns (part_table pieces duties)) (signed_rows (numbered (part_row pieces (duty + 1)) k items)))
    ≡ given (tag_all (part_at pieces) duty items)
duty-given pieces duties n duty k [] there each = refl
duty-given pieces duties n duty k (item ∷ items) there each =
    let rest : List (Option Part) =
    map (reading.part_entry n)
    (map (numbers reading.parts.columns (part_table pieces duties)) (signed_rows (numbered (part_row pieces (duty + 1)) (k + 1) items))) in
    ap (λ (o : Option Part). o ∷ rest) (piece-given n duty (piece_at pieces item) there each.0)
    ∙ ap (λ (l : List (Option Part)). Some (part duty (piece_at pieces item).block (piece_at pieces item).index) ∷ l)
    (duty-given pieces duties n duty (k + 1) items there each.1)

-- The rows of all duties stand one duty behind another, and duties are counted on from `duty`; the rows of a duty are read by
-- themselves (`duty-given`), and a reading of two lists of rows one behind the other is that of both (`map-both`).
pub parts-given : (pieces : List Piece) (duties : List Column) (n : Numbers) (duty : ℕ) (cs : List Column) → duty + length cs ≤ n.duties →
    Each (λ (c : Column). Each (λ (item : ℕ). IsPieceOf n.blocks (piece_at pieces item)) c.items) cs →
    map (reading.part_entry n)
    (map (numbers reading.parts.columns (part_table pieces duties)) (signed_rows (all_rows (part_rows pieces) (duty + 1) cs)))
    ≡ given (all_tagged (part_at pieces) duty cs)
parts-given pieces duties n duty [] there each = refl
parts-given pieces duties n duty (c ∷ cs) there each =
    let say : List (List (Option ℤ)) → List (Option Part) =
    λ rows. map (reading.part_entry n) (map (numbers reading.parts.columns (part_table pieces duties)) (signed_rows rows)) in
    let own = numbered (part_row pieces (duty + 1)) 1 c.items in
    let more = all_rows (part_rows pieces) (duty + 1 + 1) cs in
    let say-both : say (own ++ more) ≡ say own ++ say more =
    ap (λ (rows : List (List Field)). map (reading.part_entry n) (map (numbers reading.parts.columns (part_table pieces duties)) rows))
    (map-both signed_row own more)
    ∙ (ap (λ (rows : List (List (Option ℤ))). map (reading.part_entry n) rows)
    (map-both (numbers reading.parts.columns (part_table pieces duties)) (signed_rows own) (signed_rows more))
    ∙ map-both (reading.part_entry n) (map (numbers reading.parts.columns (part_table pieces duties)) (signed_rows own))
    (map (numbers reading.parts.columns (part_table pieces duties)) (signed_rows more))) in
    say-both
    ∙ (ap (λ (l : List (Option Part)). l ++ say more) (duty-given pieces duties n duty 1 c.items (omega arith) each.0)
    ∙ (ap (λ (l : List (Option Part)). given (tag_all (part_at pieces) duty c.items) ++ l)
    (parts-given pieces duties n (duty + 1) cs (omega arith) each.1)
    ∙ sym (map-both (λ (p : Part). Some p) (tag_all (part_at pieces) duty c.items) (all_tagged (part_at pieces) (duty + 1) cs))))

-- X_SCHRANKE: four rows.
pub bounds-given : (blocks duties : List Column) (bounds : List ℕ) → length bounds ≡ 4 →
    (entries_from reading.bound_entry 0
    (map (numbers reading.bounds.columns (bound_table blocks duties bounds)) (number_rows (bound_rows 1 (values_of blocks duties) bounds)))
    ≡ given bounds) ×
    (length (map (numbers reading.bounds.columns (bound_table blocks duties bounds))
    (number_rows (bound_rows 1 (values_of blocks duties) bounds))) ≡ 4)
bounds-given blocks duties [] four = absurd (omega (arith, four))
bounds-given blocks duties (a ∷ []) four = absurd (omega (arith, four))
bounds-given blocks duties (a ∷ b ∷ []) four = absurd (omega (arith, four))
bounds-given blocks duties (a ∷ b ∷ c ∷ []) four = absurd (omega (arith, four))
bounds-given blocks duties (a ∷ b ∷ c ∷ d ∷ []) four = (refl, refl)
bounds-given blocks duties (a ∷ b ∷ c ∷ d ∷ e ∷ more) four = absurd (omega (arith, four))

-- REC_FRT: a row has the FRT_FID of its trip still, and the number of its block.
get-same : {A : Type 0} (xs : List A) (k : ℕ) (x : A) → k < length xs → slice_get (slice_set xs k x) k ≡ Some x
get-same [] k x within = absurd (omega arith)
get-same (y ∷ ys) zero x within = refl
get-same (y ∷ ys) (suc k) x within = get-same ys k x (omega arith)

get-other : {A : Type 0} (xs : List A) (k j : ℕ) (x : A) → j ≢ k → slice_get (slice_set xs k x) j ≡ slice_get xs j
get-other [] k j x other = refl
get-other (y ∷ ys) zero zero x other = absurd (other refl)
get-other (y ∷ ys) zero (suc j) x other = refl
get-other (y ∷ ys) (suc k) zero x other = refl
get-other (y ∷ ys) (suc k) (suc j) x other = get-other ys k j x (λ e. other (ap suc e))

-- a name that a column has
named-at : (name : List ℕ) (heads : List Head) (k : ℕ) (d : Head) → place_of name heads ≡ Some k →
    bytes_eq (get_or heads k d).name name ≡ true
named-at name [] k d found = absurd (cc)
named-at name (head ∷ heads) k d found =
    elim (bytes_eq head.name name) as (λ t. bytes_eq head.name name ≡ t →
    (if t then Some 0 else option_map (λ place. place + 1) (place_of name heads)) ≡ Some k →
    bytes_eq (get_or (head ∷ heads) k d).name name ≡ true) [
      | true ↦ λ e f. at-first k e f
      | false ↦ λ e f. later (λ j at. named-at name heads j d at) (place_of name heads) refl f
    ] refl found
  where
    at-first : (k : ℕ) → bytes_eq head.name name ≡ true → Some 0 ≡ Some k → bytes_eq (get_or (head ∷ heads) k d).name name ≡ true
    at-first zero e f = e
    at-first (suc k) e f = absurd (cc)

    at-later : ((j : ℕ) → place_of name heads ≡ Some j → bytes_eq (get_or heads j d).name name ≡ true) → (j k : ℕ) →
        place_of name heads ≡ Some j → j + 1 ≡ k → bytes_eq (get_or (head ∷ heads) k d).name name ≡ true
    at-later rest j zero f e = absurd (omega (arith, e))
    at-later rest j (suc k) f e = let same : j ≡ k = omega (arith, e) in rest k (f ∙ ap (λ (m : ℕ). Some m) same)

    later : ((j : ℕ) → place_of name heads ≡ Some j → bytes_eq (get_or heads j d).name name ≡ true) → (o : Option ℕ) →
        place_of name heads ≡ o → option_map (λ place. place + 1) o ≡ Some k → bytes_eq (get_or (head ∷ heads) k d).name name ≡ true
    later rest None f e = absurd (cc)
    later rest (Some j) f e = let sum : j + 1 ≡ k = cc in at-later rest j k f sum

fid-or-uid : (name : List ℕ) → bytes_eq name (codes "FRT_FID") ≡ true → bytes_eq name (codes "UM_UID") ≡ true → ⊥
fid-or-uid name fid uid =
    let one : name ≡ codes "FRT_FID" = (bytes_eq-Decides name (codes "FRT_FID")).0 fid in
    let other : name ≡ codes "UM_UID" = (bytes_eq-Decides name (codes "UM_UID")).0 uid in
    differ (get_or name 0 0) (ap (λ (l : List ℕ). get_or l 0 0) one) (ap (λ (l : List ℕ). get_or l 0 0) other)
  where
    differ : (a : ℕ) → a ≡ 70 → a ≡ 85 → ⊥
    differ a e f = omega (arith, e, f)

-- FRT_FID and UM_UID are two columns
other-column : (heads : List Head) (fid uid : ℕ) (d : Head) → place_of (codes "FRT_FID") heads ≡ Some fid →
    place_of (codes "UM_UID") heads ≡ Some uid → fid ≢ uid
other-column heads fid uid d at at' =
    λ same. fid-or-uid (get_or heads uid d).name (ap (λ k. bytes_eq (get_or heads k d).name (codes "FRT_FID")) (sym same)
    ∙ named-at (codes "FRT_FID") heads fid d at) (named-at (codes "UM_UID") heads uid d at')

-- a number that a field at a column has
abbrev value_in : List Field → Option ℕ → Option ℤ
value_in row place = option_and_then whole_number (option_and_then (slice_get row) place)

-- What a row with the number of a block has in the two columns. The number of the block is put into the field of UM_UID; the field of
-- FRT_FID is another, as one column cannot have both names (`other-column`), so it is read as before. A number below 2^63 is read back
-- in a column of any format, of numbers or of text. So a row that was written over names its trip still, and its block.
pub uid-row : (heads : List Head) (row : List Field) (fid block : ℕ) (pf pu : ℕ) → place_of (codes "FRT_FID") heads ≡ Some pf →
    place_of (codes "UM_UID") heads ≡ Some pu → pu < length row → block < 2 ^ 63 →
    value_in row (Some pf) ≡ Some (pos fid) →
    value_in (with_uid heads (place_of (codes "UM_UID") heads) row block) (place_of (codes "FRT_FID") heads)
    ∷ value_in (with_uid heads (place_of (codes "UM_UID") heads) row block) (place_of (codes "UM_UID") heads) ∷ []
    ≡ Some (pos fid) ∷ Some (pos block) ∷ []
uid-row heads row fid block pf pu at at' within small has =
    let no_head : Head = record { name = []; format = [] } in
    let off = other-column heads pf pu no_head at at' in
    let field : Field = uid_field (format_at heads pu) block in
    let pair : Option ℕ → Option ℕ → List (Option ℤ) =
    λ f u. value_in (with_uid heads u row block) f ∷ value_in (with_uid heads u row block) u ∷ [] in
    let first : value_in (slice_set row pu field) (Some pf) ≡ Some (pos fid) =
    ap (λ (o : Option Field). option_and_then whole_number o) (get-other row pu pf field off) ∙ has in
    let second : value_in (slice_set row pu field) (Some pu) ≡ Some (pos block) =
    ap (λ (o : Option Field). option_and_then whole_number o) (get-same row pu field within) ∙ uid-back (format_at heads pu) block small in
    ap (λ (o : Option ℕ). pair o (place_of (codes "UM_UID") heads)) at
    ∙ (ap (λ (o : Option ℕ). pair (Some pf) o) at'
    ∙ (ap (λ (v : Option ℤ). v ∷ value_in (slice_set row pu field) (Some pu) ∷ []) first
    ∙ ap (λ (v : Option ℤ). Some (pos fid) ∷ v ∷ []) second))

-- a row of a trip and its block
pub trip-given : (n : Numbers) (fid number block : ℕ) → place_in n.fids fid ≡ Some number → 1 ≤ block → block ≤ n.blocks →
    reading.trip_entry n (Some (pos fid) ∷ Some (pos block) ∷ []) ≡ Some (two number (block - 1))
trip-given n fid number block found first last =
    let back : block - 1 + 1 ≡ block = omega arith in
    let there : counted n.blocks (Some (pos block)) ≡ Some (block - 1) =
    ap (λ (m : ℕ). counted n.blocks (Some (pos m))) (sym back) ∙ counted-back n.blocks (block - 1) (omega arith) in
    ap (λ (o : Option ℕ). option_and_then (λ trip. option_map (λ block. two trip block) (counted n.blocks (Some (pos block)))) o) found
    ∙ ap (λ (o : Option ℕ). option_map (λ block. two number block) o) there
