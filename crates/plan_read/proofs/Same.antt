-- Reading table by table and row by row is what the definition of a plan's tables says: the first place of all that are wrong, or else
-- what all rows say. A row gives the same by halving and by counting as by the definition's look-ups, and rows that are gone over one
-- after another stop at the first of their faults.
use Rattle.std.proofs.Common.{◌≡◌, ℕ, ℤ, suc, ◌+◌, nat_lt, List, [], ◌∷◌, ◌++◌, length, map, refl, sym, ap, ◌∙◌, append_assoc}
use Rattle.std.proofs.lemmas.List.{length-map}
use Rattle.std.specs.Prelude.{Option, Some, None, Result, Ok, Err}
use Rattle.vdv451_text.specs.declared.table.Table.{Table}
use Rattle.vdv452_rows.specs.Rows.{first, when}
use Rattle.day_model.specs.Facts.{DayFacts}
use Rattle.number_tables.specs.Outlines.{Place as At, entry_faults, given_of, place, rows_of}
use Rattle.umlauf_write.specs.declared.text.PlanText.{PlanText}
use Rattle.umlauf_write.specs.declared.text.PlanFault.TheVariants.{Form}
use Rattle.umlauf_write.specs.Reading as reading
use Rattle.umlauf_write.specs.Reading.{Part, entries_from}
use Rattle.plan_read.specs.declared.fault.PlanTable.{PlanTable}
use Rattle.plan_read.specs.declared.fault.PlanTable.TheVariants as tables
use Rattle.plan_read.specs.declared.reading.PlanRows.{PlanRows}
use Rattle.plan_read.specs.declared.rows.Counts.{Counts}
use Rattle.plan_read.specs.Entries as entries
use Rattle.plan_read.specs.Gathering.{blocks_said, duties_said}
use Rattle.plan_read.specs.Numbers.{known, pair_at, triple_at}
use Rattle.plan_read.specs.Places.{◌>>=◌, name_of, said, unless}
use Rattle.plan_read.specs.Reading.{AreRows, all_four, counts_of, numbers_said, read_first, read_places, rows_said, wholes}
use Rattle.plan_read.specs.Told.{by_fid}
use Rattle.plan_read.proofs.SameRows.{block-row, bound-row, duty-row, part-row, trip-row}
use Rattle.plan_read.proofs.Saying.{entries-map, entries-same, said-entries}

-- Tables.
said-same : {A B : Type 0} (f g : ℕ → B → Option A) (t : PlanTable) (xs : List B) → ((k : ℕ) (x : B) → f k x ≡ g k x) →
    said f t xs ≡ unless (entry_faults (name_of t) 1 (entries_from g 0 xs)) (given_of (entries_from g 0 xs))
said-same {A} f g t xs same =
    said-entries f t xs ∙ ap (λ (es : List (Option A)). unless (entry_faults (name_of t) 1 es) (given_of es)) (entries-same f g 0 xs same)

said-map : {A B : Type 0} (f g : B → Option A) (t : PlanTable) (xs : List B) → ((x : B) → f x ≡ g x) →
    said (λ row. f) t xs ≡ unless (entry_faults (name_of t) 1 (map g xs)) (given_of (map g xs))
said-map {A} f g t xs same =
    said-same (λ row. f) (λ row. g) t xs (λ k x. same x)
    ∙ ap (λ (es : List (Option A)). unless (entry_faults (name_of t) 1 es) (given_of es)) (entries-map g 0 xs)

-- where each row gives something, as much is given as there are rows
given-long : {A : Type 0} (t : List ℕ) (row : ℕ) (es : List (Option A)) → entry_faults t row es ≡ [] → length (given_of es) ≡ length es
given-long t row [] none = refl
given-long t row (None ∷ es) none = absurd (cc)
given-long t row (Some m ∷ es) none = ap suc (given-long t (row + 1) es none)

entries-long : {A B : Type 0} (f : ℕ → B → A) (row : ℕ) (xs : List B) → length (entries_from f row xs) ≡ length xs
entries-long f row [] = refl
entries-long f row (x ∷ xs) = ap suc (entries-long f (row + 1) xs)

-- five steps, each of which may stop, and a last look at what the fifth gave
five : {A B C D E : Type 0} (a b c d e last : List At) (five : E → List At) (va : A) (vb : B) (vc : C) (vd : D) (ve : E)
    (text : A → B → C → D → E → PlanText) → (e ≡ [] → five ve ≡ last) →
    (unless a va >>= λ x. unless b vb >>= λ y. unless c vc >>= λ z. unless d vd >>= λ v. unless e ve >>= λ w. unless {A =
    Unit {0}} (five w) tt >>= λ none. Ok (text x y z v w))
    ≡ read_first (text va vb vc vd ve) (first (a ++ (b ++ (c ++ (d ++ (e ++ last))))))
five (p ∷ a) b c d e last look va vb vc vd ve text same = refl
five [] (p ∷ b) c d e last look va vb vc vd ve text same = refl
five [] [] (p ∷ c) d e last look va vb vc vd ve text same = refl
five [] [] [] (p ∷ d) e last look va vb vc vd ve text same = refl
five [] [] [] [] (p ∷ e) last look va vb vc vd ve text same = refl
five [] [] [] [] [] last look va vb vc vd ve text same =
    ap (λ (l : List At). unless {A = Unit {0}} l tt >>= λ none. Ok (text va vb vc vd ve)) (same refl) ∙ end last
  where
    end : (last : List At) →
        (unless {A = Unit {0}} last tt >>= λ none. Ok (text va vb vc vd ve)) ≡ read_first (text va vb vc vd ve) (first last)
    end [] = refl
    end (p ∷ ps) = refl

-- the places of rows that are wrong, and what the rows say
abbrev pub Values : Type 0
Values = List (List (Option ℤ))

abbrev pub places_in : DayFacts → Values → Values → Values → Values → Values → List At
places_in day t b d p s =
    let n = known day (counts_of b d) in
    entry_faults reading.trips.name 1 (map (reading.trip_entry n) t)
    ++ (entry_faults reading.blocks.name 1 (entries_from (reading.block_entry n) 0 b) ++
    (entry_faults reading.duties.name 1 (entries_from (reading.duty_entry n) 0 d)
    ++ (entry_faults reading.parts.name 1 (map (reading.part_entry n) p) ++
    (entry_faults reading.bounds.name 1 (entries_from reading.bound_entry 0 s)
    ++ when (nat_lt (length s) 4) (place reading.bounds.name 0)))))

abbrev pub text_of : List (ℕ × ℕ) → List ℕ → List ℕ → List Part → List ℕ → PlanText
text_of trips classes groups parts bounds =
    record { blocks = record { columns = blocks_said trips classes }; duties = duties_said parts groups; bounds = bounds }

abbrev text_in : DayFacts → Values → Values → Values → Values → Values → PlanText
text_in day t b d p s =
    let n = known day (counts_of b d) in
    text_of (given_of (map (reading.trip_entry n) t)) (given_of (entries_from (reading.block_entry n) 0 b))
    (given_of (entries_from (reading.duty_entry n) 0 d))
    (given_of (map (reading.part_entry n) p)) (given_of (entries_from reading.bound_entry 0 s))

-- Five tables are read one after another, each up to its first row that gives nothing. Each reading is: the first of its wrong places,
-- or all that its rows give; and five such steps stop at the first place of the five lists put together. At the last the number of
-- bounds is looked at, which is that of the rows, as none is wrong then.
pub values-same : (day : DayFacts) (t b d p s : Values) →
    numbers_said day (counts_of b d) t b d p s ≡ read_first (text_in day t b d p s) (first (places_in day t b d p s))
values-same day t b d p s =
    let counts = counts_of b d in
    let n = known day counts in
    let R : Type 0 = Result PlanText At in
    let one = said-map (entries.trip_entry (by_fid day.trips) counts) (reading.trip_entry n) tables.Trips t (trip-row day counts) in
    let two' = said-same (entries.block_entry day) (reading.block_entry n) tables.Blocks b (block-row day counts) in
    let three = said-same (entries.duty_entry day) (reading.duty_entry n) tables.Duties d (duty-row day counts) in
    let four = said-map (entries.part_entry counts) (reading.part_entry n) tables.Parts p (part-row day counts) in
    let five' = said-same entries.bound_entry reading.bound_entry tables.Bounds s bound-row in
    let chain : Result (List (ℕ × ℕ)) At → Result (List ℕ) At → Result (List ℕ) At → Result (List Part) At → Result (List ℕ) At → R =
    λ x y z v w. x >>= λ x. y >>= λ y. z >>= λ z. v >>= λ v. w >>= λ w. all_four w >>= λ none. Ok (text_of x y z v w) in
    let x0 = said (λ row. entries.trip_entry (by_fid day.trips) counts) tables.Trips t in
    let y0 = said (entries.block_entry day) tables.Blocks b in
    let z0 = said (entries.duty_entry day) tables.Duties d in
    let v0 = said (λ row. entries.part_entry counts) tables.Parts p in
    let w0 = said entries.bound_entry tables.Bounds s in
    let te = map (reading.trip_entry n) t in
    let be = entries_from (reading.block_entry n) 0 b in
    let de = entries_from (reading.duty_entry n) 0 d in
    let pe = map (reading.part_entry n) p in
    let se = entries_from reading.bound_entry 0 s in
    let x1 = unless (entry_faults reading.trips.name 1 te) (given_of te) in
    let y1 = unless (entry_faults reading.blocks.name 1 be) (given_of be) in
    let z1 = unless (entry_faults reading.duties.name 1 de) (given_of de) in
    let v1 = unless (entry_faults reading.parts.name 1 pe) (given_of pe) in
    ap (λ x. chain x y0 z0 v0 w0) one
    ∙ (ap (λ y. chain x1 y z0 v0 w0) two'
    ∙ (ap (λ z. chain x1 y1 z v0 w0) three ∙ (ap (λ v. chain x1 y1 z1 v w0) four ∙ (ap (λ w. chain x1 y1 z1 v1 w) five'
    ∙ five (entry_faults reading.trips.name 1 te) (entry_faults reading.blocks.name 1 be) (entry_faults reading.duties.name 1 de)
    (entry_faults reading.parts.name 1 pe) (entry_faults reading.bounds.name 1 se)
    (when (nat_lt (length s) 4) (place reading.bounds.name 0))
    (λ (w : List ℕ). when (nat_lt (length w) 4) (place (name_of tables.Bounds) 0)) (given_of te) (given_of be) (given_of de)
    (given_of pe) (given_of se) text_of
    (λ none. ap (λ (m : ℕ). when (nat_lt m 4) (place reading.bounds.name 0))
    (given-long reading.bounds.name 1 se none ∙ entries-long reading.bound_entry 0 s))))))

-- the faults of tables as wholes come first
pub wholes-first : (day : DayFacts) (ts : List Table) → reading.places_of day ts ≡
    wholes ts ++ places_in day (rows_of reading.trips ts) (rows_of reading.blocks ts) (rows_of reading.duties ts) (rows_of reading.parts ts)
    (rows_of reading.bounds ts)
wholes-first day ts =
    let n = known day (counts_of (rows_of reading.blocks ts) (rows_of reading.duties ts)) in
    move (wholes ts) (entry_faults reading.trips.name 1 (map (reading.trip_entry n) (rows_of reading.trips ts)))
    (entry_faults reading.blocks.name 1 (entries_from (reading.block_entry n) 0 (rows_of reading.blocks ts)))
    (entry_faults reading.duties.name 1 (entries_from (reading.duty_entry n) 0 (rows_of reading.duties ts)))
    (entry_faults reading.parts.name 1 (map (reading.part_entry n) (rows_of reading.parts ts)))
    (entry_faults reading.bounds.name 1 (entries_from reading.bound_entry 0 (rows_of reading.bounds ts)))
    (when (nat_lt (length (rows_of reading.bounds ts)) 4) (place reading.bounds.name 0))
  where
    move : (w a b c d e f : List At) → (((((w ++ a) ++ b) ++ c) ++ d) ++ e) ++ f ≡ w ++ (a ++ (b ++ (c ++ (d ++ (e ++ f)))))
    move w a b c d e f =
        append_assoc ((((w ++ a) ++ b) ++ c) ++ d) e f
        ∙ (append_assoc (((w ++ a) ++ b) ++ c) d (e ++ f)
        ∙ (append_assoc ((w ++ a) ++ b) c (d ++ (e ++ f))
        ∙ (append_assoc (w ++ a) b (c ++ (d ++ (e ++ f))) ∙ append_assoc w a (b ++ (c ++ (d ++ (e ++ f)))))))

pub first-of : (xs ys : List At) (p : At) → first xs ≡ Some p → first (xs ++ ys) ≡ Some p
first-of [] ys p found = absurd (cc)
first-of (x ∷ xs) ys p found = found

-- a table that is wrong as a whole
pub whole-read : (day : DayFacts) (ts : List Table) (p : At) → first (wholes ts) ≡ Some p → read_places day ts ≡ Err p
whole-read day ts p found =
    let rest = places_in day (rows_of reading.trips ts) (rows_of reading.blocks ts) (rows_of reading.duties ts) (rows_of reading.parts ts)
    (rows_of reading.bounds ts) in
    ap (λ (l : List At). read_first (reading.said day ts) (first l)) (wholes-first day ts)
    ∙ ap (λ (o : Option At). read_first (reading.said day ts) o) (first-of (wholes ts) rest p found)

-- Rows of tables that are right as wholes. The rows that were found in the tables give what the definition says of the tables: with no
-- table wrong as a whole its list of places is that of the rows alone, and these are the five tables' numbers. With `whole-read`, for
-- tables that are wrong, it is what `read_tables` promises.
pub rows-read : (day : DayFacts) (ts : List Table) (rows : PlanRows) → AreRows rows ts → read_places day ts ≡ rows_said day rows
rows-read day ts rows are =
    let t = rows_of reading.trips ts in
    let b = rows_of reading.blocks ts in
    let d = rows_of reading.duties ts in
    let p = rows_of reading.parts ts in
    let s = rows_of reading.bounds ts in
    let bs = rows.blocks.rows.now in
    let ds = rows.duties.rows.now in
    let t1 = map (pair_at rows.trips.columns) rows.trips.rows.now in
    let b1 = map (pair_at rows.blocks.columns) bs in
    let d1 = map (pair_at rows.duties.columns) ds in
    let p1 = map (triple_at rows.parts.columns) rows.parts.rows.now in
    let say : Values → Values → Values → Values → Values → Result PlanText At = λ t b d p s. numbers_said day (counts_of b d) t b d p s in
    let make : ℕ → ℕ → Counts = λ n m. record { blocks = n; duties = m } in
    let counts : counts_of b1 d1 ≡ counts_of bs ds =
    ap (λ (n : ℕ). make n (length d1)) (length-map bs (pair_at rows.blocks.columns))
    ∙ ap (λ (n : ℕ). make (length bs) n) (length-map ds (pair_at rows.duties.columns)) in
    ap (λ (l : List At). read_first (reading.said day ts) (first l)) (wholes-first day ts)
    ∙ (ap (λ (l : List At). read_first (reading.said day ts) (first (l ++ places_in day t b d p s))) are.none
    ∙ (sym (values-same day t b d p s)
    ∙ (ap (λ (v : Values). say v b d p s) are.trips
    ∙ (ap (λ (v : Values). say t1 v d p s) are.blocks
    ∙ (ap (λ (v : Values). say t1 b1 v p s) are.duties
    ∙ (ap (λ (v : Values). say t1 b1 d1 v s) are.parts
    ∙ (ap (λ (v : Values). say t1 b1 d1 p1 v) are.bounds
    ∙ ap (λ (c : Counts). numbers_said day c t1 b1 d1 p1 (map (pair_at rows.bounds.columns) rows.bounds.rows.now)) counts)))))))

-- the places of tables by their names
pub read-named : (day : DayFacts) (ts : List Table) (text : PlanText) → read_places day ts ≡ Ok text → reading.read_of day ts ≡ Ok text
read-named day ts text read = by (first (reading.places_of day ts)) read
  where
    by : (o : Option At) → read_first (reading.said day ts) o ≡ Ok text → reading.read_or (reading.said day ts) o ≡ Ok text
    by None e = ap (λ (r : Result PlanText At). elim r [ Ok x ↦ Ok x | Err p ↦ Err (Form p.0 p.1) ]) e
    by (Some p) e = absurd (cc)

pub fault-named : (day : DayFacts) (ts : List Table) (p : At) → read_places day ts ≡ Err p → reading.read_of day ts ≡ Err (Form p.0 p.1)
fault-named day ts p read = by (first (reading.places_of day ts)) read
  where
    by : (o : Option At) → read_first (reading.said day ts) o ≡ Err p → reading.read_or (reading.said day ts) o ≡ Err (Form p.0 p.1)
    by None e = absurd (cc)
    by (Some q) e = let same : q ≡ p = cc in ap (λ (p : At). Err (Form p.0 p.1)) same
