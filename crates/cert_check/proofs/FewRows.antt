-- A plan that is read has no more blocks and duties than its tables have rows, and no more trips in all blocks and parts in all duties:
-- each is what one row says, and a row puts its trip or part into one list alone.
use Rattle.std.proofs.Common.{◌≡◌, ℕ, suc, ◌+◌, ◌<◌, ◌≤◌, ◌^◌, Bool, true, false, nat_eq, if◌then◌else◌, List, [], ◌∷◌, All, length, map, refl, sym, ap, ◌∙◌, subst, arith, length-append}
use Rattle.std.proofs.lemmas.Bool.Decides.{nat_tests}
use Rattle.std.proofs.lemmas.List.{length-map}
use Rattle.std.proofs.lemmas.List.Elements.{All-head, All-tail}
use Rattle.std.specs.List.{cons_option, filter, filter_map}
use Rattle.std.specs.Prelude.{Option, Some, None, Ok}
use Rattle.vdv451_text.specs.declared.table.Table.{Table}
use Rattle.vdv452_rows.specs.Rows.{first, has_name}
use Rattle.number_tables.specs.Outlines.{Outline, Place, given_of, rows_in, rows_of}
use Rattle.cover_core.specs.declared.Column.{Column}
use Rattle.cover_core.specs.Plans.{all_items}
use Rattle.plan_core.specs.declared.types.Piece.{Piece}
use Rattle.plan_params.specs.declared.rows.group.Group.{Group}
use Rattle.day_model.specs.Facts.{DayFacts}
use Rattle.umlauf_write.specs.declared.text.PlanText.{PlanText}
use Rattle.umlauf_write.specs.Reading as reading
use Rattle.umlauf_write.specs.Reading.{Part, block_said, duty_said, entries_from, places_of, read_of, read_or, said}
use Rattle.cert_check.specs.Judging.{Case, duty_list, duty_lists, pieces_in, text_in}
use Rattle.cert_check.specs.Steps.{IsCase}

few-with : {Y : Type 0} (o : Option Y) (ys : List Y) (n : ℕ) → length ys ≤ n → length (cons_option o ys) ≤ suc n
few-with (Some y) ys n h = omega arith
few-with None ys n h = omega arith

-- what is kept is no more than there was
few-kept : {X Y : Type 0} (f : X → Option Y) (xs : List X) → length (filter_map f xs) ≤ length xs
few-kept f [] = omega arith
few-kept f (x ∷ xs) = few-with (f x) (filter_map f xs) (length xs) (few-kept f xs)

-- the rows of the table that is found are below a bound, or there are none
rows-below : (bound : ℕ) (o : Outline) (test : Table → Bool) (tables : List Table) → 0 < bound →
    All (λ (t : Table). length t.rows < bound) tables → length (rows_in o (first (filter test tables))) < bound
rows-below bound o test [] some all = some
rows-below bound o test (t ∷ tables) some all =
    elim (test t) as (λ b. length (rows_in o (first (if b then t ∷ filter test tables else filter test tables))) < bound) [
      | true ↦
          let here : length t.rows < bound = All-head (λ (x : Table). length x.rows < bound) t tables all in
          subst (λ (n : ℕ). n < bound) (sym (length-map t.rows _)) here
      | false ↦ rows-below bound o test tables some (All-tail (λ (x : Table). length x.rows < bound) t tables all)
    ]

-- as many entries as rows
entries-long : {A B : Type 0} (entry : ℕ → A → B) (row : ℕ) (xs : List A) → length (entries_from entry row xs) ≡ length xs
entries-long entry row [] = refl
entries-long entry row (x ∷ xs) = ap suc (entries-long entry (row + 1) xs)

map-long : {A B : Type 0} (f : A → B) (xs : List A) → length (map f xs) ≡ length xs
map-long f xs = length-map xs f

-- entries of one key, each by what it holds
abbrev picked : {E A : Type 0} → (E → ℕ) → (E → A) → ℕ → List E → List A
picked {E} {A} key held k es = filter_map (λ (e : E). if nat_eq (key e) k then Some (held e) else None) es

-- how many entries have the keys of a list of this length, which are counted on from this one
abbrev picked_all : {E A : Type 0} → (E → ℕ) → (E → A) → List E → ℕ → List ℕ → ℕ
picked_all key held es k [] = 0
picked_all key held es k (x ∷ xs) = length (picked key held k es) + picked_all key held es (k + 1) xs

long-if : {A : Type 0} (b : Bool) (x : A) (ys : List A) → length (cons_option (if b then Some x else None) ys) ≤ suc (length ys)
long-if true x ys = omega arith
long-if false x ys = omega arith

long-else : {A : Type 0} (b : Bool) (x : A) (ys : List A) → b ≡ false → length (cons_option (if b then Some x else None) ys) ≡ length ys
long-else true x ys e = absurd (cc)
long-else false x ys e = refl

-- an entry whose key is before all others is counted nowhere
one-before : {E A : Type 0} (key : E → ℕ) (held : E → A) (e : E) (es : List E) (k : ℕ) (xs : List ℕ) → key e < k →
    picked_all key held (e ∷ es) k xs ≡ picked_all key held es k xs
one-before key held e es k [] before = refl
one-before key held e es k (x ∷ xs) before =
    let other : nat_eq (key e) k ≡ false = grind (arith, nat_tests) in
    let here = long-else (nat_eq (key e) k) (held e) (picked key held k es) other in
    let rest = one-before key held e es (k + 1) xs (omega arith) in
    omega (arith, here, rest)

-- One entry more is counted once at most. Keys of lists are counted on from `k`. Where the entry's key is `k` the first list is longer
-- by one, and all later lists have greater keys, so the entry stands in none of them (`one-before`); otherwise it is passed on to the
-- later lists.
one-more : {E A : Type 0} (key : E → ℕ) (held : E → A) (e : E) (es : List E) (k : ℕ) (xs : List ℕ) →
    picked_all key held (e ∷ es) k xs ≤ suc (picked_all key held es k xs)
one-more key held e es k [] = omega arith
one-more key held e es k (x ∷ xs) = by (nat_eq (key e) k) refl (one-more key held e es (k + 1) xs)
  where
    by : (b : Bool) → nat_eq (key e) k ≡ b → picked_all key held (e ∷ es) (k + 1) xs ≤ suc (picked_all key held es (k + 1) xs) →
        length (picked key held k (e ∷ es)) + picked_all key held (e ∷ es) (k + 1) xs ≤ suc
        (length (picked key held k es) + picked_all key held es (k + 1) xs)
    by true h rest =
        let same : key e ≡ k = grind (arith, nat_tests) in
        let here = long-if (nat_eq (key e) k) (held e) (picked key held k es) in
        let later = one-before key held e es (k + 1) xs (omega arith) in
        omega (arith, here, later)
    by false h rest =
        let here = long-else (nat_eq (key e) k) (held e) (picked key held k es) h in
        omega (arith, here, rest)

none-picked : {E A : Type 0} (key : E → ℕ) (held : E → A) (k : ℕ) (xs : List ℕ) → picked_all key held [] k xs ≡ 0
none-picked key held k [] = refl
none-picked key held k (x ∷ xs) = let rest = none-picked key held (k + 1) xs in omega arith

-- Each entry is in one list at most: the lists have keys that are counted on one by one, so an entry's key is that of one list, or of none
-- where it lies outside them. By induction over the entries: one entry more makes one list longer by one, and no other.
pub all-picked : {E A : Type 0} (key : E → ℕ) (held : E → A) (es : List E) (k : ℕ) (xs : List ℕ) → picked_all key held es k xs ≤ length es
all-picked key held [] k xs = let none = none-picked key held k xs in omega arith
all-picked key held (e ∷ es) k xs = let more = one-more key held e es k xs in let rest = all-picked key held es k xs in omega arith

abbrev block_of : ℕ × ℕ → ℕ
block_of e = e.1

abbrev trip_of : ℕ × ℕ → ℕ
trip_of e = e.0

abbrev duty_of : Part → ℕ
duty_of e = e.0

abbrev part_of : Part → ℕ × ℕ
part_of e = e.1

-- the trips of all blocks
trips-picked : (es : List (ℕ × ℕ)) (k : ℕ) (classes : List ℕ) →
    length (all_items (entries_from (block_said es) k classes)) ≡ picked_all block_of trip_of es k classes
trips-picked es k [] = refl
trips-picked es k (class ∷ classes) =
    let rest = trips-picked es (k + 1) classes in
    let both = length-append (reading.trips_in k es) (all_items (entries_from (block_said es) (k + 1) classes)) in
    both ∙ ap (λ (n : ℕ). length (reading.trips_in k es) + n) rest

-- the parts of all duties
parts-picked : (groups : List Group) (pieces : List Piece) (es : List Part) (k : ℕ) (numbers : List ℕ) →
    length (all_items (map (duty_list groups pieces) (entries_from (duty_said es) k numbers))) ≡ picked_all duty_of part_of es k numbers
parts-picked groups pieces es k [] = refl
parts-picked groups pieces es k (number ∷ numbers) =
    let duty = duty_said es k number in
    let rest = parts-picked groups pieces es (k + 1) numbers in
    let later = all_items (map (duty_list groups pieces) (entries_from (duty_said es) (k + 1) numbers)) in
    let both = length-append (duty_list groups pieces duty).items later in
    let here : length (duty_list groups pieces duty).items ≡ length (reading.parts_in k es) = map-long _ (reading.parts_in k es) in
    both ∙ (ap (λ (n : ℕ). n + length later) here ∙ ap (λ (n : ℕ). length (reading.parts_in k es) + n) rest)

-- What the tables say is short: a bound on the rows of each table is one on blocks and duties, and on all their trips and parts. So the
-- lists can be judged, where counts of 32 bits must not run over, whatever the tables say of trips and pieces.
pub record IsShort (bound : ℕ) (text : PlanText) : Type 0 where
  pub blocks : length text.blocks.columns < bound
  pub trips : length (all_items text.blocks.columns) < bound
  pub duties : length text.duties < bound
  pub parts : (groups : List Group) (pieces : List Piece) → length (all_items (map (duty_list groups pieces) text.duties)) < bound

-- the entries of a table that give something
few-given : {A : Type 0} (bound : ℕ) (os : List (Option A)) (n : ℕ) → length os ≡ n → n < bound → length (given_of os) < bound
few-given {A} bound os n same few = let kept = few-kept (λ (o : Option A). o) os in omega arith

-- Entries that are kept are no more than rows, blocks and duties are as many as the entries of their tables, and their items in all
-- are counted by `all-picked`. Nothing is asked of the tables but their length, as the lists may have any faults still.
said-short : (bound : ℕ) (day : DayFacts) (tables : List Table) → 0 < bound → All (λ (t : Table). length t.rows < bound) tables →
    IsShort bound (said day tables)
said-short bound day tables some all =
    let n = reading.numbers_of day tables in
    let trips = rows-below bound reading.trips (has_name reading.trips.name) tables some all in
    let blocks = rows-below bound reading.blocks (has_name reading.blocks.name) tables some all in
    let duties = rows-below bound reading.duties (has_name reading.duties.name) tables some all in
    let parts = rows-below bound reading.parts (has_name reading.parts.name) tables some all in
    let trip_list = given_of (reading.trip_entries n tables) in
    let class_list = given_of (reading.block_entries n tables) in
    let part_list = given_of (reading.part_entries n tables) in
    let number_list = given_of (reading.duty_entries n tables) in
    let few_trips = few-given bound (reading.trip_entries n tables) _ (map-long (reading.trip_entry n) (rows_of reading.trips tables))
    trips in
    let few_blocks = few-given bound (reading.block_entries n tables) _
    (entries-long (reading.block_entry n) 0 (rows_of reading.blocks tables)) blocks in
    let few_parts = few-given bound (reading.part_entries n tables) _ (map-long (reading.part_entry n) (rows_of reading.parts tables))
    parts in
    let few_duties = few-given bound (reading.duty_entries n tables) _
    (entries-long (reading.duty_entry n) 0 (rows_of reading.duties tables)) duties in
    let block_long = entries-long (block_said trip_list) 0 class_list in
    let duty_long = entries-long (duty_said part_list) 0 number_list in
    let trips_in = all-picked block_of trip_of trip_list 0 class_list in
    let trips_are = trips-picked trip_list 0 class_list in
    record {
      blocks = subst (λ (k : ℕ). k < bound) (sym block_long) few_blocks;
      trips = subst (λ (k : ℕ). k < bound) (sym trips_are) (at-most _ _ bound trips_in few_trips);
      duties = subst (λ (k : ℕ). k < bound) (sym duty_long) few_duties;
      parts = λ groups pieces.
          let parts_in = all-picked duty_of part_of part_list 0 number_list in
          let parts_are = parts-picked groups pieces part_list 0 number_list in
          subst (λ (k : ℕ). k < bound) (sym parts_are) (at-most _ _ bound parts_in few_parts);
    }
  where
    at-most : (a b bound : ℕ) → a ≤ b → b < bound → a < bound
    at-most a b bound le lt = omega arith

-- a plan that is read is what the tables say
read-is : (t text : PlanText) (o : Option Place) → read_or t o ≡ Ok text → t ≡ text
read-is t text None e = cc
read-is t text (Some p) e = absurd (cc)

pub read-short : (bound : ℕ) (day : DayFacts) (tables : List Table) (text : PlanText) → 0 < bound →
    All (λ (t : Table). length t.rows < bound) tables → read_of day tables ≡ Ok text → IsShort bound text
read-short bound day tables text some all e =
    subst (IsShort bound) (read-is (said day tables) text (first (places_of day tables)) e) (said-short bound day tables some all)

pub case-short : (c : Case) (text : PlanText) → IsCase c → text_in c ≡ Ok text → IsShort (2 ^ 32) text
case-short c text is said = read-short (2 ^ 32) c.day c.plan text (omega arith) is.plan_rows said

-- the lists of blocks and those of duties can be judged: they are few, and so are all their items
pub few-lists : (c : Case) (text : PlanText) (lists : List Column) → IsCase c → text_in c ≡ Ok text → lists ≡ text.blocks.columns →
    length lists < 2 ^ 32
few-lists c text lists is said same = subst (λ (l : List Column). length l < 2 ^ 32) (sym same) (case-short c text is said).blocks

pub few-items : (c : Case) (text : PlanText) (lists : List Column) → IsCase c → text_in c ≡ Ok text → lists ≡ text.blocks.columns →
    length (all_items lists) < 2 ^ 32
few-items c text lists is said same = subst (λ (l : List Column). length (all_items l) < 2 ^ 32) (sym same)
    (case-short c text is said).trips

pub few-duties : (c : Case) (text : PlanText) (blocks lists : List Column) → IsCase c → text_in c ≡ Ok text →
    lists ≡ duty_lists c blocks text → length lists < 2 ^ 32
few-duties c text blocks lists is said same =
    let long : length (duty_lists c blocks text) ≡ length text.duties = map-long _ text.duties in
    subst (λ (n : ℕ). n < 2 ^ 32) (sym (ap (λ (l : List Column). length l) same ∙ long)) (case-short c text is said).duties

pub few-parts : (c : Case) (text : PlanText) (blocks lists : List Column) → IsCase c → text_in c ≡ Ok text →
    lists ≡ duty_lists c blocks text → length (all_items lists) < 2 ^ 32
few-parts c text blocks lists is said same =
    subst (λ (l : List Column). length (all_items l) < 2 ^ 32) (sym same)
    ((case-short c text is said).parts c.day.params.groups (pieces_in c blocks))
