-- Each trip is put behind those of its block as its row comes, so that at the end each block has its trips in the order of their rows:
-- after some of the rows each list holds what these rows say of its block. The same of the pieces of duties.
use Rattle.std.proofs.Common.{◌≡◌, ◌≢◌, ℕ, zero, suc, ◌+◌, ◌<◌, ◌≤◌, Bool, true, false, if◌then◌else◌, nat_eq, List, [], ◌∷◌, ◌++◌, length, map, drop, take, get_or, refl, sym, ap, ◌∙◌, arith, append_assoc, append-nil, add-one, drop-cons}
use Rattle.std.proofs.lemmas.Bool.Decides.{nat_tests}
use Rattle.std.proofs.lemmas.List.{drop_all, take_all}
use Rattle.std.specs.List.{cons_option, filter_map}
use Rattle.std.specs.Prelude.{Option, Some, None, slice_index_or, slice_set}
use Rattle.cover_core.specs.declared.Column.{Column}
use Rattle.umlauf_write.specs.declared.text.DutyRow.{DutyRow}
use Rattle.umlauf_write.specs.Reading.{Part, block_said, duty_said, entries_from, parts_in, trips_in}
use Rattle.plan_read.specs.Gathering.{block_at, blocks_from, blocks_said, change, duties_said, more_parts, no_parts, no_trips, with_part, with_parts, with_trip, with_trips}

-- a change at a place that is there
pub change-there : {A : Type 0} (f : A → A) (place : ℕ) (xs : List A) (d : A) → place < length xs →
    change f place xs ≡ slice_set xs place (f (get_or xs place d))
change-there f place [] d there = absurd (omega arith)
change-there f zero (x ∷ xs) d there = refl
change-there f (suc place) (x ∷ xs) d there = ap (λ ys. x ∷ ys) (change-there f place xs d (omega arith))

pub change-beyond : {A : Type 0} (f : A → A) (place : ℕ) (xs : List A) → length xs ≤ place → change f place xs ≡ xs
change-beyond f place [] beyond = refl
change-beyond f zero (x ∷ xs) beyond = absurd (omega arith)
change-beyond f (suc place) (x ∷ xs) beyond = ap (λ ys. x ∷ ys) (change-beyond f place xs (omega arith))

-- Entries of which one differs. The induction goes to the place in step with the list, and the entries' places are counted on from any
-- `from`. So to put one row's item behind those of its block is to let the definition see one row more.
change-entries : {A B : Type 0} (h : A → A) (f g : ℕ → B → A) (from place : ℕ) (xs : List B) →
    ((k : ℕ) (x : B) → k ≢ from + place → f k x ≡ g k x) → ((x : B) → h (f (from + place) x) ≡ g (from + place) x) →
    change h place (entries_from f from xs) ≡ entries_from g from xs
change-entries h f g from place [] others here = refl
change-entries h f g from zero (x ∷ xs) others here =
    let same : from ≡ from + zero = omega arith in
    ap (λ n. h (f n x) ∷ entries_from f (from + 1) xs) same
    ∙ (ap (λ y. y ∷ entries_from f (from + 1) xs) (here x)
    ∙ (ap (λ n. g n x ∷ entries_from f (from + 1) xs) (sym same)
    ∙ ap (λ ys. g from x ∷ ys) (after f g (from + 1) xs (λ k x later. others k x (λ e. absurd (omega (arith, e, later)))))))
  where
    after : {A B : Type 0} (f g : ℕ → B → A) (from : ℕ) (xs : List B) → ((k : ℕ) (x : B) → from ≤ k → f k x ≡ g k x) →
        entries_from f from xs ≡ entries_from g from xs
    after f g from [] same = refl
    after f g from (x ∷ xs) same = ap (λ y. y ∷ entries_from f (from + 1) xs) (same from x (omega arith))
        ∙ ap (λ ys. g from x ∷ ys) (after f g (from + 1) xs (λ k x later. same k x (omega (arith, later))))
change-entries h f g from (suc place) (x ∷ xs) others here =
    let moved : from + 1 + place ≡ from + suc place = omega arith in
    ap (λ ys. f from x ∷ ys)
    (change-entries h f g (from + 1) place xs (λ k x other. others k x (λ e. other (e ∙ sym moved)))
    (λ x. ap (λ n. h (f n x)) moved ∙ (here x ∙ ap (λ n. g n x) (sym moved))))
    ∙ ap (λ y. y ∷ entries_from g (from + 1) xs) (others from x (λ e. absurd (omega (arith, e))))

-- what rows say, and one row more
more-said : {A B : Type 0} (pick : A → Option B) (xs : List A) (x : A) →
    filter_map pick (xs ++ x ∷ []) ≡ filter_map pick xs ++ cons_option (pick x) []
more-said pick [] x = refl
more-said {A = A} {B = B} pick (y ∷ ys) x = by (pick y) (more-said pick ys x)
  where
    by : (o : Option B) → filter_map pick (ys ++ x ∷ []) ≡ filter_map pick ys ++ cons_option (pick x) [] →
        cons_option o (filter_map pick (ys ++ x ∷ [])) ≡ cons_option o (filter_map pick ys) ++ cons_option (pick x) []
    by None e = e
    by (Some b) e = ap (λ l. b ∷ l) e

same-place : (n : ℕ) → nat_eq n n ≡ true
same-place n = grind (arith, nat_tests)

other-place : (m n : ℕ) → n ≢ m → nat_eq m n ≡ false
other-place m n other = grind (arith, nat_tests)

-- the trips of a block in the rows before
abbrev list_said : List (ℕ × ℕ) → ℕ → ℕ → List ℕ
list_said entries block class = trips_in block entries

one-trip : (before : List (ℕ × ℕ)) (e : ℕ × ℕ) (classes : List ℕ) →
    with_trip (entries_from (list_said before) 0 classes) e ≡ entries_from (list_said (before ++ e ∷ [])) 0 classes
one-trip before e classes =
    change-entries (λ (trips : List ℕ). trips ++ e.0 ∷ []) (list_said before) (list_said (before ++ e ∷ [])) 0 e.1 classes
    (λ k x other. sym (more-said _ before e
    ∙ (ap (λ (b : Bool). trips_in k before ++ cons_option (if b then Some e.0 else None) [])
    (other-place e.1 k (λ s. other (s ∙ zero-plus e.1))) ∙ append-nil (trips_in k before))))
    (λ x. sym (more-said _ before e ∙ ap (λ (b : Bool). trips_in (0 + e.1) before ++ cons_option (if b then Some e.0 else None) [])
    (ap (λ n. nat_eq e.1 n) (sym (zero-plus e.1)) ∙ same-place e.1)))
  where
    zero-plus : (n : ℕ) → n ≡ 0 + n
    zero-plus n = omega arith

-- The rows are split into those before and those to come; the lists hold what the rows before say of each block. One row changes the
-- list of its block alone (`one-trip`), so the lists then hold what these rows say together with it. From no rows on this is the loop
-- that gathers.
all-trips : (before entries : List (ℕ × ℕ)) (classes : List ℕ) →
    with_trips (entries_from (list_said before) 0 classes) entries ≡ entries_from (list_said (before ++ entries)) 0 classes
all-trips before [] classes = ap (λ (l : List (ℕ × ℕ)). entries_from (list_said l) 0 classes) (sym (append-nil before))
all-trips before (e ∷ entries) classes =
    ap (λ lists. with_trips lists entries) (one-trip before e classes)
    ∙ (all-trips (before ++ e ∷ []) entries classes
    ∙ ap (λ (l : List (ℕ × ℕ)). entries_from (list_said l) 0 classes) (append_assoc before (e ∷ []) entries))

none-yet : (row : ℕ) (classes : List ℕ) → map no_trips classes ≡ entries_from (list_said []) row classes
none-yet row [] = refl
none-yet row (class ∷ classes) = ap (λ (l : List (List ℕ)). [] ∷ l) (none-yet (row + 1) classes)

-- blocks whose trips stand behind others
blocks-at : (entries : List (ℕ × ℕ)) (lists : List (List ℕ)) (row : ℕ) (classes : List ℕ) →
    ((k : ℕ) → slice_index_or lists (row + k) [] ≡ slice_index_or (entries_from (list_said entries) row classes) k []) →
    entries_from (block_at lists) row classes ≡ entries_from (block_said entries) row classes
blocks-at entries lists row [] at = refl
blocks-at entries lists row (class ∷ classes) at =
    let here : row + 0 ≡ row = omega arith in
    let items : slice_index_or lists row [] ≡ trips_in row entries = ap (λ n. slice_index_or lists n []) (sym here) ∙ at 0 in
    ap (λ (l : List ℕ). record { class = class; worth = 0; items = l } ∷ entries_from (block_at lists) (row + 1) classes) items
    ∙ ap (λ (l : List Column). block_said entries row class ∷ l)
    (blocks-at entries lists (row + 1) classes (λ k. let moved : row + 1 + k ≡ row + suc k =
    omega arith in ap (λ n. slice_index_or lists n []) moved ∙ at (suc k)))

-- The blocks of all trips. One pass over the rows, which puts each trip behind those of its block, gives what the definition gets by
-- going over all rows for each block. So `gathered_blocks` promises the definition's blocks though it goes over the rows once.
pub blocks-gathered : (entries : List (ℕ × ℕ)) (classes : List ℕ) →
    blocks_from (with_trips (map no_trips classes) entries) classes ≡ blocks_said entries classes
blocks-gathered entries classes =
    let all : with_trips (map no_trips classes) entries ≡ entries_from (list_said entries) 0 classes =
    ap (λ lists. with_trips lists entries) (none-yet 0 classes) ∙ all-trips [] entries classes in
    ap (λ lists. blocks_from lists classes) all
    ∙ blocks-at entries (entries_from (list_said entries) 0 classes) 0 classes (λ k. let same : 0 + k ≡ k =
    omega arith in ap (λ n. slice_index_or (entries_from (list_said entries) 0 classes) n []) same)

-- duties.
one-part : (before : List Part) (e : Part) (groups : List ℕ) →
    with_part (entries_from (duty_said before) 0 groups) e ≡ entries_from (duty_said (before ++ e ∷ [])) 0 groups
one-part before e groups =
    change-entries (more_parts e.1) (duty_said before) (duty_said (before ++ e ∷ [])) 0 e.0 groups
    (λ k x other. ap (λ (l : List (ℕ × ℕ)). record { group = x; parts = l }) (sym (more-said _ before e
    ∙ (ap (λ (b : Bool). parts_in k before ++ cons_option (if b then Some e.1 else None) [])
    (other-place e.0 k (λ s. other (s ∙ zero-plus e.0))) ∙ append-nil (parts_in k before)))))
    (λ x. ap (λ (l : List (ℕ × ℕ)). record { group = x; parts = l }) (sym (more-said _ before e
    ∙ ap (λ (b : Bool). parts_in (0 + e.0) before ++ cons_option (if b then Some e.1 else None) [])
    (ap (λ n. nat_eq e.0 n) (sym (zero-plus e.0)) ∙ same-place e.0))))
  where
    zero-plus : (n : ℕ) → n ≡ 0 + n
    zero-plus n = omega arith

all-parts : (before entries : List Part) (groups : List ℕ) →
    with_parts (entries_from (duty_said before) 0 groups) entries ≡ entries_from (duty_said (before ++ entries)) 0 groups
all-parts before [] groups = ap (λ (l : List Part). entries_from (duty_said l) 0 groups) (sym (append-nil before))
all-parts before (e ∷ entries) groups =
    ap (λ duties. with_parts duties entries) (one-part before e groups)
    ∙ (all-parts (before ++ e ∷ []) entries groups
    ∙ ap (λ (l : List Part). entries_from (duty_said l) 0 groups) (append_assoc before (e ∷ []) entries))

no-parts-yet : (row : ℕ) (groups : List ℕ) → map no_parts groups ≡ entries_from (duty_said []) row groups
no-parts-yet row [] = refl
no-parts-yet row (group ∷ groups) = ap (λ (l : List DutyRow). no_parts group ∷ l) (no-parts-yet (row + 1) groups)

-- the duties of all pieces
pub duties-gathered : (entries : List Part) (groups : List ℕ) → with_parts (map no_parts groups) entries ≡ duties_said entries groups
duties-gathered entries groups = ap (λ duties. with_parts duties entries) (no-parts-yet 0 groups) ∙ all-parts [] entries groups

-- as many lists as before
change-long : {A : Type 0} (f : A → A) (place : ℕ) (xs : List A) → length (change f place xs) ≡ length xs
change-long f place [] = refl
change-long f zero (x ∷ xs) = refl
change-long f (suc place) (x ∷ xs) = ap suc (change-long f place xs)

pub trips-long : (lists : List (List ℕ)) (entries : List (ℕ × ℕ)) → length (with_trips lists entries) ≡ length lists
trips-long lists [] = refl
trips-long lists (e ∷ entries) = trips-long (with_trip lists e) entries ∙ change-long (λ (trips : List ℕ). trips ++ e.0 ∷ []) e.1 lists

pub parts-long : (duties : List DutyRow) (entries : List Part) → length (with_parts duties entries) ≡ length duties
parts-long duties [] = refl
parts-long duties (e ∷ entries) = parts-long (with_part duties e) entries ∙ change-long (more_parts e.1) e.0 duties

-- as many items put in place of those that are there
pub refilled : {A : Type 0} (n : ℕ) (old new : List A) → length old ≡ n → length new ≡ length old →
    take n (new ++ drop (length new) old) ≡ new
refilled {A = A} n old new len same =
    let end : length old ≤ length new = omega arith in
    let few : length new ≤ n = omega arith in
    let none : drop (length new) old ≡ [] = drop_all (length new) old end in
    ap (λ (l : List A). take n (new ++ l)) none ∙ ap (λ (l : List A). take n l) (append-nil new) ∙ take_all n new few

-- one empty list more
pub no-more : (i : ℕ) (classes : List ℕ) (lists now : List (List ℕ)) → i < length classes → now ≡ lists ++ [] ∷ [] →
    map no_trips classes ≡ lists ++ map no_trips (drop i classes) → map no_trips classes ≡ now ++ map no_trips (drop (i + 1) classes)
no-more i classes lists now low put so_far =
    let rest = map no_trips (drop (i + 1) classes) in
    let step : drop i classes ≡ get_or classes i 0 ∷ drop (i + 1) classes = rw add-one (drop-cons classes i 0 low) in
    so_far ∙ (ap (λ (l : List ℕ). lists ++ map no_trips l) step
    ∙ (sym (append_assoc lists ([] ∷ []) rest) ∙ ap (λ (l : List (List ℕ)). l ++ rest) (sym put)))
