-- A part that names a piece stands in duties exactly as often as the number of that piece stands in the lists of these duties. A part has
-- the number of the first piece with its block and index, or the number of all pieces where there is none; so where one of two parts
-- names a piece, they have one number exactly where they are the same.
use Rattle.std.proofs.Common.{◌≡◌, ◌==◌, ℕ, ◌+◌, ◌<◌, Bool, true, false, cond, ◌&&◌, zero, suc, List, [], ◌∷◌, ◌++◌, length, map, refl, sym, ap, subst, ◌∙◌, arith, Option, Some, None, slice_get, nat_eq}
use Rattle.std.specs.List.{position_from}
use Rattle.std.specs.Prelude.{unwrap_or}
use Rattle.std.proofs.lemmas.Bool.Decides.{nat_tests}
use Rattle.plan_core.specs.declared.types.Piece.{Piece}
use Rattle.cover_core.specs.Plans.{all_items, times}
use Rattle.cover_core.proofs.Parts.{times-append}
use Rattle.plan_params.specs.declared.rows.group.Group.{Group}
use Rattle.umlauf_write.specs.declared.text.DutyRow.{DutyRow}
use Rattle.duty_rest.specs.Heads.{same_part}
use Rattle.duty_rest.specs.Laws.{all_parts, part_times}
use Rattle.cert_check.specs.Judging.{duty_list, is_piece_of, part_number}

-- two numbers are two others
both-are : (a b c d : ℕ) → (nat_eq a c && nat_eq b d) ≡ true → (a ≡ c) × (b ≡ d)
both-are a b c d e =
    elim (nat_eq a c) as (λ t. nat_eq a c ≡ t → (t && nat_eq b d) ≡ true → (a ≡ c) × (b ≡ d)) [
      | true ↦ λ first second. (same a c first, same b d second)
      | false ↦ λ first second. absurd (cc)
    ] refl e
  where
    same : (m n : ℕ) → nat_eq m n ≡ true → m ≡ n
    same m n e = grind (arith, nat_tests)

are-both : (a b c d : ℕ) → a ≡ c → b ≡ d → (nat_eq a c && nat_eq b d) ≡ true
are-both a b c d first second =
    let one : nat_eq a c ≡ true = grind (arith, nat_tests) in
    let two : nat_eq b d ≡ true = grind (arith, nat_tests) in
    ap (λ (t : Bool). t && nat_eq b d) one ∙ two

-- what is found passes
found-passes : (test : Piece → Bool) (ps : List Piece) (from m : ℕ) → position_from test from ps ≡ Some m →
    (k : ℕ) × (p : Piece) × (m ≡ from + k) × (slice_get ps k ≡ Some p) × (test p ≡ true)
found-passes test [] from m is = absurd (cc)
found-passes test (p ∷ ps) from m is =
    elim (test p) as (λ t. test p ≡ t → cond t (Some from) (position_from test (from + 1) ps) ≡ Some m →
    (k : ℕ) × (q : Piece) × (m ≡ from + k) × (slice_get (p ∷ ps) k ≡ Some q) × (test q ≡ true)) [
      | true ↦ λ passes e.
          let same : from ≡ m = cc in
          (0, p, omega (arith, same), refl, passes)
      | false ↦ λ fails e.
          let (k, q, place, at, passes) = found-passes test ps (from + 1) m e in
          (suc k, q, omega (arith, place), at, passes)
    ] refl is

-- what passes is found
passing-found : (test : Piece → Bool) (ps : List Piece) (from n : ℕ) (q : Piece) → slice_get ps n ≡ Some q → test q ≡ true →
    (m : ℕ) × (position_from test from ps ≡ Some m) × (m < from + length ps)
passing-found test [] from n q at passes = absurd (cc)
passing-found test (p ∷ ps) from n q at passes =
    elim (test p) as (λ t. test p ≡ t → (m : ℕ) × (cond t (Some from) (position_from test (from + 1) ps) ≡ Some m)
    × (m < from + length (p ∷ ps))) [
      | true ↦ λ is. (from, refl, omega arith)
      | false ↦ λ is.
          let (k, there) = later n at is in
          let (m, found, below) = passing-found test ps (from + 1) k q there passes in
          (m, found, omega (arith, below))
    ] refl
  where
    later : (n : ℕ) → slice_get (p ∷ ps) n ≡ Some q → test p ≡ false → (k : ℕ) × (slice_get ps k ≡ Some q)
    later zero at is =
        let same : p ≡ q = cc in
        let other : test p ≡ test q = ap test same in
        absurd (cc)
    later (suc n) at is = (n, at)

-- a part whose piece is there has its number
pub number-there : (pieces : List Piece) (x : ℕ × ℕ) (n : ℕ) (q : Piece) → slice_get pieces n ≡ Some q → q.block ≡ x.0 → q.index ≡ x.1 →
    part_number pieces x < length pieces
number-there pieces x n q at block index =
    let (m, found, below) = passing-found (is_piece_of x.0 x.1) pieces 0 n q at (are-both q.block q.index x.0 x.1 block index) in
    let is : part_number pieces x ≡ m = ap (λ (o : Option ℕ). unwrap_or o (length pieces)) found in
    omega (arith, is, below)

-- a number of a piece is had by the parts alone that name this piece
number-names : (pieces : List Piece) (x : ℕ × ℕ) (m : ℕ) → part_number pieces x ≡ m → m < length pieces →
    (p : Piece) × (slice_get pieces m ≡ Some p) × (p.block ≡ x.0) × (p.index ≡ x.1)
number-names pieces x m is below =
    elim (position_from (is_piece_of x.0 x.1) 0 pieces) as (λ o. position_from (is_piece_of x.0 x.1) 0 pieces ≡ o →
    unwrap_or o (length pieces) ≡ m →
    (p : Piece) × (slice_get pieces m ≡ Some p) × (p.block ≡ x.0) × (p.index ≡ x.1)) [
      | None ↦ λ found e. absurd (omega (arith, e, below))
      | Some j ↦ λ found e.
          let (k, p, place, at, passes) = found-passes (is_piece_of x.0 x.1) pieces 0 j found in
          let (block, index) = both-are p.block p.index x.0 x.1 passes in
          let same : k ≡ m = omega (arith, place, e) in
          let P : ℕ → Type 0 = λ i. slice_get pieces i ≡ Some p in
          (p, subst P same at, block, index)
    ] refl is

-- Parts have one number exactly where they are the same. A part and a number of a piece name each other: the number is that of the
-- first piece with the part's block and index, and that piece tells both again. Where a part names no piece it has the number past
-- all, which no part with a piece has.
same-number : (pieces : List Piece) (x y : ℕ × ℕ) → part_number pieces x < length pieces →
    (part_number pieces x == part_number pieces y) ≡ same_part x y
same-number pieces x y below =
    elim (same_part x y) as (λ t. same_part x y ≡ t → (part_number pieces x == part_number pieces y) ≡ t) [
      | true ↦ λ is.
          let (block, index) = both-are x.0 x.1 y.0 y.1 is in
          let number : ℕ → ℕ → ℕ = λ b i. part_number pieces (b, i) in
          let same : part_number pieces x ≡ part_number pieces y =
          ap (λ (b : ℕ). number b x.1) block ∙ ap (λ (i : ℕ). number y.0 i) index in
          alike (part_number pieces x) (part_number pieces y) same
      | false ↦ λ is.
          elim (part_number pieces x == part_number pieces y) as (λ t. (part_number pieces x == part_number pieces y) ≡ t → t ≡ false) [
            | false ↦ λ e. refl
            | true ↦ λ e. absurd (other is (equal (part_number pieces x) (part_number pieces y) e))
          ] refl
    ] refl
  where
    alike : (m n : ℕ) → m ≡ n → (m == n) ≡ true
    alike m n e = grind (arith, nat_tests)

    equal : (m n : ℕ) → (m == n) ≡ true → m ≡ n
    equal m n e = grind (arith, nat_tests)

    other : same_part x y ≡ false → part_number pieces x ≡ part_number pieces y → ⊥
    other is e =
        let (p, here, block, index) = number-names pieces x (part_number pieces x) refl below in
        let (q, there, block', index') = number-names pieces y (part_number pieces x) (sym e) below in
        let piece : p ≡ q = cc in
        let same = are-both x.0 x.1 y.0 y.1 (cc) (cc) in
        cc

pub parts-append : (x : ℕ × ℕ) (xs ys : List (ℕ × ℕ)) → part_times x (xs ++ ys) ≡ part_times x xs + part_times x ys
parts-append x [] ys = omega arith
parts-append x (y ∷ xs) ys = let rest = parts-append x xs ys in omega (arith, rest)

parts-times : (pieces : List Piece) (x : ℕ × ℕ) → part_number pieces x < length pieces → (parts : List (ℕ × ℕ)) →
    times (part_number pieces x) (map (part_number pieces) parts) ≡ part_times x parts
parts-times pieces x below [] = refl
parts-times pieces x below (y ∷ ys) =
    let rest = parts-times pieces x below ys in
    let here = same-number pieces x y below in
    ap (λ (t : Bool). cond t 1 0 + times (part_number pieces x) (map (part_number pieces) ys)) here
    ∙ ap (λ (n : ℕ). cond (same_part x y) 1 0 + n) rest

-- A part stands in duties as often as its number in their lists. So counting parts in the rows of X_DIENST_STUECK and counting piece
-- numbers in lists of duties is the same, and "each piece once", which is said of numbers, may be used of parts.
pub rows-times : (groups : List Group) (pieces : List Piece) (x : ℕ × ℕ) → part_number pieces x < length pieces → (rows : List DutyRow) →
    times (part_number pieces x) (all_items (map (duty_list groups pieces) rows)) ≡ part_times x (all_parts rows)
rows-times groups pieces x below [] = refl
rows-times groups pieces x below (row ∷ rows) =
    let rest = rows-times groups pieces x below rows in
    let here = parts-times pieces x below row.parts in
    let items = times-append (part_number pieces x) (map (part_number pieces) row.parts) (all_items (map (duty_list groups pieces) rows)) in
    let parts = parts-append x row.parts (all_parts rows) in
    omega (arith, rest, here, items, parts)
