-- Numbers that are written are read back.
use Rattle.std.proofs.Common.{◌≡◌, ◌≢◌, ℕ, pos, zero, suc, ◌+◌, ◌-◌, ◌^◌, ◌<◌, ◌≤◌, ◌==◌, Bool, true, false, if◌then◌else◌, nat_eq, nat_le, nat_lt, List, [], ◌∷◌, length, map, get_or, refl, ap, ◌∙◌, arith}
use Rattle.std.proofs.lemmas.Bool.{and_parts}
use Rattle.std.proofs.lemmas.Bool.Decides.{nat_tests}
use Rattle.std.proofs.lemmas.Fmt.{decimal_is_IsNumeral}
use Rattle.std.specs.Char.{is_ascii_digit}
use Rattle.std.specs.Fmt.{decimal}
use Rattle.std.specs.List.{list_all}
use Rattle.std.specs.Option.{option_map}
use Rattle.std.specs.Prelude.{Option, Some, None, option_and_then}
use Rattle.std.proofs.lemmas.Str.Parse.{digit_from_value}
use Rattle.std.specs.Int.{IsInRange}
use Rattle.std.specs.Str.Parse.{AllDigits, digits_value}
use Rattle.vdv451_text.specs.declared.table.Field.TheVariants.{Num, Raw}
use Rattle.vdv451_text.specs.Fields.{is_digits, is_num_format, number_of}
use Rattle.vdv452_rows.specs.Cells.{whole_number}
use Rattle.number_tables.specs.Outlines.{counted, place_in, word}
use Rattle.umlauf_write.specs.Reading.{number_among, own_number}
use Rattle.umlauf_write.specs.Tables.{uid_field}

-- a number stands where no number before is the same
pub placed : {A : Type 0} (number : A → ℕ) (xs : List A) (k : ℕ) (d : A) → k < length xs →
    ((j : ℕ) → j < k → number (get_or xs j d) ≢ number (get_or xs k d)) → place_in (map number xs) (number (get_or xs k d)) ≡ Some k
placed number [] k d within other = absurd (omega arith)
placed number (x ∷ xs) zero d within other =
    ap (λ (t : Bool). if t then Some 0 else option_map (λ k. k + 1) (place_in (map number xs) (number x))) (same (number x))
  where
    same : (n : ℕ) → nat_eq n n ≡ true
    same n = grind (arith, nat_tests)
placed number (x ∷ xs) (suc k) d within other =
    let n = number (get_or xs k d) in
    let off : nat_eq (number x) n ≡ false = apart (number x) n (other 0 (omega arith)) in
    let more : k + 1 ≡ suc k = omega arith in
    ap (λ (t : Bool). if t then Some 0 else option_map (λ k. k + 1) (place_in (map number xs) n)) off
    ∙ (ap (λ (o : Option ℕ). option_map (λ k. k + 1) o) (placed number xs k d (omega arith) (λ j low. other (suc j) (omega arith)))
    ∙ ap (λ (m : ℕ). Some m) more)
  where
    apart : (a b : ℕ) → a ≢ b → nat_eq a b ≡ false
    apart a b off = grind (arith, nat_tests)

-- a number counted from 1
pub counted-back : (most place : ℕ) → place < most → counted most (Some (pos (place + 1))) ≡ Some place
counted-back most place below =
    let next : place + 1 ≡ suc place = omega arith in
    ap (λ (n : ℕ). counted most (Some (pos n))) next ∙ ap (λ (t : Bool). if t then Some place else None) (within place most below)
  where
    within : (a b : ℕ) → a < b → nat_lt a b ≡ true
    within a b low = grind (arith, nat_tests)

-- the number of a row
pub own-back : (row : ℕ) → own_number row (Some (pos (row + 1))) ≡ Some row
own-back row = ap (λ (o : Option ℕ). option_and_then (λ m. if nat_eq m row then Some m else None) o)
    (counted-back (row + 1) row (omega arith)) ∙ ap (λ (t : Bool). if t then Some row else None) (same row)
  where
    same : (n : ℕ) → nat_eq n n ≡ true
    same n = grind (arith, nat_tests)

pub word-back : (n : ℕ) → n ≤ 4294967295 → word (Some (pos n)) ≡ Some n
word-back n low = ap (λ (t : Bool). if t then Some n else None) (within n low)
  where
    within : (n : ℕ) → n ≤ 4294967295 → nat_le n 4294967295 ≡ true
    within n low = grind (arith, nat_tests)

-- a number of 32 bits that stands among others
pub among-back : (ns : List ℕ) (n k : ℕ) → place_in ns n ≡ Some k → n ≤ 4294967295 → number_among ns (Some (pos n)) ≡ Some n
among-back ns n k found low = ap (λ (o : Option ℕ). option_and_then (λ place. word (Some (pos n))) o) found ∙ word-back n low

-- digits of numbers are digits of texts
digit-byte : (c : ℕ) → IsInRange 48 57 c → is_ascii_digit c ≡ true
digit-byte c h = grind (arith, nat_tests)

digit-bytes : (ds : List ℕ) → AllDigits 10 ds → list_all is_ascii_digit ds ≡ true
digit-bytes [] h = refl
digit-bytes (c ∷ cs) h = rw (digit-byte c (digit_from_value c h.0), digit-bytes cs h.1) refl

some-digits : (ds : List ℕ) → list_all is_ascii_digit ds ≡ true → 0 < length ds → is_digits ds ≡ true
some-digits [] digits some = absurd (omega arith)
some-digits (d ∷ ds) digits some =
    let long : (length (d ∷ ds) == 0) ≡ false = grind (arith, nat_tests) in
    rw (long, digits) refl

-- digits are no sign
digit-first : (c : ℕ) → is_ascii_digit c ≡ true → ((c == 43) ≡ false) × ((c == 45) ≡ false)
digit-first c digit = (grind (arith, nat_tests), grind (arith, nat_tests))

digits-read : (ds : List ℕ) → list_all is_ascii_digit ds ≡ true → 0 < length ds → digits_value 10 ds < 2 ^ 63 →
    number_of ds ≡ Some (pos (digits_value 10 ds))
digits-read [] digits some small = absurd (omega arith)
digits-read (d ∷ ds) digits some small =
    let first = digit-first d (and_parts (is_ascii_digit d) (list_all is_ascii_digit ds) digits).0 in
    let fits : nat_le (digits_value 10 (d ∷ ds)) (2 ^ 63 - 1) ≡ true = grind (arith, nat_tests, small) in
    rw (first.0, first.1, some-digits (d ∷ ds) digits some, fits) refl

-- the digits of a number spell it
pub decimal-back : (n : ℕ) → n < 2 ^ 63 → number_of (decimal n) ≡ Some (pos n)
decimal-back n small =
    let numeral = decimal_is_IsNumeral n (omega (arith, small)) in
    let least : digits_value 10 (decimal n) < 2 ^ 63 = omega (arith, numeral.1, small) in
    digits-read (decimal n) (digit-bytes (decimal n) numeral.0.1) numeral.0.0 least ∙ ap (λ (m : ℕ). Some (pos m)) numeral.1

-- a block's number in a column of any format
pub uid-back : (format : List ℕ) (n : ℕ) → n < 2 ^ 63 → whole_number (uid_field format n) ≡ Some (pos n)
uid-back format n small =
    elim (is_num_format format) as (λ t. whole_number (if t then Num (pos n) else Raw (decimal n)) ≡ Some (pos n)) [
      | true ↦ refl
      | false ↦ decimal-back n small
    ]
