-- The fields of a line one after another: what the scan finds is what the definition has.
use Rattle.std.proofs.Common.{◌≡◌, ℕ, ◌+◌, ◌-◌, ◌<◌, Bool, true, false, cond, ◌==◌, List, [], ◌∷◌, ◌++◌, length, take, drop, map, Option, Some, None, Result, Ok, Err, ◌≤◌, arith, append_assoc, get_or, drop-cons, add-one, refl, sym, inl, inr, ap, ◌∙◌, if◌then◌else◌}
use mathlib.Core.Bool.{beq}
use Rattle.std.specs.Option.{option_map}
use Rattle.vdv451_text.specs.FieldScan.{Before, EndsFirst, cut_fields}
use Rattle.vdv451_text.specs.FieldView.{with_piece, text_after, field_or_fault}
use Rattle.std.specs.Result.{IsErrAnd}
use Rattle.vdv451_text.specs.Answers.{AnswersAs}
use Rattle.vdv451_text.specs.Fields.{value_of, bare_value, begins_quoted}
use Rattle.vdv451_text.specs.declared.fault.TextKind.{TextKind}
use Rattle.vdv451_text.specs.declared.fault.TextKind.TheVariants as kinds
use Rattle.vdv451_text.specs.Lines.{Piece, Quoted, Bare, closed_text, only_text, with_front, fields_of, piece_of, trimmed, all_some}
use Rattle.std.proofs.lemmas.Bool.Decides.{eqb_tells, nat_tests}
use Rattle.std.proofs.lemmas.List.{take_all, length-drop}
use Rattle.vdv451_text.proofs.FieldCut.{cut_fields_is}
use Rattle.vdv451_text.specs.declared.table.Field.{Field}
use Rattle.vdv451_text.specs.declared.table.Field.TheVariants as fields

abbrev pieces_in : List (List ℕ) → Option (List Piece)
pieces_in parts = all_some (map (λ part. piece_of (trimmed part)) parts)

-- a first part and others
parts_read : (part : List ℕ) (others : List (List ℕ)) → pieces_in (part ∷ others) ≡ with_piece (piece_of (trimmed part)) (pieces_in others)
parts_read part others =
    let Goal : Option Piece → Type 0 = λ o. all_some (o ∷ map (λ part. piece_of (trimmed part)) others) ≡ with_piece o (pieces_in others) in
    let both : (o : Option Piece) → Goal o = λ o. elim o as Goal [ None ↦ refl | Some p ↦ refl ] in both (piece_of (trimmed part))

-- all bytes behind a place
pub behind_all : (bytes : List ℕ) (i : ℕ) → take (length bytes - i) (drop i bytes) ≡ drop i bytes
behind_all bytes i = take_all (length bytes - i) (drop i bytes) (omega (arith, length-drop i bytes))

-- The fields, where the first one ends at a separator: the first piece, and the fields of what stands behind the separator. The
-- code looks for the end of the first field by the scan (`EndsFirst`) and then goes on with the bytes behind it; as a field that is
-- cut off leaves the scan before a field again, the rest is cut as a line of its own. So fields are read one at a time, in one
-- pass.
pub fields_from : (bytes : List ℕ) (i : ℕ) → EndsFirst bytes i → i < length bytes →
    fields_of (Some bytes) ≡ with_piece (piece_of (trimmed (take i bytes)))
    (fields_of (Some (take (length bytes - (i + 1)) (drop (i + 1) bytes))))
fields_from bytes i ends below =
    let more : (i == length bytes) ≡ false = grind (arith, nat_tests) in
    let cut : cut_fields Before bytes ≡ take i bytes ∷ cut_fields Before (drop (i + 1) bytes) =
    ends ∙ ap (λ t. take i bytes ∷ (if t then [] else cut_fields Before (drop (i + 1) bytes))) more in
    ap pieces_in (cut_fields_is bytes ∙ cut) ∙ parts_read (take i bytes) (cut_fields Before (drop (i + 1) bytes))
    ∙ ap (λ t. with_piece (piece_of (trimmed (take i bytes))) (pieces_in t)) (sym (cut_fields_is (drop (i + 1) bytes)))
    ∙ ap (λ t. with_piece (piece_of (trimmed (take i bytes))) (fields_of (Some t))) (sym (behind_all bytes (i + 1)))

-- the fields, where the first one is the last
pub fields_last : (bytes : List ℕ) (i : ℕ) → i ≡ length bytes → EndsFirst bytes i →
    fields_of (Some bytes) ≡ with_piece (piece_of (trimmed bytes)) (fields_of None)
fields_last bytes i at ends =
    let same : (i == length bytes) ≡ true = grind (arith, nat_tests) in
    let cut : cut_fields Before bytes ≡ bytes ∷ [] =
    ends ∙ ap (λ t. take i bytes ∷ (if t then [] else cut_fields Before (drop (i + 1) bytes))) same
    ∙ ap (λ t. t ∷ []) (take_all i bytes (omega arith)) in
    ap pieces_in (cut_fields_is bytes ∙ cut) ∙ parts_read bytes []

pub mapped_ok : {A B : Type 0} (f : A → B) (o : Option A) (x : A) → field_or_fault o ≡ Ok x → field_or_fault (option_map f o) ≡ Ok (f x)
mapped_ok f None x e = absurd cc
mapped_ok f (Some y) x e = let same : y ≡ x = cc in rw same refl

pub mapped_fault : {A B : Type 0} (f : A → B) (o : Option A) (kind : TextKind) → field_or_fault o ≡ Err kind →
    field_or_fault (option_map f o) ≡ Err kind
mapped_fault f None kind e = cc
mapped_fault f (Some y) kind e = absurd cc

-- An answer with an error is one of what follows, where that fails in the same way.
pub passes : {A B : Type 0} (kind : TextKind) (given : Result A TextKind) (whole : Result B TextKind) (answer : Result B TextKind) →
    IsErrAnd answer (λ e. e ≡ kind) → AnswersAs {A = A} (Err kind) given → (given ≡ Err kind → whole ≡ Err kind) → AnswersAs answer whole
passes kind given whole (Ok x) is h follows = absurd is
passes kind given whole (Err e) is (inl m) follows = inl (is ∙ m)
passes kind given whole (Err e) is (inr w) follows = inr (follows w ∙ ap Err (sym is))

-- a quoted text, byte by byte
abbrev whole_text : Option (List ℕ × List ℕ) → Option (List ℕ)
whole_text None = None
whole_text (Some (text, [])) = Some text
whole_text (Some (text, b ∷ bytes)) = None

one_more : (b : ℕ) (found : Option (List ℕ × List ℕ)) →
    whole_text (option_map (with_front b) found) ≡ option_map (λ text. b ∷ text) (whole_text found)
one_more b None = refl
one_more b (Some (text, [])) = refl
one_more b (Some (text, c ∷ bytes)) = refl

whole_is_only : (found : Option (List ℕ × List ℕ)) → option_map Quoted (whole_text found) ≡ only_text found
whole_is_only None = refl
whole_is_only (Some (text, [])) = refl
whole_is_only (Some (text, c ∷ bytes)) = refl

-- Reading a quoted text byte by byte, with one truth value for a quote right before, gives the text that `closed_text` finds where
-- nothing stands behind its closing quote, and else nothing. By induction, with two bytes at once at a doubled quote, since
-- `closed_text` takes these together. So the code's loop, which keeps the text so far and that truth value, reads a quoted field as
-- the definition does.
text_is_whole : (bytes : List ℕ) → text_after false bytes ≡ whole_text (closed_text bytes)
text_is_whole [] = refl
text_is_whole (b ∷ []) =
    let Goal : Bool → Type 0 = λ t. cond t (Some []) None ≡ whole_text (cond t (Some ([], [])) None) in
    let both : (t : Bool) → Goal t = λ t. elim t as Goal [ true ↦ refl | false ↦ refl ] in both (b == 34)
text_is_whole (b ∷ c ∷ bytes) =
    let inner : cond (c == 34) (option_map (λ text. c ∷ text) (text_after false bytes)) None
    ≡ whole_text (cond (c == 34) (option_map (with_front 34) (closed_text bytes)) (Some ([], c ∷ bytes))) =
    elim (eqb_tells c 34) [
      | inl w ↦ rw (w.0, w.1) (ap (λ t. option_map (λ text. 34 ∷ text) t) (text_is_whole bytes) ∙ sym (one_more 34 (closed_text bytes)))
      | inr w ↦ rw w.0 refl
    ] in
    let outer : option_map (λ text. b ∷ text) (text_after false (c ∷ bytes))
    ≡ whole_text (option_map (with_front b) (closed_text (c ∷ bytes))) =
    ap (λ t. option_map (λ text. b ∷ text) t) (text_is_whole (c ∷ bytes)) ∙ sym (one_more b (closed_text (c ∷ bytes))) in
    let Goal : Bool → Type 0 =
    λ t. cond t (cond (c == 34) (option_map (λ text. c ∷ text) (text_after false bytes)) None)
    (option_map (λ text. b ∷ text) (text_after false (c ∷ bytes)))
    ≡ whole_text (cond t (cond (c == 34) (option_map (with_front 34) (closed_text bytes)) (Some ([], c ∷ bytes)))
    (option_map (with_front b) (closed_text (c ∷ bytes)))) in
    let both : (t : Bool) → Goal t = λ t. elim t as Goal [ true ↦ inner | false ↦ outer ] in both (b == 34)

-- the field that begins with a quote
pub quoted_piece : (bytes : List ℕ) → begins_quoted bytes ≡ true → piece_of bytes ≡ option_map Quoted (text_after false (drop 1 bytes))
quoted_piece [] e = absurd cc
quoted_piece (b ∷ bytes) e = rw e (sym (whole_is_only (closed_text bytes)) ∙ ap (λ t. option_map Quoted t) (sym (text_is_whole bytes)))

pub bare_piece : (bytes : List ℕ) → begins_quoted bytes ≡ false → piece_of bytes ≡ Some (Bare bytes)
bare_piece [] e = refl
bare_piece (b ∷ bytes) e = rw e refl

pub quoted_some : (bytes : List ℕ) → begins_quoted bytes ≡ true → 1 ≤ length bytes
quoted_some [] e = absurd cc
quoted_some (b ∷ bytes) e = omega arith

-- the answer on a text, as one on the field
pub quoted_piece_answer : (bytes text : List ℕ) → begins_quoted bytes ≡ true → field_or_fault (text_after false (drop 1 bytes)) ≡ Ok text →
    field_or_fault (piece_of bytes) ≡ Ok (Quoted text)
quoted_piece_answer bytes text e w = rw (quoted_piece bytes e) (mapped_ok Quoted (text_after false (drop 1 bytes)) text w)

pub quoted_piece_fault : (bytes : List ℕ) (kind : TextKind) → begins_quoted bytes ≡ true →
    field_or_fault (text_after false (drop 1 bytes)) ≡ Err kind → field_or_fault (piece_of bytes) ≡ Err kind
quoted_piece_fault bytes kind e w = rw (quoted_piece bytes e) (mapped_fault Quoted (text_after false (drop 1 bytes)) kind w)

-- all of a text behind a place, as a slice has it
pub text_behind : (bytes : List ℕ) → text_after false (take (length bytes - 1) (drop 1 bytes)) ≡ text_after false (drop 1 bytes)
text_behind bytes = ap (text_after false) (behind_all bytes 1)

-- fields one after another
pub with_more : (before : List Piece) (piece : Piece) (more : Option (List Piece)) →
    option_map (λ pieces. before ++ pieces) (with_piece (Some piece) more) ≡ option_map (λ pieces. (before ++ piece ∷ []) ++ pieces) more
with_more before piece None = refl
with_more before piece (Some pieces) = ap Some (sym (append_assoc before (piece ∷ []) pieces))

pub one_more_piece : (whole more : Option (List Piece)) (left : Option (List ℕ)) (bytes : List ℕ) (o : Option Piece)
    (before : List Piece) (piece : Piece)
    → whole ≡ option_map (λ pieces. before ++ pieces) (fields_of left) → left ≡ Some bytes → fields_of (Some bytes) ≡ with_piece o more →
    field_or_fault o ≡ Ok piece
    → whole ≡ option_map (λ pieces. (before ++ piece ∷ []) ++ pieces) more
one_more_piece whole more left bytes None before piece all is cut ok = absurd cc
one_more_piece whole more left bytes (Some p) before piece all is cut ok =
    let same : p ≡ piece = cc in
    all ∙ ap (λ t. option_map (λ pieces. before ++ pieces) (fields_of t)) is ∙ ap (λ t. option_map (λ pieces. before ++ pieces) t) cut
    ∙ with_more before p more ∙ ap (λ t. option_map (λ pieces. (before ++ t ∷ []) ++ pieces) more) same

pub broken_piece : (whole more : Option (List Piece)) (left : Option (List ℕ)) (bytes : List ℕ) (o : Option Piece)
    (before : List Piece) (kind : TextKind)
    → whole ≡ option_map (λ pieces. before ++ pieces) (fields_of left) → left ≡ Some bytes → fields_of (Some bytes) ≡ with_piece o more →
    field_or_fault o ≡ Err kind
    → field_or_fault whole ≡ Err kind
broken_piece whole more left bytes None before kind all is cut bad =
    let none : whole ≡ None = all ∙ ap (λ t. option_map (λ pieces. before ++ pieces) (fields_of t)) is
    ∙ ap (λ t. option_map (λ pieces. before ++ pieces) t) cut in
    let same : kinds.Field ≡ kind = cc in
    ap field_or_fault none ∙ ap Err same
broken_piece whole more left bytes (Some p) before kind all is cut bad = absurd cc

-- one byte of a quoted text
text_at : (behind : Bool) (bytes : List ℕ) (i : ℕ) → i < length bytes →
    text_after behind (drop i bytes) ≡ text_after behind (get_or bytes i 0 ∷ drop (i + 1) bytes)
text_at behind bytes i below =
    ap (text_after behind) (drop-cons bytes i 0 below ∙ ap (λ n. get_or bytes i 0 ∷ drop n bytes) (sym (add-one i)))

text_further : (text : List ℕ) (b : ℕ) (o : Option (List ℕ)) →
    option_map (λ more. text ++ more) (option_map (λ more. b ∷ more) o) ≡ option_map (λ more. (text ++ b ∷ []) ++ more) o
text_further text b None = refl
text_further text b (Some more) = ap Some (sym (append_assoc text (b ∷ []) more))

takes_byte : (behind : Bool) (b : ℕ) (bytes : List ℕ) → (b == 34) ≡ behind →
    text_after behind (b ∷ bytes) ≡ option_map (λ more. b ∷ more) (text_after false bytes)
takes_byte true b bytes e = rw e refl
takes_byte false b bytes e = rw e refl

same_tests : (q behind : Bool) → beq q behind ≡ true → q ≡ behind
same_tests true true e = refl
same_tests false false e = refl
same_tests true false e = absurd cc
same_tests false true e = absurd cc

other_test : (behind : Bool) → beq true behind ≡ false → behind ≡ false
other_test true e = absurd cc
other_test false e = refl

-- the byte is one of the text
pub text_goes_on : (whole : Option (List ℕ)) (text text' : List ℕ) (behind behind' : Bool) (bytes : List ℕ) (i : ℕ) → i < length bytes →
    whole ≡ option_map (λ more. text ++ more) (text_after behind (drop i bytes)) → beq (get_or bytes i 0 == 34) behind ≡ true →
    text' ≡ text ++ get_or bytes i 0 ∷ [] → behind' ≡ false
    → whole ≡ option_map (λ more. text' ++ more) (text_after behind' (drop (i + 1) bytes))
text_goes_on whole text text' behind behind' bytes i below all e t f =
    rw (t, f) (all ∙ ap (λ t. option_map (λ more. text ++ more) t)
    (text_at behind bytes i below
    ∙ takes_byte behind (get_or bytes i 0) (drop (i + 1) bytes) (same_tests (get_or bytes i 0 == 34) behind e))
    ∙ text_further text (get_or bytes i 0) (text_after false (drop (i + 1) bytes)))

-- the byte is a quote that may close the text
pub text_may_close : (whole : Option (List ℕ)) (text text' : List ℕ) (behind behind' : Bool) (bytes : List ℕ) (i : ℕ) → i < length bytes →
    whole ≡ option_map (λ more. text ++ more) (text_after behind (drop i bytes)) → beq (get_or bytes i 0 == 34) behind ≡ false →
    get_or bytes i 0 ≡ 34 → text' ≡ text → behind' ≡ true
    → whole ≡ option_map (λ more. text' ++ more) (text_after behind' (drop (i + 1) bytes))
text_may_close whole text text' behind behind' bytes i below all e q t f =
    let was : behind ≡ false = other_test behind (ap (λ b. beq (b == 34) behind) (sym q) ∙ e) in
    let same : text_after false (get_or bytes i 0 ∷ drop (i + 1) bytes) ≡ text_after true (drop (i + 1) bytes) = rw q refl in
    rw (t, f) (all ∙ ap (λ t. option_map (λ more. text ++ more) (text_after t (drop i bytes))) was
    ∙ ap (λ t. option_map (λ more. text ++ more) t) (text_at false bytes i below ∙ same))

-- the same of a value
pub quoted_value_answer : (format bytes text : List ℕ) → begins_quoted bytes ≡ true →
    field_or_fault (text_after false (drop 1 bytes)) ≡ Ok text →
    field_or_fault (option_map (value_of format) (piece_of bytes)) ≡ Ok (fields.Text text)
quoted_value_answer format bytes text e w = mapped_ok (value_of format) (piece_of bytes) (Quoted text) (quoted_piece_answer bytes text e w)

pub quoted_value_fault : (format bytes : List ℕ) (kind : TextKind) → begins_quoted bytes ≡ true →
    field_or_fault (text_after false (drop 1 bytes)) ≡ Err kind → field_or_fault (option_map (value_of format) (piece_of bytes)) ≡ Err kind
quoted_value_fault format bytes kind e w = mapped_fault (value_of format) (piece_of bytes) kind (quoted_piece_fault bytes kind e w)

pub bare_value_answer : (format bytes : List ℕ) (answer : Result Field TextKind) → begins_quoted bytes ≡ false →
    AnswersAs answer (Ok (bare_value format bytes)) → AnswersAs answer (field_or_fault (option_map (value_of format) (piece_of bytes)))
bare_value_answer format bytes answer e w = rw (bare_piece bytes e) w
