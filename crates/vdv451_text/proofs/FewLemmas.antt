-- The fields of a line on which few may stand.
use Rattle.std.proofs.Common.{◌≡◌, ℕ, ◌+◌, ◌≤◌, ◌<◌, Bool, true, false, ◌&&◌, not, nat_le, List, [], ◌∷◌, ◌++◌, length, map, is_none, Option, Some, None, Result, Ok, Err, ◌⊎◌, inl, inr, refl, sym, ap, ◌∙◌, arith, Bor, if◌then◌else◌}
use Rattle.std.specs.List.{list_all}
use Rattle.std.specs.Option.{option_copied, option_map, is_some}
use Rattle.std.proofs.lemmas.Bool.Decides.{nat_tests}
use Rattle.std.proofs.lemmas.List.{length-append, append-nil}
use Rattle.vdv451_text.specs.declared.fault.TextKind.{TextKind}
use Rattle.vdv451_text.specs.declared.fault.TextKind.TheVariants as kinds
use Rattle.vdv451_text.specs.declared.few.FieldKind.{FieldKind}
use Rattle.vdv451_text.specs.Answers.{AnswersAs, AnswersKind}
use Rattle.vdv451_text.specs.FewFields.{may_stand, may_end, fits, all_right, crowd_of, checked, crowd_behind, few_of}
use Rattle.vdv451_text.specs.FieldScan.{Before}
use Rattle.vdv451_text.specs.FieldView.{with_piece, field_or_fault}
use Rattle.vdv451_text.specs.Lines.{Piece, fields_of, piece_of, trimmed, all_some}
use Rattle.vdv451_text.proofs.FieldCut.{cut_fields_is, fields_are_cut}
use Rattle.vdv451_text.proofs.PieceLemmas.{broken_piece}

-- behind a `;` stands at least one field
abbrev pub HasField : Option (List Piece) → Type 0
HasField o = (o ≡ None) ⊎ ((p : Piece) × (ps : List Piece) × (o ≡ Some (p ∷ ps)))

added_field : (o : Option Piece) (more : Option (List Piece)) → HasField (with_piece o more)
added_field None more = inl refl
added_field (Some p) None = inl refl
added_field (Some p) (Some ps) = inr (p, ps, refl)

first_added : (o : Option Piece) (os : List (Option Piece)) → all_some (o ∷ os) ≡ with_piece o (all_some os)
first_added None os = refl
first_added (Some p) os = refl

pub some_field : (bytes : List ℕ) → HasField (fields_of (Some bytes))
some_field bytes =
    let w = fields_are_cut Before bytes in
    let parts : fields_of (Some bytes) ≡ with_piece (piece_of (trimmed w.0)) (all_some (map (λ part. piece_of (trimmed part)) w.1)) =
    ap (λ t. all_some (map (λ part. piece_of (trimmed part)) t)) (cut_fields_is bytes ∙ w.2)
    ∙ first_added (piece_of (trimmed w.0)) (map (λ part. piece_of (trimmed part)) w.1) in
    rw parts (added_field (piece_of (trimmed w.0)) (all_some (map (λ part. piece_of (trimmed part)) w.1)))

-- one more field of a crowd
crowd_one : (kind : FieldKind) (p : Piece) (after : Option (List ℕ)) →
    crowd_of kind (with_piece (Some p) (fields_of after))
    ≡ (if (if is_none after then may_end kind p else may_stand kind p) then crowd_of kind (fields_of after) else kinds.Field)
crowd_one kind p None =
    let Goal : Bool → Type 0 = λ t. (if t then kinds.Count else kinds.Field) ≡ (if t then kinds.Count else kinds.Field) in
    let both : (t : Bool) → Goal t = λ t. refl in both (may_end kind p)
crowd_one kind p (Some bytes) = elim (some_field bytes) [
  | inl e ↦ rw e (by_test (may_stand kind p))
  | inr w ↦ rw w.2 (by_tests (may_stand kind p) (all_right kind (w.0 ∷ w.1)))
] where
  by_test : (t : Bool) → kinds.Field ≡ (if t then kinds.Field else kinds.Field)
  by_test true = refl
  by_test false = refl

  by_tests : (t u : Bool) →
      (if t && u then kinds.Count else kinds.Field) ≡ (if t then (if u then kinds.Count else kinds.Field) else kinds.Field)
  by_tests true u = refl
  by_tests false u = refl

checked_ok : (kind : FieldKind) (is_last : Bool) (o : Option Piece) → checked kind is_last o ≡ Ok (tt {0}) →
    (p : Piece) × (o ≡ Some p) × ((if is_last then may_end kind p else may_stand kind p) ≡ true)
checked_ok kind is_last None e = absurd cc
checked_ok kind is_last (Some p) e = (p, refl, by_test (if is_last then may_end kind p else may_stand kind p) e) where
  by_test : (t : Bool) → (if t then Ok (tt {0}) else Err kinds.Field) ≡ Ok (tt {0}) → t ≡ true
  by_test true e = refl
  by_test false e = absurd cc

-- A right field leaves what is wrong to the others: of fields that are too many only the kind of fault is wanted, and with a right
-- one taken off the front it is the same of the rest. Which test a field has to pass depends on whether it is the last one, and it
-- is the last where nothing is left behind it (`crowd_one`). A wrong field ends the search (`crowd_ends`), for a wrong field goes
-- before a wrong number.
pub crowd_goes_on : (kind : FieldKind) (whole : TextKind) (left after : Option (List ℕ)) (bytes : List ℕ) (o : Option Piece) (last : Bool)
    → whole ≡ crowd_of kind (fields_of left) → left ≡ Some bytes → fields_of (Some bytes) ≡ with_piece o (fields_of after) →
    last ≡ is_none after → checked kind last o ≡ Ok (tt {0})
    → whole ≡ crowd_of kind (fields_of after)
crowd_goes_on kind whole left after bytes o last all is cut l ok =
    let w = checked_ok kind last o ok in
    let right : (if is_none after then may_end kind w.0 else may_stand kind w.0) ≡ true =
    ap (λ t. if t then may_end kind w.0 else may_stand kind w.0) (sym l) ∙ w.2 in
    all ∙ ap (λ t. crowd_of kind (fields_of t)) is ∙ ap (crowd_of kind) (cut ∙ ap (λ t. with_piece t (fields_of after)) w.1)
    ∙ crowd_one kind w.0 after ∙ ap (λ t. if t then crowd_of kind (fields_of after) else kinds.Field) right

checked_fault : (kind : FieldKind) (fault : TextKind) (last : Bool) (after : Option (List ℕ)) (o : Option Piece) → last ≡ is_none after →
    checked kind last o ≡ Err fault → crowd_of kind (with_piece o (fields_of after)) ≡ fault
checked_fault kind fault last after None l bad = cc
checked_fault kind fault last after (Some p) l bad =
    crowd_one kind p after ∙ ap (λ u. if (if u then may_end kind p else may_stand kind p) then crowd_of kind (fields_of after) else
    kinds.Field) (sym l) ∙ by_test (if last then may_end kind p else may_stand kind p) bad where
      by_test : (t : Bool) → (if t then Ok (tt {0}) else Err kinds.Field) ≡ Err fault →
          (if t then crowd_of kind (fields_of after) else kinds.Field) ≡ fault
      by_test true e = absurd cc
      by_test false e = cc

pub crowd_ends : (kind : FieldKind) (whole : TextKind) (left after : Option (List ℕ)) (bytes : List ℕ) (o : Option Piece)
    (last : Bool) (fault : TextKind)
    → whole ≡ crowd_of kind (fields_of left) → left ≡ Some bytes → fields_of (Some bytes) ≡ with_piece o (fields_of after) →
    last ≡ is_none after → checked kind last o ≡ Err fault
    → whole ≡ fault
crowd_ends kind whole left after bytes o last fault all is cut l bad =
    all ∙ ap (λ t. crowd_of kind (fields_of t)) is ∙ ap (crowd_of kind) cut ∙ checked_fault kind fault last after o l bad

-- fields behind others
right_behind : (kind : FieldKind) (before : List Piece) (p : Piece) (ps : List Piece) →
    all_right kind (before ++ p ∷ ps) ≡ (list_all (may_stand kind) before && all_right kind (p ∷ ps))
right_behind kind [] p ps = refl
right_behind kind (b ∷ []) p ps = by_test (may_stand kind b) (all_right kind (p ∷ ps)) where
  by_test : (t u : Bool) → (t && u) ≡ ((t && true) && u)
  by_test true u = refl
  by_test false u = refl
right_behind kind (b ∷ c ∷ before) p ps = ap (λ t. may_stand kind b && t) (right_behind kind (c ∷ before) p ps)
    ∙ by_test (may_stand kind b) (list_all (may_stand kind) (c ∷ before)) (all_right kind (p ∷ ps)) where
      by_test : (t u v : Bool) → (t && (u && v)) ≡ ((t && u) && v)
      by_test true u v = refl
      by_test false u v = refl

abbrev failed : TextKind → Result (List Piece) TextKind
failed kind = Err kind

-- Where as many fields as may stand were kept and something follows, the answer is the kind of fault alone, and it depends on the
-- kept fields and on what is left: behind a separator stands at least one field (`some_field`), so there are too many, and whether
-- all are right is whether the kept ones are and the others are. So the code need not keep more fields than may stand, however long
-- the line is.
pub too_many : (kind : FieldKind) (most : ℕ) (whole : Option (List Piece)) (before : List Piece) (left : Option (List ℕ)) (bytes : List ℕ)
    → whole ≡ option_map (λ more. before ++ more) (fields_of left) → left ≡ Some bytes → most ≤ length before →
    few_of kind most whole ≡ Err (crowd_behind kind before (fields_of left))
too_many kind most whole before left bytes all is many = rw is (elim (some_field bytes) [
  | inl e ↦ broken e
  | inr w ↦ filled w.0 w.1 w.2
]) where
  told : whole ≡ option_map (λ more. before ++ more) (fields_of (Some bytes))
  told = all ∙ ap (λ t. option_map (λ more. before ++ more) (fields_of t)) is

  by_test : (t : Bool) → failed kinds.Field ≡ failed (if t then kinds.Field else kinds.Field)
  by_test true = refl
  by_test false = refl

  by_tests : (t u : Bool) →
      failed (if t && u then kinds.Count else kinds.Field) ≡ failed (if t then (if u then kinds.Count else kinds.Field) else kinds.Field)
  by_tests true u = refl
  by_tests false u = refl

  broken : fields_of (Some bytes) ≡ None → few_of kind most whole ≡ Err (crowd_behind kind before (fields_of (Some bytes)))
  broken e = rw (told, e) (by_test (list_all (may_stand kind) before))

  filled : (p : Piece) (ps : List Piece) → fields_of (Some bytes) ≡ Some (p ∷ ps) →
      few_of kind most whole ≡ Err (crowd_behind kind before (fields_of (Some bytes)))
  filled p ps e =
      let long : length (before ++ p ∷ ps) ≡ length before + length (p ∷ ps) = length-append before (p ∷ ps) in
      let more : nat_le (length (before ++ p ∷ ps)) most ≡ false = grind (arith, nat_tests) in
      rw (told, e, more, right_behind kind before p ps) (by_tests (list_all (may_stand kind) before) (all_right kind (p ∷ ps)))

-- one field, by its reading
pub checked_broken : (kind : FieldKind) (last : Bool) (o : Option Piece) (fault : TextKind) → field_or_fault o ≡ Err fault →
    checked kind last o ≡ Err fault
checked_broken kind last None fault e = cc
checked_broken kind last (Some p) fault e = absurd cc

pub checked_right : (kind : FieldKind) (last : Bool) (o : Option Piece) (p : Piece) → field_or_fault o ≡ Ok p → true ≡ fits kind last p →
    checked kind last o ≡ Ok (tt {0})
checked_right kind last None p e f = absurd cc
checked_right kind last (Some q) p e f = let same : q ≡ p = cc in rw (same, sym f) refl

pub checked_wrong : (kind : FieldKind) (last : Bool) (o : Option Piece) (p : Piece) → field_or_fault o ≡ Ok p → false ≡ fits kind last p →
    checked kind last o ≡ Err kinds.Field
checked_wrong kind last None p e f = absurd cc
checked_wrong kind last (Some q) p e f = let same : q ≡ p = cc in rw (same, sym f) refl

pub none_copied : {T : Type 0} (o : Option (Bor T)) (b : Bool) → is_some o ≡ not b → b ≡ is_none (option_copied o)
none_copied None true e = refl
none_copied None false e = absurd cc
none_copied (Some x) true e = absurd cc
none_copied (Some x) false e = refl

pub crowd_fails : (kind : FieldKind) (whole : TextKind) (left after : Option (List ℕ)) (bytes : List ℕ) (o : Option Piece) (last : Bool)
    (fault : TextKind) {given : Result (Unit {0}) TextKind}
    → whole ≡ crowd_of kind (fields_of left) → left ≡ Some bytes → fields_of (Some bytes) ≡ with_piece o (fields_of after) →
    last ≡ is_none after → checked kind last o ≡ given → AnswersAs (Err fault) given
    → AnswersKind fault whole
crowd_fails kind whole left after bytes o last fault all is cut l same (inl m) = inl m
crowd_fails kind whole left after bytes o last fault all is cut l same (inr w) =
    inr (crowd_ends kind whole left after bytes o last fault all is cut l (same ∙ w))

-- at the end of the fields
pub few_read : (kind : FieldKind) (most : ℕ) (whole : Option (List Piece)) (before : List Piece) (left : Option (List ℕ)) →
    whole ≡ option_map (λ more. before ++ more) (fields_of left) → left ≡ None → length before ≤ most → few_of kind most whole ≡ Ok before
few_read kind most whole before left all none l =
    let told : whole ≡ Some before = all ∙ ap (λ t. option_map (λ more. before ++ more) (fields_of t)) none ∙ ap Some (append-nil before) in
    let few : nat_le (length before) most ≡ true = grind (arith, nat_tests) in
    rw (told, few) refl

few_none : (kind : FieldKind) (most : ℕ) (whole : Option (List Piece)) (fault : TextKind) → field_or_fault whole ≡ Err fault →
    few_of kind most whole ≡ Err fault
few_none kind most None fault e = cc
few_none kind most (Some ps) fault e = absurd cc

pub few_broken : (kind : FieldKind) (most : ℕ) (whole more : Option (List Piece)) (left : Option (List ℕ)) (bytes : List ℕ)
    (o : Option Piece) (before : List Piece) (fault : TextKind)
    → whole ≡ option_map (λ pieces. before ++ pieces) (fields_of left) → left ≡ Some bytes → fields_of (Some bytes) ≡ with_piece o more →
    field_or_fault o ≡ Err fault
    → few_of kind most whole ≡ Err fault
few_broken kind most whole more left bytes o before fault all is cut bad =
    few_none kind most whole fault (broken_piece whole more left bytes o before fault all is cut bad)

-- what few fields say
pub few_some : (kind : FieldKind) (most : ℕ) (o : Option (List Piece)) (ps : List Piece) → few_of kind most o ≡ Ok ps → o ≡ Some ps
few_some kind most None ps e = absurd cc
few_some kind most (Some qs) ps e = by_test (nat_le (length qs) most) e where
  by_test : (t : Bool) → (if t then Ok qs else Err (crowd_of kind (Some qs))) ≡ Ok ps → Some qs ≡ Some ps
  by_test true e = cc
  by_test false e = absurd cc

-- what a crowd says
pub data Crowd (kind : FieldKind) (most : ℕ) (o : Option (List Piece)) (fault : TextKind) : Type 0 where
  broken : o ≡ None → fault ≡ kinds.Field → Crowd kind most o fault
  wrong : (ps : List Piece) → o ≡ Some ps → most < length ps → all_right kind ps ≡ false → fault ≡ kinds.Field → Crowd kind most o fault
  crowded : (ps : List Piece) → o ≡ Some ps → most < length ps → all_right kind ps ≡ true → fault ≡ kinds.Count → Crowd kind most o fault

pub few_fault : (kind : FieldKind) (most : ℕ) (o : Option (List Piece)) (fault : TextKind) → few_of kind most o ≡ Err fault →
    Crowd kind most o fault
few_fault kind most None fault e = broken refl cc
few_fault kind most (Some ps) fault e = by_size (nat_le (length ps) most) refl e where
  by_right : (t : Bool) → all_right kind ps ≡ t → most < length ps → failed (if t then kinds.Count else kinds.Field) ≡ failed fault →
      Crowd kind most (Some ps) fault
  by_right true r l e = crowded ps refl l r cc
  by_right false r l e = wrong ps refl l r cc

  by_size : (t : Bool) → nat_le (length ps) most ≡ t → (if t then Ok ps else Err (crowd_of kind (Some ps))) ≡ Err fault →
      Crowd kind most (Some ps) fault
  by_size true s e = absurd cc
  by_size false s e = let l : most < length ps = grind (arith, nat_tests) in by_right (all_right kind ps) refl l e

pub too_many_answer : (kind : FieldKind) (most : ℕ) (whole : Option (List Piece)) (before slice : List Piece) (left : Option (List ℕ))
    (bytes : List ℕ) (fault : TextKind)
    → whole ≡ option_map (λ more. before ++ more) (fields_of left) → left ≡ Some bytes → most ≤ length before → slice ≡ before →
    AnswersKind fault (crowd_behind kind slice (fields_of left)) → AnswersAs (Err fault) (few_of kind most whole)
too_many_answer kind most whole before slice left bytes fault all is many s (inl m) = inl m
too_many_answer kind most whole before slice left bytes fault all is many s (inr w) =
    inr (too_many kind most whole before left bytes all is many ∙ ap Err (ap (λ t. crowd_behind kind t (fields_of left)) (sym s) ∙ w))
