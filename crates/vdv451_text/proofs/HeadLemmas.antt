-- The head of a table: what the code finds on `tbl`, `atr` and `frm` lines is what the machine makes of them.
use Rattle.std.proofs.Common.{◌≡◌, ℕ, suc, ◌-◌, ◌≤◌, ◌≢◌, Bool, true, false, ◌&&◌, ◌==◌, nat_le, List, [], ◌∷◌, length, map, take, get_or, Option, Some, Result, Ok, Err, refl, sym, ap, ◌∙◌, arith}
use Rattle.std.specs.List.{list_all}
use Rattle.std.proofs.lemmas.Bool.Decides.{nat_tests}
use Rattle.vdv451_text.specs.declared.fault.TextKind.{TextKind}
use Rattle.vdv451_text.specs.declared.fault.TextKind.TheVariants as kinds
use Rattle.vdv451_text.specs.Answers.{AnswersAs}
use Rattle.vdv451_text.specs.Faults.{wrong_fields}
use Rattle.vdv451_text.specs.Fields.{bytes_of, is_name, is_format, is_void, without_void, at_most_one_void}
use Rattle.vdv451_text.specs.Lines.{Says, Atr, Frm, Piece, fields_of}
use Rattle.vdv451_text.specs.Machine.{capital, names_on, outcome}

-- a last field with nothing in it
pub last_dropped : (ps : List Piece) (last : Piece) → 1 ≤ length ps → last ≡ get_or ps (length ps - 1) last → is_void last ≡ true →
    take (length ps - 1) ps ≡ without_void ps
last_dropped [] last l at e = absurd (omega (arith, l))
last_dropped (p ∷ []) last l at e = let v : is_void p ≡ true = ap is_void (sym at) ∙ e in rw v refl
last_dropped (p ∷ q ∷ ps) last l at e =
    let n : length (p ∷ q ∷ ps) - 1 ≡ suc (length (q ∷ ps) - 1) = omega arith in
    ap (λ k. take k (p ∷ q ∷ ps)) n
    ∙ ap (λ t. p ∷ t) (last_dropped (q ∷ ps) last (omega arith) (at ∙ ap (λ k. get_or (p ∷ q ∷ ps) k last) n) e)

pub last_kept : (ps : List Piece) (last : Piece) → 1 ≤ length ps → last ≡ get_or ps (length ps - 1) last →
    is_void last ≡ false → ps ≡ without_void ps
last_kept [] last l at e = refl
last_kept (p ∷ []) last l at e = let v : is_void p ≡ false = ap is_void (sym at) ∙ e in rw v refl
last_kept (p ∷ q ∷ ps) last l at e =
    let n : length (p ∷ q ∷ ps) - 1 ≡ suc (length (q ∷ ps) - 1) = omega arith in
    ap (λ t. p ∷ t) (last_kept (q ∷ ps) last (omega arith) (at ∙ ap (λ k. get_or (p ∷ q ∷ ps) k last) n) e)

abbrev all_names : List Piece → Bool
all_names ps = list_all (λ p. is_name (bytes_of p)) ps

abbrev all_formats : List Piece → Bool
all_formats ps = list_all (λ p. is_format (bytes_of p)) ps

-- `atr`: the code drops a last field with nothing in it by taking a slice (`last_dropped`, `last_kept`), tests the names left and
-- then their number, in the order of the definition. So each of its ends, a wrong name, a wrong number or the names, is what the
-- machine makes of the line; each has a lemma. `frm` has those of the two wrong ends, with the number of columns in the place of 1
-- to 200.
pub atr_field : {A : Type 0} (rest : Option (List ℕ)) (ps slice kept : List Piece) (x : A) → fields_of rest ≡ Some ps → slice ≡ ps →
    kept ≡ without_void slice → false ≡ all_names kept
    → outcome (wrong_fields 0 0 0 (Says Atr rest) (fields_of rest)) x ≡ Err kinds.Field
atr_field rest ps slice kept x ok s k e =
    let names : all_names (without_void ps) ≡ false = sym (e ∙ ap all_names k ∙ ap (λ t. all_names (without_void t)) s) in
    rw (ok, names) refl

pub atr_count : {A : Type 0} (rest : Option (List ℕ)) (ps slice kept : List Piece) (x : A) → fields_of rest ≡ Some ps → slice ≡ ps →
    kept ≡ without_void slice → true ≡ all_names kept → false ≡ (nat_le 1 (length kept) && nat_le (length kept) 200)
    → outcome (wrong_fields 0 0 0 (Says Atr rest) (fields_of rest)) x ≡ Err kinds.Count
atr_count rest ps slice kept x ok s k e n =
    let same : kept ≡ without_void ps = k ∙ ap without_void s in
    let names : all_names (without_void ps) ≡ true = sym (e ∙ ap all_names same) in
    let number : (nat_le 1 (length (without_void ps)) && nat_le (length (without_void ps)) 200) ≡ false =
    sym (n ∙ ap (λ t. nat_le 1 (length t) && nat_le (length t) 200) same) in
    rw (ok, names, number) refl

pub atr_names : (rest : Option (List ℕ)) (ps slice kept : List Piece) (answer : Result (List (List ℕ)) TextKind) →
    fields_of rest ≡ Some ps → slice ≡ ps → kept ≡ without_void slice → true ≡ all_names kept →
    true ≡ (nat_le 1 (length kept) && nat_le (length kept) 200)
    → AnswersAs answer (Ok (map capital kept)) →
    AnswersAs answer (outcome (wrong_fields 0 0 0 (Says Atr rest) (fields_of rest)) (names_on (Says Atr rest)))
atr_names rest ps slice kept answer ok s k e n w =
    let same : kept ≡ without_void ps = k ∙ ap without_void s in
    let names : all_names (without_void ps) ≡ true = sym (e ∙ ap all_names same) in
    let number : (nat_le 1 (length (without_void ps)) && nat_le (length (without_void ps)) 200) ≡ true =
    sym (n ∙ ap (λ t. nat_le 1 (length t) && nat_le (length t) 200) same) in
    let done : AnswersAs answer (Ok (map capital (without_void ps))) = rw (← same) w in
    rw (ok, names, number) done

-- `frm`
pub frm_field : {A : Type 0} (c : ℕ) (rest : Option (List ℕ)) (ps slice kept : List Piece) (x : A) → fields_of rest ≡ Some ps → slice ≡ ps →
    kept ≡ at_most_one_void c slice → false ≡ all_formats kept
    → outcome (wrong_fields c 0 0 (Says Frm rest) (fields_of rest)) x ≡ Err kinds.Field
frm_field c rest ps slice kept x ok s k e =
    let formats : all_formats (at_most_one_void c ps) ≡ false = sym (e ∙ ap all_formats (k ∙ ap (at_most_one_void c) s)) in
    rw (ok, formats) refl

pub frm_count : {A : Type 0} (c : ℕ) (rest : Option (List ℕ)) (ps slice kept : List Piece) (x : A) → fields_of rest ≡ Some ps → slice ≡ ps →
    kept ≡ at_most_one_void c slice → true ≡ all_formats kept → length kept ≢ c
    → outcome (wrong_fields c 0 0 (Says Frm rest) (fields_of rest)) x ≡ Err kinds.Count
frm_count c rest ps slice kept x ok s k e n =
    let same : kept ≡ at_most_one_void c ps = k ∙ ap (at_most_one_void c) s in
    let formats : all_formats (at_most_one_void c ps) ≡ true = sym (e ∙ ap all_formats same) in
    let other : (length kept == c) ≡ false = grind (arith, nat_tests) in
    let number : (length (at_most_one_void c ps) == c) ≡ false = ap (λ t. length t == c) (sym same) ∙ other in
    rw (ok, formats, number) refl
