-- The tables of several files in one list.
use Rattle.std.proofs.Common.{◌≡◌, List, [], ◌∷◌, ◌++◌, All, IsTrue, true, ◌∙◌, refl}
use Rattle.std.proofs.lemmas.List.Elements.{All-append, All-nil, recursion_from_All}
use Rattle.std.proofs.lemmas.List.Folds.{list_all-append}
use Rattle.std.specs.List.{AllByRecursion}
use Rattle.std.proofs.lemmas.Bool.{and_from}
use Rattle.vdv451_text.specs.declared.table.Table.{Table}
use Rattle.vdv451_text.specs.Plain.{are_plain, is_plain_table}
use Rattle.input_files.specs.Parts.{joined}

-- plain tables behind plain tables
plain_both : (xs ys : List Table) → are_plain xs ≡ true → are_plain ys ≡ true → are_plain (xs ++ ys) ≡ true
plain_both xs ys p q = list_all-append is_plain_table xs ys ∙ and_from (are_plain xs) (are_plain ys) p q

each_plain : (parts : List (List Table)) → AllByRecursion (λ tables. IsTrue (are_plain tables)) parts → IsTrue (are_plain (joined parts))
each_plain [] each = refl
each_plain (part ∷ parts) each = plain_both part (joined parts) each.0 (each_plain parts each.1)

-- the tables of files with plain tables alone are plain
pub plain_joined : (parts : List (List Table)) → All (λ tables. IsTrue (are_plain tables)) parts → IsTrue (are_plain (joined parts))
plain_joined parts all = each_plain parts (recursion_from_All (λ tables. IsTrue (are_plain tables)) parts all)

each_joined : (P : Table → Type 0) (parts : List (List Table)) → AllByRecursion (λ tables. All P tables) parts → All P (joined parts)
each_joined P [] each = All-nil P
each_joined P (part ∷ parts) each = All-append P part (joined parts) each.0 (each_joined P parts each.1)

-- what holds of each table of each file holds of each of all tables
pub all_joined : (P : Table → Type 0) (parts : List (List Table)) → All (λ tables. All P tables) parts → All P (joined parts)
all_joined P parts all = each_joined P parts (recursion_from_All (λ tables. All P tables) parts all)
