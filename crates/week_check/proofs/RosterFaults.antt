-- A step that gives up at an initial part of the faults gives up at the first of all. The first item that fails a test makes the first
-- fault, and where none fails it there is no fault.
use Rattle.std.proofs.Common.{◌≡◌, ℕ, ◌+◌, ◌<◌, Bool, true, false, if◌then◌else◌, List, [], ◌∷◌, ◌++◌, length, get_or, drop, Option, Some, None, refl, sym, ap, subst, ◌∙◌}
use Rattle.std.specs.List.{find, flat_map, list_any}
use Rattle.vdv452_rows.specs.declared.fault.TableFault.{TableFault}
use Rattle.vdv452_rows.specs.declared.fault.TableKind.TheVariants.{KeyTwice}
use Rattle.vdv452_rows.specs.Rows.{fault, first, when}
use Rattle.week_check.specs.declared.entry.DriverDay.{DriverDay}
use Rattle.week_check.specs.declared.fault.RosterFault.{RosterFault}
use Rattle.week_check.specs.declared.fault.RosterFault.TheVariants.{Table, Days, Memory}
use Rattle.week_check.specs.declared.column.RosterColumn.{RosterColumn}
use Rattle.week_check.specs.Roster.{RowFields, columns, entry_of, key_fault, key_of, roster_name, row_fault, row_faults, same_key, value_faults}
use Rattle.week_check.specs.RosterAnswers.{IsFirstOf}
use Rattle.week_check.proofs.Adding.{rest_at}
use Rattle.week_check.proofs.Entries.{find_split}

-- Reading gives up at the first thing that is wrong in what it has gone over; what is wrong behind cannot come before it. With
-- `refused_after`, for steps that find nothing wrong, each step only has to tell the first of its own faults.
pub refused_front : (front rest : List TableFault) (r : RosterFault) → IsFirstOf front r → IsFirstOf (front ++ rest) r
refused_front front rest Memory given = tt
refused_front front rest (Days a b) given = given
refused_front [] rest (Table fault) given = absurd cc
refused_front (x ∷ front) rest (Table fault) given = given

pub refused_same : (faults all : List TableFault) (r : RosterFault) → faults ≡ all → IsFirstOf faults r → IsFirstOf all r
refused_same faults all r same given = subst (λ fs. IsFirstOf fs r) same given

-- where nothing is wrong before
pub refused_after : (front rest : List TableFault) (r : RosterFault) → front ≡ [] → IsFirstOf rest r → IsFirstOf (front ++ rest) r
refused_after front rest r none given = subst (λ fs. IsFirstOf (fs ++ rest) r) (sym none) given

pub refused_at : (faults : List TableFault) (x : TableFault) (r : RosterFault) → first faults ≡ Some x →
    IsFirstOf (x ∷ []) r → IsFirstOf faults r
refused_at faults x Memory e given = tt
refused_at faults x (Days a b) e given = given
refused_at faults x (Table fault) e given = e ∙ given

module _ {X : Type 0} (fails : X → Bool) (fault_at : X → TableFault) where
  pub none_faulty : (xs : List X) → find fails xs ≡ None → flat_map (λ x. when (fails x) (fault_at x)) xs ≡ []
  none_faulty [] e = refl
  none_faulty (x ∷ xs) e =
      let parts = find_split x (find fails xs) (fails x) e in
      ap (λ b. when b (fault_at x) ++ flat_map (λ x. when (fails x) (fault_at x)) xs) parts.0 ∙ none_faulty xs parts.1

  pub first_faulty : (xs : List X) (y : X) → find fails xs ≡ Some y →
      first (flat_map (λ x. when (fails x) (fault_at x)) xs) ≡ Some (fault_at y)
  first_faulty [] y e = absurd cc
  first_faulty (x ∷ xs) y e = by (fails x) e (λ found. first_faulty xs y found)
    where
      rest : List TableFault
      rest = flat_map (λ x. when (fails x) (fault_at x)) xs

      by : (b : Bool) → (if b then Some x else find fails xs) ≡ Some y → (find fails xs ≡ Some y → first rest ≡ Some (fault_at y)) →
          first (when b (fault_at x) ++ rest) ≡ Some (fault_at y)
      by true found later = let same : x ≡ y = cc in ap (λ z. Some (fault_at z)) same
      by false found later = later found

-- one row more
pub row_right : (number : ℕ) (before : List DriverDay) (fields : RowFields) → value_faults number fields ≡ [] →
    list_any (same_key (key_of (entry_of fields))) before ≡ false → row_fault number before fields ≡ []
row_right number before fields right new =
    ap (λ fs. fs ++ key_fault number before (key_of (entry_of fields))) right ∙ ap (λ b. when b (fault KeyTwice roster_name [] number)) new

pub row_twice : (number : ℕ) (before : List DriverDay) (fields : RowFields) (r : RosterFault) → value_faults number fields ≡ [] →
    list_any (same_key (key_of (entry_of fields))) before ≡ true
    → IsFirstOf (fault KeyTwice roster_name [] number ∷ []) r → IsFirstOf (row_fault number before fields) r
row_twice number before fields r right twice given =
    refused_after (value_faults number fields) (key_fault number before (key_of (entry_of fields))) r right
    (subst (λ b. IsFirstOf (when b (fault KeyTwice roster_name [] number)) r) (sym twice) given)

module _ (at : List RowFields) (fields : RowFields) (later : List RowFields) (is : at ≡ fields ∷ later) (number : ℕ)
    (before : List DriverDay) (whole : List TableFault)
    (so_far : row_faults number before at ≡ whole) where
  parts : row_fault number before fields ++ row_faults (number + 1) (before ++ key_of (entry_of fields) ∷ []) later ≡ whole
  parts = ap (row_faults number before) (sym is) ∙ so_far

  pub row_refused : (r : RosterFault) → IsFirstOf (row_fault number before fields) r → IsFirstOf whole r
  row_refused r given = refused_same _ whole r parts
      (refused_front _ (row_faults (number + 1) (before ++ key_of (entry_of fields) ∷ []) later) r given)

  pub row_step : (after : List DriverDay) → row_fault number before fields ≡ [] → after ≡ before ++ key_of (entry_of fields) ∷ [] →
      row_faults (number + 1) after later ≡ whole
  row_step after right keys =
      ap (λ ks. row_faults (number + 1) ks later) keys
      ∙ ap (λ fs. fs ++ row_faults (number + 1) (before ++ key_of (entry_of fields) ∷ []) later) (sym right)
      ∙ parts

-- one column more
pub column_step : (test : RosterColumn → Bool) (i : ℕ) (column : RosterColumn) (whole : Option RosterColumn) → i < length columns →
    column ≡ get_or columns i column → test column ≡ false
    → find test (drop i columns) ≡ whole → find test (drop (i + 1) columns) ≡ whole
column_step test i column whole within is passes so_far =
    ap (λ b. if b then Some column else find test (drop (i + 1) columns)) (sym passes)
    ∙ ap (λ cs. find test cs) (sym (rest_at columns i column within is)) ∙ so_far
