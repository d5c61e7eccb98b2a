-- The first fault of a list of faults.
use Rattle.std.proofs.Common.{get_or, drop, add-one, drop-cons, is_some, ◌≡◌, ◌≢◌, ℕ, ◌+◌, ◌<◌, ◌≤◌, ◌&&◌, inl, inr, Bool, true, false, not, nat_lt, ◌==◌, List, [], ◌∷◌, ◌++◌, Option, Some, None, length, map, refl, sym, ap, subst, ◌∙◌, arith, codes, slice_index}
use Rattle.std.proofs.lemmas.Bool.Decides.{nat_tests}
use Rattle.std.specs.List.{flat_map}
use Rattle.std.specs.Option.{option_map}
use Rattle.vdv452_tables.specs.declared.net.Net.{Net}
use Rattle.vdv452_tables.specs.LookUps.{extra_of, has_point_on, has_type_on}
use Rattle.vdv452_rows.specs.Rows.{first, when}
use Rattle.plan_params.specs.declared.fault.ParamFault.{ParamFault}
use Rattle.plan_params.specs.declared.fault.ParamKind.{ParamKind}
use Rattle.plan_params.specs.declared.fault.ParamKind.TheVariants as kinds
use Rattle.plan_params.specs.declared.rule.Reference.{Reference}
use Rattle.plan_params.specs.declared.rule.Reference.TheVariants.{PointAt, TypeAt}
use Rattle.plan_params.specs.declared.rule.TableRule.{TableRule}
use Rattle.plan_params.specs.declared.testing.Found.{Found}
use Rattle.plan_params.specs.Faults.{IsRefusal, fault, fault_of, first_fault, memory_fault, number_of, param_faults, plan_faults, reference_kinds, row_faults, row_kinds, table_faults}
use Rattle.plan_params.specs.Rules.{Rule, all_rules, depots, drivers, line_types, reliefs, rule_of, ways}
use Rattle.plan_params.specs.Settings.{point_at}

pub first_later : {A : Type 0} (xs ys : List A) → first xs ≡ None → first (xs ++ ys) ≡ first ys
first_later [] ys none = refl
first_later (x ∷ xs) ys none = absurd cc

pub first_front : {A : Type 0} (xs ys : List A) (x : A) → first xs ≡ Some x → first (xs ++ ys) ≡ Some x
first_front [] ys x found = absurd cc
first_front (y ∷ xs) ys x found = found

first_map : {A B : Type 0} (f : A → B) (xs : List A) (found : Option A) → first xs ≡ found → first (map f xs) ≡ option_map f found
first_map f [] found is = ap (option_map f) is
first_map f (x ∷ xs) found is = ap (option_map f) is

-- The first fault of a row is that of its table, from this row on: the faults of a table are those of its rows, one after another,
-- and of a row the first is told with the row's number. With `row_passed`, by which a row without a fault leaves the first fault to
-- the rows behind it, the loop over rows keeps "the first fault of what is left is the first of all", and may stop at the first
-- that it meets.
pub row_first : (net : Net) (version : ℕ) (rule : Rule) (place : ℕ) (row : List ℕ) (rows rest : List (List ℕ)) (kind : ParamKind) →
    rows ≡ row ∷ rest → first (row_kinds net version rule.references row) ≡ Some kind
    → first (row_faults net version rule place rows) ≡ Some (fault kind rule.name (number_of place))
row_first net version rule place row rows rest kind at found =
    ap (λ rs. first (row_faults net version rule place rs)) at
    ∙ first_front (map (λ k. fault k rule.name (number_of place)) (row_kinds net version rule.references row))
    (row_faults net version rule (place + 1) rest) (fault kind rule.name (number_of place))
    (first_map (λ k. fault k rule.name (number_of place)) (row_kinds net version rule.references row) (Some kind) found)

pub row_passed : (net : Net) (version : ℕ) (rule : Rule) (place : ℕ) (row : List ℕ) (rows rest : List (List ℕ)) → rows ≡ row ∷ rest →
    first (row_kinds net version rule.references row) ≡ None
    → first (row_faults net version rule place rows) ≡ first (row_faults net version rule (place + 1) rest)
row_passed net version rule place row rows rest at none =
    ap (λ rs. first (row_faults net version rule place rs)) at
    ∙ first_later (map (λ k. fault k rule.name (number_of place)) (row_kinds net version rule.references row))
    (row_faults net version rule (place + 1) rest)
    (first_map (λ k. fault k rule.name (number_of place)) (row_kinds net version rule.references row) None none)

module _ (faults : Rule → List ParamFault) (rules : List TableRule) (i : ℕ) (rule : TableRule) (found : Option Found)
    (whole : Option ParamFault)
    (within : i < length rules) (is : option_map fault_of found ≡ first (faults (rule_of (get_or rules i rule))))
    (so_far : first (flat_map faults (map rule_of (drop i rules))) ≡ whole) where
  here : List ParamFault
  here = faults (rule_of (get_or rules i rule))

  rest : List ParamFault
  rest = flat_map faults (map rule_of (drop (i + 1) rules))

  split : first (here ++ rest) ≡ whole
  unfolding here rest
  split =
      let at : drop i rules ≡ get_or rules i rule ∷ drop (i + 1) rules = rw add-one (drop-cons rules i rule within) in
      ap (λ rs. first (flat_map faults (map rule_of rs))) (sym at) ∙ so_far

  -- The first fault of a table is that of all tables from it on, and one without a fault leaves the first to those behind it
  -- (`rule_passed`). The invariant of the loop over tables is the same as that over rows: nothing is wrong so far. What is found is
  -- told with its table's name, so the fault that is answered is the first of the definition's list.
  pub rule_first : true ≡ is_some found → option_map fault_of found ≡ whole
  unfolding here rest
  rule_first some = by found some is ∙ split
    where
      by : (o : Option Found) → true ≡ is_some o → option_map fault_of o ≡ first here → option_map fault_of o ≡ first (here ++ rest)
      by None some is = absurd cc
      by (Some one) some is = sym (first_front here rest (fault_of one) (sym is))

  pub rule_passed : false ≡ is_some found → first (flat_map faults (map rule_of (drop (i + 1) rules))) ≡ whole
  unfolding here rest
  rule_passed none = sym (by found none is) ∙ split
    where
      by : (o : Option Found) → false ≡ is_some o → option_map fault_of o ≡ first here → first (here ++ rest) ≡ first rest
      by None none is = first_later here rest (sym is)
      by (Some one) none is = absurd cc

-- Where nothing is wrong, the limits are kept.
none_first : {A : Type 0} (xs : List A) → first xs ≡ None → xs ≡ []
none_first [] none = refl
none_first (x ∷ xs) none = absurd cc

front_empty : {A : Type 0} (xs ys : List A) → xs ++ ys ≡ [] → xs ≡ []
front_empty [] ys none = refl
front_empty (x ∷ xs) ys none = absurd cc

rest_empty : {A : Type 0} (xs ys : List A) → xs ++ ys ≡ [] → ys ≡ []
rest_empty [] ys none = none
rest_empty (x ∷ xs) ys none = absurd cc

not_when : {A : Type 0} (b : Bool) (x : A) → when b x ≡ [] → b ≡ false
not_when true x none = absurd cc
not_when false x none = refl

few_from : (n : ℕ) → nat_lt 32 n ≡ false → n ≤ 32
few_from n e = grind (arith, nat_tests)

-- Where nothing is wrong with a limited table, it has at most 32 rows: the fault for more would stand at the head of the table's
-- faults, which are none. So at most 32 pools and 32 groups are promised of all settings that are read without a fault
-- (`few_pools`, `few_groups`).
limit_kept : (net : Net) (version : ℕ) (rule : Rule) → rule.is_limited ≡ true → table_faults net version rule ≡ [] →
    length (extra_of net rule.name) ≤ 32
limit_kept net version rule limited none =
    let n : ℕ = length (extra_of net rule.name) in
    few_from n (ap (λ b. b && nat_lt 32 n) (sym limited)
    ∙ not_when (rule.is_limited && nat_lt 32 n) (fault kinds.TooMany rule.name 0)
    (front_empty _ (row_faults net version rule 0 (extra_of net rule.name)) none))

module _ (net : Net) (version : ℕ) (none : first_fault net version ≡ None) where
  tables_right : flat_map (table_faults net version) all_rules ≡ []
  unfolding first_fault
  tables_right = rest_empty (plan_faults net) _ (none_first (param_faults net version) none)

  pub few_pools : length (extra_of net (codes "X_HOF")) ≤ 32
  few_pools = limit_kept net version depots refl (front_empty (table_faults net version depots) _ tables_right)

  pub few_groups : length (extra_of net (codes "X_FAHRER")) ≤ 32
  few_groups =
      limit_kept net version drivers refl
      (front_empty (table_faults net version drivers) []
      (rest_empty (table_faults net version ways) _ (rest_empty
      (table_faults net version reliefs) _ (rest_empty
      (table_faults net version line_types) _ (rest_empty (table_faults net version depots) _ tables_right)))))

-- No fault of the tables is running out of memory.
abbrev Each : {A : Type 0} → (A → Type 0) → List A → Type 0
Each P [] = Unit {0}
Each P (x ∷ xs) = P x × Each P xs

each_append : {A : Type 0} (P : A → Type 0) (xs ys : List A) → Each P xs → Each P ys → Each P (xs ++ ys)
each_append P [] ys front rest = rest
each_append P (x ∷ xs) ys front rest = (front.0, each_append P xs ys front.1 rest)

each_when : {A : Type 0} (P : A → Type 0) (b : Bool) (x : A) → P x → Each P (when b x)
each_when P true x holds = (holds, tt)
each_when P false x holds = tt

each_first : {A : Type 0} (P : A → Type 0) (xs : List A) (x : A) → Each P xs → first xs ≡ Some x → P x
each_first P [] x each found = absurd cc
each_first P (y ∷ xs) x each found = let same : y ≡ x = cc in subst P same each.0

abbrev IsRead : ParamKind → Type 0
IsRead kind = kind ≢ kinds.Memory

abbrev IsReadFault : ParamFault → Type 0
IsReadFault found = found.kind ≢ kinds.Memory

each_kind : (table : List ℕ) (row : ℕ) (found : List ParamKind) → Each IsRead found →
    Each IsReadFault (map (λ kind. fault kind table row) found)
each_kind table row [] each = tt
each_kind table row (kind ∷ found) each = (each.0, each_kind table row found each.1)

module _ (net : Net) (version : ℕ) where
  reference_read : (row : List ℕ) (reference : Reference) → Each IsRead (reference_kinds net version row reference)
  reference_read row (PointAt typ nr) = each_when IsRead (not (has_point_on net version (point_at row typ nr))) kinds.UnknownPoint (λ e. cc)
  reference_read row (TypeAt place) = each_when IsRead (not (has_type_on net version (slice_index row place))) kinds.UnknownType (λ e. cc)

  row_read : (row : List ℕ) (references : List Reference) → Each IsRead (row_kinds net version references row)
  row_read row [] = tt
  row_read row (reference ∷ references) =
      each_append IsRead (reference_kinds net version row reference) (row_kinds net version references row) (reference_read row reference)
      (row_read row references)

  rows_read : (rule : Rule) (place : ℕ) (rows : List (List ℕ)) → Each IsReadFault (row_faults net version rule place rows)
  rows_read rule place [] = tt
  rows_read rule place (row ∷ rows) =
      each_append IsReadFault (map (λ kind. fault kind rule.name (number_of place)) (row_kinds net version rule.references row))
      (row_faults net version rule (place + 1) rows)
      (each_kind rule.name (number_of place) (row_kinds net version rule.references row) (row_read row rule.references))
      (rows_read rule (place + 1) rows)

  table_read : (rule : Rule) → Each IsReadFault (table_faults net version rule)
  table_read rule = each_append IsReadFault _ (row_faults net version rule 0 (extra_of net rule.name))
      (each_when IsReadFault (rule.is_limited && nat_lt 32 (length (extra_of net rule.name))) (fault kinds.TooMany rule.name 0) (λ e. cc))
      (rows_read rule 0 (extra_of net rule.name))

  tables_read : (rules : List Rule) → Each IsReadFault (flat_map (table_faults net version) rules)
  tables_read [] = tt
  tables_read (rule ∷ rules) =
      each_append IsReadFault (table_faults net version rule) (flat_map (table_faults net version) rules)
      (table_read rule) (tables_read rules)

  -- A fault of the tables is never that memory ran out: by going through the list of faults as it is put together, reference by
  -- reference, row by row and table by table, none of which has that kind. So where the answer is out of memory it is not one of
  -- the tables' faults, and where it is a fault it is their first (`memory_is`).
  pub is_read : (found : ParamFault) → first_fault net version ≡ Some found → found.kind ≢ kinds.Memory
  unfolding first_fault
  is_read found is =
      each_first IsReadFault (param_faults net version) found
      (each_append IsReadFault (plan_faults net) (flat_map (table_faults net version) all_rules)
      (each_when IsReadFault (not (length (extra_of net (codes "X_PLAN")) == 1)) (fault kinds.NotOne (codes "X_PLAN") 0) (λ e. cc))
      (tables_read all_rules)) is

  pub memory_is : (found refused : ParamFault) → first_fault net version ≡ Some found → IsRefusal (Some found) refused →
      refused.kind ≡ kinds.Memory → refused ≡ memory_fault
  memory_is found refused is (inl memory) want = memory
  memory_is found refused is (inr same) want = absurd (is_read refused (is ∙ same) want)
