-- Promise: the faults of the settings, in their order.
use Rattle.std.specs.Prelude.{◌≡◌, ℕ, ◌+◌, min, not, nat_lt, ◌==◌, ◌&&◌, ◌⊎◌, List, [], ◌∷◌, ◌++◌, length, map, Option, Some, slice_index, codes}
use Rattle.std.specs.List.{flat_map}
use Rattle.vdv452_tables.specs.declared.net.Net.{Net}
use Rattle.vdv452_tables.specs.LookUps.{extra_of, has_point_on, has_type_on}
use Rattle.vdv452_rows.specs.Rows.{first, when}
use Rattle.plan_params.specs.declared.fault.ParamFault.{ParamFault}
use Rattle.plan_params.specs.declared.fault.ParamKind.{ParamKind}
use Rattle.plan_params.specs.declared.fault.ParamKind.TheVariants as kinds
use Rattle.plan_params.specs.declared.rule.Reference.{Reference}
use Rattle.plan_params.specs.declared.rule.Reference.TheVariants.{PointAt, TypeAt}
use Rattle.plan_params.specs.declared.testing.Found.{Found}
use Rattle.plan_params.specs.Rules.{Rule, all_rules}
use Rattle.plan_params.specs.Settings.{point_at}

abbrev pub fault : ParamKind → List ℕ → ℕ → ParamFault
fault kind table row = record { kind = kind; table = table; row = row }

-- a point that REC_ORT of the version lacks, a type that MENGE_FZG_TYP of the version lacks
abbrev pub reference_kinds : Net → ℕ → List ℕ → Reference → List ParamKind
reference_kinds net version row (PointAt typ nr) = when (not (has_point_on net version (point_at row typ nr))) kinds.UnknownPoint
reference_kinds net version row (TypeAt place) = when (not (has_type_on net version (slice_index row place))) kinds.UnknownType

abbrev pub row_kinds : Net → ℕ → List Reference → List ℕ → List ParamKind
row_kinds net version references row = flat_map (reference_kinds net version row) references

-- rows are counted from 1; those past the greatest number of 32 bits count as that one
abbrev pub number_of : ℕ → ℕ
number_of place = min (place + 1) 4294967295

-- row by row, from the row at `place` on
abbrev pub row_faults : Net → ℕ → Rule → ℕ → List (List ℕ) → List ParamFault
row_faults net version rule place [] = []
row_faults net version rule place (row ∷ rows) =
    map (λ kind. fault kind rule.name (number_of place)) (row_kinds net version rule.references row)
    ++ row_faults net version rule (place + 1) rows

-- of a table first the number of its rows, then row by row their references
abbrev pub table_faults : Net → ℕ → Rule → List ParamFault
table_faults net version rule =
    when (rule.is_limited && nat_lt 32 (length (extra_of net rule.name))) (fault kinds.TooMany rule.name 0)
    ++ row_faults net version rule 0 (extra_of net rule.name)

-- X_PLAN has one row
abbrev pub plan_faults : Net → List ParamFault
plan_faults net = when (not (length (extra_of net (codes "X_PLAN")) == 1)) (fault kinds.NotOne (codes "X_PLAN") 0)

-- all faults: X_PLAN, then table by table
abbrev pub param_faults : Net → ℕ → List ParamFault
param_faults net version = plan_faults net ++ flat_map (table_faults net version) all_rules

unfoldable pub first_fault : Net → ℕ → Option ParamFault
first_fault net version = first (param_faults net version)

-- running out of memory, which names no table
abbrev pub memory_fault : ParamFault
memory_fault = fault kinds.Memory [] 0

-- the fault that is found, with the name of its table
abbrev pub fault_of : Found → ParamFault
fault_of found = fault found.kind found.table.now found.row

-- running out of memory, or what is found
abbrev pub IsRefusal : Option ParamFault → ParamFault → Type 0
IsRefusal found refused = (refused ≡ memory_fault) ⊎ (found ≡ Some refused)
