-- Promise: what is tested in the tables of this project.
use Rattle.std.specs.Prelude.{ℕ, Bool, true, false, List, [], ◌∷◌, codes}
use Rattle.vdv452_rows.specs.declared.schema.Schema.{Schema}
use Rattle.vdv452_rows.specs.Schema as schema
use Rattle.vdv452_rows.specs.Values.{schema_place}
use Rattle.plan_params.specs.declared.rule.Reference.{Reference}
use Rattle.plan_params.specs.declared.rule.Reference.TheVariants.{PointAt, TypeAt}
use Rattle.plan_params.specs.declared.rule.TableRule.{TableRule}

-- a table's name, whether it may have only 32 rows, and the columns of its rows that hold points and types, in their order
pub record Rule : Type 0 where
  pub name : List ℕ
  pub is_limited : Bool
  pub references : List Reference

abbrev pub rule_of : TableRule → Rule
rule_of rule = record { name = rule.name.now; is_limited = rule.is_limited; references = rule.references.now }

-- the columns of these names hold the type and the number of a point
abbrev pub point_in : Schema → List ℕ → List ℕ → Reference
point_in table typ nr = PointAt (schema_place table typ) (schema_place table nr)

-- the column of this name holds a type of vehicles
abbrev pub type_in : Schema → List ℕ → Reference
type_in table typ = TypeAt (schema_place table typ)

abbrev pub depots : Rule
depots = record {
  name = codes "X_HOF";
  is_limited = true;
  references = point_in schema.depots (codes "ONR_TYP_NR") (codes "ORT_NR") ∷ type_in schema.depots (codes "FZG_TYP_NR") ∷ [];
}

abbrev pub line_types : Rule
line_types = record {
  name = codes "X_LINIE_FZG";
  is_limited = false;
  references = type_in schema.line_types (codes "FZG_TYP_NR") ∷ [];
}

abbrev pub reliefs : Rule
reliefs = record {
  name = codes "X_ABLOESE";
  is_limited = false;
  references = point_in schema.reliefs (codes "ONR_TYP_NR") (codes "ORT_NR") ∷ [];
}

abbrev pub ways : Rule
ways = record {
  name = codes "X_WEG";
  is_limited = false;
  references =
      point_in schema.ways (codes "ONR_TYP_NR") (codes "ORT_NR")
      ∷ point_in schema.ways (codes "ZIEL_TYP") (codes "ZIEL_NR") ∷ [];
}

abbrev pub drivers : Rule
drivers = record {
  name = codes "X_FAHRER";
  is_limited = true;
  references = point_in schema.drivers (codes "ONR_TYP_NR") (codes "ORT_NR") ∷ [];
}

-- in the order of their faults
abbrev pub all_rules : List Rule
all_rules = depots ∷ line_types ∷ reliefs ∷ ways ∷ drivers ∷ []
