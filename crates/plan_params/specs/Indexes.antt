-- Inner: the indexes of the settings give what its rows give.
use Rattle.std.specs.Prelude.{ℕ, ◌==◌}
use Rattle.plan_core.specs.declared.types.Point.{Point}
use Rattle.vdv452_tables.specs.Keys.{IsIndex, point_eq}
use Rattle.plan_params.specs.declared.indexes.Indexes.{Indexes}
use Rattle.plan_params.specs.declared.rows.ParamRows.{ParamRows}
use Rattle.plan_params.specs.declared.rows.admission.Admission.{Admission}
use Rattle.plan_params.specs.declared.rows.way.Way.{Way}
use Rattle.plan_params.specs.LookUps.{admission_eq, way_key_eq, way_key_of}

pub record AreIndexes (rows : ParamRows) (indexes : Indexes) : Type 0 where
  pub lines : IsIndex (λ (a b : ℕ). a == b) (λ (row : Admission). row.line) (λ row. tt {0}) rows.admissions indexes.lines
  pub admissions : IsIndex admission_eq (λ (row : Admission). row) (λ row. tt {0}) rows.admissions indexes.admissions
  pub reliefs : IsIndex point_eq (λ (row : Point). row) (λ row. tt {0}) rows.reliefs indexes.reliefs
  pub ways : IsIndex way_key_eq way_key_of (λ (row : Way). row.time) rows.ways indexes.ways
