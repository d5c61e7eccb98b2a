-- Inner: the numbers of a row at places among its fields.
use Rattle.std.specs.Prelude.{ℕ, ℤ, Bool, List, [], ◌∷◌, Option, map, is_some}
use Rattle.vdv451_text.specs.declared.table.Field.{Field}
use Rattle.number_tables.specs.Outlines.{number_at}
use Rattle.trip_times.specs.declared.trip.Trip.{Trip}
use Rattle.plan_params.specs.declared.rows.group.Group.{Group}
use Rattle.plan_params.specs.declared.rows.pool.Pool.{Pool}
use Rattle.day_model.specs.Facts.{DayFacts}
use Rattle.umlauf_write.specs.Reading.{Numbers, own_number}
use Rattle.plan_read.specs.declared.rows.Counts.{Counts}
use Rattle.plan_read.specs.declared.table.Pair.{Pair}
use Rattle.plan_read.specs.declared.table.Triple.{Triple}

-- whether a number is that of its row, which is counted from 0
abbrev pub is_own : ℕ → Option ℤ → Bool
is_own row number = is_some (own_number row number)

abbrev pub pair_at : Pair → List Field → List (Option ℤ)
pair_at columns row = number_at row columns.first ∷ number_at row columns.second ∷ []

abbrev pub triple_at : Triple → List Field → List (Option ℤ)
triple_at columns row = number_at row columns.first ∷ number_at row columns.second ∷ number_at row columns.third ∷ []

-- the numbers by which rows name trips, pools, groups, blocks and duties
abbrev pub known : DayFacts → Counts → Numbers
known day counts = record {
  fids = map (λ (trip : Trip). trip.fid) day.trips;
  pools = map (λ (pool : Pool). pool.number) day.params.pools;
  groups = map (λ (group : Group). group.number) day.params.groups;
  blocks = counts.blocks;
  duties = counts.duties;
}
