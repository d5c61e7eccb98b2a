-- Promise: a plan's tables stand for it.
use Rattle.std.specs.Prelude.{◌≡◌, ◌≢◌, ℕ, ◌<◌, ◌≤◌, All, AllPairs, List, length, map, Ok, IsTrue, is_some, codes}
use Rattle.plan_core.specs.Limits.{most_items}
use Rattle.plan_core.specs.declared.types.Piece.{Piece}
use Rattle.vdv451_text.specs.declared.table.Table.{Table}
use Rattle.vdv451_text.specs.Plain.{is_plain_table}
use Rattle.vdv452_rows.specs.Rows.{place_of}
use Rattle.cover_core.specs.declared.Column.{Column}
use Rattle.cover_core.specs.Cover.{Problem}
use Rattle.cover_core.specs.Plans.{HasListedColumns, IsPlan}
use Rattle.trip_times.specs.declared.trip.Trip.{Trip}
use Rattle.plan_params.specs.declared.rows.group.Group.{Group}
use Rattle.plan_params.specs.declared.rows.pool.Pool.{Pool}
use Rattle.day_model.specs.Facts.{DayFacts}
use Rattle.umlauf_write.specs.declared.answer.Answer.{Answer}
use Rattle.umlauf_write.specs.declared.text.DutyRow.{DutyRow}
use Rattle.umlauf_write.specs.declared.text.PlanText.{PlanText}
use Rattle.umlauf_write.specs.Answers.{answer_tables, group_of, piece_at}
use Rattle.umlauf_write.specs.Reading.{read_of, two}
use Rattle.umlauf_write.specs.Trips.{HasOneRow}

-- the table that the day's trips were read from: it is plain, it has the columns FRT_FID and UM_UID, and each trip of the day has one row
pub record IsTripTable (day : DayFacts) (table : Table) : Type 0 where
  pub name : table.name ≡ codes "REC_FRT"
  pub plain : IsTrue (is_plain_table table)
  pub has_fid : IsTrue (is_some (place_of (codes "FRT_FID") table.columns))
  pub has_uid : IsTrue (is_some (place_of (codes "UM_UID") table.columns))
  pub one : All (λ (trip : Trip). HasOneRow table day.kind.version trip.fid) day.trips

-- no two trips have one FRT_FID, the numbers of pools and of groups rise, and those of groups have 32 bits
pub record HaveOwnNumbers (day : DayFacts) : Type 0 where
  pub trips : AllPairs (λ (earlier later : Trip). earlier.fid ≢ later.fid) day.trips
  pub pools : AllPairs (λ (earlier later : Pool). earlier.number < later.number) day.params.pools
  pub groups : AllPairs (λ (earlier later : Group). earlier.number < later.number) day.params.groups
  pub words : All (λ (group : Group). group.number ≤ 4294967295) day.params.groups

-- a piece is of a block that is there, and its index has 32 bits
pub record IsPieceOf (blocks : ℕ) (piece : Piece) : Type 0 where
  pub first : 1 ≤ piece.block
  pub last : piece.block ≤ blocks
  pub index : piece.index ≤ 4294967295

-- a plan of blocks over the trips and pools of a day, a plan of duties over pieces of these blocks and over its groups, and four bounds
pub record IsAnswerOf (day : DayFacts) (of_blocks of_duties : Problem) (answer : Answer) : Type 0 where
  pub blocks : IsPlan of_blocks answer.blocks.columns
  pub block_lists : HasListedColumns of_blocks
  pub trips : of_blocks.items ≡ length day.trips
  pub pools : length of_blocks.caps ≡ length day.params.pools
  pub few : length answer.blocks.columns ≤ most_items
  pub duties : IsPlan of_duties answer.duties.columns
  pub duty_lists : HasListedColumns of_duties
  pub pieces : of_duties.items ≡ length answer.pieces
  pub groups : length of_duties.caps ≡ length day.params.groups
  pub parts : All (IsPieceOf (length answer.blocks.columns)) answer.pieces
  pub bounds : length answer.bounds ≡ 4

-- a block without its worth
abbrev pub without_worth : Column → Column
without_worth block = record { class = block.class; worth = 0; items = block.items }

-- a piece by its block and its index there
abbrev pub part_at : List Piece → ℕ → ℕ × ℕ
part_at pieces item = let piece = piece_at pieces item in two piece.block piece.index

-- a duty by its group's number and its pieces
abbrev pub duty_text : DayFacts → List Piece → Column → DutyRow
duty_text day pieces duty = let group = group_of day duty.class in record { group = group.number; parts = map (part_at pieces) duty.items }

-- what the tables of an answer say
abbrev pub text_of : DayFacts → Answer → PlanText
text_of day answer = record {
  blocks = record { columns = map without_worth answer.blocks.columns };
  duties = map (duty_text day answer.pieces) answer.duties.columns;
  bounds = answer.bounds;
}

-- what is written is read back
abbrev pub PlanReadsBack : Type 0
PlanReadsBack =
    (day : DayFacts) (table : Table) (answer : Answer) (of_blocks of_duties : Problem) → IsTripTable day table → HaveOwnNumbers day →
    IsAnswerOf day of_blocks of_duties answer →
    read_of day (answer_tables day table answer) ≡ Ok (text_of day answer)
