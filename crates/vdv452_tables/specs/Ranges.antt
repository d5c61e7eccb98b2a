-- Promise: the ranges of the values in the rows of a network.
use Rattle.std.specs.Prelude.{◌≡◌, ◌≤◌, ◌<◌, ◌^◌, ℕ, List, [], Option, Some, None, All, IfSome, length, slice_get, slice_index, if◌then◌else◌, codes}
use Rattle.std.specs.Str.{bytes_eq}
use Rattle.vdv452_tables.specs.declared.net.Net.{Net}
use Rattle.vdv452_rows.specs.declared.schema.Column.{Column}
use Rattle.vdv452_rows.specs.declared.schema.Domain.{Domain}
use Rattle.vdv452_rows.specs.declared.schema.Domain.TheVariants.{UpTo, LongUpTo, AnyWord, Unseen}
use Rattle.vdv452_rows.specs.Schema as schema

-- seconds of the operating day, up to two days
abbrev pub IsTime : ℕ → Type 0
IsTime seconds = seconds ≤ 172800

-- the length of a section in metres
abbrev pub IsLength : ℕ → Type 0
IsLength metres = metres ≤ 1000000

-- the greatest number of a domain
abbrev pub greatest_in : Domain → ℕ
greatest_in (UpTo most) = most
greatest_in (LongUpTo most) = most
greatest_in AnyWord = 0
greatest_in Unseen = 0

abbrev pub greatest_of : Option Column → ℕ
greatest_of None = 0
greatest_of (Some column) = greatest_in column.domain

-- the greatest number of the column at a place, from 0
abbrev pub greatest_at : List Column → ℕ → ℕ
greatest_at columns place = greatest_of (slice_get columns place)

-- a row has a number for each column, none above the greatest one of its column
pub record Fits (columns : List Column) (row : List ℕ) : Type 0 where
  pub width : length row ≡ length columns
  pub within : (place : ℕ) → place < length row → slice_index row place ≤ greatest_at columns place

-- the columns of a table of this project by its name, none for any other name
abbrev pub columns_named : List ℕ → List Column
columns_named table =
    if bytes_eq table (codes "X_PLAN") then schema.plan.columns else
    (if bytes_eq table (codes "X_HOF") then schema.depots.columns else
    (if bytes_eq table (codes "X_LINIE_FZG") then schema.line_types.columns else
    (if bytes_eq table (codes "X_ABLOESE") then schema.reliefs.columns else
    (if bytes_eq table (codes "X_WEG") then schema.ways.columns else
    (if bytes_eq table (codes "X_FAHRER") then schema.drivers.columns else [])))))

-- what holds of the rows of every network
pub record HasRanges (net : Net) : Type 0 where
  pub few_trips : length net.trips < 2 ^ 32
  pub few_stops : length net.stops < 2 ^ 32
  pub starts : All (λ row. IsTime row.start) net.trips
  pub fids : All (λ row. row.fid ≤ 1000000000000000000) net.trips
  pub lengths : All (λ row. IfSome row.length IsLength) net.sections
  pub runs : All (λ row. IsTime row.time) net.runs
  pub group_dwells : All (λ row. IsTime row.time) net.group_dwells
  pub trip_dwells : All (λ row. IsTime row.time) net.trip_dwells
  pub deads : All (λ row. IsTime row.time) net.deads
  pub plan : All (Fits schema.plan.columns) net.plan
  pub depots : All (Fits schema.depots.columns) net.depots
  pub line_types : All (Fits schema.line_types.columns) net.line_types
  pub reliefs : All (Fits schema.reliefs.columns) net.reliefs
  pub ways : All (Fits schema.ways.columns) net.ways
  pub drivers : All (Fits schema.drivers.columns) net.drivers
