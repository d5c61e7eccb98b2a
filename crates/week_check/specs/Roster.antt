-- Promise: the roster's table X_EINSATZ as duties, and its faults.
use Rattle.std.specs.Prelude.{◌≡◌, ℕ, ◌+◌, ◌==◌, Bool, true, false, not, ◌&&◌, nat_le, nat_lt, List, [], ◌∷◌, ◌++◌, length, map, filter, Option, Some, None, if◌then◌else◌, is_none, unwrap_or, slice_get, ℤ, pos, neg_ℤ, ◌+ℤ◌, ◌*ℤ◌, ◌≤ℤ◌, int_le, unsigned_abs, codes, All}
use Rattle.std.specs.List.{find, flat_map, list_any}
use Rattle.std.specs.Option.{option_and_then}
use Rattle.std.specs.Ordering.{int_eq}
use Rattle.jiff_core.specs.Calendar.{days_in_month}
use Rattle.vdv451_text.specs.declared.table.Field.{Field}
use Rattle.vdv451_text.specs.declared.table.Head.{Head}
use Rattle.vdv451_text.specs.declared.table.Table.{Table}
use Rattle.vdv452_rows.specs.declared.fault.TableKind.{TableKind}
use Rattle.vdv452_rows.specs.declared.fault.TableKind.TheVariants as kinds
use Rattle.vdv452_rows.specs.declared.fault.TableFault.{TableFault}
use Rattle.vdv452_rows.specs.Cells.{is_empty_field, whole_number}
use Rattle.vdv452_rows.specs.Rows.{fault, field_at, has_name, place_of, when}
use Rattle.week_check.specs.declared.column.RosterColumn.{RosterColumn}
use Rattle.week_check.specs.declared.column.RosterColumn.TheVariants.{Driver, Day, Begin, End, Driving, Pause}
use Rattle.week_check.specs.declared.entry.Entry.{Entry}
use Rattle.week_check.specs.declared.entry.DriverDay.{DriverDay}
use Rattle.week_check.specs.declared.places.Places.{Places}
use Rattle.week_check.specs.declared.turn.Turn.{Turn}
use Rattle.week_check.specs.Days.{day_of_month, month_of, number_of as day_number, year_of}

abbrev pub roster_name : List ℕ
roster_name = codes "X_EINSATZ"

abbrev pub name_of : RosterColumn → List ℕ
name_of Driver = codes "FAHRER_NR"
name_of Day = codes "BETRIEBSTAG"
name_of Begin = codes "BEGINN"
name_of End = codes "ENDE"
name_of Driving = codes "LENKZEIT"
name_of Pause = codes "DREI"

abbrev pub columns : List RosterColumn
columns = Driver ∷ Day ∷ Begin ∷ End ∷ Driving ∷ Pause ∷ []

-- A row's fields in these columns. Of two columns with one name the first counts; a row may lack a field.
pub record RowFields : Type 0 where
  pub driver : Option Field
  pub day : Option Field
  pub begin : Option Field
  pub end : Option Field
  pub driving : Option Field
  pub pause : Option Field

abbrev pub fields_in : List Head → List Field → RowFields
fields_in heads row = record {
  driver = field_at heads row (name_of Driver);
  day = field_at heads row (name_of Day);
  begin = field_at heads row (name_of Begin);
  end = field_at heads row (name_of End);
  driving = field_at heads row (name_of Driving);
  pause = field_at heads row (name_of Pause);
}

abbrev pub field_of : RowFields → RosterColumn → Option Field
field_of fields Driver = fields.driver
field_of fields Day = fields.day
field_of fields Begin = fields.begin
field_of fields End = fields.end
field_of fields Driving = fields.driving
field_of fields Pause = fields.pause

-- the number that a field spells, where there is a field and it spells one
abbrev pub number_of : Option Field → Option ℤ
number_of field = option_and_then whole_number field

abbrev pub entry_of : RowFields → Entry
entry_of fields = record {
  driver = number_of fields.driver;
  day = number_of fields.day;
  begin = number_of fields.begin;
  end = number_of fields.end;
  driving = number_of fields.driving;
  pause = number_of fields.pause;
}

abbrev pub value : Option ℤ → ℤ
value number = unwrap_or number (pos 0)

abbrev pub word : Option ℤ → ℕ
word number = unsigned_abs (value number)

-- there is a number, from the least to the greatest one
abbrev pub is_within : Option ℤ → ℤ → ℤ → Bool
is_within None least greatest = false
is_within (Some n) least greatest = int_le least n && int_le n greatest

-- the calendar has the day, in a year from 1 to 9998
abbrev pub is_duty_day : ℕ → Bool
is_duty_day day =
    (nat_le 1 (year_of day) && nat_le (year_of day) 9998) && ((nat_le 1 (month_of day) && nat_le (month_of day) 12)
    && (nat_le 1 (day_of_month day) && nat_le (day_of_month day) (days_in_month (pos (year_of day)) (month_of day))))

abbrev pub is_day : Option ℤ → Bool
is_day number = is_within number (pos 0) (pos 4294967295) && is_duty_day (word number)

-- seconds of a day: from two days before its start to four days after it
abbrev pub is_time : Option ℤ → Bool
is_time number = is_within number (neg_ℤ (pos 172800)) (pos 345600)

-- a time that is not before the start
abbrev pub is_end : Option ℤ → Option ℤ → Bool
is_end begin end = is_time end && int_le (value begin) (value end)

-- whether the value of a row in a column is right
abbrev pub is_right : Entry → RosterColumn → Bool
is_right entry Driver = is_within entry.driver (pos 0) (pos 4294967295)
is_right entry Day = is_day entry.day
is_right entry Begin = is_time entry.begin
is_right entry End = is_end entry.begin entry.end
is_right entry Driving = is_within entry.driving (pos 0) (pos 172800)
is_right entry Pause = is_within entry.pause (pos 0) (pos 1)

-- the first column whose value is not right
abbrev pub wrong_column : Entry → Option RosterColumn
wrong_column entry = find (λ column. not (is_right entry column)) columns

-- an empty field, and one that the row lacks, is a missing value; another wrong one is out of range
abbrev pub kind_of : Option Field → TableKind
kind_of None = kinds.NoValue
kind_of (Some field) = if is_empty_field field then kinds.NoValue else kinds.Range

abbrev pub value_fault : ℕ → RowFields → RosterColumn → List TableFault
value_fault number fields column =
    when (not (is_right (entry_of fields) column)) (fault (kind_of (field_of fields column)) roster_name (name_of column) number)

-- column by column
abbrev pub value_faults : ℕ → RowFields → List TableFault
value_faults number fields = flat_map (value_fault number fields) columns

-- the driver and the day of a row
abbrev pub key_of : Entry → DriverDay
key_of entry = record { driver = word entry.driver; day = word entry.day }

abbrev pub same_key : DriverDay → DriverDay → Bool
same_key a b = (a.driver == b.driver) && (a.day == b.day)

-- a row whose driver and day a row before has; `before` are the keys of the rows before
abbrev pub key_fault : ℕ → List DriverDay → DriverDay → List TableFault
key_fault number before key = when (list_any (same_key key) before) (fault kinds.KeyTwice roster_name [] number)

-- of a row first the values, then the key
abbrev pub row_fault : ℕ → List DriverDay → RowFields → List TableFault
row_fault number before fields = value_faults number fields ++ key_fault number before (key_of (entry_of fields))

-- row by row, counted from `number`
abbrev pub row_faults : ℕ → List DriverDay → List RowFields → List TableFault
row_faults number before [] = []
row_faults number before (fields ∷ rows) =
    row_fault number before fields ++ row_faults (number + 1) (before ++ key_of (entry_of fields) ∷ []) rows

abbrev pub is_missing : List Head → RosterColumn → Bool
is_missing heads column = is_none (place_of (name_of column) heads)

-- the first column that a table lacks
abbrev pub missing_column : List Head → Option RosterColumn
missing_column heads = find (is_missing heads) columns

abbrev pub column_fault : List Head → RosterColumn → List TableFault
column_fault heads column = when (is_missing heads column) (fault kinds.NoColumn roster_name (name_of column) 0)

abbrev pub rows_in : Table → List RowFields
rows_in table = map (fields_in table.columns) table.rows

-- The table is there, it has all columns, and its rows are right.
abbrev pub faults_in : Option Table → List TableFault
faults_in None = fault kinds.NoTable roster_name [] 0 ∷ []
faults_in (Some table) = flat_map (column_fault table.columns) columns ++ row_faults 1 [] (rows_in table)

abbrev pub roster_of : List Table → Option Table
roster_of tables = find (has_name roster_name) tables

-- all faults of the roster's table, in their order
abbrev pub roster_faults : List Table → List TableFault
roster_faults tables = when (nat_lt 1 (length (filter (has_name roster_name) tables))) (fault kinds.TableTwice roster_name [] 0)
    ++ faults_in (roster_of tables)

-- a moment of a day in seconds from the start of 1970-01-01: 86,400 for each day, and the seconds of the day
abbrev pub moment : ℕ → ℤ → ℤ
moment day seconds = (pos 86400 *ℤ day_number day) +ℤ seconds

abbrev pub is_one : Option ℤ → Bool
is_one number = int_eq (value number) (pos 1)

-- the duty of a row
abbrev pub turn_of : Entry → Turn
turn_of entry = record {
  driver = word entry.driver;
  day = word entry.day;
  begin = moment (word entry.day) (value entry.begin);
  end = moment (word entry.day) (value entry.end);
  driving = word entry.driving;
  three = is_one entry.pause;
}

abbrev pub row_turn : RowFields → Turn
row_turn fields = turn_of (entry_of fields)

abbrev pub turns_in : Option Table → List Turn
turns_in None = []
turns_in (Some table) = map row_turn (rows_in table)

-- the duties of the roster's table, row by row
abbrev pub turns_of : List Table → List Turn
turns_of tables = turns_in (roster_of tables)

-- the earliest day of duties
pub record IsFirstDay (turns : List Turn) (day : ℕ) : Type 0 where
  pub least : All (λ (t : Turn). day_number day ≤ℤ day_number t.day) turns
  pub there : list_any (λ (t : Turn). t.day == day) turns ≡ true

-- the latest day of duties
pub record IsLastDay (turns : List Turn) (day : ℕ) : Type 0 where
  pub greatest : All (λ (t : Turn). day_number t.day ≤ℤ day_number day) turns
  pub there : list_any (λ (t : Turn). t.day == day) turns ≡ true

-- the last day is 14 or more days after the first
pub record AreFar (turns : List Turn) (first last : ℕ) : Type 0 where
  pub begins : IsFirstDay turns first
  pub ends : IsLastDay turns last
  pub far : (day_number first +ℤ pos 14) ≤ℤ day_number last

-- The columns' places in a table, 0 for one that it lacks.
abbrev pub place_in : List Head → RosterColumn → ℕ
place_in heads column = unwrap_or (place_of (name_of column) heads) 0

abbrev pub places_in : List Head → Places
places_in heads = record {
  driver = place_in heads Driver;
  day = place_in heads Day;
  begin = place_in heads Begin;
  end = place_in heads End;
  driving = place_in heads Driving;
  pause = place_in heads Pause;
}

abbrev pub place_at : Places → RosterColumn → ℕ
place_at places Driver = places.driver
place_at places Day = places.day
place_at places Begin = places.begin
place_at places End = places.end
place_at places Driving = places.driving
place_at places Pause = places.pause

abbrev pub fields_at : Places → List Field → RowFields
fields_at places row = record {
  driver = slice_get row places.driver;
  day = slice_get row places.day;
  begin = slice_get row places.begin;
  end = slice_get row places.end;
  driving = slice_get row places.driving;
  pause = slice_get row places.pause;
}
