-- The numbers of a day that is read from tables have 32 bits.
use Rattle.std.proofs.Common.{◌≡◌, ℕ, ◌+◌, ◌≤◌, Bool, true, false, if◌then◌else◌, List, [], ◌∷◌, Option, Some, None, Result, Ok, Err, All, IfSome, map, filter, nat_le, nat_lt, unwrap_or, refl, sym, subst, arith, ℤ, pos, negsuc, codes, sum_by}
use Rattle.std.specs.Prelude.{◌==◌, ◌&&◌}
use Rattle.std.proofs.lemmas.Bool.Decides.{nat_tests}
use Rattle.std.proofs.lemmas.List.Elements.{All-from_recursion, All-map, All-weaker}
use Rattle.std.specs.List.{AllByRecursion, find}
use Rattle.std.specs.Option.{option_and_then, option_map}
use Rattle.plan_core.specs.declared.types.Point.{Point}
use Rattle.vdv451_text.specs.declared.table.Field.{Field}
use Rattle.vdv451_text.specs.declared.table.Field.TheVariants.{Num, Text, Raw, Empty}
use Rattle.vdv451_text.specs.declared.table.Table.{Table}
use Rattle.vdv452_rows.specs.declared.cell.Cell.{Cell}
use Rattle.vdv452_rows.specs.declared.cell.Cell.TheVariants.{Nothing, Number, Long}
use Rattle.vdv452_tables.specs.declared.keys.LineKey.{LineKey}
use Rattle.vdv452_tables.specs.declared.net.Net.{Net}
use Rattle.vdv452_tables.specs.declared.reading.Needs.TheVariants as needs
use Rattle.vdv452_rows.specs.declared.rows.CalendarRow.{CalendarRow}
use Rattle.vdv452_rows.specs.declared.rows.TripRow.{TripRow}
use Rattle.vdv452_rows.specs.declared.rows.VersionRow.{VersionRow}
use Rattle.vdv452_rows.specs.declared.rows.lines.StopRow.{StopRow}
use Rattle.vdv452_rows.specs.declared.schema.Column.{Column}
use Rattle.vdv452_rows.specs.declared.schema.Domain.{Domain}
use Rattle.vdv452_rows.specs.declared.schema.Domain.TheVariants.{UpTo, LongUpTo, AnyWord, Unseen}
use Rattle.vdv452_rows.specs.declared.schema.Schema.{Schema}
use Rattle.vdv452_rows.specs.Schema as schema
use Rattle.vdv452_tables.specs.Calendar.{begun, kind_on, later, latest, net_of, rows_as, version_on}
use Rattle.vdv452_rows.specs.Cells.{is_empty_field, long_up_to, number_up_to, value_in, whole_number}
use Rattle.vdv452_tables.specs.Keys.{line_key_eq, stop_key_of}
use Rattle.vdv452_tables.specs.LookUps.{area_on, course_on, links_from, stops_in_order}
use Rattle.vdv452_tables.specs.Order.{put_in_order}
use Rattle.vdv452_tables.specs.Ranges.{Fits, HasRanges, greatest_in}
use Rattle.vdv452_rows.specs.Rows.{cell_at, cell_in, cells, field_at, rows_in, table_of}
use Rattle.vdv452_rows.specs.TypedRows.{calendar_row, stop_row, typed, version_row}
use Rattle.vdv452_rows.specs.Values.{number_of}
use Rattle.day_calendar.specs.Kinds.{IsKindOf}
use Rattle.trip_times.specs.declared.trip.Trip.{Trip}
use Rattle.trip_times.specs.declared.trip.TripFault.{TripFault}
use Rattle.trip_times.specs.declared.trip.TripFault.TheVariants.{PastEnd}
use Rattle.trip_times.specs.Courses.{before_last, last_from}
use Rattle.trip_times.specs.Timing.{dwell_at, first_missing, run_seconds_of, run_time_of, timed, timed_if, timed_in, timed_on, trip_over}
use Rattle.plan_params.specs.declared.rows.group.Group.{Group}
use Rattle.plan_params.specs.declared.rows.pool.Pool.{Pool}
use Rattle.plan_params.specs.declared.rows.ParamRows.{ParamRows}
use Rattle.plan_params.specs.Settings.{group_of, params_of, pool_of}
use Rattle.vdv452_tables.proofs.OrderLemmas.{order_all}
use Rattle.day_model.specs.declared.fault.DayModelFault.{DayModelFault}
use Rattle.day_model.specs.Building.{IsDayOf, joined, named, rows_at, timed_rows}
use Rattle.day_model.specs.Facts.{DayFacts}

abbrev pub IsNumber : ℕ → Type 0
IsNumber n = n ≤ 4294967295

abbrev pub IsPlace : Point → Type 0
IsPlace at = IsNumber at.typ × IsNumber at.nr

abbrev pub HasPlaces : Trip → Type 0
HasPlaces trip = IsPlace trip.from × IsPlace trip.to

abbrev pub IsNumbered : Pool → Type 0
IsNumbered pool = IsNumber pool.number × IsPlace pool.depot × IsNumber pool.typ

-- the numbers of a day type, of its places, pools and groups
pub record HasNumbers (facts : DayFacts) : Type 0 where
  pub version : IsNumber facts.kind.version
  pub kind : IsNumber facts.kind.kind
  pub places : All HasPlaces facts.trips
  pub pools : All IsNumbered facts.params.pools
  pub groups : All (λ (group : Group). IsNumber group.number) facts.params.groups

-- A number of a column is not above the greatest one of the column's domain.
abbrev Holds : Domain → Option Cell → Type 0
Holds domain found = number_of (unwrap_or found Nothing) ≤ greatest_in domain

le_from : (m n : ℕ) → nat_le m n ≡ true → m ≤ n
le_from m n e = grind (arith, nat_tests)

number_holds : (most n : ℕ) (b : Bool) → nat_le n most ≡ b → Holds (UpTo most) (if b then Some (Number n) else None)
number_holds most n true e = le_from n most e
number_holds most n false e = omega arith

long_holds : (most n : ℕ) (b : Bool) → Holds (LongUpTo most) (if b then Some (Long n) else None)
long_holds most n true = omega arith
long_holds most n false = omega arith

read_holds : (most : ℕ) (z : Option ℤ) → Holds (UpTo most) (option_and_then (number_up_to most) z)
read_holds most None = omega arith
read_holds most (Some (pos n)) = number_holds most n (nat_le n most) refl
read_holds most (Some (negsuc n)) = omega arith

long_read_holds : (most : ℕ) (z : Option ℤ) → Holds (LongUpTo most) (option_and_then (long_up_to most) z)
long_read_holds most None = omega arith
long_read_holds most (Some (pos n)) = long_holds most n (nat_le n most)
long_read_holds most (Some (negsuc n)) = omega arith

value_holds : (domain : Domain) (field : Field) → Holds domain (value_in domain field)
value_holds (UpTo most) field = read_holds most (whole_number field)
value_holds (LongUpTo most) field = long_read_holds most (whole_number field)
value_holds AnyWord (Num n) = omega arith
value_holds AnyWord (Text text) = omega arith
value_holds AnyWord (Raw bytes) = omega arith
value_holds AnyWord Empty = omega arith
value_holds Unseen field = omega arith

empty_holds : (domain : Domain) (may_be_empty : Bool) → Holds domain (if may_be_empty then Some Nothing else None)
empty_holds domain true = omega arith
empty_holds domain false = omega arith

field_holds : (column : Column) (field : Field) (b : Bool) →
    Holds column.domain (if b then (if column.may_be_empty then Some Nothing else None) else value_in column.domain field)
field_holds column field true = empty_holds column.domain column.may_be_empty
field_holds column field false = value_holds column.domain field

-- A cell is looked up with the domain of its column, which lets no greater number through; a field that is missing or wrong counts as
-- 0. So the bound holds of every cell of every table, and no later lemma has to ask whether a table has faults.
cell_holds : (column : Column) (field : Option Field) → Holds column.domain (Some (cell_in column field))
cell_holds column None = omega arith
cell_holds column (Some field) = field_holds column field (is_empty_field field)

at_most : (table : Table) (row : List Field) (column : Column) → number_of (cell_at table row column) ≤ greatest_in column.domain
at_most table row column = cell_holds column (field_at table.columns row column.name)

-- what holds of each row holds of the typed rows
module _ {A : Type 0} (P : A → Type 0) (row_of : List Cell → ℕ → A) (s : Schema) (each : (table : Table) (row : List Field) (place : ℕ) →
    P (row_of (cells s table row) place)) where
  typed_each : (table : Table) (rows : List (List Field)) (place : ℕ) → AllByRecursion P (typed row_of place (map (cells s table) rows))
  typed_each table [] place = tt
  typed_each table (row ∷ rows) place = (each table row place, typed_each table rows (place + 1))

  found_each : (found : Option Table) → AllByRecursion P (typed row_of 0 (rows_in s found))
  found_each None = tt
  found_each (Some table) = typed_each table table.rows 0

  rows_each : (tables : List Table) → AllByRecursion P (rows_as row_of s tables)
  rows_each tables = found_each (table_of s tables)

-- what holds of each holds of what is found
some_same : {A : Type 0} (x y : A) → Some x ≡ Some y → x ≡ y
some_same x y e = cc

mapped : {A : Type 0} (f : A → ℕ) (o : Option A) (v : ℕ) → option_map f o ≡ Some v → IfSome o (λ x. IsNumber (f x)) → IsNumber v
mapped f None v e h = absurd cc
mapped f (Some x) v e h = subst IsNumber (some_same (f x) v e) h

find_each : {A : Type 0} (P : A → Type 0) (test : A → Bool) (xs : List A) → AllByRecursion P xs → IfSome (find test xs) P
find_each P test [] all = tt
find_each P test (x ∷ xs) all = by (test x) (find_each P test xs all.1)
  where
    by : (b : Bool) → IfSome (find test xs) P → IfSome (if b then Some x else find test xs) P
    by true later = all.0
    by false later = later

filter_each : {A : Type 0} (P : A → Type 0) (test : A → Bool) (xs : List A) → AllByRecursion P xs → AllByRecursion P (filter test xs)
filter_each P test [] all = tt
filter_each P test (x ∷ xs) all = by (test x) (filter_each P test xs all.1)
  where
    by : (b : Bool) → AllByRecursion P (filter test xs) → AllByRecursion P (if b then x ∷ filter test xs else filter test xs)
    by true later = (all.0, later)
    by false later = later

-- the version in force
abbrev IsVersion : VersionRow → Type 0
IsVersion row = IsNumber row.version

later_row : (row : VersionRow) (o : Option VersionRow) → IsVersion row → IfSome o IsVersion → IsVersion (later row o)
later_row row None h k = h
later_row row (Some other) h k = by (nat_lt row.day other.day)
  where
    by : (b : Bool) → IsVersion (if b then other else row)
    by true = k
    by false = h

latest_row : (rows : List VersionRow) → AllByRecursion IsVersion rows → IfSome (latest rows) IsVersion
latest_row [] all = tt
latest_row (row ∷ rows) all = later_row row (latest rows) all.0 (latest_row rows all.1)

version_number : (tables : List Table) (day version : ℕ) → version_on (net_of needs.All tables) day ≡ Some version → IsNumber version
unfolding version_row
version_number tables day version e =
    let rows = rows_each IsVersion version_row schema.versions
    (λ table row place. at_most table row (schema.number (codes "BASIS_VERSION"))) tables in
    let net : Net = net_of needs.All tables in
    mapped (λ (row : VersionRow). row.version) (latest (begun net.versions day)) version e
    (latest_row (begun net.versions day) (filter_each IsVersion (λ (row : VersionRow). nat_le row.day day) net.versions rows))

abbrev HasKind : CalendarRow → Type 0
HasKind row = IsNumber row.kind

kind_number : (tables : List Table) (version day kind : ℕ) → kind_on (net_of needs.All tables) version day ≡ Some kind → IsNumber kind
unfolding calendar_row
kind_number tables version day kind e =
    let rows = rows_each HasKind calendar_row schema.days
    (λ table row place. at_most table row (schema.number (codes "TAGESART_NR"))) tables in
    let net : Net = net_of needs.All tables in
    let test : CalendarRow → Bool = λ row. (row.version == version) && (row.day == day) in
    mapped (λ (row : CalendarRow). row.kind) (find test net.days) kind e (find_each HasKind test net.days rows)

-- the points of a stop sequence
abbrev IsAtPlace : StopRow → Type 0
IsAtPlace row = IsPlace row.at

put_each : (row : StopRow) (rows : List StopRow) → IsAtPlace row → AllByRecursion IsAtPlace rows →
    AllByRecursion IsAtPlace (put_in_order (λ (stop : StopRow). stop.number) row rows)
put_each row [] h all = (h, tt)
put_each row (next ∷ rows) h all = by (nat_lt next.number row.number) (put_each row rows h all.1)
  where
    by : (b : Bool) → AllByRecursion IsAtPlace (put_in_order (λ (stop : StopRow). stop.number) row rows) →
        AllByRecursion IsAtPlace (if b then next ∷ put_in_order (λ (stop : StopRow). stop.number) row rows else row ∷ next ∷ rows)
    by true later = (all.0, later)
    by false later = (h, all)

order_each : (rows : List StopRow) → AllByRecursion IsAtPlace rows → AllByRecursion IsAtPlace (stops_in_order rows)
order_each [] all = tt
order_each (row ∷ rows) all = put_each row (stops_in_order rows) all.0 (order_each rows all.1)

at_each : (rows : List StopRow) → AllByRecursion IsAtPlace rows → AllByRecursion IsPlace (map (λ (row : StopRow). row.at) rows)
at_each [] all = tt
at_each (row ∷ rows) all = (all.0, at_each rows all.1)

course_each : (tables : List Table) (version line : ℕ) (variant : List ℕ) →
    AllByRecursion IsPlace (course_on (net_of needs.All tables) version line variant)
unfolding stop_row
course_each tables version line variant =
    let net : Net = net_of needs.All tables in
    let rows : AllByRecursion IsAtPlace net.stops = rows_each IsAtPlace stop_row schema.stops (λ table row place.
    (at_most table row (schema.number (codes "ONR_TYP_NR")), at_most table row (schema.number (codes "ORT_NR")))) tables in
    let key : LineKey = record { version = version; line = line; variant = variant } in
    let test : StopRow → Bool = λ row. line_key_eq (stop_key_of row) key in
    at_each (filter test (stops_in_order net.stops)) (filter_each IsAtPlace test (stops_in_order net.stops) (order_each net.stops rows))

last_each : (at : Point) (course : List Point) → IsPlace at → AllByRecursion IsPlace course → IsPlace (last_from at course)
last_each at [] h all = h
last_each at (next ∷ course) h all = last_each next course all.0 all.1

-- the ends of a trip
module _ (row : TripRow) (trip : Trip) where
  over_places : (from to : Point) (seconds : ℕ) (b : Bool) → (if b then Ok (trip_over row from to seconds) else Err PastEnd) ≡ Ok trip →
      IsPlace from → IsPlace to → HasPlaces trip
  over_places from to seconds true e h k = let is : trip_over row from to seconds ≡ trip = cc in subst HasPlaces is (h, k)
  over_places from to seconds false e h k = absurd (cc)

  if_places : (missing : Option (Point × Point)) (from to : Point) (seconds : ℕ) → timed_if row missing from to seconds ≡ Ok trip →
      IsPlace from → IsPlace to → HasPlaces trip
  if_places None from to seconds e h k = over_places from to seconds (nat_le (row.start + seconds) 172800) e h k
  if_places (Some link) from to seconds e h k = absurd (cc)

  on_places : (time_of : Point × Point → Option ℕ) (dwell_of : Point → ℕ) (course : List Point) → AllByRecursion IsPlace course →
      timed_on time_of dwell_of row course ≡ Ok trip → HasPlaces trip
  on_places time_of dwell_of [] all e = absurd (cc)
  on_places time_of dwell_of (first ∷ []) all e = absurd (cc)
  on_places time_of dwell_of (first ∷ (next ∷ course)) all e =
      if_places (first_missing time_of (links_from first (next ∷ course))) first (last_from next course)
      (run_seconds_of time_of (links_from first (next ∷ course)) + sum_by dwell_of (before_last next course)) e all.0
      (last_each next course all.1.0 all.1.1)

  in_places : (tables : List Table) (version : ℕ) (area : Option ℕ) →
      timed_in (net_of needs.All tables) version row area ≡ Ok trip → HasPlaces trip
  in_places tables version None e = absurd (cc)
  in_places tables version (Some area) e =
      let net : Net = net_of needs.All tables in
      on_places (run_time_of net version area row.group) (dwell_at net version row) (course_on net version row.line row.variant)
      (course_each tables version row.line row.variant) e

joins : (fid : ℕ) (one : Result Trip TripFault) (others : Result (List Trip) DayModelFault) (trips : List Trip) →
    joined (named fid one) others ≡ Ok trips →
    (trip : Trip) × (more : List Trip) × (one ≡ Ok trip) × (others ≡ Ok more) × (trips ≡ trip ∷ more)
joins fid (Err fault) others trips e = absurd (cc)
joins fid (Ok trip) (Err fault) trips e = absurd (cc)
joins fid (Ok trip) (Ok more) trips e = (trip, more, refl, refl, cc)

trip_places : (tables : List Table) (version : ℕ) (rows : List TripRow) (trips : List Trip) →
    timed_rows (net_of needs.All tables) version rows ≡ Ok trips → AllByRecursion HasPlaces trips
trip_places tables version [] trips e = let none : trips ≡ [] = cc in subst (AllByRecursion HasPlaces) (sym none) tt
trip_places tables version (row ∷ rows) trips e =
    let net : Net = net_of needs.All tables in
    let parts = joins row.fid (timed net version row) (timed_rows net version rows) trips e in
    let both : AllByRecursion HasPlaces (parts.0 ∷ parts.1) = (
      in_places row parts.0 tables version (area_on net version row.line row.variant) parts.2,
      trip_places tables version rows parts.1 parts.3,
    ) in
    subst (AllByRecursion HasPlaces) (sym parts.4) both

-- pools and groups
pool_numbers : (row : List ℕ) → Fits schema.depots.columns row → IsNumbered (pool_of row)
pool_numbers row fits =
    let width = fits.width in (
      fits.within 0 (omega (arith, width)),
      (fits.within 1 (omega (arith, width)), fits.within 2 (omega (arith, width))),
      fits.within 3 (omega (arith, width)),
    )

group_number : (row : List ℕ) → Fits schema.drivers.columns row → IsNumber (group_of row).number
group_number row fits = let width = fits.width in fits.within 0 (omega (arith, width))

pools_all : (net : Net) → All (Fits schema.depots.columns) net.depots → All IsNumbered (params_of net).pools
pools_all net fits =
    order_all (λ (pool : Pool). pool.number) IsNumbered (map pool_of net.depots)
    (All-map IsNumbered pool_of net.depots
    (All-weaker (Fits schema.depots.columns) (λ (row : List ℕ). IsNumbered (pool_of row)) pool_numbers net.depots fits))

groups_all : (net : Net) → All (Fits schema.drivers.columns) net.drivers →
    All (λ (group : Group). IsNumber group.number) (params_of net).groups
groups_all net fits =
    let P : Group → Type 0 = λ group. IsNumber group.number in
    order_all (λ (group : Group). group.number) P (map group_of net.drivers)
    (All-map P group_of net.drivers
    (All-weaker (Fits schema.drivers.columns) (λ (row : List ℕ). P (group_of row)) group_number net.drivers fits))

-- What a day is made of are fields of rows that were read through columns, and a column takes no number above its greatest one. So the
-- version and the day type, the ends of its trips, and the numbers and places of its pools and groups have 32 bits: a version is
-- that of a row, the ends of a trip are points of a stop sequence, and a stop sequence is made of rows of stops.
pub day_numbers : (tables : List Table) (day : ℕ) (facts : DayFacts) → HasRanges (net_of needs.All tables) →
    IsKindOf (net_of needs.All tables) day facts.kind →
    IsDayOf (net_of needs.All tables) facts.kind facts → HasNumbers facts
day_numbers tables day facts ranges kind is =
    let net : Net = net_of needs.All tables in
    let Pools : ParamRows → Type 0 = λ p. All IsNumbered p.pools in
    let Groups : ParamRows → Type 0 = λ p. All (λ (group : Group). IsNumber group.number) p.groups in
    record {
      version = version_number tables day facts.kind.version kind.version;
      kind = kind_number tables facts.kind.version day facts.kind.kind kind.kind_is;
      places = All-from_recursion HasPlaces facts.trips
          (trip_places tables facts.kind.version (rows_at net.trips facts.rows) facts.trips is.trips);
      pools = subst Pools (sym is.params) (pools_all net ranges.depots);
      groups = subst Groups (sym is.params) (groups_all net ranges.drivers);
    }
