-- A day that is read from tables without a fault has what its plans need to be checked.
use Rattle.std.proofs.Common.{◌≡◌, ℕ, ◌<◌, ◌≤◌, Bool, true, false, if◌then◌else◌, All, AllPairs, IsTrue, IfSome, List, length, map, Option, Some, None, codes, is_none, is_some, refl, sym, subst, arith, []}
use Rattle.std.proofs.lemmas.List.Elements.{All-map, All-weaker}
use Rattle.vdv451_text.specs.declared.table.Table.{Table}
use Rattle.vdv451_text.specs.Plain.{are_plain}
use Rattle.vdv452_tables.specs.declared.net.Net.{Net}
use Rattle.vdv452_tables.specs.declared.reading.Needs.TheVariants as needs
use Rattle.vdv452_rows.specs.declared.rows.times.DeadRow.{DeadRow}
use Rattle.vdv452_rows.specs.declared.schema.Domain.TheVariants.{AnyWord}
use Rattle.vdv452_rows.specs.declared.schema.Schema.{Schema}
use Rattle.vdv452_rows.specs.Schema as schema
use Rattle.vdv452_tables.specs.Calendar.{net_of, schemas_of}
use Rattle.vdv452_tables.specs.Keys.{dead_key_of, move_key_eq, point_eq}
use Rattle.vdv452_tables.specs.LookUps.{dead_time_on}
use Rattle.vdv452_tables.specs.Ranges.{Fits, HasRanges, IsTime}
use Rattle.vdv452_rows.specs.Rows.{HasOwnKeys, faults_of, missing_column, missing_columns, place_of, table_faults, table_of}
use Rattle.vdv452_tables.proofs.KeyLemmas.{own_of}
use Rattle.vdv452_tables.proofs.LookUpLemmas.{found_all}
use Rattle.vdv452_tables.proofs.RangeLemmas.{ranges_of}
use Rattle.plan_params.specs.declared.rows.group.Group.{Group}
use Rattle.plan_params.specs.declared.rows.pool.Pool.{Pool}
use Rattle.plan_params.specs.declared.rows.ParamRows.{ParamRows}
use Rattle.plan_params.specs.Settings.{group_of, groups_of, params_of}
use Rattle.vdv452_tables.proofs.OrderLemmas.{order_all}
use Rattle.day_model.specs.Building.{IsDayOf}
use Rattle.day_model.specs.Facts.{DayFacts}
use Rattle.check_answers.specs.Checkable.{HasShortMoves}
use Rattle.check_answers.specs.DayRead.{ReadDaysAreCheckable}
use Rattle.check_answers.proofs.InRange.{in-range}
use Rattle.check_answers.proofs.OwnNumbers.{IsRightIn, groups-rise, pools-rise, trips-differ}
use Rattle.check_answers.proofs.OwnRows.{IsRight, each-faultless, first-none, found-name, found-plain, front-empty, is-right, not-when, rest-empty}

right-in : (s : Schema) (tables : List Table) → are_plain tables ≡ true → table_faults s tables ≡ [] → HasOwnKeys tables s →
    IsRightIn s (table_of s tables)
right-in s tables plain none own = by (table_of s tables) refl
  where
    by : (o : Option Table) → table_of s tables ≡ o → IsRightIn s o
    by None e = tt
    by (Some table) e = is-right s tables table plain none own e

-- The columns FRT_FID and UM_UID are there.
some-there : {A : Type 0} (o : Option A) → is_none o ≡ false → IsTrue (is_some o)
some-there None there = absurd (cc)
some-there (Some x) there = refl

fid-there : (table : Table) → missing_columns schema.trips table ≡ [] → IsTrue (is_some (place_of (codes "FRT_FID") table.columns))
fid-there table whole =
    let at : List ℕ → Option ℕ = λ name. place_of name table.columns in
    let first = missing_column schema.trips.name table.columns (schema.key (codes "BASIS_VERSION")) in
    let second = missing_column schema.trips.name table.columns (schema.trip_key (codes "FRT_FID")) in
    some-there (at (codes "FRT_FID")) (not-when _ _ (front-empty second _ (rest-empty first _ whole)))

uid-there : (table : Table) → missing_columns schema.trips table ≡ [] → IsTrue (is_some (place_of (codes "UM_UID") table.columns))
uid-there table whole =
    let at : List ℕ → Option ℕ = λ name. place_of name table.columns in
    let miss = missing_column schema.trips.name table.columns in
    let a = rest-empty (miss (schema.key (codes "BASIS_VERSION"))) _ whole in
    let b = rest-empty (miss (schema.trip_key (codes "FRT_FID"))) _ a in
    let c = rest-empty (miss (schema.seconds (codes "FRT_START"))) _ b in
    let d = rest-empty (miss (schema.number (codes "LI_NR"))) _ c in
    let e = rest-empty (miss (schema.number (codes "TAGESART_NR"))) _ d in
    let f = rest-empty (miss (schema.number (codes "FAHRTART_NR"))) _ e in
    let g = rest-empty (miss (schema.number (codes "FGR_NR"))) _ f in
    let h = rest-empty (miss (schema.plain (codes "STR_LI_VAR") AnyWord)) _ g in
    some-there (at (codes "UM_UID")) (not-when _ _ (front-empty (miss (schema.unseen (codes "UM_UID"))) _ h))

-- The numbers of groups have 32 bits.
group-word : (row : List ℕ) → Fits schema.drivers.columns row → (group_of row).number ≤ 4294967295
group-word row fits =
    let there : 0 < length row = (let width = fits.width in omega (arith, width)) in
    fits.within 0 there

words : (net : Net) → All (Fits schema.drivers.columns) net.drivers → All (λ (group : Group). group.number ≤ 4294967295) (groups_of net)
words net fits =
    let P : Group → Type 0 = λ group. group.number ≤ 4294967295 in
    order_all (λ (group : Group). group.number) P (map group_of net.drivers)
    (All-map P group_of net.drivers
    (All-weaker (Fits schema.drivers.columns) (λ (row : List ℕ). P (group_of row)) group-word net.drivers fits))

-- No deadhead takes longer than two days.
either-time : (b : Bool) (o : Option ℕ) → IfSome o IsTime → IfSome (if b then Some 0 else o) IsTime
either-time true o short = omega arith
either-time false o short = short

short-moves : (net : Net) (facts : DayFacts) → IsDayOf net facts.kind facts → All (λ (row : DeadRow). IsTime row.time) net.deads →
    HasShortMoves facts
short-moves net facts day times = λ from to.
    let area = facts.params.settings.area in
    let group = facts.params.settings.group in
    let version = facts.kind.version in
    let P : Option ℕ → Type 0 = λ o. IfSome o IsTime in
    let noted : IfSome (dead_time_on net version area group from to) IsTime =
    found_all IsTime move_key_eq dead_key_of (λ (row : DeadRow). row.time) net.deads
    (record { version = version; area = area; group = group; from = from; to = to }) times in
    subst P (sym (day.deads from to)) (either-time (point_eq from to) (dead_time_on net version area group from to) noted)

-- Each field comes from what a table without a fault keeps: keys of its own (`trips-differ`, `pools-rise`, `groups-rise`), columns
-- that are there, values in the ranges of their schema (`ranges_of`), and the one row for each trip that was shown when the day was
-- read. So whoever reads a day has to prove nothing of it before its plan is checked.
pub day-checkable : ReadDaysAreCheckable
day-checkable tables facts table is =
    let net : Net = net_of needs.All tables in
    let none : faults_of (schemas_of needs.All) tables ≡ [] = first-none (faults_of (schemas_of needs.All) tables) is.faultless in
    let faultless = each-faultless tables (schemas_of needs.All) none in
    let own = own_of (schemas_of needs.All) tables none in
    let ranges : HasRanges net = ranges_of needs.All tables is.few in
    let trips : IsRight schema.trips table =
    is-right schema.trips tables table is.plain (faultless 9 schema.trips (omega arith)) (own 9 schema.trips (omega arith)) is.found in
    let depots : IsRightIn schema.depots (table_of schema.depots tables) =
    right-in schema.depots tables is.plain (faultless 13 schema.depots (omega arith)) (own 13 schema.depots (omega arith)) in
    let drivers : IsRightIn schema.drivers (table_of schema.drivers tables) =
    right-in schema.drivers tables is.plain (faultless 17 schema.drivers (omega arith)) (own 17 schema.drivers (omega arith)) in
    let params : params_of net ≡ facts.params = sym is.day.params in
    let Pools : ParamRows → Type 0 = λ p. AllPairs (λ (earlier later : Pool). earlier.number < later.number) p.pools in
    let Groups : ParamRows → Type 0 = λ p. AllPairs (λ (earlier later : Group). earlier.number < later.number) p.groups in
    let Words : ParamRows → Type 0 = λ p. All (λ (group : Group). group.number ≤ 4294967295) p.groups in
    record {
      table_is = record {
        name = found-name schema.trips.name tables table is.found;
        plain = found-plain schema.trips.name tables table is.found is.plain;
        has_fid = fid-there table trips.whole;
        has_uid = uid-there table trips.whole;
        one = is.rows.one;
      };
      numbers = record {
        trips = trips-differ tables table facts is.found trips is.day;
        pools = subst Pools params (pools-rise tables depots);
        groups = subst Groups params (groups-rise tables drivers);
        words = subst Words params (words net ranges.drivers);
      };
      in_range = in-range net facts ranges is.day;
      short = short-moves net facts is.day ranges.deads;
    }
