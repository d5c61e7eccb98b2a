-- Each piece of the blocks of a plan of a roomy day has room of its own.
use Rattle.std.proofs.Common.{◌≡◌, ℕ, pos, ◌+◌, ◌*◌, ◌≤◌, ◌+ℤ◌, ◌-ℤ◌, Bool, true, false, All, List, [], ◌∷◌, length, Option, Some, None, refl, sym, ap, subst, arith, slice_get, nat_le}
use Rattle.std.specs.Prelude.{option_and_then, unwrap_or}
use Rattle.std.specs.List.{list_all}
use Rattle.std.specs.Option.{option_map_or}
use Rattle.std.proofs.lemmas.Int.{ints}
use Rattle.std.proofs.lemmas.List.Elements.{All-append, All-nil}
use Rattle.std.proofs.lemmas.Bool.{le-leb}
use Rattle.plan_core.specs.declared.types.Leg.{Leg}
use Rattle.plan_core.specs.declared.types.Piece.{Piece}
use Rattle.plan_core.proofs.Options.{and_then_some, given_some}
use Rattle.cover_core.specs.declared.Column.{Column}
use Rattle.cover_core.specs.Plans.{AreColumns, HasListedColumns}
use Rattle.trip_times.specs.declared.trip.Trip.{Trip}
use Rattle.plan_params.specs.declared.rows.group.Group.{Group}
use Rattle.plan_params.specs.declared.rows.pool.Pool.{Pool}
use Rattle.vdv452_tables.proofs.OrderLemmas.{order_all, order_length}
use Rattle.eu561_rules.specs.Lawful.{is_lawful, limits_for, regular}
use Rattle.day_model.specs.Blocks.{block_cost, block_worth, rises, trips_at}
use Rattle.day_model.specs.Facts.{DayFacts}
use Rattle.day_model.specs.Links.{given}
use Rattle.day_model.specs.Pieces.{can_be_driven, legs_of, longest_driving, may_be_driven, parts, pieces_from, pieces_of}
use Rattle.depot_network.specs.Listed.{blocks_listed}
use Rattle.depot_network.specs.Network.{blocks_of}
use Rattle.block_cut.specs.Cuts.{block_pieces, moment, pieces_by_block, pieces_of_plan}
use Rattle.block_cut.proofs.Few.{all_few, plan_items}
use Rattle.duty_network.specs.Duties.{duty_worth}
use Rattle.made_plans.specs.Roomy.{IsRoomyWith}
use Rattle.made_plans.specs.Rooms.{HasRoomForPieces}
use Rattle.made_plans.proofs.Places.{all_there, first_mapped, there}
use Rattle.made_plans.proofs.Running.{IsRunning, pieces_running, pieces_short}
use Rattle.made_plans.proofs.Whole.{legs_whole}

-- a piece that can be a duty alone
pub record IsLight (day : DayFacts) (group : Group) (way : ℕ) (p : Piece) : Type 0 where
  pub runs : IsRunning day group way p
  pub short : p.driving ≤ longest_driving

-- One drive of at most four and a half hours in a spread of at most thirteen is lawful. A duty of one piece has no pause: its driving
-- is one stretch of at most four and a half hours, below all limits of a day, and its spread is within the regular thirteen. So it is
-- lawful with either allowance and with none, and the group's allowances need not be known.
lawful_one : (ten reduced : Bool) (driving spread : ℕ) → driving ≤ longest_driving → spread ≤ regular.spread →
    is_lawful (limits_for ten reduced) (record { pause = 0; driving = driving } ∷ []) spread ≡ true
lawful_one ten reduced driving spread low within =
    let four : nat_le (driving + 0) 16200 ≡ true = le-leb (driving + 0) 16200 (omega (arith, low)) in
    let nine : nat_le (driving + 0) 32400 ≡ true = le-leb (driving + 0) 32400 (omega (arith, low)) in
    let tenth : nat_le (driving + 0) 36000 ≡ true = le-leb (driving + 0) 36000 (omega (arith, low)) in
    let thirteen : nat_le spread 46800 ≡ true = le-leb spread 46800 (omega (arith, within)) in
    let fifteen : nat_le spread 54000 ≡ true = le-leb spread 54000 (omega (arith, within)) in
    let Goal : Bool → Bool → Type 0 =
    λ ten reduced. is_lawful (limits_for ten reduced) (record { pause = 0; driving = driving } ∷ []) spread ≡ true in
    elim ten as (λ ten. Goal ten reduced) [
      | true ↦ elim reduced as (λ reduced. Goal true reduced) [
        | true ↦ rw (tenth, four, fifteen) refl
        | false ↦
            rw (tenth, four, thirteen) refl
      ]
      | false ↦ elim reduced as (λ reduced. Goal false reduced) [
        | true ↦ rw (nine, four, fifteen) refl
        | false ↦
            rw (nine, four, thirteen) refl
      ]
    ]

module _ (day : DayFacts) (pool : Pool) (group : Group) (way : ℕ) (roomy : IsRoomyWith day pool group way) where
  -- a light piece alone has a worth as a duty of the group
  light_worth : (pieces : List Piece) (k : ℕ) (p : Piece) → slice_get pieces k ≡ Some p → IsLight day group way p →
      (worth : ℕ) × (duty_worth (record { pieces = pieces; params = day.params; counts = false }) 0 (k ∷ []) ≡ Some worth)
  light_worth pieces k p at light =
      let near_from = light.runs.from in
      let near_to = light.runs.to in
      let group_is = roomy.group_is in
      let out_is = near_from.out_is in
      let in_is = near_to.in_is in
      let spread : ℕ = near_from.out + group.sign_on + p.driving + near_to.inward + group.sign_off in
      let lasts = light.runs.lasts in
      let whole : (p.end.0 +ℤ pos near_to.inward +ℤ pos group.sign_off -ℤ (p.begin.0 -ℤ pos near_from.out -ℤ pos group.sign_on))
      ≡ pos spread = omega (arith, ints, lasts) in
      let fits : spread ≤ regular.spread = omega (arith, near_from.out_short, near_to.in_short, light.short, roomy.spread) in
      let lawful = lawful_one group.ten group.reduced p.driving spread light.short fits in
      (group.fixed + group.rate * spread, rw (group_is, at, out_is, in_is, whole, lawful) refl)

  -- The pieces of a block are light. That the block has a worth says that its legs are there and that each of its pieces is driven
  -- within four and a half hours; that the day is roomy says that these legs leave no time between them (`legs_whole`), so its pieces
  -- last as long as their driving (`pieces_running`).
  block_light : (number : ℕ) (column : Column) (worth : ℕ) → block_worth day false column.class column.items ≡ Some worth →
      All (IsLight day group way) (block_pieces day number column)
  block_light number column worth e =
      let list : List ℕ = column.items in
      let cost : Pool → Option ℕ =
      λ pool. option_and_then (λ (ts : List Trip). option_and_then (λ (c : ℕ). Some c) (block_cost day pool ts))
      (trips_at day.trips list) in
      let (up, e1) = given_some (rises list)
      (option_and_then (λ (pool : Pool). given (can_be_driven day pool list) (cost pool)) (slice_get day.params.pools column.class))
      worth e in
      let (q, is_q, e2) = and_then_some (λ (pool : Pool). given (can_be_driven day pool list) (cost pool))
      (slice_get day.params.pools column.class) worth e1 in
      let (driven, e3) = given_some (can_be_driven day q list) (cost q) worth e2 in
      let Light : List Piece → Type 0 = λ ps. All (IsLight day group way) ps in
      let Goal : Option (List Leg) → Type 0 = λ o. legs_of day q list ≡ o →
      option_map_or (λ pieces. list_all may_be_driven pieces)
      (option_and_then (λ (legs : List Leg). Some (pieces_from 1 1 (parts day q legs))) o) false ≡ true →
      Light (unwrap_or (option_and_then (λ (legs : List Leg). Some (pieces_from number 1 (parts day q legs))) o) []) in
      let by : (o : Option (List Leg)) → Goal o = λ o. elim o as Goal [
        | None ↦ λ is tested. All-nil (IsLight day group way)
        | Some legs ↦ λ is tested.
            let (begin, end, whole) = legs_whole day q group way pool column.class roomy is_q list legs is in
            let running = pieces_running day q group way number begin end legs whole in
            let short = pieces_short 1 number 1 1 (parts day q legs) tested in
            λ k d within. record { runs = running k d within; short = short k d within }
      ] in
      let same : pieces_of day q number list ≡ option_and_then (λ (legs : List Leg). Some (pieces_from number 1 (parts day q legs)))
      (legs_of day q list) = refl in
      let there_is : block_pieces day number column ≡ unwrap_or (pieces_of day q number list) [] =
      ap (λ (o : Option Pool). unwrap_or (option_and_then (λ (pool : Pool). pieces_of day pool number list) o) []) is_q in
      subst Light (sym there_is) (by (legs_of day q list) refl driven)

  blocks_light : (number : ℕ) (columns : List Column) → AreColumns (blocks_of day false) columns →
      All (IsLight day group way) (pieces_by_block day number columns)
  blocks_light number [] are = All-nil (IsLight day group way)
  blocks_light number (column ∷ columns) are =
      All-append (IsLight day group way) (block_pieces day number column) (pieces_by_block day (number + 1) columns)
      (block_light number column column.worth are.0.1) (blocks_light (number + 1) columns are.1)

  -- Each piece of the blocks of any plan is light and alone a duty of the first group. There are no more pieces than trips, as a piece
  -- has a trip and each trip stands once; and the group has as many drivers as there are trips.
  pub room_for_pieces : HasRoomForPieces day
  room_for_pieces columns plan k within =
      let ps : List Piece = pieces_by_block day 1 columns in
      let pieces : List Piece = pieces_of_plan day columns in
      let light : All (IsLight day group way) pieces = order_all moment (IsLight day group way) ps (blocks_light 1 columns plan.worths) in
      let (p, at) = there pieces k within in
      let (worth, alone) = light_worth pieces k p at (all_there (IsLight day group way) pieces k p light at) in
      let listed : HasListedColumns (blocks_of day false) = blocks_listed (record { day = day; counts = false }) in
      let (some, first) = first_mapped (λ (g : Group). g.cap) day.params.groups group roomy.group_is in
      let few : length pieces ≤ length day.trips =
      omega (arith, order_length moment ps, all_few day 1 columns, plan_items (blocks_of day false) columns listed plan) in
      record { class = 0; worth = worth; there = some; alone = alone; wide = omega (arith, first, few, roomy.drivers) }
