-- Two days that are alike have the same blocks, legs, pieces and tables, and so the same texts and causes.
use Rattle.std.proofs.Common.{◌≡◌, ℕ, ◌+◌, Bool, true, false, List, [], ◌∷◌, ◌++◌, Option, Some, None, length, map, refl, ap, ◌∙◌, subst, IsSomeAnd, slice_get}
use Rattle.std.proofs.Math.Path.{fun_ext}
use Rattle.std.specs.Prelude.{option_and_then, unwrap_or}
use Rattle.plan_core.specs.declared.types.Leg.{Leg}
use Rattle.plan_core.specs.declared.types.Piece.{Piece as WorkPiece}
use Rattle.vdv451_text.specs.declared.table.Table.{Table}
use Rattle.vdv451_text.specs.Plain.{text}
use Rattle.cover_core.specs.declared.Column.{Column}
use Rattle.cover_core.specs.Cover.{Problem}
use Rattle.cover_plan.specs.declared.known.KnownPlan.{KnownPlan}
use Rattle.cover_plan.specs.Ends.{HasNone}
use Rattle.day_method.specs.declared.side.Side.{Side}
use Rattle.day_method.specs.declared.side.Side.TheVariants.{Vehicles, Drivers}
use Rattle.day_method.specs.Method.{DayProblems, SidePlan, DayEnding, DayEndsAs}
use Rattle.day_method.specs.Method.{answered, refused, left_out}
use Rattle.trip_times.specs.declared.trip.Trip.{Trip as DayTrip}
use Rattle.plan_params.specs.declared.rows.ParamRows.{ParamRows}
use Rattle.plan_params.specs.declared.rows.pool.Pool.{Pool}
use Rattle.day_model.specs.Facts.{DayFacts}
use Rattle.day_model.specs.Blocks.{block_worth}
use Rattle.day_model.specs.Pieces.{legs_of, parts, pieces_from, pieces_of}
use Rattle.day_model.proofs.Same.{block_legs_same, parts_same, same_worth}
use Rattle.depot_network.specs.Network.{blocks_of, caps_of}
use Rattle.block_cut.specs.Cuts.{block_pieces, moment, pieces_by_block, pieces_of_plan}
use Rattle.block_cut.specs.Legs.{block_legs, legs_or}
use Rattle.plan_params.specs.Settings.{in_order}
use Rattle.duty_network.specs.Duties.{duties}
use Rattle.umlauf_write.specs.declared.answer.Answer.{Answer}
use Rattle.umlauf_write.specs.Answers.{answer_tables}
use Rattle.umlauf_write.specs.Printed.{printed}
use Rattle.plan_command.specs.declared.fault.ItemName.{ItemName}
use Rattle.plan_command.specs.declared.fault.ItemName.TheVariants.{Trip, Piece}
use Rattle.plan_command.specs.declared.fault.PlanFault.{PlanFault}
use Rattle.plan_command.specs.declared.fault.PlanFault.TheVariants as faults
use Rattle.plan_command.specs.Alike.{AreAlike, HaveSameCauses, HaveSameShortTexts, HaveSameTexts}
use Rattle.plan_command.specs.Flow.{AreKnownBlocks}
use Rattle.plan_command.specs.Planning.{ArePlannedBlocks, ArePlannedDuties, Asked, HasNoneOf, IsDayPlan, IsLeft, IsLeftItem, IsPlanCauseOver, IsPlannedSide, IsThis, PlanEndsAs, day_problems, duties_over}
use Rattle.plan_command.proofs.AlikeFlows.{exact_alike, known_alike}
use Rattle.plan_command.proofs.Sides.{side_where}
use Rattle.plan_command.specs.PlanText.{answer_of, four_bounds}
use Rattle.umlauf_write.specs.Answers.{bound_table}
use Rattle.plan_command.specs.ShortText.{count_table, short_tables}

module _ (one other : DayFacts) (alike : AreAlike one other) where
  -- the one day with trips and settings, and with the deadheads of the other
  abbrev with : List DayTrip → ParamRows → DayFacts
  with trips params = record { kind = one.kind; rows = one.rows; trips = trips; params = params; deads = other.deads }

  blocks_alike : (counts : Bool) → blocks_of one counts ≡ blocks_of other counts
  blocks_alike counts =
      let problem : List DayTrip → ParamRows → (ℕ → List ℕ → Option ℕ) → Problem =
      λ trips params worth. record { items = length trips; caps = caps_of params.pools; worth = worth } in
      ap (λ trips. problem trips one.params (block_worth one counts)) alike.trips
      ∙ ap (λ params. problem other.trips params (block_worth one counts)) alike.params
      ∙ ap (λ worth. problem other.trips other.params worth) (same_worth one other counts alike.trips alike.params alike.deads)

  -- The problem of blocks is made of the number of trips, the caps and a function of worths. The worths of two days with the same
  -- trips, settings and times of deadheads are equal list by list (`same_worth`), and functions that agree everywhere are equal; so
  -- the problems are one, and whatever is said of one is said of the other without a proof for each notion.
  pub same_blocks : blocks_of one ≡ blocks_of other
  same_blocks = fun_ext blocks_alike

  legs_alike : (pool : Pool) (list : List ℕ) → legs_of one pool list ≡ legs_of other pool list
  legs_alike pool list =
      block_legs_same one other.deads alike.deads pool list
      ∙ ap (λ trips. legs_of (with trips one.params) pool list) alike.trips
      ∙ ap (λ params. legs_of (with other.trips params) pool list) alike.params

  parts_alike : (pool : Pool) (legs : List Leg) → parts one pool legs ≡ parts other pool legs
  parts_alike pool legs =
      parts_same one other.deads alike.deads pool legs ∙ ap (λ params. parts (with other.trips params) pool legs) alike.params

  -- a list has the same legs, and they are cut alike
  pieces_alike : (pool : Pool) (number : ℕ) (list : List ℕ) → pieces_of one pool number list ≡ pieces_of other pool number list
  pieces_alike pool number list =
      let cuts : parts one pool ≡ parts other pool = fun_ext (λ legs. parts_alike pool legs) in
      let pieces : (List Leg → List (List Leg)) → Option (List Leg) → Option (List WorkPiece) =
      λ cut legs. option_and_then (λ (ls : List Leg). Some (pieces_from number 1 (cut ls))) legs in
      ap (λ cut. pieces cut (legs_of one pool list)) cuts ∙ ap (λ legs. pieces (parts other pool) legs) (legs_alike pool list)

  block_legs_alike : (block : Column) → block_legs one block ≡ block_legs other block
  block_legs_alike block =
      let legs : (ParamRows → (Pool → Option (List Leg)) → List Leg) =
      λ params value. legs_or (option_and_then value (slice_get params.pools block.class)) in
      let same : (λ (pool : Pool). legs_of one pool block.items) ≡ (λ (pool : Pool). legs_of other pool block.items) =
      fun_ext (λ pool. legs_alike pool block.items) in
      ap (λ params. legs params (λ (pool : Pool). legs_of one pool block.items)) alike.params ∙ ap (λ value. legs other.params value) same

  same_legs : block_legs one ≡ block_legs other
  same_legs = fun_ext block_legs_alike

  block_pieces_alike : (number : ℕ) (block : Column) → block_pieces one number block ≡ block_pieces other number block
  block_pieces_alike number block =
      let pieces : (ParamRows → (Pool → Option (List WorkPiece)) → List WorkPiece) =
      λ params value. unwrap_or (option_and_then value (slice_get params.pools block.class)) [] in
      let same : (λ (pool : Pool). pieces_of one pool number block.items) ≡ (λ (pool : Pool). pieces_of other pool number block.items) =
      fun_ext (λ pool. pieces_alike pool number block.items) in
      ap (λ params. pieces params (λ (pool : Pool). pieces_of one pool number block.items)) alike.params
      ∙ ap (λ value. pieces other.params value) same

  by_block_alike : (number : ℕ) (blocks : List Column) → pieces_by_block one number blocks ≡ pieces_by_block other number blocks
  by_block_alike number [] = refl
  by_block_alike number (block ∷ blocks) =
      ap (λ pieces. pieces ++ pieces_by_block one (number + 1) blocks) (block_pieces_alike number block)
      ∙ ap (λ rest. block_pieces other number block ++ rest) (by_block_alike (number + 1) blocks)

  -- Legs are made from trips, settings and deadheads (`legs_alike`) and cut by settings and deadheads (`parts_alike`), block by block.
  -- So the pieces over the same blocks are the same, in the same order, and with them the problem of duties.
  pub same_pieces : pieces_of_plan one ≡ pieces_of_plan other
  same_pieces = fun_ext (λ blocks. ap (in_order moment) (by_block_alike 1 blocks))

  same_duties : duties_over one ≡ duties_over other
  same_duties =
      let over : (List Column → List WorkPiece) → ParamRows → List Column → Bool → Problem =
      λ pieces params blocks counts. duties (record { pieces = pieces blocks; params = params; counts = counts }) in
      ap (λ pieces. over pieces one.params) same_pieces ∙ ap (λ params. over (pieces_of_plan other) params) alike.params

  same_problems : (known : Option KnownPlan) → day_problems one known ≡ day_problems other known
  same_problems known =
      let problems : (Bool → Problem) → (List Column → Bool → Problem) → DayProblems = λ blocks duties.
      record {
        blocks = blocks;
        known_blocks = known;
        written_blocks = λ columns. columns;
        printed_blocks = printed;
        duties = duties;
        written_duties = λ blocks columns. columns;
        printed_duties = λ blocks. printed;
      } in
      ap (λ blocks. problems blocks (duties_over one)) same_blocks ∙ ap (λ duties. problems (blocks_of other) duties) same_duties

  -- the tables of a plan tell the version, the day type, the trips and the settings of their day alone
  pub tables_alike : (table : Table) (answer : Answer) → answer_tables one table answer ≡ answer_tables other table answer
  tables_alike table answer =
      let day : ℕ → ℕ → List DayTrip → ParamRows → DayFacts = λ version kind trips params.
      record {
        kind = record { version = version; kind = kind; day = one.kind.day; weekday = one.kind.weekday };
        rows = one.rows;
        trips =
            trips;
        params = params;
        deads = one.deads;
      } in
      ap (λ version. answer_tables (day version one.kind.kind one.trips one.params) table answer) alike.versions
      ∙ ap (λ kind. answer_tables (day other.kind.version kind one.trips one.params) table answer) alike.kinds
      ∙ ap (λ trips. answer_tables (day other.kind.version other.kind.kind trips one.params) table answer) alike.trips
      ∙ ap (λ params. answer_tables (day other.kind.version other.kind.kind other.trips params) table answer) alike.params

  pub answers_alike : (blocks duties : SidePlan) → answer_of one blocks duties ≡ answer_of other blocks duties
  answers_alike blocks duties =
      let answer : (Column → List Leg) → (List Column → List WorkPiece) → Answer = λ legs pieces.
      record {
        blocks = record { columns = blocks.columns };
        legs = map legs blocks.columns;
        pieces = pieces blocks.columns;
        duties = record { columns = duties.columns };
        bounds = four_bounds blocks duties;
      } in
      ap (λ legs. answer legs (pieces_of_plan one)) same_legs ∙ ap (λ pieces. answer (block_legs other) pieces) same_pieces

  ends_alike : (asked : Asked) (ending : DayEnding) → PlanEndsAs one asked ending → PlanEndsAs other asked ending
  ends_alike asked ending h =
      let P : DayProblems → Type 0 = λ problems. DayEndsAs problems asked.numbers ending in
      record {
        known = h.known;
        known_is = known_alike one other alike.trips alike.params alike.deads asked.flow h.known h.known_is;
        ends = subst P (same_problems h.known) h.ends;
      }

  planned_blocks_alike : (asked : Asked) (blocks : SidePlan) → ArePlannedBlocks one asked blocks → ArePlannedBlocks other asked blocks
  planned_blocks_alike asked blocks h =
      let P : (Bool → Problem) → Type 0 =
      λ problem. IsPlannedSide (problem true) (problem false) asked.numbers (AreKnownBlocks one asked.flow) blocks in
      side_where (blocks_of other true) (blocks_of other false) asked.numbers (AreKnownBlocks one asked.flow)
      (AreKnownBlocks other asked.flow) blocks
      (known_alike one other alike.trips alike.params alike.deads asked.flow) (subst P same_blocks h)

  planned_duties_alike : (asked : Asked) (blocks : List Column) (duties : SidePlan) → ArePlannedDuties one asked blocks duties →
      ArePlannedDuties other asked blocks duties
  planned_duties_alike asked blocks duties h =
      let P : (List Column → Bool → Problem) → Type 0 =
      λ problem. IsPlannedSide (problem blocks true) (problem blocks false) asked.numbers (IsThis None) duties in
      subst P same_duties h

  -- What the method says of a day is said of its problems, and these are equal (`same_problems`); what is known of its blocks is
  -- carried by itself, as the flow's network is no part of them (`known_alike`).
  pub plans_alike : (asked : Asked) (blocks duties : SidePlan) → IsDayPlan one asked blocks duties → IsDayPlan other asked blocks duties
  plans_alike asked blocks duties h = record {
    ends = ends_alike asked (answered blocks duties) h.ends;
    blocks_are = planned_blocks_alike asked blocks h.blocks_are;
    duties_are = planned_duties_alike asked blocks.columns duties h.duties_are;
    exact = exact_alike one other alike.trips alike.params alike.deads asked.flow blocks h.exact;
  }

  -- A text tells of a day its version, day type, trips and settings besides the plan (`tables_alike`), which the two days share;
  -- places of rows and the lists of deadheads do not occur in it. So a day that was read twice, with its deadheads in another order,
  -- has one text.
  pub same_texts : HaveSameTexts one other
  same_texts = λ asked table bytes h. record {
    blocks = h.blocks;
    duties = h.duties;
    plan = plans_alike asked h.blocks h.duties h.plan;
    written = h.written ∙ (ap text (tables_alike table (answer_of one h.blocks h.duties))
        ∙ ap (λ answer. text (answer_tables other table answer)) (answers_alike h.blocks h.duties));
  }

  shorts_alike : (blocks duties : SidePlan) → short_tables one blocks duties ≡ short_tables other blocks duties
  shorts_alike blocks duties =
      let tables : List DayTrip → List WorkPiece → List Table = λ trips pieces.
      count_table (length trips) (length blocks.columns) (length pieces) (length duties.columns) ∷ bound_table blocks.columns duties.columns
      (four_bounds blocks duties) ∷ [] in
      ap (λ trips. tables trips (pieces_of_plan one blocks.columns)) alike.trips
      ∙ ap (λ pieces. tables other.trips (pieces blocks.columns)) same_pieces

  pub same_short_texts : HaveSameShortTexts one other
  same_short_texts = λ asked bytes h. record {
    blocks = h.blocks;
    duties = h.duties;
    plan = plans_alike asked h.blocks h.duties h.plan;
    written = h.written ∙ ap text (shorts_alike h.blocks h.duties);
  }

  none_alike : (asked : Asked) (side : Side) → HasNoneOf one asked side → HasNoneOf other asked side
  none_alike asked Vehicles h = let P : (Bool → Problem) → Type 0 = λ problem. HasNone (problem false) in subst P same_blocks h
  none_alike asked Drivers h =
      let P : (List Column → Bool → Problem) → Type 0 = λ problem. HasNone (problem h.0.columns false) in
      (h.0, planned_blocks_alike asked h.0 h.1, subst P same_duties h.2)

  left_alike : (asked : Asked) (side : Side) (item : ℕ) (name : ItemName) (partial : List Column) →
      IsLeftItem one asked side item name partial → IsLeftItem other asked side item name partial
  left_alike asked Vehicles item name partial h =
      let P : (Bool → Problem) → Type 0 = λ problem. IsLeft (problem false) item partial in
      let Q : List DayTrip → Type 0 = λ trips. IsSomeAnd (slice_get trips item) (λ (trip : DayTrip). name ≡ Trip trip.fid) in
      (subst P same_blocks h.0, subst Q alike.trips h.1)
  left_alike asked Drivers item name partial h =
      let P : (List Column → Bool → Problem) → Type 0 = λ problem. IsLeft (problem h.blocks.columns false) item partial in
      let Q : (List Column → List WorkPiece) → Type 0 =
      λ pieces. IsSomeAnd (slice_get (pieces h.blocks.columns) item) (λ (piece : WorkPiece). name ≡ Piece piece.block piece.index) in
      record {
        blocks = h.blocks;
        blocks_are = planned_blocks_alike asked h.blocks h.blocks_are;
        is_left = subst P same_duties h.is_left;
        named = subst Q same_pieces h.named;
      }

  cause_alike : (asked : Asked) (fault : PlanFault) → IsPlanCauseOver one asked fault → IsPlanCauseOver other asked fault
  cause_alike asked (faults.NoPlan side bound places) h = (ends_alike asked (refused side bound places) h.0, none_alike asked side h.1)
  cause_alike asked (faults.NotPlaced side item name partial) h =
      (ends_alike asked (left_out side item partial.columns) h.0, left_alike asked side item name partial.columns h.1)
  cause_alike asked faults.Memory h = h

  pub same_causes : HaveSameCauses one other
  same_causes = λ asked fault h. cause_alike asked fault h
