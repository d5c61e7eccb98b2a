-- A plan of a day can be printed: its numbers are in their ranges.
use Rattle.std.proofs.Common.{◌≡◌, ℕ, ◌*◌, ◌^◌, ◌<◌, ◌≤◌, false, All, List, [], ◌∷◌, length, Option, Some, None, Result, Ok, Err, IfOk, is_some, IsTrue, refl, ap, ◌∙◌, subst, arith}
use Rattle.std.proofs.lemmas.Int.{ints}
use Rattle.std.proofs.lemmas.List.{length-map}
use Rattle.std.proofs.lemmas.List.Elements.{All-cons, All-nil, All-weaker}
use Rattle.plan_core.specs.declared.types.Piece.{Piece}
use Rattle.vdv451_text.specs.declared.table.Table.{Table}
use Rattle.vdv451_text.specs.Plain.{text}
use Rattle.cover_core.specs.declared.Column.{Column}
use Rattle.cover_core.specs.Cover.{AllBelow, Problem}
use Rattle.cover_core.specs.Plans.{AreColumns, HasListedColumns, IsPlan, cost}
use Rattle.cover_core.specs.FirstLeast.{AreCheap}
use Rattle.cover_core.proofs.Counts.{has_few_columns}
use Rattle.cover_core.proofs.Values.{Rises-length}
use Rattle.day_method.specs.Method.{SidePlan}
use Rattle.plan_params.specs.declared.rows.pool.Pool.{Pool}
use Rattle.plan_params.specs.declared.rows.group.Group.{Group}
use Rattle.day_model.specs.Facts.{DayFacts}
use Rattle.day_model.specs.Blocks.{block_worth}
use Rattle.depot_network.specs.Network.{blocks_of}
use Rattle.depot_network.specs.Listed.{blocks_listed}
use Rattle.block_cut.specs.Cuts.{IsShift, pieces_of_plan}
use Rattle.block_cut.specs.Legs.{HasWorth}
use Rattle.duty_network.specs.Duties.{duties}
use Rattle.duty_network.specs.Listed.{duties_listed}
use Rattle.duty_network.specs.Ranges.{IsShift as IsDutyShift}
use Rattle.umlauf_write.specs.Answers.{IsPiece}
use Rattle.plan_command.specs.Planning.{Asked, duties_over, IsDayPlan}
use Rattle.plan_command.specs.PlanText.{IsPrintable}

-- pieces
pub duty_shifts : (pieces : List Piece) → All IsShift pieces → All IsDutyShift pieces
duty_shifts pieces shifts =
    All-weaker IsShift IsDutyShift (λ p h. record { begins = h.begins; order = h.order; ends = h.ends; driving = h.driving }) pieces shifts

pub shift_pieces : (pieces : List Piece) → All IsShift pieces → All IsPiece pieces
shift_pieces pieces shifts =
    All-weaker IsShift IsPiece (λ p h.
    let begins = h.begins in
    let ends = h.ends in
    let driving = h.driving in
    record { begins = h.begins; order = h.order; ends = h.ends; driving = omega (arith, ints) }) pieces shifts

-- the columns of a plan
some_worth : (o : Option ℕ) (worth : ℕ) → o ≡ Some worth → IsTrue (is_some o)
some_worth None worth h = absurd (cc)
some_worth (Some w) worth h = refl

worths_there : (facts : DayFacts) (columns : List Column) → AreColumns (blocks_of facts false) columns → All (HasWorth facts) columns
worths_there facts [] are = All-nil (HasWorth facts)
worths_there facts (c ∷ cs) are =
    All-cons (HasWorth facts) c cs (some_worth (block_worth facts false c.class c.items) c.worth are.0.1) (worths_there facts cs are.1)

pub plan_worths : (facts : DayFacts) (columns : List Column) → IsPlan (blocks_of facts false) columns → All (HasWorth facts) columns
plan_worths facts columns plan = worths_there facts columns plan.worths

classes_below : (p : Problem) (columns : List Column) → AreColumns p columns → All (λ (c : Column). c.class < length p.caps) columns
classes_below p [] are = All-nil (λ (c : Column). c.class < length p.caps)
classes_below p (c ∷ cs) are = All-cons (λ (c : Column). c.class < length p.caps) c cs are.0.0 (classes_below p cs are.1)

items_below : (p : Problem) (columns : List Column) → HasListedColumns p → AreColumns p columns →
    All (λ (c : Column). AllBelow p.items c.items) columns
items_below p [] listed are = All-nil (λ (c : Column). AllBelow p.items c.items)
items_below p (c ∷ cs) listed are =
    All-cons (λ (c : Column). AllBelow p.items c.items) c cs (listed c.class c.items c.worth are.0.1).2 (items_below p cs listed are.1)

few_items : (p : Problem) (columns : List Column) → p.items ≤ 3000 → HasListedColumns p → AreColumns p columns →
    All (λ (c : Column). length c.items ≤ 3000) columns
few_items p [] few listed are = All-nil (λ (c : Column). length c.items ≤ 3000)
few_items p (c ∷ cs) few listed are =
    let (some, rises, below) = listed c.class c.items c.worth are.0.1 in
    All-cons (λ (c : Column). length c.items ≤ 3000) c cs (omega (arith, few, Rises-length p.items c.items rises below))
    (few_items p cs few listed are.1)

pub block_pools : (facts : DayFacts) (columns : List Column) → IsPlan (blocks_of facts false) columns →
    All (λ (c : Column). c.class < length facts.params.pools) columns
block_pools facts columns plan =
    let P : ℕ → Type 0 = λ n. All (λ (c : Column). c.class < n) columns in
    subst P (length-map facts.params.pools (λ (pool : Pool). pool.cap)) (classes_below (blocks_of facts false) columns plan.worths)

pub block_trips : (facts : DayFacts) (columns : List Column) → IsPlan (blocks_of facts false) columns →
    All (λ (c : Column). AllBelow (length facts.trips) c.items) columns
block_trips facts columns plan =
    items_below (blocks_of facts false) columns (blocks_listed (record { day = facts; counts = false })) plan.worths

pub few_blocks : (facts : DayFacts) (columns : List Column) → length facts.trips ≤ 3000 → IsPlan (blocks_of facts false) columns →
    length columns ≤ 3000
few_blocks facts columns few plan =
    omega (arith, few, has_few_columns (blocks_of facts false) (blocks_listed (record { day = facts; counts = false })) columns plan)

module _ (facts : DayFacts) (blocks : List Column) where
  listed : HasListedColumns (duties_over facts blocks false)
  listed = duties_listed (record { pieces = pieces_of_plan facts blocks; params = facts.params; counts = false })

  pub duty_groups : (columns : List Column) → IsPlan (duties_over facts blocks false) columns →
      All (λ (c : Column). c.class < length facts.params.groups) columns
  duty_groups columns plan =
      let P : ℕ → Type 0 = λ n. All (λ (c : Column). c.class < n) columns in
      subst P (length-map facts.params.groups (λ (group : Group). group.cap))
      (classes_below (duties_over facts blocks false) columns plan.worths)

  pub duty_parts : (columns : List Column) → length (pieces_of_plan facts blocks) ≤ 3000 → IsPlan (duties_over facts blocks false) columns →
      All (λ (c : Column). length c.items ≤ 3000) columns
  duty_parts columns few plan = few_items (duties_over facts blocks false) columns few listed plan.worths

  pub few_duties : (columns : List Column) → length (pieces_of_plan facts blocks) ≤ 3000 → IsPlan (duties_over facts blocks false) columns →
      length columns ≤ 3000
  few_duties columns few plan = omega (arith, few, has_few_columns (duties_over facts blocks false) listed columns plan)

-- bounds
cheap_cost : (columns : List Column) → AreCheap columns → cost columns ≤ 4000000000 * length columns
cheap_cost [] cheap = omega arith
cheap_cost (c ∷ cs) cheap = let first = cheap.0 in omega (arith, first, cheap_cost cs cheap.1)

-- What is asked before tables are written: classes are there, lists are few, and no bound is above the number or the cost of the plan
-- itself (`count_bound`, `cost_bound`), since a bound holds of every plan and this is one. There are at most 3,000 columns, each worth
-- at most 4,000,000,000 (`cheap_cost`), so all bounds are below 2^63.
pub printable : (facts : DayFacts) (asked : Asked) (blocks duties : SidePlan) → IsDayPlan facts asked blocks duties →
    length facts.trips ≤ 3000 → length (pieces_of_plan facts blocks.columns) ≤ 3000 →
    AreCheap blocks.columns → AreCheap duties.columns → IsPrintable facts blocks duties
printable facts asked blocks duties plan few few_pieces cheap_blocks cheap_duties =
    let some_blocks = few_blocks facts blocks.columns few plan.blocks_are.plan in
    let some_duties = few_duties facts blocks.columns duties.columns few_pieces plan.duties_are.plan in
    let vehicles = plan.blocks_are.count_bound blocks.columns plan.blocks_are.plan in
    let block_cost = plan.blocks_are.cost_bound blocks.columns plan.blocks_are.plan in
    let drivers = plan.duties_are.count_bound duties.columns plan.duties_are.plan in
    let duty_cost = plan.duties_are.cost_bound duties.columns plan.duties_are.plan in
    let small : ℕ → Type 0 = λ bound. bound < 2 ^ 63 in
    record {
      blocks_are = plan.blocks_are.plan;
      duties_are = plan.duties_are.plan;
      few_blocks = some_blocks;
      few_pieces = few_pieces;
      cheap_blocks = cheap_blocks;
      cheap_duties = cheap_duties;
      bounds =
          All-cons small blocks.count.bound (blocks.cost.bound ∷ duties.count.bound ∷ duties.cost.bound ∷ [])
          (omega (arith, some_blocks, vehicles))
          (All-cons small blocks.cost.bound (duties.count.bound ∷ duties.cost.bound ∷ [])
          (omega (arith, some_blocks, block_cost, cheap_cost blocks.columns cheap_blocks))
          (All-cons small duties.count.bound (duties.cost.bound ∷ []) (omega (arith, some_duties, drivers))
          (All-cons small duties.cost.bound [] (omega (arith, some_duties, duty_cost, cheap_cost duties.columns cheap_duties))
          (All-nil small))));
    }

-- few pieces
pub ok_within : {E : Type 0} (r : Result (List Piece) E) (most : ℕ) → most ≤ 3000 → IfOk r (λ pieces. length pieces ≤ most) →
    IfOk r (λ pieces. length pieces ≤ 3000)
ok_within (Ok pieces) most few h = omega (arith, few, h)
ok_within (Err fault) most few h = tt

-- a text of tables that are the ones meant
pub text_of_tables : {E : Type 0} (r : Result (List ℕ) E) (tables meant : List Table) → IfOk r (λ bytes. bytes ≡ text tables) →
    tables ≡ meant → IfOk r (λ bytes. bytes ≡ text meant)
text_of_tables (Ok bytes) tables meant spelled same = spelled ∙ ap text same
text_of_tables (Err fault) tables meant spelled same = tt
