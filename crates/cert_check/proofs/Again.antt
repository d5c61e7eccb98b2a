-- Blocks and duties in printed order: what their tables are made of is in its ranges.
use Rattle.std.proofs.Common.{◌≡◌, ℕ, suc, ◌*◌, ◌^◌, ◌<◌, ◌≤◌, Bool, true, false, nat_lt, if◌then◌else◌, All, List, [], ◌∷◌, length, map, Option, Some, None, is_some, IsTrue, refl, ap, ◌∙◌, subst, arith}
use Rattle.std.proofs.lemmas.Int.{ints}
use Rattle.std.proofs.lemmas.List.{length-map, length-append}
use Rattle.std.proofs.lemmas.List.Elements.{All-from_recursion, All-weaker, recursion_from_All}
use Rattle.std.specs.List.{AllByRecursion}
use Rattle.plan_core.specs.declared.types.Piece.{Piece}
use Rattle.cover_core.specs.declared.Column.{Column}
use Rattle.cover_core.specs.declared.Plan.{Plan}
use Rattle.cover_core.specs.Cover.{AllBelow, Problem}
use Rattle.cover_core.specs.FirstLeast.{AreCheap}
use Rattle.cover_core.specs.Plans.{AreColumns, HasListedColumns, IsPlan, all_items}
use Rattle.cover_core.proofs.Counts.{has_few_columns}
use Rattle.cover_core.proofs.Values.{Rises-length}
use Rattle.plan_params.specs.declared.rows.pool.Pool.{Pool}
use Rattle.plan_params.specs.declared.rows.group.Group.{Group}
use Rattle.plan_params.specs.Settings.{put_in_order}
use Rattle.day_model.specs.Facts.{DayFacts}
use Rattle.day_model.specs.Blocks.{block_worth}
use Rattle.depot_network.specs.Network.{blocks_of}
use Rattle.depot_network.specs.Listed.{blocks_listed}
use Rattle.block_cut.specs.Cuts.{IsShift}
use Rattle.block_cut.specs.Legs.{HasWorth}
use Rattle.duty_network.specs.Listed.{duties_listed}
use Rattle.duty_network.specs.Ranges.{IsShift as IsDutyShift}
use Rattle.umlauf_write.specs.declared.text.PlanText.{PlanText}
use Rattle.umlauf_write.specs.Answers.{IsPiece}
use Rattle.umlauf_write.specs.Printed.{first_of_column, printed}
use Rattle.umlauf_write.proofs.Order.{order_cheap}
use Rattle.cert_check.specs.Judging.{Case, blocks_in, duties_in, duties_over, new_piece, pieces_in, renumbered}
use Rattle.cert_check.specs.Reasons.{HasDuties, duties_again}

-- pieces
pub duty_shifts : (pieces : List Piece) → All IsShift pieces → All IsDutyShift pieces
duty_shifts pieces shifts =
    All-weaker IsShift IsDutyShift (λ p h. record { begins = h.begins; order = h.order; ends = h.ends; driving = h.driving }) pieces shifts

pub shift_pieces : (pieces : List Piece) → All IsShift pieces → All IsPiece pieces
shift_pieces pieces shifts =
    All-weaker IsShift IsPiece (λ p h.
    let begins = h.begins in
    let ends = h.ends in
    let driving = h.driving in
    record { begins = h.begins; order = h.order; ends = h.ends; driving = omega (arith, ints) }) pieces shifts

-- the columns of a plan
some_worth : (o : Option ℕ) (worth : ℕ) → o ≡ Some worth → IsTrue (is_some o)
some_worth None worth h = absurd (cc)
some_worth (Some w) worth h = refl

worths_there : (facts : DayFacts) (columns : List Column) → AreColumns (blocks_of facts false) columns →
    AllByRecursion (HasWorth facts) columns
worths_there facts [] are = tt
worths_there facts (c ∷ cs) are = (some_worth (block_worth facts false c.class c.items) c.worth are.0.1, worths_there facts cs are.1)

pub plan_worths : (facts : DayFacts) (columns : List Column) → IsPlan (blocks_of facts false) columns → All (HasWorth facts) columns
plan_worths facts columns plan = All-from_recursion (HasWorth facts) columns (worths_there facts columns plan.worths)

classes_below : (p : Problem) (columns : List Column) → AreColumns p columns →
    AllByRecursion (λ (c : Column). c.class < length p.caps) columns
classes_below p [] are = tt
classes_below p (c ∷ cs) are = (are.0.0, classes_below p cs are.1)

items_below : (p : Problem) (columns : List Column) → HasListedColumns p → AreColumns p columns →
    AllByRecursion (λ (c : Column). AllBelow p.items c.items) columns
items_below p [] listed are = tt
items_below p (c ∷ cs) listed are = ((listed c.class c.items c.worth are.0.1).2, items_below p cs listed are.1)

-- A duty's pieces rise and are below the number of all pieces, so a duty has no more pieces than there are.
few_items : (p : Problem) (columns : List Column) → p.items ≤ 3000 → HasListedColumns p → AreColumns p columns →
    AllByRecursion (λ (c : Column). length c.items ≤ 3000) columns
few_items p [] few listed are = tt
few_items p (c ∷ cs) few listed are =
    let (some, rises, below) = listed c.class c.items c.worth are.0.1 in
    (omega (arith, few, Rises-length p.items c.items rises below), few_items p cs few listed are.1)

below_each : (n : ℕ) (items : List ℕ) → AllBelow n items → AllByRecursion (λ (item : ℕ). item < n) items
below_each n [] below = tt
below_each n (x ∷ xs) below = (below.0, below_each n xs below.1)

-- the items of a plan's duties are pieces
numbered_below : (p : Problem) (columns : List Column) → HasListedColumns p → AreColumns p columns →
    AllByRecursion (λ (c : Column). All (λ (item : ℕ). item < p.items) c.items) columns
numbered_below p [] listed are = tt
numbered_below p (c ∷ cs) listed are = (
  All-from_recursion (λ (item : ℕ). item < p.items) c.items (below_each p.items c.items (listed c.class c.items c.worth are.0.1).2),
  numbered_below p cs listed are.1,
)

pub duty_items : (c : Case) (pieces : List Piece) (columns : List Column) → IsPlan (duties_in c pieces false) columns →
    All (λ (duty : Column). All (λ (item : ℕ). item < length pieces) duty.items) columns
duty_items c pieces columns plan =
    let p = duties_in c pieces false in
    All-from_recursion (λ (duty : Column). All (λ (item : ℕ). item < length pieces) duty.items) columns
    (numbered_below p columns (duties_listed (duties_over c pieces false)) plan.worths)

-- what holds of each column holds of each in printed order
put_each : (P : Column → Type 0) (c : Column) (cs : List Column) → P c → AllByRecursion P cs →
    AllByRecursion P (put_in_order first_of_column c cs)
put_each P c [] is are = (is, tt)
put_each P c (next ∷ cs) is are = by (nat_lt (first_of_column next) (first_of_column c)) (put_each P c cs is are.1)
  where
    by : (b : Bool) → AllByRecursion P (put_in_order first_of_column c cs) →
        AllByRecursion P (if b then next ∷ put_in_order first_of_column c cs else c ∷ next ∷ cs)
    by true later = (are.0, later)
    by false later = (is, are)

-- Printed order only moves columns: each is put before the first that does not begin earlier, and what held of it and of the others
-- holds of all that stand there. So of columns taken one by one nothing is to be shown anew after printing.
order_each : (P : Column → Type 0) (cs : List Column) → AllByRecursion P cs → AllByRecursion P (printed cs)
order_each P [] are = tt
order_each P (c ∷ cs) are = put_each P c (printed cs) are.0 (order_each P cs are.1)

put_long : (c : Column) (cs : List Column) → length (put_in_order first_of_column c cs) ≡ suc (length cs)
put_long c [] = refl
put_long c (next ∷ cs) = by (nat_lt (first_of_column next) (first_of_column c)) (put_long c cs)
  where
    by : (b : Bool) → length (put_in_order first_of_column c cs) ≡ suc (length cs) →
        length (if b then next ∷ put_in_order first_of_column c cs else c ∷ next ∷ cs) ≡ suc (suc (length cs))
    by true later = ap suc later
    by false later = refl

pub order_long : (cs : List Column) → length (printed cs) ≡ length cs
order_long [] = refl
order_long (c ∷ cs) = put_long c (printed cs) ∙ ap suc (order_long cs)

-- What holds of each duty holds of each that is numbered anew, whatever its items. To number the pieces anew changes a duty's items
-- alone, not its class, its worth or how many items it has.
again_each : (P Q : Column → Type 0) (f : Column → Column) (cs : List Column) → ((c : Column) → P c → Q (f c)) → AllByRecursion P cs →
    AllByRecursion Q (map f cs)
again_each P Q f [] step are = tt
again_each P Q f (c ∷ cs) step are = (step c are.0, again_each P Q f cs step are.1)

again_cheap : (blocks : List Column) (pieces anew : List Piece) (cs : List Column) → AreCheap cs →
    AreCheap (map (renumbered blocks pieces anew) cs)
again_cheap blocks pieces anew [] cheap = tt
again_cheap blocks pieces anew (c ∷ cs) cheap = (cheap.0, again_cheap blocks pieces anew cs cheap.1)

-- What the tables of blocks and duties are made of is in its ranges.
pub record FitsTables (day : DayFacts) (blocks duties : List Column) : Type 0 where
  pub few_blocks : length blocks ≤ 3000
  pub pools : All (λ (block : Column). block.class < length day.params.pools) blocks
  pub trips : All (λ (block : Column). AllBelow (length day.trips) block.items) blocks
  pub cheap_blocks : AreCheap blocks
  pub few_duties : length duties ≤ 3000
  pub groups : All (λ (duty : Column). duty.class < length day.params.groups) duties
  pub parts : All (λ (duty : Column). length duty.items ≤ 3000) duties
  pub cheap_duties : AreCheap duties

-- A plan's blocks and duties in printed order have their ranges: each column keeps its class and its worth, and as many items. It is
-- shown of each column by itself, and kept first by the new numbers (`again_each`) and then by the order (`order_each`). There are no
-- more duties than pieces, as in the plan before each piece stands once. Which pieces the new numbers name is not asked: so the tables
-- can be made and compared before it is known whether the duties in printed order are still a plan.
pub in_ranges : (c : Case) (blocks duties : Plan) → IsPlan (blocks_in c false) blocks.columns →
    IsPlan (duties_in c (pieces_in c blocks.columns) false) duties.columns →
    length blocks.columns ≤ 3000 → length (pieces_in c blocks.columns) ≤ 3000 → AreCheap blocks.columns → AreCheap duties.columns →
    FitsTables c.day (printed blocks.columns) (duties_again c blocks duties)
in_ranges c blocks duties block_plan duty_plan few_blocks few_pieces cheap_blocks cheap_duties =
    let old = pieces_in c blocks.columns in
    let f : Column → Column = renumbered blocks.columns old (pieces_in c (printed blocks.columns)) in
    let p = duties_in c old false in
    let listed : HasListedColumns p = duties_listed (duties_over c old false) in
    let Class : Column → Type 0 = λ duty. duty.class < length p.caps in
    let Few : Column → Type 0 = λ duty. length duty.items ≤ 3000 in
    let Pools : ℕ → Type 0 = λ n. All (λ (block : Column). block.class < n) (printed blocks.columns) in
    let Groups : ℕ → Type 0 = λ n. All (λ (duty : Column). duty.class < n) (printed (map f duties.columns)) in
    let Block : Column → Type 0 = λ block. block.class < length (blocks_in c false).caps in
    let Trips : Column → Type 0 = λ block. AllBelow (length c.day.trips) block.items in
    record {
      few_blocks = omega (arith, order_long blocks.columns, few_blocks);
      pools = subst Pools (length-map c.day.params.pools (λ (pool : Pool). pool.cap))
          (All-from_recursion Block (printed blocks.columns)
          (order_each Block blocks.columns (classes_below (blocks_in c false) blocks.columns block_plan.worths)));
      trips = All-from_recursion Trips (printed blocks.columns)
          (order_each Trips blocks.columns
          (items_below (blocks_in c false) blocks.columns (blocks_listed (record { day = c.day; counts = false })) block_plan.worths));
      cheap_blocks = order_cheap blocks.columns cheap_blocks;
      few_duties = omega (
        arith,
        order_long (map f duties.columns),
        length-map duties.columns f,
        few_pieces,
        has_few_columns p listed duties.columns duty_plan,
      );
      groups = subst Groups (length-map c.day.params.groups (λ (group : Group). group.cap))
          (All-from_recursion Class (printed (map f duties.columns))
          (order_each Class (map f duties.columns)
          (again_each Class Class f duties.columns (λ d h. h) (classes_below p duties.columns duty_plan.worths))));
      parts = All-from_recursion Few (printed (map f duties.columns))
          (order_each Few (map f duties.columns) (again_each Few Few f duties.columns
          (λ d h. let same : length (map (new_piece blocks.columns old (pieces_in c (printed blocks.columns))) d.items) ≡ length d.items =
          length-map d.items (new_piece blocks.columns old (pieces_in c (printed blocks.columns))) in omega (arith, same, h))
          (few_items p duties.columns few_pieces listed duty_plan.worths)));
      cheap_duties = order_cheap (map f duties.columns)
          (again_cheap blocks.columns old (pieces_in c (printed blocks.columns)) duties.columns cheap_duties);
    }

-- the same of the blocks and duties that the tables say
pub has_ranges : (c : Case) (text : PlanText) (blocks duties : Plan) → HasDuties c text blocks duties → length blocks.columns ≤ 3000 →
    length (pieces_in c blocks.columns) ≤ 3000 →
    AreCheap blocks.columns → AreCheap duties.columns → FitsTables c.day (printed blocks.columns) (duties_again c blocks duties)
has_ranges c text blocks duties has few_blocks few_pieces cheap_blocks cheap_duties =
    in_ranges c blocks duties has.has_blocks.lawful.1 has.lawful.1 few_blocks few_pieces cheap_blocks cheap_duties

-- few columns with few items each have few items in all
items_few : (cs : List Column) → AllByRecursion (λ (c : Column). length c.items ≤ 3000) cs → length (all_items cs) ≤ 3000 * length cs
items_few [] few = omega arith
items_few (c ∷ cs) few = let one = few.0 in omega (arith, one, length-append c.items (all_items cs), items_few cs few.1)

-- Few duties with few pieces each have few pieces in all: these can be counted in 32 bits, which judging the duties asks for.
pub all_few : (cs : List Column) → length cs ≤ 3000 → All (λ (c : Column). length c.items ≤ 3000) cs → length (all_items cs) < 2 ^ 32
all_few cs few each = omega (arith, few, items_few cs (recursion_from_All (λ (c : Column). length c.items ≤ 3000) cs each))
