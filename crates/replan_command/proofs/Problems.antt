-- What rests are, by what they are made of; and lists that their items stand for.
use Rattle.std.proofs.Common.{◌≡◌, ◌≢◌, ℕ, ◌<◌, Bool, true, false, All, List, [], ◌∷◌, Result, Ok, Err, IfOk, IfErr, refl, sym, ap, ◌∙◌, subst, slice_index_or}
use Rattle.plan_core.specs.declared.types.Piece.{Piece}
use Rattle.plan_params.specs.declared.rows.ParamRows.{ParamRows}
use Rattle.cover_core.specs.Cover.{AllBelow}
use Rattle.cover_core.specs.Laws.{IsCountOf}
use Rattle.cover_core.specs.declared.Column.{Column}
use Rattle.cover_plan.specs.Endings.{Numbers}
use Rattle.day_method.specs.declared.side.Side.TheVariants.{Vehicles, Drivers}
use Rattle.day_method.specs.Method.{SidePlan}
use Rattle.day_model.specs.Facts.{DayFacts}
use Rattle.day_model.specs.Ranges.{IsDaily}
use Rattle.depot_network.specs.Network.{blocks_of}
use Rattle.block_cut.specs.Cuts.{pieces_of_plan}
use Rattle.duty_network.specs.Duties.{DutyFacts, duties}
use Rattle.cert_check.specs.Old.{AreOfDay as AreOldOfDay}
use Rattle.cover_rest.specs.Keeping.{AreHeads}
use Rattle.block_rest.specs.Heads.{AreOfDay}
use Rattle.block_rest.specs.Rest.{RestFacts as BlockFacts}
use Rattle.block_rest.specs.Rest.{may_begin, rests as block_rests}
use Rattle.duty_rest.specs.Heads.{duty_heads_of}
use Rattle.duty_rest.specs.Rest.{RestFacts as DutyFactsLeft}
use Rattle.duty_rest.specs.Rest.{begun_of as begun_duties_of}
use Rattle.duty_rest.specs.Rest.{may_begin as may_begin_duty, rests as duty_rests}
use Rattle.plan_command.specs.declared.fault.PlanFault.{PlanFault}
use Rattle.plan_command.specs.Planning.{duties_over}
use Rattle.replan_command.specs.Begun.{HaveDuties, duty_facts}
use Rattle.replan_command.specs.Replanning.{KeepsBlocks, Replan, begun_blocks, begun_duties, block_heads, block_items, blocks_left, duties_left, duty_heads, duty_items, piece_name, trip_name}
use Rattle.replan_command.specs.Steps.{IsEarlierPlan, IsMadeSide, IsWrittenCause, items_of_blocks, items_of_duties}
use Rattle.replan_command.proofs.Belonging.{have_duties}
use Rattle.replan_command.proofs.DutyHeads.{duty_heads_are}
use Rattle.replan_command.proofs.Kept.{rest-counts}
use Rattle.replan_command.proofs.SameCuts.{same_cut}

-- the first of a list that is not empty
pub first-there : (n : ℕ) (xs : List ℕ) → AllBelow n xs → xs ≢ [] → slice_index_or xs 0 0 < n
first-there n [] below some = absurd (some refl)
first-there n (x ∷ xs) below some = below.0

-- an answer of which more holds
pub ok-onto : {A E : Type 0} (r : Result A E) (P Q : A → Type 0) → ((a : A) → P a → Q a) → IfOk r P → IfOk r Q
ok-onto (Ok a) P Q onto h = onto a h
ok-onto (Err e) P Q onto h = tt

pub err-onto : {A E : Type 0} (r : Result A E) (P Q : E → Type 0) → ((e : E) → P e → Q e) → IfErr r P → IfErr r Q
err-onto (Ok a) P Q onto h = tt
err-onto (Err e) P Q onto h = onto e h

pub of-day : (day : DayFacts) (columns : List Column) → AreOldOfDay day columns → AreOfDay day columns
of-day day [] are = tt
of-day day (c ∷ cs) are = (are.0, of-day day cs are.1)

-- New blocks that keep what has begun leave each begun piece its one earlier duty. Here the two halves meet: a plan of blocks that
-- keeps what has begun cuts begun pieces as the earlier plan does (`same_cut`), and there each of them has its one duty
-- (`have_duties`). It is what `replan_text` needs before the duties of the rest can be asked for.
pub have : (r : Replan) → All IsDaily r.day.trips → IsEarlierPlan r.day r.earlier → (blocks : List Column) → KeepsBlocks r blocks →
    HaveDuties r.day r.earlier r.moment blocks
have r daily earlier blocks keeps =
    have_duties r.day earlier.old r.earlier r.moment blocks earlier.good
    (same_cut r.day r.earlier.blocks.columns blocks r.moment daily (of-day r.day r.earlier.blocks.columns earlier.lists)
    earlier.good.1.trips earlier.worths keeps.plan keeps.keeps)

-- the rest of the blocks
abbrev pub block_facts : Replan → Bool → BlockFacts
block_facts r counts = record { day = r.day; counts = counts; heads = block_heads r; moment = r.moment }

pub blocks-count : (r : Replan) (f g : BlockFacts) → f ≡ block_facts r true → g ≡ block_facts r false →
    IsCountOf (blocks_of r.day false) (blocks_of r.day true) → IsCountOf (block_rests g) (block_rests f)
blocks-count r f g counted costed counts =
    let P : BlockFacts → Type 0 = λ f. IsCountOf (block_rests g) (block_rests f) in
    let Q : BlockFacts → Type 0 = λ g. IsCountOf (block_rests g) (block_rests (block_facts r true)) in
    subst P (sym counted) (subst Q (sym costed)
    (rest-counts (blocks_of r.day false) (blocks_of r.day true) (begun_blocks r) (may_begin r.day r.moment) refl counts))

pub blocks-side : (r : Replan) (numbers : Numbers) (f g : BlockFacts) → f ≡ block_facts r true →
    g ≡ block_facts r false → (side : SidePlan) →
    IsMadeSide (block_rests f) (block_rests g) (items_of_blocks g) numbers side →
    IsMadeSide (blocks_left r true) (blocks_left r false) (block_items r) numbers side
blocks-side r numbers f g counted costed side made =
    let P : BlockFacts → Type 0 = λ f. IsMadeSide (block_rests f) (block_rests g) (items_of_blocks g) numbers side in
    let Q : BlockFacts → Type 0 = λ g. IsMadeSide (blocks_left r true) (block_rests g) (items_of_blocks g) numbers side in
    subst Q costed (subst P counted made)

pub blocks-fault : (r : Replan) (numbers : Numbers) (f g : BlockFacts) → f ≡ block_facts r true →
    g ≡ block_facts r false → (fault : PlanFault) →
    IsWrittenCause Vehicles (block_rests f) (block_rests g) (trip_name g.day.trips (items_of_blocks g)) (items_of_blocks g) numbers fault →
    IsWrittenCause Vehicles (blocks_left r true) (blocks_left r false) (trip_name r.day.trips (block_items r)) (block_items r) numbers fault
blocks-fault r numbers f g counted costed fault cause =
    let P : BlockFacts → Type 0 =
    λ f. IsWrittenCause Vehicles (block_rests f) (block_rests g) (trip_name g.day.trips (items_of_blocks g))
    (items_of_blocks g) numbers fault in
    let Q : BlockFacts → Type 0 =
    λ g. IsWrittenCause Vehicles (blocks_left r true) (block_rests g) (trip_name g.day.trips (items_of_blocks g))
    (items_of_blocks g) numbers fault in
    subst Q costed (subst P counted cause)

-- the rest of the duties over new blocks
abbrev pub left_facts : Replan → List Column → Bool → DutyFactsLeft
left_facts r blocks counts = record { net = duty_facts r.day blocks counts; heads = duty_heads r blocks; moment = r.moment }

-- the rest that is made of a net
abbrev pub facts_over : Replan → List Column → DutyFacts → DutyFactsLeft
facts_over r blocks net = record { net = net; heads = duty_heads_of net blocks r.earlier r.moment; moment = r.moment }

-- heads do not depend on whether duties are counted
pub facts-are : (r : Replan) (blocks : List Column) (f : DutyFactsLeft) (net : DutyFacts) (counts : Bool) → f ≡ facts_over r blocks net →
    net ≡ duty_facts r.day blocks counts → f ≡ left_facts r blocks counts
facts-are r blocks f net counts is same = is ∙ ap (facts_over r blocks) same

pub heads-over : (r : Replan) (blocks : List Column) (net : DutyFacts) (counts : Bool) → HaveDuties r.day r.earlier r.moment blocks →
    net ≡ duty_facts r.day blocks counts →
    AreHeads (duties net) (begun_duties_of (duty_heads_of net blocks r.earlier r.moment))
heads-over r blocks net counts have same =
    let P : DutyFacts → Type 0 = λ net. AreHeads (duties net) (begun_duties_of (duty_heads_of net blocks r.earlier r.moment)) in
    subst P (sym same) (duty_heads_are r blocks have counts)

pub duties-count : (r : Replan) (blocks : List Column) (f g : DutyFactsLeft) → f ≡ left_facts r blocks true →
    g ≡ left_facts r blocks false → IsCountOf (duties_over r.day blocks false) (duties_over r.day blocks true) →
    IsCountOf (duty_rests g) (duty_rests f)
duties-count r blocks f g counted costed counts =
    let P : DutyFactsLeft → Type 0 = λ f. IsCountOf (duty_rests g) (duty_rests f) in
    let Q : DutyFactsLeft → Type 0 = λ g. IsCountOf (duty_rests g) (duty_rests (left_facts r blocks true)) in
    subst P (sym counted) (subst Q (sym costed)
    (rest-counts (duties_over r.day blocks false) (duties_over r.day blocks true) (begun_duties r blocks) may_begin_duty refl counts))

pub duties-side : (r : Replan) (blocks : List Column) (numbers : Numbers) (f g : DutyFactsLeft) → f ≡ left_facts r blocks true →
    g ≡ left_facts r blocks false → (side : SidePlan) →
    IsMadeSide (duty_rests f) (duty_rests g) (items_of_duties g) numbers side →
    IsMadeSide (duties_left r blocks true) (duties_left r blocks false) (duty_items r blocks) numbers side
duties-side r blocks numbers f g counted costed side made =
    let P : DutyFactsLeft → Type 0 = λ f. IsMadeSide (duty_rests f) (duty_rests g) (items_of_duties g) numbers side in
    let Q : DutyFactsLeft → Type 0 = λ g. IsMadeSide (duties_left r blocks true) (duty_rests g) (items_of_duties g) numbers side in
    subst Q costed (subst P counted made)

pub duties-fault : (r : Replan) (blocks : List Column) (numbers : Numbers) (f g : DutyFactsLeft) → f ≡ left_facts r blocks true →
    g ≡ left_facts r blocks false → (fault : PlanFault) →
    IsWrittenCause Drivers (duty_rests f) (duty_rests g) (piece_name g.net.pieces (items_of_duties g)) (items_of_duties g) numbers fault →
    IsWrittenCause Drivers (duties_left r blocks true) (duties_left r blocks false)
    (piece_name (pieces_of_plan r.day blocks) (duty_items r blocks)) (duty_items r blocks) numbers fault
duties-fault r blocks numbers f g counted costed fault cause =
    let P : DutyFactsLeft → Type 0 =
    λ f. IsWrittenCause Drivers (duty_rests f) (duty_rests g) (piece_name g.net.pieces (items_of_duties g))
    (items_of_duties g) numbers fault in
    let Q : DutyFactsLeft → Type 0 =
    λ g. IsWrittenCause Drivers (duties_left r blocks true) (duty_rests g) (piece_name g.net.pieces (items_of_duties g))
    (items_of_duties g) numbers fault in
    subst Q costed (subst P counted cause)

-- the net of the pieces of new blocks
pub net-is : (day : DayFacts) (blocks : List Column) (pieces : List Piece) (params : ParamRows) (counts : Bool) (net : DutyFacts) →
    net ≡ record { pieces = pieces; params = params; counts = counts } →
    pieces ≡ pieces_of_plan day blocks → params ≡ day.params → net ≡ duty_facts day blocks counts
net-is day blocks pieces params counts net is same_pieces same_params =
    is
    ∙ (ap (λ (ps : List Piece). record { pieces = ps; params = params; counts = counts }) same_pieces
    ∙ ap (λ (rows : ParamRows). record { pieces = pieces_of_plan day blocks; params = rows; counts = counts }) same_params)
