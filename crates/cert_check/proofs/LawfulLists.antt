-- The lists that are judged as blocks and duties: what judging them asks for, and what its verdicts name.
use Rattle.std.proofs.Common.{◌≡◌, ℕ, ◌<◌, ◌≤◌, Bool, false, IsTrue, All, List, [], ◌∷◌, length, map, refl, sym, ap, ◌∙◌, subst, arith}
use Rattle.std.proofs.lemmas.List.{length-map}
use Rattle.std.proofs.lemmas.List.Elements.{All-cons, All-nil}
use Rattle.std.proofs.lemmas.Option.{get_or_from_slice_get, slice_get-get_or, slice_get-map, slice_get_within}
use Rattle.std.specs.Option.{option_map}
use Rattle.std.specs.Prelude.{Option, Some, None, Result, Ok, Err, IfOk, is_some, slice_get, slice_index_or}
use Rattle.plan_core.specs.declared.types.Piece.{Piece}
use Rattle.cover_core.specs.declared.Column.{Column}
use Rattle.cover_core.specs.declared.Plan.{Plan}
use Rattle.cover_core.specs.Cover.{Problem}
use Rattle.cover_core.specs.Plans.{AreColumns, IsPlan}
use Rattle.cover_core.proofs.Counts.{has_few_columns}
use Rattle.trip_times.specs.declared.trip.Trip.{Trip}
use Rattle.plan_params.specs.declared.rows.group.Group.{Group}
use Rattle.plan_params.specs.declared.rows.pool.Pool.{Pool}
use Rattle.day_model.specs.Blocks.{block_worth}
use Rattle.day_model.specs.Facts.{DayFacts}
use Rattle.depot_network.specs.Listed.{blocks_listed}
use Rattle.depot_network.specs.Network.{NetFacts, blocks as net_blocks, blocks_of}
use Rattle.block_cut.specs.Legs.{HasWorth}
use Rattle.duty_network.specs.Duties.{DutyFacts, duties}
use Rattle.plan_check.specs.declared.verdict.PlanVerdict.{PlanVerdict}
use Rattle.plan_check.specs.Verdicts.{IsVerdict}
use Rattle.plan_check.specs.declared.verdict.PlanVerdict.TheVariants as verdicts
use Rattle.plan_params.specs.declared.rows.ParamRows.{ParamRows}
use Rattle.umlauf_write.specs.declared.text.DutyRow.{DutyRow}
use Rattle.umlauf_write.specs.declared.text.PlanText.{PlanText}
use Rattle.cert_check.specs.declared.reason.Reason.TheVariants as reasons
use Rattle.cert_check.specs.Judging.{Case, blocks_in, duties_in, duty_list, duty_lists, fids_in, groups_in, pieces_in, pools_in, text_in}
use Rattle.cert_check.specs.Reasons.{HasBlocks, IsReason}

-- blocks of a plan have their worths
some-worth : (o : Option ℕ) (worth : ℕ) → o ≡ Some worth → IsTrue (is_some o)
some-worth None worth h = absurd (cc)
some-worth (Some w) worth h = refl

worths-there : (facts : DayFacts) (columns : List Column) → AreColumns (blocks_of facts false) columns → All (HasWorth facts) columns
worths-there facts [] are = All-nil (HasWorth facts)
worths-there facts (c ∷ cs) are = All-cons (HasWorth facts) c cs (some-worth (block_worth facts false c.class c.items) c.worth are.0.1)
    (worths-there facts cs are.1)

pub plan-worths : (facts : DayFacts) (columns : List Column) → IsPlan (blocks_of facts false) columns → All (HasWorth facts) columns
plan-worths facts columns plan = worths-there facts columns plan.worths

pub few-blocks : (facts : DayFacts) (columns : List Column) → length facts.trips ≤ 3000 → IsPlan (blocks_of facts false) columns →
    length columns ≤ 3000
few-blocks facts columns few plan = omega (
  arith,
  few,
  has_few_columns (blocks_of facts false)
      (blocks_listed (record { day = facts; counts = false })) columns plan,
)

pub few-pieces : {E : Type 0} (r : Result (List Piece) E) (most : ℕ) → most ≤ 3000 → IfOk r (λ pieces. length pieces ≤ most) →
    IfOk r (λ pieces. length pieces ≤ 3000)
few-pieces (Ok pieces) most few h = omega (arith, few, h)
few-pieces (Err fault) most few h = tt

-- A verdict over a net is one over the day that the net is of: the net has the day's facts and worths, its lists are those that the
-- tables say, and the verdict is the one that was found. Each is put in place of the other, one after another.
pub block-verdict : (c : Case) (net : NetFacts) (lists columns : List Column) (found verdict : PlanVerdict) → net.day ≡ c.day →
    net.counts ≡ false → lists ≡ columns → found ≡ verdict →
    IsVerdict (net_blocks net) lists found → IsVerdict (blocks_in c false) columns verdict
block-verdict c net lists columns found verdict day counts same that is =
    let P : DayFacts → Type 0 = λ d. IsVerdict (blocks_of d net.counts) lists found in
    let Q : Bool → Type 0 = λ b. IsVerdict (blocks_of c.day b) lists found in
    let R : List Column → Type 0 = λ l. IsVerdict (blocks_of c.day false) l found in
    let S : PlanVerdict → Type 0 = λ v. IsVerdict (blocks_of c.day false) columns v in
    subst S that (subst R same (subst Q counts (subst P day is)))

-- a place that is found unlawful is one of the lists
pub unlawful-below : (p : Problem) (lists : List Column) (place : ℕ) → IsVerdict p lists (verdicts.Unlawful place) → place < length lists
unlawful-below p lists place is = slice_get_within lists place is.1.list is.1.at

-- a trip that does not stand once
pub trip-times : (c : Case) (text : PlanText) (item count : ℕ) (trip : Trip) → text_in c ≡ Ok text →
    slice_get c.day.trips item ≡ Some trip →
    IsVerdict (blocks_in c false) text.blocks.columns (verdicts.Times item count) → IsReason c (reasons.TripTimes trip.fid count)
trip-times c text item count trip said at is =
    let named : slice_get (fids_in c) item ≡ Some trip.fid = slice_get-map (λ (t : Trip). t.fid) c.day.trips item
    ∙ ap (λ (o : Option Trip). option_map (λ (t : Trip). t.fid) o) at in
    (text, said, item, named, is)

-- A pool with too many blocks: its number and its vehicles. What is answered names the pool by its number and its vehicles, and the
-- verdict names the class. The class is there, as the verdict says, so both are read at one place of the pools, and they are those of
-- the day. Trips, pieces and groups, above and below, are named the same way.
pub pool-over : (c : Case) (text : PlanText) (pools : List Pool) (class used : ℕ) (d : Pool) → pools ≡ c.day.params.pools →
    text_in c ≡ Ok text →
    IsVerdict (blocks_in c false) text.blocks.columns (verdicts.Over class used) →
    IsReason c (reasons.PoolOver (slice_index_or pools class d).number used (slice_index_or pools class d).cap)
pool-over c text pools class used d same said is =
    let rows = c.day.params.pools in
    let pool = slice_index_or pools class d in
    let caps = map (λ (p : Pool). p.cap) rows in
    let long : length caps ≡ length rows = length-map rows (λ (p : Pool). p.cap) in
    let there : class < length caps = is.2.there in
    let low : class < length rows = omega (arith, long, there) in
    let found : pool ≡ slice_index_or rows class d = ap (λ (l : List Pool). slice_index_or l class d) same in
    let at : slice_get rows class ≡ Some pool = slice_get-get_or rows class d low ∙ ap (λ (p : Pool). Some p) (sym found) in
    let named : slice_get (pools_in c) class ≡ Some pool.number = slice_get-map (λ (p : Pool). p.number) rows class
    ∙ ap (λ (o : Option Pool). option_map (λ (p : Pool). p.number) o) at in
    let capped : slice_get caps class ≡ Some pool.cap = slice_get-map (λ (p : Pool). p.cap) rows class
    ∙ ap (λ (o : Option Pool). option_map (λ (p : Pool). p.cap) o) at in
    (text, said, class, named, sym (get_or_from_slice_get caps class pool.cap 0 capped), is)

-- the lists of the duties that the tables say
pub lists-are : (c : Case) (columns : List Column) (text : PlanText) (lists : List Column) (groups : List Group) (pieces : List Piece)
    (rows : List DutyRow) →
    lists ≡ map (duty_list groups pieces) rows → groups ≡ c.day.params.groups → pieces ≡ pieces_in c columns → rows ≡ text.duties →
    lists ≡ duty_lists c columns text
lists-are c columns text lists groups pieces rows made same_groups same_pieces same_rows =
    made
    ∙ (ap (λ (l : List Group). map (duty_list l pieces) rows) same_groups
    ∙ (ap (λ (l : List Piece). map (duty_list c.day.params.groups l) rows) same_pieces
    ∙ ap (λ (l : List DutyRow). map (duty_list c.day.params.groups (pieces_in c columns)) l) same_rows))

-- The same over duties.
pub duty-verdict : (c : Case) (columns : List Column) (text : PlanText) (pieces : List Piece) (params : ParamRows) (net : DutyFacts)
    (lists : List Column) (found verdict : PlanVerdict) →
    net ≡ record { pieces = pieces; params = params; counts = false } → pieces ≡ pieces_in c columns → params ≡ c.day.params →
    lists ≡ duty_lists c columns text → found ≡ verdict →
    IsVerdict (duties net) lists found → IsVerdict (duties_in c (pieces_in c columns) false) (duty_lists c columns text) verdict
duty-verdict c columns text pieces params net lists found verdict made same_pieces same_params same that is =
    let P : DutyFacts → Type 0 = λ d. IsVerdict (duties d) lists found in
    let Q : List Piece → Type 0 = λ l. IsVerdict (duties (record { pieces = l; params = params; counts = false })) lists found in
    let R : ParamRows → Type 0 = λ r. IsVerdict (duties (record { pieces = pieces_in c columns; params = r; counts = false })) lists found
    in
    let S : List Column → Type 0 = λ l. IsVerdict (duties_in c (pieces_in c columns) false) l found in
    let T : PlanVerdict → Type 0 = λ v. IsVerdict (duties_in c (pieces_in c columns) false) (duty_lists c columns text) v in
    subst T that (subst S same (subst R same_params (subst Q same_pieces (subst P made is))))

-- a piece that does not stand once
pub piece-times : (c : Case) (text : PlanText) (blocks : Plan) (pieces : List Piece) (item count : ℕ) (d : Piece) →
    pieces ≡ pieces_in c blocks.columns → HasBlocks c text blocks →
    IsVerdict (duties_in c (pieces_in c blocks.columns) false) (duty_lists c blocks.columns text) (verdicts.Times item count) →
    IsReason c (reasons.PieceTimes (slice_index_or pieces item d).block (slice_index_or pieces item d).index count)
piece-times c text blocks pieces item count d same has is =
    let rows = pieces_in c blocks.columns in
    let piece = slice_index_or pieces item d in
    let there : item < length rows = is.there in
    let found : piece ≡ slice_index_or rows item d = ap (λ (l : List Piece). slice_index_or l item d) same in
    let at : slice_get rows item ≡ Some piece = slice_get-get_or rows item d there ∙ ap (λ (p : Piece). Some p) (sym found) in
    (text, blocks, has, item, piece, at, refl, refl, is)

-- a group with too many duties: its number and its drivers
pub group-over : (c : Case) (text : PlanText) (blocks : Plan) (groups : List Group) (class used : ℕ) (d : Group) →
    groups ≡ c.day.params.groups → HasBlocks c text blocks →
    IsVerdict (duties_in c (pieces_in c blocks.columns) false) (duty_lists c blocks.columns text) (verdicts.Over class used) →
    IsReason c (reasons.GroupOver (slice_index_or groups class d).number used (slice_index_or groups class d).cap)
group-over c text blocks groups class used d same has is =
    let rows = c.day.params.groups in
    let group = slice_index_or groups class d in
    let caps = map (λ (g : Group). g.cap) rows in
    let long : length caps ≡ length rows = length-map rows (λ (g : Group). g.cap) in
    let there : class < length caps = is.2.there in
    let low : class < length rows = omega (arith, long, there) in
    let found : group ≡ slice_index_or rows class d = ap (λ (l : List Group). slice_index_or l class d) same in
    let at : slice_get rows class ≡ Some group = slice_get-get_or rows class d low ∙ ap (λ (g : Group). Some g) (sym found) in
    let named : slice_get (groups_in c) class ≡ Some group.number = slice_get-map (λ (g : Group). g.number) rows class
    ∙ ap (λ (o : Option Group). option_map (λ (g : Group). g.number) o) at in
    let capped : slice_get caps class ≡ Some group.cap = slice_get-map (λ (g : Group). g.cap) rows class
    ∙ ap (λ (o : Option Group). option_map (λ (g : Group). g.cap) o) at in
    (text, blocks, has, class, named, sym (get_or_from_slice_get caps class group.cap 0 capped), is)
