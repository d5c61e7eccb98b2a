-- From a yes to plans and bounds.
use Rattle.std.proofs.Common.{◌≡◌, ℕ, ℤ, pos, ◌<◌, ◌≤◌, ◌≤ℤ◌, Bool, true, false, List, [], ◌∷◌, length, map, sym, ◌∙◌, subst}
use Rattle.std.proofs.lemmas.List.{length-map}
use Rattle.std.specs.Prelude.{None, slice_index}
use Rattle.plan_core.specs.declared.Price.{Price}
use Rattle.plan_core.specs.declared.types.Piece.{Piece}
use Rattle.cover_core.specs.declared.Column.{Column}
use Rattle.cover_core.specs.declared.Plan.{Plan}
use Rattle.cover_core.specs.Laws.{IsCountOf}
use Rattle.cover_core.specs.Plans.{IsPlan, number_at}
use Rattle.plan_params.specs.declared.rows.ParamRows.{ParamRows}
use Rattle.plan_params.specs.declared.rows.group.Group.{Group}
use Rattle.plan_params.specs.declared.rows.pool.Pool.{Pool}
use Rattle.day_model.specs.Facts.{DayFacts}
use Rattle.depot_network.specs.BlockMarks.{block_marking}
use Rattle.depot_network.specs.Network.{NetFacts, blocks, blocks_of}
use Rattle.duty_network.specs.Duties.{DutyFacts, duties, duties_of}
use Rattle.duty_network.specs.Ranges.{NetFits}
use Rattle.mark_cover.specs.Covers.{CoverIsPaid}
use Rattle.label_cover.specs.Marked.{duty_marking}
use Rattle.plan_cert.specs.declared.cert.CertPart.{CertPart}
use Rattle.plan_cert.specs.Laws.{AreParts, IsBlockPart, IsDutyPart}
use Rattle.plan_cert.specs.Shapes.{shape_of}
use Rattle.plan_check.specs.Shown.{ArePaid, IsShown, ShowsPlans}
use Rattle.umlauf_write.specs.Printed.{printed}
use Rattle.umlauf_write.proofs.Order.{order_plan}
use Rattle.cert_check.specs.Certified.{YesIsCertified}
use Rattle.cert_check.specs.Judging.{Case, IsBlockGap, IsDutyGap, blocks_in, duties_in, duties_over}
use Rattle.cert_check.specs.Reasons.{AllCharged, AreCharged, AreShown, NoGaps, duties_again, printed_pieces}

-- What the crates below promise, each by a law of its own: covers are paid, each worth may be counted, and paid prices show plans.
pub record AreLaws : Type 0 where
  pub blocks_paid : (day : DayFacts) (counts : Bool) (prices : List Price) →
      CoverIsPaid (block_marking day counts prices) (blocks_of day counts) prices
  pub duties_paid : (d : DutyFacts) (prices : List Price) → NetFits d → CoverIsPaid (duty_marking d prices) (duties d) prices
  pub blocks_counted : (day : DayFacts) → IsCountOf (blocks_of day false) (blocks_of day true)
  pub duties_counted : (params : ParamRows) (pieces : List Piece) → IsCountOf (duties_of params pieces false) (duties_of params pieces true)
  pub blocks_shown : (net : NetFacts) → ShowsPlans (blocks net)
  pub duties_shown : (d : DutyFacts) → ShowsPlans (duties d)

-- as many numbers as caps
pool-caps : (pools : List Pool) → length (map (λ (pool : Pool). pool.number) pools) ≡ length (map (λ (pool : Pool). pool.cap) pools)
pool-caps pools = length-map pools (λ (pool : Pool). pool.number) ∙ sym (length-map pools (λ (pool : Pool). pool.cap))

group-caps : (groups : List Group) → length (map (λ (group : Group). group.number) groups) ≡ length
    (map (λ (group : Group). group.cap) groups)
group-caps groups = length-map groups (λ (group : Group). group.number) ∙ sym (length-map groups (λ (group : Group). group.cap))

-- class prices of at least 0, one for each class
charged-all : (part : CertPart) (classes : ℕ) → length part.class_prices ≡ classes → AreCharged part (length part.class_prices) →
    (class : ℕ) → class < classes → pos 0 ≤ℤ number_at part.class_prices class
charged-all part classes same charged = subst (λ (n : ℕ). (class : ℕ) → class < n → pos 0 ≤ℤ number_at part.class_prices class) same charged

-- A part over blocks without gap, with class prices of at least 0, has paid prices. That is the law of covers, once the part is known
-- to have a price for each trip and each pool (`AreParts`): then the class prices that are at least 0 are those of all classes.
blocks-paid : AreLaws → (c : Case) (counts : Bool) (part : CertPart) →
    IsBlockPart (length c.day.trips) (length (map (λ (pool : Pool). pool.number) c.day.params.pools)) part →
    AreCharged part (length part.class_prices) → IsBlockGap c counts part None →
    ArePaid (blocks_in c counts) part.prices.items part.class_prices
blocks-paid laws c counts part is charged cover = record {
  items = is.part_is.prices;
  classes = is.part_is.class_prices ∙ pool-caps c.day.params.pools;
  paid = laws.blocks_paid c.day counts part.prices.items part.blocks.marks part.class_prices
      (charged-all part (length c.day.params.pools) (is.part_is.class_prices
      ∙ length-map c.day.params.pools (λ (pool : Pool). pool.number)) charged) cover;
}

-- The same over duties.
duties-paid : AreLaws → (c : Case) (pieces : List Piece) (counts : Bool) (part : CertPart) → NetFits (duties_over c pieces counts) →
    IsDutyPart (length pieces) (length (map (λ (group : Group). group.number) c.day.params.groups)) part →
    AreCharged part (length part.class_prices) → IsDutyGap c pieces counts part None →
    ArePaid (duties_in c pieces counts) part.prices.items part.class_prices
duties-paid laws c pieces counts part fits is charged cover = record {
  items = is.part_is.prices;
  classes = is.part_is.class_prices ∙ group-caps c.day.params.groups;
  paid = laws.duties_paid (duties_over c pieces counts) part.prices.items fits part.cover.marks part.class_prices
      (charged-all part (length c.day.params.groups) (is.part_is.class_prices
      ∙ length-map c.day.params.groups (λ (group : Group). group.number)) charged) cover;
}

-- both plans are shown
record AreBothShown (c : Case) (blocks : Plan) (duty_columns : List Column) (bounds : List ℕ) : Type 0 where
  pub of_blocks : IsShown (blocks_in c false) (printed blocks.columns) (slice_index bounds 0) (slice_index bounds 1)
  pub of_duties : IsShown (duties_in c (printed_pieces c blocks) false) duty_columns (slice_index bounds 2) (slice_index bounds 3)

counted-fits : (c : Case) (pieces : List Piece) → NetFits (duties_over c pieces false) → NetFits (duties_over c pieces true)
counted-fits c pieces fits = record { few = fits.few; shifts = fits.shifts; params = fits.params }

-- Of four parts the first two are over blocks and the last two over duties, and of each two one counts and one has costs; so each plan
-- gets its two bounds from two parts (`blocks_shown`, `duties_shown`), as a plan with costs is one where columns are counted too.
-- Other numbers of parts are no certificate.
both-shown : AreLaws → (c : Case) (blocks : Plan) (duty_columns : List Column) (bounds : List ℕ) (parts : List CertPart) →
    IsPlan (blocks_in c false) (printed blocks.columns) → IsPlan (duties_in c (printed_pieces c blocks) false) duty_columns →
    NetFits (duties_over c (printed_pieces c blocks) false) →
    AreParts (shape_of c.day (length (printed_pieces c blocks))) parts → AllCharged parts → NoGaps c blocks 0 parts →
    AreShown c blocks bounds 0 parts → AreBothShown c blocks duty_columns bounds
both-shown laws c blocks duty_columns bounds (one ∷ two ∷ three ∷ four ∷ []) block_plan duty_plan fits are charged gaps shown =
    let pieces = printed_pieces c blocks in
    record {
      of_blocks = laws.blocks_shown (record { day = c.day; counts = false }) (blocks_in c true) (printed blocks.columns) one.prices.items
          two.prices.items one.class_prices two.class_prices
          (slice_index bounds 0) (slice_index bounds 1) (laws.blocks_counted c.day) block_plan
          (blocks-paid laws c true one are.0 charged.0 gaps.0) (blocks-paid laws c false two are.1 charged.1.0 gaps.1.0) shown.0 shown.1.0;
      of_duties = laws.duties_shown (duties_over c pieces false) (duties_in c pieces true) duty_columns three.prices.items
          four.prices.items three.class_prices four.class_prices
          (slice_index bounds 2) (slice_index bounds 3) (laws.duties_counted c.day.params pieces) duty_plan
          (duties-paid laws c pieces true three (counted-fits c pieces fits) are.2 charged.1.1.0 gaps.1.1.0)
          (duties-paid laws c pieces false four fits are.3 charged.1.1.1.0 gaps.1.1.1.0)
          shown.1.1.0 shown.1.1.1.0;
    }
both-shown laws c blocks duty_columns bounds [] block_plan duty_plan fits are charged gaps shown = absurd are
both-shown laws c blocks duty_columns bounds (one ∷ []) block_plan duty_plan fits are charged gaps shown = absurd are
both-shown laws c blocks duty_columns bounds (one ∷ two ∷ []) block_plan duty_plan fits are charged gaps shown = absurd are
both-shown laws c blocks duty_columns bounds (one ∷ two ∷ three ∷ []) block_plan duty_plan fits are charged gaps shown = absurd are
both-shown laws c blocks duty_columns bounds (one ∷ two ∷ three ∷ four ∷ five ∷ more) block_plan duty_plan fits are charged gaps shown =
    absurd are

-- A yes is a plan, its tables and four bounds. The marks of each pass are a cover, so with class prices of at least 0 its prices are paid;
-- paid prices show that no plan is smaller or cheaper than the bound that they give; and the printed bound is no higher than that one. The
-- plan stays one in printed order, and its duties are one over the pieces of the blocks in that order.
pub yes-certified : AreLaws → (c : Case) → YesIsCertified c
yes-certified laws c vehicles block_cost duty_count duty_cost answer =
    let (text, blocks, duties, cert, accepted, vehicles_are, block_cost_is, duties_are, duty_cost_is) = answer in
    let covered = accepted.is_covered in
    let charged = covered.is_charged in
    let has_cert = charged.has_cert in
    let has_tables = has_cert.has_tables in
    let has_duties = has_tables.has_duties in
    let block_plan = order_plan (blocks_in c false) blocks.columns has_duties.has_blocks.lawful.1 in
    let both = both-shown laws c blocks (duties_again c blocks duties) text.bounds cert.parts block_plan has_tables.again has_tables.fits
    has_cert.parts charged.charged covered.covered accepted.shown in
    record {
      text = text;
      blocks = blocks;
      duties = duties;
      blocks_shown = both.of_blocks;
      duties_shown = both.of_duties;
      said = has_duties.has_blocks.said;
      tables = has_tables.same;
      vehicles_are = vehicles_are;
      block_cost_is = block_cost_is;
      duties_are = duties_are;
      duty_cost_is = duty_cost_is;
    }
