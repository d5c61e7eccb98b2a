-- The certificate that is written is read back: each of its parts has a price for each item and class, and its marks are in their ranges.
use Rattle.std.proofs.Common.{◌≡◌, ℕ, ◌<◌, Bool, true, false, All, List, ◌∷◌, length, map, get_or, Option, Some, None, refl, sym, ap, ◌∙◌, subst, arith, []}
use Rattle.std.specs.Prelude.{AllPairs}
use Rattle.std.proofs.lemmas.List.{get_or-map, length-map}
use Rattle.std.proofs.lemmas.List.Elements.{All-from_recursion}
use Rattle.std.proofs.lemmas.Option.{slice_get-get_or}
use Rattle.std.specs.List.{AllByRecursion}
use Rattle.std.specs.declared.cmp.Ordering.{Ordering}
use Rattle.plan_command.specs.Planning.{IsDualFeasible}
use Rattle.plan_core.specs.declared.Price.{Price}
use Rattle.plan_core.specs.declared.types.Piece.{Piece}
use Rattle.vdv451_text.specs.declared.table.Table.{Table}
use Rattle.cover_core.specs.declared.Prices.{Prices}
use Rattle.cover_core.specs.declared.marks.BlockMark.{BlockMark}
use Rattle.cover_core.specs.declared.marks.Mark.{Mark}
use Rattle.cover_core.specs.FirstLeast.{AllWithin}
use Rattle.cover_core.specs.Labels.{label_after, label_of}
use Rattle.dual_bound.specs.declared.kept.Kept.{Kept}
use Rattle.plan_params.specs.declared.rows.group.Group.{Group}
use Rattle.plan_params.specs.declared.rows.pool.Pool.{Pool}
use Rattle.day_method.specs.Method.{SidePlan}
use Rattle.day_model.specs.Facts.{DayFacts}
use Rattle.day_model.specs.Ranges.{AreInRange}
use Rattle.mark_cover.specs.Marking.{Marking, of_class}
use Rattle.mark_cover.specs.Minimal.{AreMinimal, AreSafe, IsOpenMark}
use Rattle.depot_network.specs.BlockMarks.{block_marking}
use Rattle.depot_network.specs.Network.{blocks_of}
use Rattle.duty_network.specs.Duties.{DutyFacts, duties as duties_of}
use Rattle.duty_network.specs.Ranges.{NetFits}
use Rattle.block_cover.specs.Laws.{marks-safe}
use Rattle.block_cover.specs.Seen.{MarkFits, mark_order as block_order}
use Rattle.block_cut.specs.Cuts.{pieces_of_plan}
use Rattle.label_cover.specs.Laws.{duty-safe}
use Rattle.label_cover.specs.Marked.{duty_marking, mark_order as duty_order}
use Rattle.label_cover.specs.Ranges.{MarkHasRanges}
use Rattle.plan_read.specs.ReadsBack.{HaveOwnNumbers, PlanReadsBack}
use Rattle.plan_cert.specs.declared.cert.Cert.{Cert}
use Rattle.plan_cert.specs.declared.cert.CertPart.{CertPart}
use Rattle.plan_cert.specs.declared.shape.Shape.{Shape}
use Rattle.plan_cert.specs.Laws.{AreParts, HaveOwnNumbers as HaveOwnClasses, IsBlockPart, IsDutyPart, IsModerate, ReadsBack}
use Rattle.plan_cert.specs.Shapes.{class_numbers_of, group_numbers_of, pool_numbers_of, shape_of}
use Rattle.plan_cert.specs.Writing.{HaveClasses}
use Rattle.plan_certify.specs.Certificate.{IsBlockPartOf, IsCertOf, IsDutyPartOf, duty_facts}
use Rattle.plan_certify.proofs.Classes.{have-classes}
use Rattle.cert_check.specs.Reasons.{HasCert, printed_pieces}
use Rattle.check_answers.specs.Accepted.{plan_of, written_text}
use Rattle.check_answers.specs.Checkable.{IsCheckable, case_of}
use Rattle.check_answers.proofs.Tables.{has-tables, in-order, net-fits}

-- What each step keeps holds of the marks of open lists, so of those of a least cover.
module _ {L : Type 0} (m : Marking L) (sound : L → Type 0) (safe : AreSafe m sound) where
  after-sound : (class : ℕ) (o : Option L) (xs : List ℕ) (b : L) → ((a : L) → o ≡ Some a → sound a) →
      label_after (of_class m class) o xs ≡ Some b → sound b
  after-sound class None xs b known e = absurd (cc)
  after-sound class (Some a) [] b known e = known b e
  after-sound class (Some a) (x ∷ xs) b known e = after-sound class (m.extend a x) xs b (λ c is. safe.steps a c x (known a refl) is) e

  list-sound : (class : ℕ) (list : List ℕ) (b : L) → label_of (of_class m class) list ≡ Some b → sound b
  list-sound class [] b e = absurd (cc)
  list-sound class (x ∷ xs) b e = after-sound class (m.start class x) xs b (λ a is. safe.starts class x a is) e

  open-sound : (a : L) → IsOpenMark m a → sound a
  open-sound a (class, there, list, has) = list-sound class list a has

  -- A property that the first label of every list has and that each extension keeps holds of the marks of all open lists, by induction
  -- over the list, and a least cover has no other marks. So the ranges of marks, which reading a certificate asks, follow from one
  -- step of the search and need no look at how the cover was made.
  least-sound : (order : L → L → Ordering) (marks : List L) → AreMinimal m order marks → All sound marks
  least-sound order marks least =
      λ k d there. open-sound (get_or marks k d) (least.only (get_or marks k d) (k, slice_get-get_or marks k d there)).0

-- prices from -3 * 10^15 to 3 * 10^15
each-moderate : (prices : List Price) → AllWithin 3000000000000000 prices → AllByRecursion IsModerate prices
each-moderate [] within = tt
each-moderate (p ∷ ps) within = ((within.0, within.1), each-moderate ps within.2)

offer-moderate : (prices : List Price) → AllWithin 3000000000000000 prices → All IsModerate prices
offer-moderate prices within = All-from_recursion IsModerate prices (each-moderate prices within)

block-part : (facts : DayFacts) (counts : Bool) (kept : Kept) (part : CertPart) → AreInRange facts →
    IsDualFeasible (blocks_of facts counts) kept → IsBlockPartOf facts counts kept part →
    length part.class_prices ≡ length (pool_numbers_of facts) →
    All (λ (a : BlockMark). a.class < length (pool_numbers_of facts)) part.blocks.marks →
    IsBlockPart (length facts.trips) (length (pool_numbers_of facts)) part
block-part facts counts kept part in_range paid is class_prices classes =
    let marking = block_marking facts counts kept.prices.items in
    let sound = least-sound marking (MarkFits (length facts.trips))
    (marks-safe facts counts kept.prices.items in_range.daily in_range.params.pools paid.prices.1)
    block_order part.blocks.marks is.least in
    let P : Prices → Type 0 = λ p. All IsModerate p.items in
    record {
      part_is = record {
        prices = ap (λ (p : Prices). length p.items) is.prices ∙ paid.prices.0;
        moderate = subst P (sym is.prices) (offer-moderate kept.prices.items paid.prices.1);
        class_prices = class_prices;
      };
      marks = λ k d within. let fits = sound k d within in let few =
          fits.driving in record { class = classes k d within; item = fits.trip; driving = omega (arith, few) };
      none = is.none;
    }

duty-part : (facts : DayFacts) (over : DutyFacts) (kept : Kept) (part : CertPart) → NetFits over → IsDualFeasible (duties_of over) kept →
    IsDutyPartOf over kept part →
    length part.class_prices ≡ length (group_numbers_of facts) →
    All (λ (a : Mark). a.class < length (group_numbers_of facts)) part.cover.marks →
    IsDutyPart (length over.pieces) (length (group_numbers_of facts)) part
duty-part facts over kept part net paid is class_prices classes =
    let marking = duty_marking over kept.prices.items in
    let sound = least-sound marking (MarkHasRanges (length over.pieces))
    (duty-safe over kept.prices.items net paid.prices.1) duty_order part.cover.marks is.least in
    let P : Prices → Type 0 = λ p. All IsModerate p.items in
    record {
      part_is = record {
        prices = ap (λ (p : Prices). length p.items) is.prices ∙ paid.prices.0;
        moderate = subst P (sym is.prices) (offer-moderate kept.prices.items paid.prices.1);
        class_prices = class_prices;
      };
      marks = λ k d within. let fits = sound k d within in let few = fits.driving in let short = fits.total in
          record { class = classes k d within; item = fits.piece; driving = omega (arith, few); total = omega (arith, short) };
      none = is.none;
    }

-- numbers that rise among members rise as a list
numbers-rise : {A : Type 0} (number : A → ℕ) (xs : List A) → AllPairs (λ (earlier later : A). number earlier < number later) xs →
    AllPairs (λ (earlier later : ℕ). earlier < later) (map number xs)
numbers-rise number [] rise = λ i j d less within. absurd (omega (arith, within))
numbers-rise number (x ∷ xs) rise = λ i j d less within.
    let count : length (map number (x ∷ xs)) ≡ length (x ∷ xs) = length-map (x ∷ xs) number in
    let here = get_or-map number (x ∷ xs) i x d (omega (arith, count, less, within)) in
    let there = get_or-map number (x ∷ xs) j x d (omega (arith, count, within)) in
    let up = rise i j x less (omega (arith, count, within)) in
    omega (arith, here, there, up)

pub own-classes : (facts : DayFacts) → HaveOwnNumbers facts → HaveOwnClasses (class_numbers_of facts)
own-classes facts own = record {
  pools = numbers-rise (λ (pool : Pool). pool.number) facts.params.pools own.pools;
  groups = numbers-rise (λ (group : Group). group.number) facts.params.groups own.groups;
}

module _ (facts : DayFacts) (table : Table) (blocks duties : SidePlan) (cert : Cert) (is : IsCheckable facts table blocks duties)
    (certifies : IsCertOf facts blocks duties cert) where
  -- The parts of the certificate are those of the day.
  are-parts : AreParts (shape_of facts (length (pieces_of_plan facts blocks.columns))) cert.parts
  are-parts =
      let shape : Shape = shape_of facts (length (pieces_of_plan facts blocks.columns)) in
      let P : List CertPart → Type 0 = λ parts. HaveClasses (class_numbers_of facts) parts in
      let Q : List CertPart → Type 0 = λ parts. AreParts shape parts in
      let classes : HaveClasses (class_numbers_of facts)
      (certifies.block_number ∷ certifies.block_cost ∷ certifies.duty_number ∷ certifies.duty_cost ∷ []) =
      subst P certifies.parts (have-classes facts blocks duties cert is.paid certifies) in
      let one = classes.0 in
      let two = classes.1 in
      let three = classes.2 in
      let four = classes.3 in
      subst Q (sym certifies.parts) (
        block-part facts true blocks.count certifies.block_number is.day.in_range is.paid.block_number certifies.of_block_number one.prices
            one.blocks,
        block-part facts false blocks.cost certifies.block_cost is.day.in_range is.paid.block_cost certifies.of_block_cost two.prices
            two.blocks,
        duty-part facts (duty_facts facts blocks.columns true) duties.count certifies.duty_number
            (net-fits facts table blocks duties cert is true) is.paid.duty_number certifies.of_duty_number three.prices three.duties,
        duty-part facts (duty_facts facts blocks.columns false) duties.cost certifies.duty_cost
            (net-fits facts table blocks duties cert is false) is.paid.duty_cost certifies.of_duty_cost four.prices four.duties,
      )

  pub has-cert : PlanReadsBack → ((shape : Shape) → ReadsBack shape) →
      HasCert (case_of facts table blocks duties cert) (written_text facts blocks duties) (plan_of blocks) (plan_of duties) cert
  has-cert back cert_back =
      let c = case_of facts table blocks duties cert in
      let parts : AreParts (shape_of facts (length (printed_pieces c (plan_of blocks)))) cert.parts =
      in-order facts table blocks duties cert is (λ (ps : List Piece). AreParts (shape_of facts (length ps)) cert.parts) are-parts in
      record {
        has_tables = has-tables facts table blocks duties cert is back;
        said = cert_back (shape_of facts (length (printed_pieces c (plan_of blocks)))) cert (own-classes facts is.day.numbers) parts;
        parts = parts;
      }
