-- The class prices and the marks of a certificate are of classes that are there.
use Rattle.std.proofs.Common.{◌≡◌, ℕ, ◌<◌, Bool, true, false, All, List, [], ◌∷◌, length, Option, Some, None, Result, Ok, Err, IfOk, refl, sym, subst, ap, ◌∙◌}
use Rattle.std.proofs.lemmas.List.{length-map}
use Rattle.std.proofs.lemmas.List.Elements.{All-nil}
use Rattle.std.proofs.lemmas.Option.{slice_get-get_or}
use Rattle.std.specs.Prelude.{slice_index_or}
use Rattle.std.specs.declared.cmp.Ordering.{Ordering}
use Rattle.cover_core.specs.declared.marks.BlockMark.{BlockMark}
use Rattle.cover_core.specs.declared.marks.Mark.{Mark}
use Rattle.cover_core.specs.Labels.{label_after, label_of}
use Rattle.dual_bound.specs.declared.kept.Kept.{Kept}
use Rattle.plan_params.specs.declared.rows.ParamRows.{ParamRows}
use Rattle.plan_params.specs.declared.rows.group.Group.{Group}
use Rattle.plan_params.specs.declared.rows.pool.Pool.{Pool}
use Rattle.day_method.specs.Method.{SidePlan}
use Rattle.day_model.specs.Facts.{DayFacts}
use Rattle.mark_cover.specs.Marking.{IsPlaced, Marking, of_class}
use Rattle.mark_cover.specs.Minimal.{AreMinimal, IsOpenMark}
use Rattle.depot_network.specs.BlockMarks.{block_marking}
use Rattle.depot_network.specs.Network.{blocks_of}
use Rattle.duty_network.specs.Duties.{DutyFacts, duties as duties_of}
use Rattle.block_cover.specs.Laws.{marks-placed}
use Rattle.block_cover.specs.Seen.{mark_order as block_order}
use Rattle.label_cover.specs.Laws.{duty-placed}
use Rattle.label_cover.specs.Marked.{duty_marking, mark_order as duty_order}
use Rattle.plan_cert.specs.declared.cert.Cert.{Cert}
use Rattle.plan_cert.specs.declared.cert.CertPart.{CertPart}
use Rattle.plan_cert.specs.Shapes.{class_numbers_of, group_numbers_of, pool_numbers_of}
use Rattle.plan_cert.specs.Writing.{HaveClasses}
use Rattle.plan_command.specs.Planning.{IsDualFeasible}
use Rattle.plan_certify.specs.Certificate.{ArePaid, IsBlockPartOf, IsCertOf, IsDutyPartOf, duty_facts}

-- The mark of an open list has the class of the list, so the marks of a least cover are of classes that are there.
module _ {L : Type 0} (m : Marking L) (placed : IsPlaced m) where
  after-class : (class : ℕ) (o : Option L) (xs : List ℕ) (b : L) → ((a : L) → o ≡ Some a → m.class_of a ≡ class) →
      label_after (of_class m class) o xs ≡ Some b → m.class_of b ≡ class
  after-class class None xs b known e = absurd (cc)
  after-class class (Some a) [] b known e = known b e
  after-class class (Some a) (x ∷ xs) b known e = after-class class (m.extend a x) xs b (λ c is. (placed.steps a c x is).2 ∙ known a refl) e

  list-class : (class : ℕ) (list : List ℕ) (b : L) → label_of (of_class m class) list ≡ Some b → m.class_of b ≡ class
  list-class class [] b e = absurd (cc)
  list-class class (x ∷ xs) b e = after-class class (m.start class x) xs b (λ a is. (placed.starts class x a is).1) e

  open-class : (a : L) → IsOpenMark m a → m.class_of a < m.classes
  open-class a (class, there, list, has) = let P : ℕ → Type 0 = λ n. n < m.classes in subst P (sym (list-class class list a has)) there

  -- Induction over an open list: its first mark has the list's class and no extension changes it. So marks of a cover are of classes
  -- below the number of classes, and each has a number in the tables, where classes are told by their numbers.
  pub least-classes : (order : L → L → Ordering) (marks : List L) → AreMinimal m order marks →
      All (λ (a : L). m.class_of a < m.classes) marks
  least-classes order marks least = λ k d there.
      let a = slice_index_or marks k d in
      open-class a (least.only a (k, slice_get-get_or marks k d there)).0

module _ (facts : DayFacts) where
  pool-count : length (pool_numbers_of facts) ≡ length facts.params.pools
  pool-count = length-map facts.params.pools (λ (pool : Pool). pool.number)

  group-count : length (group_numbers_of facts) ≡ length facts.params.groups
  group-count = length-map facts.params.groups (λ (group : Group). group.number)

  no-duties : (marks : List Mark) → marks ≡ [] → All (λ (a : Mark). a.class < length (group_numbers_of facts)) marks
  no-duties marks none =
      let P : Mark → Type 0 = λ a. a.class < length (group_numbers_of facts) in
      let Q : List Mark → Type 0 = λ ms. All P ms in
      subst Q (sym none) (All-nil P)

  no-blocks : (marks : List BlockMark) → marks ≡ [] → All (λ (a : BlockMark). a.class < length (pool_numbers_of facts)) marks
  no-blocks marks none =
      let P : BlockMark → Type 0 = λ a. a.class < length (pool_numbers_of facts) in
      let Q : List BlockMark → Type 0 = λ ms. All P ms in
      subst Q (sym none) (All-nil P)

  -- a price for each pool, and marks of pools that are there
  block-classes : (counts : Bool) (kept : Kept) (part : CertPart) → IsDualFeasible (blocks_of facts counts) kept →
      IsBlockPartOf facts counts kept part →
      (length part.class_prices ≡ length (pool_numbers_of facts)) ×
      All (λ (a : Mark). a.class < length (group_numbers_of facts)) part.cover.marks ×
      All (λ (a : BlockMark). a.class < length (pool_numbers_of facts)) part.blocks.marks
  block-classes counts kept part paid is =
      let P : ℕ → Type 0 = λ n. All (λ (a : BlockMark). a.class < n) part.blocks.marks in
      let placed = marks-placed facts counts kept.prices.items in
      let there = least-classes (block_marking facts counts kept.prices.items) placed block_order part.blocks.marks is.least in
      let prices : length part.class_prices ≡ length facts.params.pools =
      ap length is.class_prices ∙ paid.class_prices ∙ length-map facts.params.pools (λ (pool : Pool). pool.cap) in (
        prices ∙ sym pool-count,
        no-duties part.cover.marks is.none,
        subst P (sym pool-count) there,
      )

  -- a price for each group, and marks of groups that are there
  duty-classes : (over : DutyFacts) (kept : Kept) (part : CertPart) → over.params ≡ facts.params → IsDualFeasible (duties_of over) kept →
      IsDutyPartOf over kept part →
      (length part.class_prices ≡ length (group_numbers_of facts)) ×
      All (λ (a : Mark). a.class < length (group_numbers_of facts)) part.cover.marks ×
      All (λ (a : BlockMark). a.class < length (pool_numbers_of facts)) part.blocks.marks
  duty-classes over kept part same paid is =
      let P : ℕ → Type 0 = λ n. All (λ (a : Mark). a.class < n) part.cover.marks in
      let placed = duty-placed over kept.prices.items in
      let there = least-classes (duty_marking over kept.prices.items) placed duty_order part.cover.marks is.least in
      let groups : length over.params.groups ≡ length (group_numbers_of facts) =
      ap (λ (rows : ParamRows). length rows.groups) same ∙ sym group-count in
      let prices : length part.class_prices ≡ length over.params.groups =
      ap length is.class_prices ∙ paid.class_prices ∙ length-map over.params.groups (λ (group : Group). group.cap) in (
        prices ∙ groups,
        subst P groups there,
        no-blocks part.blocks.marks is.none,
      )

  -- The certificate of a planned day can be written: it has a price for each class of each pass.
  -- The length of class prices is that of the caps of the pass's problem, which is the number of pools or of groups; so a row can be
  -- written for each, and marks name none besides (`least-classes`).
  pub have-classes : (blocks duties : SidePlan) (cert : Cert) → ArePaid facts blocks duties → IsCertOf facts blocks duties cert →
      HaveClasses (class_numbers_of facts) cert.parts
  have-classes blocks duties cert paid is =
      let one = block-classes true blocks.count is.block_number paid.block_number is.of_block_number in
      let two = block-classes false blocks.cost is.block_cost paid.block_cost is.of_block_cost in
      let three = duty-classes (duty_facts facts blocks.columns true) duties.count is.duty_number refl paid.duty_number is.of_duty_number in
      let four = duty-classes (duty_facts facts blocks.columns false) duties.cost is.duty_cost refl paid.duty_cost is.of_duty_cost in
      let P : List CertPart → Type 0 = λ parts. HaveClasses (class_numbers_of facts) parts in
      subst P (sym is.parts) (
        record { prices = one.0; duties = one.1; blocks = one.2 },
        record { prices = two.0; duties = two.1; blocks = two.2 },
        record { prices = three.0; duties = three.1; blocks = three.2 },
        record { prices = four.0; duties = four.1; blocks = four.2 },
      )

pub ok-classes : {E : Type 0} (facts : DayFacts) (blocks duties : SidePlan) (r : Result Cert E) → ArePaid facts blocks duties →
    IfOk r (IsCertOf facts blocks duties) →
    IfOk r (λ cert. HaveClasses (class_numbers_of facts) cert.parts)
ok-classes facts blocks duties (Ok cert) paid is = have-classes facts blocks duties cert paid is
ok-classes facts blocks duties (Err e) paid is = tt
