-- What `plan` and `certify` write is accepted by `check`.
use Rattle.std.proofs.Common.{◌≡◌, ℕ, ◌+◌, ◌-◌, ◌<◌, ◌≤◌, ◌^◌, ◌⊎◌, inl, inr, Bool, true, false, if◌then◌else◌, All, IsTrue, IfSome, List, [], ◌∷◌, ◌++◌, length, get_or, Option, Some, None, refl, sym, ◌∙◌, ap, subst, arith, codes}
use Rattle.std.proofs.lemmas.Int.{ints}
use Rattle.std.proofs.lemmas.List.Elements.{recursion_from_All}
use Rattle.std.specs.List.{AllByRecursion, find}
use Rattle.plan_core.specs.declared.types.Piece.{Piece}
use Rattle.vdv451_text.specs.declared.table.Table.{Table}
use Rattle.vdv451_text.specs.Faults.{Gives}
use Rattle.vdv451_text.specs.Plain.{are_plain, text}
use Rattle.vdv452_rows.specs.Schema as schema
use Rattle.vdv452_tables.specs.declared.net.Net.{Net}
use Rattle.vdv452_tables.specs.declared.reading.Needs.TheVariants as needs
use Rattle.vdv452_tables.specs.Calendar.{net_of, schemas_of}
use Rattle.vdv452_tables.specs.Ranges.{HasRanges}
use Rattle.vdv452_rows.specs.Rows.{first_fault, has_name, table_of}
use Rattle.vdv452_tables.proofs.RangeLemmas.{ranges_of}
use Rattle.cover_core.specs.Plans.{HasListedColumns}
use Rattle.dual_bound.specs.declared.kept.Kept.{Kept}
use Rattle.cover_plan.specs.declared.known.KnownPlan.{KnownPlan}
use Rattle.cover_plan.specs.Endings.{IsFirstKept}
use Rattle.trip_times.specs.declared.trip.Trip.{Trip}
use Rattle.plan_params.specs.Limits.{IsPool}
use Rattle.plan_params.specs.declared.rows.pool.Pool.{Pool}
use Rattle.day_method.specs.Method.{SidePlan}
use Rattle.day_model.specs.Facts.{DayFacts}
use Rattle.day_model.specs.Ranges.{IsDaily}
use Rattle.depot_network.specs.Listed.{blocks_listed}
use Rattle.depot_network.specs.Network.{blocks_of}
use Rattle.block_cut.specs.Cuts.{IsShift, pieces_of_plan}
use Rattle.duty_network.specs.Listed.{duties_listed}
use Rattle.duty_network.specs.Ranges.{NetFits}
use Rattle.umlauf_write.specs.Answers.{answer_tables}
use Rattle.plan_read.specs.ReadsBack.{IsPieceOf}
use Rattle.plan_cert.specs.Shapes.{class_numbers_of}
use Rattle.plan_cert.specs.Writing.{tables_of}
use Rattle.input_files.specs.declared.stage.Stage.TheVariants as stages
use Rattle.input_files.specs.Inputs.{SpellTables}
use Rattle.input_files.specs.Parts.{joined}
use Rattle.input_files.specs.Stages.{most_bytes, most_cert}
use Rattle.plan_command.specs.Flow.{AreKnownBlocks}
use Rattle.plan_command.specs.Planning.{Asked, IsDayPlan, duties_over}
use Rattle.plan_command.specs.PlanText.{HasTripRows, IsPlanTextOver, answer_of}
use Rattle.plan_command.proofs.AlikeDays.{same_texts}
use Rattle.plan_command.proofs.Printing.{duty_shifts, few_blocks}
use Rattle.plan_certify.specs.Certificate.{IsCertTextOver, duty_facts}
use Rattle.plan_certify.proofs.AlikeCertificates.{same_certificates}
use Rattle.cert_check.specs.declared.reason.Answered.{Answered}
use Rattle.cert_check.specs.declared.reason.Answered.TheVariants.{Yes, No}
use Rattle.cert_check.specs.Reasons.{IsAnswer as IsCheckerAnswer}
use Rattle.check_answers.specs.Accepted.{IsYes, yes_for}
use Rattle.check_answers.specs.Checkable.{DayPlansAreCheckable, IsCheckable, IsCheckableDay}
use Rattle.check_answers.specs.DayRead.{IsReadDay, ReadDaysAreCheckable}
use Rattle.check_answers.specs.Texts.{TextsAreAccepted}
use Rattle.check_answers.proofs.PieceNumbers.{few-pieces, pieces-of-blocks}
use Rattle.check_answers.proofs.Shifts.{plan-shifts}
use Rattle.planner_run.specs.declared.status.Status.{Status}
use Rattle.planner_run.specs.declared.status.Status.TheVariants as statuses
use Rattle.accepted_texts.specs.Accepted.{AreAccepted, WrittenTextsAreAccepted}
use Rattle.planner_run.specs.CertText.{IsCertText}
use Rattle.planner_run.specs.CheckText.{IsCheckText, IsCheckTextOver, check_line, ending_of}
use Rattle.planner_run.specs.Model.{IsModelOf}
use Rattle.planner_run.specs.Run.{IsAnswer, IsWhole}
use Rattle.planner_run.specs.Tasks.{Certify, Check, Plan}
use Rattle.accepted_texts.proofs.CertNumbers.{HaveMiddle, cert_plain, cert_words}
use Rattle.planner_run.proofs.CheckLemmas.{cert_of, front_of, plan_of, whole_at}
use Rattle.accepted_texts.proofs.ClassPrices.{cost_first, count_first, first_middle, known_middle}
use Rattle.accepted_texts.proofs.FactNumbers.{HasNumbers, HasPlaces, IsNumbered, IsPlace, day_numbers}
use Rattle.accepted_texts.proofs.FilesBack.{as_many, few_tables, one_reading, plain_tables, same_room, split_parts, with_both, word_tables}
use Rattle.accepted_texts.proofs.LegNumbers.{IsFitTrip, plan_ends}
use Rattle.planner_run.proofs.ModelOutcomes.{days_alike}
use Rattle.planner_run.proofs.Outcomes.{some_same}
use Rattle.planner_run.proofs.PlanLemmas.{trips_have_rows}
use Rattle.accepted_texts.proofs.PlanNumbers.{IsFitPiece, IsMiddle, IsWritable, plan_plain, plan_words}
use Rattle.accepted_texts.proofs.TextsBack.{HasWords, HaveWords, text_is, text_spells}

-- a table that is found among tables has what they have
find_words : (test : Table → Bool) (tables : List Table) → HaveWords tables → IfSome (find test tables) HasWords
find_words test [] words = tt
find_words test (table ∷ tables) words = by (test table) (find_words test tables words.1)
  where
    by : (b : Bool) → IfSome (find test tables) HasWords → IfSome (if b then Some table else find test tables) HasWords
    by true later = words.0
    by false later = later

found_words : (tables : List Table) (table : Table) → HaveWords tables → table_of schema.trips tables ≡ Some table → HasWords table
found_words tables table words found =
    let P : Option Table → Type 0 = λ o. IfSome o HasWords in
    subst P found (find_words (has_name schema.trips.name) tables words)

trips_fit : (trips : List Trip) → AllByRecursion HasPlaces trips → AllByRecursion IsDaily trips → AllByRecursion IsFitTrip trips
trips_fit [] places daily = tt
trips_fit (trip ∷ trips) places daily = (record { places = places.0; daily = daily.0 }, trips_fit trips places.1 daily.1)

-- a yes is written as the line `yes`, and ends with Ok
yes_line : (answer : Answered) → IsYes answer → (check_line answer ≡ codes "yes\n") × (ending_of answer ≡ statuses.Ok)
yes_line (Yes vehicles block_cost duty_count duty_cost) holds = (refl, refl)
yes_line (No reason) holds = absurd holds

-- The planning tables, the day that they tell, and the two texts of this day. The tables of the texts are plain, and their numbers have 64
-- bits: those of the day have 32, times lie within few days, costs and prices are bounded, and so are the values of marks. So the two texts
-- are spelled by their tables alone, and the checker is handed these.
module _ (checkable : ReadDaysAreCheckable) (plans : (facts : DayFacts) (table : Table) → DayPlansAreCheckable facts table)
    (texts : TextsAreAccepted)
    (tables : List Table) (plain : IsTrue (are_plain tables)) (few : All (λ (t : Table). length t.rows < 2 ^ 32) tables)
    (words : HaveWords tables)
    (day : ℕ) (facts : DayFacts) (model : IsModelOf tables day facts) (table : Table) (found : table_of schema.trips tables ≡ Some table)
    (asked : Asked) (fixed : asked.numbers.climb ≡ false) where
  net : Net
  net = net_of needs.All tables

  ranges : HasRanges (net_of needs.All tables)
  ranges = ranges_of needs.All tables few

  rows : HasTripRows facts table
  rows = trips_have_rows tables (net_of needs.All tables) facts day table plain model.faultless refl ranges.fids found model.model

  read_day : IsReadDay tables facts table
  read_day = record { plain = plain; few = few; faultless = model.faultless; day = model.model.day_is; found = found; rows = rows }

  day_is : IsCheckableDay facts table
  day_is = checkable tables facts table read_day

  numbers : HasNumbers facts
  numbers = day_numbers tables day facts ranges model.model.kind_is model.model.day_is

  trips : AllByRecursion IsFitTrip facts.trips
  trips =
      trips_fit facts.trips (recursion_from_All HasPlaces facts.trips numbers.places)
      (recursion_from_All IsDaily facts.trips day_is.in_range.daily)

  pools : AllByRecursion IsPool facts.params.pools
  pools = recursion_from_All IsPool facts.params.pools day_is.in_range.params.pools

  depots_of : (ps : List Pool) → AllByRecursion IsNumbered ps → AllByRecursion (λ (pool : Pool). IsPlace pool.depot) ps
  depots_of [] all = tt
  depots_of (p ∷ ps) all = (all.0.1, depots_of ps all.1)

  -- Blocks and duties that the method ends with: what is asked of them for their tables to be written.
  module _ (blocks duties : SidePlan) (made : IsDayPlan facts asked blocks duties) where
    can_be_checked : IsCheckable facts table blocks duties
    can_be_checked = plans facts table asked blocks duties day_is made

    abbrev pieces : List Piece
    pieces = pieces_of_plan facts blocks.columns

    few_are : length pieces ≤ 3000
    few_are = few-pieces facts blocks.columns can_be_checked.blocks_are day_is.in_range.few

    shifts : All IsShift pieces
    shifts = plan-shifts facts day_is.in_range.daily day_is.short blocks.columns

    net_fits : (counts : Bool) → NetFits (duty_facts facts blocks.columns counts)
    net_fits counts = record { few = few_are; shifts = duty_shifts pieces shifts; params = day_is.in_range.params }

    pieces_fit : All IsFitPiece pieces
    pieces_fit =
        let ends = plan_ends facts trips day_is.short
        (depots_of facts.params.pools (recursion_from_All IsNumbered facts.params.pools numbers.pools)) blocks.columns in
        let of_blocks : All (IsPieceOf (length blocks.columns)) pieces = pieces-of-blocks facts blocks.columns few_are in
        let blocks_few = few_blocks facts blocks.columns day_is.in_range.few can_be_checked.blocks_are in
        λ k d within.
        let shift = shifts k d within in
        let named = of_blocks k d within in
        let begins = shift.begins in let order = shift.order in let late = shift.ends in let driving = shift.driving in
        let last = named.last in let index = named.index in (
          ends k d within,
          (omega (arith, ints, begins), omega (arith, ints, order, late)),
          (omega (arith, ints, begins, order), omega (arith, ints, late)),
          omega (arith, ints, driving, begins, late),
          omega (arith, last, blocks_few),
          index,
        )

    writable : IsWritable facts table blocks duties
    writable = record {
      numbers = numbers;
      trips = trips;
      few = day_is.in_range.few;
      fids = rows.fids;
      params = day_is.in_range.params;
      short = day_is.short;
      plain = day_is.table_is.plain;
      words = found_words tables table words found;
      one = rows.one;
      blocks_are = can_be_checked.blocks_are;
      duties_are = can_be_checked.duties_are;
      net = net_fits false;
      pieces = pieces_fit;
      block_number = made.blocks_are.count_bound blocks.columns made.blocks_are.plan;
      block_cost = made.blocks_are.cost_bound blocks.columns made.blocks_are.plan;
      duty_number = made.duties_are.count_bound duties.columns made.duties_are.plan;
      duty_cost = made.duties_are.cost_bound duties.columns made.duties_are.plan;
    }

    -- the class prices of the four passes
    blocks_listed_all : (counts : Bool) → HasListedColumns (blocks_of facts counts)
    blocks_listed_all counts = blocks_listed (record { day = facts; counts = counts })

    duties_listed_all : (counts : Bool) → HasListedColumns (duties_over facts blocks.columns counts)
    duties_listed_all counts = duties_listed (duty_facts facts blocks.columns counts)

    block_cost_middle : AllByRecursion IsMiddle blocks.cost.class_prices
    block_cost_middle =
        let side = made.blocks_are in
        let found_known : IsFirstKept (blocks_of facts false) asked.numbers blocks.cost ⊎
        ((known : KnownPlan) × (side.known ≡ Some known) × (blocks.cost ≡ known.cost)) =
        cost_first (blocks_of facts true) (blocks_of facts false) asked.numbers fixed blocks.count blocks.cost
        side.columns side.known side.planned in
        elim found_known [
          | inl first ↦ first_middle (blocks_of facts false) (blocks_listed_all false) day_is.in_range.few asked.numbers blocks.cost
              first side.cost_paid.prices.1
          | inr (known, is_known, same) ↦
              let Known : Option KnownPlan → Type 0 = λ o. AreKnownBlocks facts asked.flow o in
              let Middle : Kept → Type 0 = λ kept. AllByRecursion IsMiddle kept.class_prices in
              subst Middle (sym same)
              (known_middle facts trips day_is.short pools day_is.in_range.few asked.flow known (subst Known is_known side.known_is))
        ]

    duty_cost_middle : AllByRecursion IsMiddle duties.cost.class_prices
    duty_cost_middle =
        let side = made.duties_are in
        let found_known : IsFirstKept (duties_over facts blocks.columns false) asked.numbers duties.cost ⊎
        ((known : KnownPlan) × (side.known ≡ Some known) × (duties.cost ≡ known.cost)) =
        cost_first (duties_over facts blocks.columns true) (duties_over facts blocks.columns false) asked.numbers fixed duties.count
        duties.cost side.columns side.known side.planned in
        elim found_known [
          | inl first ↦ first_middle (duties_over facts blocks.columns false) (duties_listed_all false) few_are asked.numbers duties.cost
              first side.cost_paid.prices.1
          | inr (known, is_known, same) ↦ absurd (let bad : None ≡ Some known = sym side.known_is ∙ is_known in cc)
        ]

    middle : HaveMiddle blocks duties
    middle = record {
      block_number =
          let side = made.blocks_are in
          first_middle (blocks_of facts true) (blocks_listed_all true) day_is.in_range.few asked.numbers blocks.count
          (count_first (blocks_of facts true) (blocks_of facts false) asked.numbers fixed blocks.count blocks.cost
          side.columns side.known side.planned)
          side.count_paid.prices.1;
      block_cost = block_cost_middle;
      duty_number =
          let side = made.duties_are in
          first_middle (duties_over facts blocks.columns true) (duties_listed_all true) few_are asked.numbers duties.count
          (count_first (duties_over facts blocks.columns true) (duties_over facts blocks.columns false) asked.numbers fixed duties.count
          duties.cost side.columns side.known side.planned)
          side.count_paid.prices.1;
      duty_cost = duty_cost_middle;
    }

  module _ (one other : List ℕ) (plan : IsPlanTextOver facts asked table one) (cert : IsCertTextOver facts asked other) where
    abbrev plan_of_text : List Table
    plan_of_text = answer_tables facts table (answer_of facts plan.blocks plan.duties)

    abbrev cert_of_text : List Table
    cert_of_text = tables_of (class_numbers_of facts) cert.cert

    is_plain_plan : are_plain plan_of_text ≡ true
    is_plain_plan = plan_plain facts table plan.blocks plan.duties (writable plan.blocks plan.duties plan.plan)

    has_plan_words : HaveWords plan_of_text
    has_plan_words = plan_words facts table plan.blocks plan.duties (writable plan.blocks plan.duties plan.plan)

    is_plain_cert : are_plain cert_of_text ≡ true
    is_plain_cert =
        cert_plain facts numbers day_is.in_range cert.blocks cert.duties (net_fits cert.blocks cert.duties cert.plan)
        (can_be_checked cert.blocks cert.duties cert.plan).paid (middle cert.blocks cert.duties cert.plan) cert.cert cert.parts

    has_cert_words : HaveWords cert_of_text
    has_cert_words =
        cert_words facts numbers day_is.in_range cert.blocks cert.duties (net_fits cert.blocks cert.duties cert.plan)
        (can_be_checked cert.blocks cert.duties cert.plan).paid (middle cert.blocks cert.duties cert.plan) cert.cert cert.parts

    -- what the two texts spell
    plan_spelled : (given : List Table) → Gives most_cert one given → given ≡ plan_of_text
    plan_spelled given gives =
        let P : List ℕ → Type 0 = λ bytes. Gives most_cert bytes given in
        text_is most_cert plan_of_text given (omega arith) is_plain_plan has_plan_words (subst P plan.written gives)

    cert_spelled : (given : List Table) → Gives most_cert other given → given ≡ cert_of_text
    cert_spelled given gives =
        let P : List ℕ → Type 0 = λ bytes. Gives most_cert bytes given in
        text_is most_cert cert_of_text given (omega arith) is_plain_cert has_cert_words (subst P cert.written gives)

    plan_gives : length one ≤ most_bytes → Gives most_bytes one plan_of_text
    plan_gives short =
        let P : List ℕ → Type 0 = λ bytes. Gives most_bytes bytes plan_of_text in
        let same : length one ≡ length (text plan_of_text) = ap length plan.written in
        subst P (sym plan.written)
        (text_spells most_bytes plan_of_text (omega arith) (omega (arith, same, short)) is_plain_plan has_plan_words)

    cert_gives : length other ≤ most_cert → Gives most_cert other cert_of_text
    cert_gives short =
        let P : List ℕ → Type 0 = λ bytes. Gives most_cert bytes cert_of_text in
        let same : length other ≡ length (text cert_of_text) = ap length cert.written in
        subst P (sym cert.written)
        (text_spells most_cert cert_of_text (omega arith) (omega (arith, same, short)) is_plain_cert has_cert_words)

    -- So each answer over what they spell is a yes, and there is one.
    -- A checker that is handed whatever the two texts spell is handed the two lists of tables that were written (`plan_spelled`,
    -- `cert_spelled`). Over these each answer is a yes (`TextsAreAccepted`), and a yes is written as one line.
    answered_yes : (given given' : List Table) (ending : Status) (bytes : List ℕ) → Gives most_cert one given →
        Gives most_cert other given' →
        IsCheckTextOver facts table given given' ending bytes → (bytes ≡ codes "yes\n") × (ending ≡ statuses.Ok)
    answered_yes given given' ending bytes of_plan of_cert check =
        let P : List Table → List Table → Type 0 =
        λ p c. IsCheckerAnswer (record { day = facts; rec_frt = table; plan = p; cert = c }) check.answer in
        let judged : P plan_of_text cert_of_text =
        subst (λ (c : List Table). P plan_of_text c) (cert_spelled given' of_cert)
        (subst (λ (p : List Table). P p given') (plan_spelled given of_plan) check.judged) in
        let holds = (texts facts table asked day_is fixed one other plan cert).only check.answer judged in
        let line = yes_line check.answer holds in
        (check.written ∙ line.0, check.ends ∙ line.1)

    yes_over : IsCheckTextOver facts table plan_of_text cert_of_text statuses.Ok (codes "yes\n")
    yes_over = record {
      answer = yes_for plan.blocks plan.duties;
      judged = (texts facts table asked day_is fixed one other plan cert).answers;
      written = refl;
      ends = refl;
    }

-- Tables without a fault are not none.
some_tables : (tables : List Table) → first_fault (schemas_of needs.All) tables ≡ None → tables ≡ [] → ⊥
some_tables tables faultless none =
    let P : List Table → Type 0 = λ ts. first_fault (schemas_of needs.All) ts ≡ None in
    let bad : first_fault (schemas_of needs.All) [] ≡ None = subst P none faultless in
    cc

-- The same of files. `plan`, `certify` and `check` each find tables that the files spell; what planning files spell is one list of tables,
-- whether they are read alone or before the two texts. Each finds a day of these tables, and two days of one list of tables differ in the
-- order of their deadheads at most, so both texts are those of the day that the check finds. Over that day each answer is a yes.
module _ (checkable : ReadDaysAreCheckable) (plans : (facts : DayFacts) (table : Table) → DayPlansAreCheckable facts table)
    (texts : TextsAreAccepted)
    (contents : List (List ℕ)) (day : ℕ) (asked : Asked) (fixed : asked.numbers.climb ≡ false) (one other : List ℕ)
    (planned : IsAnswer (Plan asked) contents day statuses.Ok one) (certified : IsAnswer (Certify asked) contents day statuses.Ok other)
  where
    abbrev parts : List (List Table)
    parts = planned.parts

    abbrev tables : List Table
    tables = joined planned.parts

    is_small : most_bytes ≤ most_cert
    is_small = omega arith

    is_plain : IsTrue (are_plain tables)
    is_plain = plain_tables (stages.Planning 63 most_bytes) contents planned.parts planned.spelled

    are_few : All (λ (t : Table). length t.rows < 2 ^ 32) tables
    are_few = few_tables (stages.Planning 63 most_bytes) contents planned.parts is_small planned.spelled

    have_words : HaveWords tables
    have_words = word_tables (stages.Planning 63 most_bytes) contents planned.parts planned.spelled

    -- the certificate is one of the same tables
    of_tables : IsCertText asked tables day other
    of_tables =
        let same : certified.parts ≡ planned.parts =
        one_reading (stages.Planning 63 most_bytes) (stages.Planning 63 most_bytes) contents certified.parts planned.parts
        certified.spelled planned.spelled in
        let P : List (List Table) → Type 0 = λ ps. IsCertText asked (joined ps) day other in
        subst P same certified.written.0

    -- the two texts over one day of the tables
    plan_over : (facts : DayFacts) (table : Table) → IsModelOf tables day facts → table_of schema.trips tables ≡ Some table →
        IsPlanTextOver facts asked table one
    plan_over facts table model found =
        let p = planned.written.0 in
        let same : p.table ≡ table = some_same (table_of schema.trips tables) p.table table p.found found in
        let P : Table → Type 0 = λ t. IsPlanTextOver facts asked t one in
        subst P same (same_texts p.facts facts (days_alike tables day p.facts facts p.model model) asked p.table one p.plan)

    cert_over : (facts : DayFacts) → IsModelOf tables day facts → IsCertTextOver facts asked other
    cert_over facts model =
        same_certificates of_tables.facts facts (days_alike tables day of_tables.facts facts of_tables.model model)
        asked other of_tables.cert

    checked_yes : (given given' : List Table) (ending : Status) (bytes : List ℕ) → Gives most_cert one given →
        Gives most_cert other given' →
        IsCheckText tables given given' day ending bytes → (bytes ≡ codes "yes\n") × (ending ≡ statuses.Ok)
    checked_yes given given' ending bytes of_plan of_cert check =
        answered_yes checkable plans texts tables is_plain are_few have_words day check.facts check.model check.table
        check.found asked fixed one other
        (plan_over check.facts check.table check.model check.found) (cert_over check.facts check.model) given given' ending
        bytes of_plan of_cert check.check

    -- Each answer of a check is over the tables that the files spell: those of the planning files, and those of the two texts.
    -- The proof splits what all files spell into the front, the plan and the certificate (`split_parts`), knows the front by
    -- `one_reading`, finds the three again by their places, and asks `checked_yes` of the day that the check found.
    only_yes : (ending : Status) (bytes : List ℕ) → IsAnswer (Check (length contents)) (contents ++ one ∷ other ∷ []) day ending bytes →
        (bytes ≡ codes "yes\n") × (ending ≡ statuses.Ok)
    only_yes ending bytes check =
        let stage = stages.Planning (length contents - 1) most_bytes in
        let split = split_parts stage contents one other check.parts is_small check.spelled in
        let front = split.front in
        let same : front ≡ planned.parts =
        one_reading stage (stages.Planning 63 most_bytes) contents front planned.parts split.spelled planned.spelled in
        let count : length contents ≡ length front = sym (as_many stage contents front split.spelled) in
        let Of : ℕ → List (List Table) → Type 0 = λ n ps. IsWhole (Check n) ps day ending bytes in
        let whole : Of (length front) (front ++ split.plan ∷ split.cert ∷ []) =
        subst (λ (n : ℕ). Of n (front ++ split.plan ∷ split.cert ∷ [])) count
        (subst (λ (ps : List (List Table)). Of (length contents) ps) split.whole check.written) in
        let all : List (List Table) = front ++ split.plan ∷ split.cert ∷ [] in
        let text : IsCheckText (joined front) split.plan split.cert day ending bytes =
        text_at front split.plan split.cert ending bytes whole in
        let P : List (List Table) → Type 0 = λ ps. IsCheckText (joined ps) split.plan split.cert day ending bytes in
        checked_yes split.plan split.cert ending bytes split.of_plan split.of_cert (subst P same text)
      where
        text_at : (front : List (List Table)) (p c : List Table) (ending : Status) (bytes : List ℕ) →
            IsWhole (Check (length front)) (front ++ p ∷ c ∷ []) day ending bytes → IsCheckText (joined front) p c day ending bytes
        text_at front p c ending bytes whole =
            let all : List (List Table) = front ++ p ∷ c ∷ [] in
            let P : List (List Table) → List Table → List Table → Type 0 = λ fs x y. IsCheckText (joined fs) x y day ending bytes in
            let a : P front (get_or all (length front) []) (get_or all (length front + 1) []) =
            subst (λ (fs : List (List Table)). P fs (get_or all (length front) []) (get_or all (length front + 1) []))
            (front_of front p c) whole in
            let b : P front p (get_or all (length front + 1) []) =
            subst (λ (x : List Table). P front x (get_or all (length front + 1) [])) (plan_of front p c []) a in
            subst (λ (y : List Table). P front p y) (cert_of front p c []) b

    -- And there is one, over these tables.
    -- The witness is built from the day that `plan` found: its tables, its yes (`yes_over`), and the files in one list (`same_room`,
    -- `with_both`). Here alone it is asked that there are at most 64 planning files and that no text is too long, since `check` would
    -- refuse these.
    is_answered : length contents ≤ 64 → length one ≤ most_bytes → length other ≤ most_cert →
        IsAnswer (Check (length contents)) (contents ++ one ∷ other ∷ []) day statuses.Ok (codes "yes\n")
    is_answered few short short' =
        let p = planned.written.0 in
        let plan : IsPlanTextOver p.facts asked p.table one = p.plan in
        let cert : IsCertTextOver p.facts asked other = cert_over p.facts p.model in
        let given = plan_of_text checkable plans texts tables is_plain are_few have_words day p.facts p.model p.table p.found
        asked fixed one other plan cert in
        let given' = cert_of_text checkable plans texts tables is_plain are_few have_words day p.facts p.model p.table p.found
        asked fixed one other plan cert in
        let text : IsCheckText tables given given' day statuses.Ok (codes "yes\n") = record {
          facts = p.facts;
          model = p.model;
          table = p.table;
          found = p.found;
          check = yes_over checkable plans texts tables is_plain are_few have_words day p.facts p.model p.table p.found
              asked fixed one other plan cert;
        } in
        let gives = plan_gives checkable plans texts tables is_plain are_few have_words day p.facts p.model p.table p.found asked
        fixed one other plan cert short in
        let gives' = cert_gives checkable plans texts tables is_plain are_few have_words day p.facts p.model p.table p.found asked fixed
        one other plan cert short' in
        let many : length planned.parts ≡ length contents =
        as_many (stages.Planning 63 most_bytes) contents planned.parts planned.spelled in
        let some : 1 ≤ length contents = some_files contents planned.parts planned.spelled (some_tables tables p.model.faultless) in
        let stage = stages.Planning (length contents - 1) most_bytes in
        let front : SpellTables stage contents planned.parts =
        same_room 63 (length contents - 1) most_bytes contents planned.parts (omega (arith, few)) (omega (arith, some)) planned.spelled in
        let W : ℕ → Type 0 = λ n. IsWhole (Check n) (planned.parts ++ given ∷ given' ∷ []) day statuses.Ok (codes "yes\n") in
        record {
          parts = planned.parts ++ given ∷ given' ∷ [];
          spelled = with_both (length contents - 1) most_bytes contents planned.parts one other given given'
              (omega (arith, some)) front gives gives';
          written = subst W many (whole_at planned.parts given given' day statuses.Ok (codes "yes\n") text);
        }
      where
        some_files : (files : List (List ℕ)) (ps : List (List Table)) → SpellTables (stages.Planning 63 most_bytes) files ps →
            (joined ps ≡ [] → ⊥) → 1 ≤ length files
        some_files [] ps spelled some = absurd (some (ap joined spelled))
        some_files (bytes ∷ files) ps spelled some = omega arith

    accepted : AreAccepted contents day one other
    accepted = record { answers = is_answered; only = only_yes }

-- The promise of the crate, from three laws: days that are read can be checked, plans of such days can be, and their tables get a yes.
-- What is added here is the way through bytes: that texts are read back as their tables, and that all three commands speak of one day.
pub written_accepted : ReadDaysAreCheckable → ((facts : DayFacts) (table : Table) → DayPlansAreCheckable facts table) →
    TextsAreAccepted → WrittenTextsAreAccepted
written_accepted checkable plans texts contents day asked fixed one other planned certified =
    accepted checkable plans texts contents day asked fixed one other planned certified
