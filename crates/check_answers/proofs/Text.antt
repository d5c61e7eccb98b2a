-- What the tables of blocks and duties say, and what is judged of it.
use Rattle.std.proofs.Common.{◌≡◌, ℕ, ◌+◌, ◌<◌, true, false, nat_eq, List, ◌∷◌, length, map, get_or, Option, Some, refl, ap, ◌∙◌, arith, []}
use Rattle.std.specs.Prelude.{AllPairs, Ok, unwrap_or}
use Rattle.std.proofs.lemmas.Bool.Decides.{nat_tests}
use Rattle.std.proofs.lemmas.List.{length-map}
use Rattle.std.specs.List.{position_from}
use Rattle.vdv451_text.specs.declared.table.Table.{Table}
use Rattle.cover_core.specs.declared.Column.{Column}
use Rattle.cover_core.specs.Cover.{AllBelow}
use Rattle.cover_core.specs.Plans.{AreColumns}
use Rattle.cover_core.proofs.Counts.{has_few_columns}
use Rattle.plan_params.specs.declared.rows.group.Group.{Group}
use Rattle.plan_params.specs.declared.rows.pool.Pool.{Pool}
use Rattle.day_method.specs.Method.{SidePlan}
use Rattle.day_model.specs.Facts.{DayFacts}
use Rattle.depot_network.specs.Listed.{blocks_listed}
use Rattle.depot_network.specs.Network.{blocks_of}
use Rattle.block_cut.specs.Cuts.{pieces_of_plan}
use Rattle.duty_network.specs.Listed.{duties_listed}
use Rattle.umlauf_write.specs.Answers.{group_of, no_group, no_piece}
use Rattle.plan_cert.proofs.FieldsBack.{first-at}
use Rattle.plan_cert.specs.declared.cert.Cert.{Cert}
use Rattle.plan_check.specs.Verdicts.{HaveSameLists}
use Rattle.plan_read.specs.ReadsBack.{IsAnswerOf, PlanReadsBack, duty_text, part_at, without_worth}
use Rattle.plan_command.specs.Planning.{duties_over}
use Rattle.plan_command.specs.PlanText.{answer_of}
use Rattle.plan_certify.specs.Certificate.{duty_facts}
use Rattle.cert_check.specs.Judging.{class_of_group, duty_list, has_number, part_number, text_in}
use Rattle.cert_check.specs.Reasons.{HasBlocks, HasDuties}
use Rattle.check_answers.specs.Accepted.{plan_of, written_text}
use Rattle.check_answers.specs.Checkable.{IsCheckable, case_of}
use Rattle.check_answers.proofs.PieceNumbers.{few-pieces, number-again, pieces-of-blocks}

-- What is written of blocks and duties that can be checked is read back.
answer-is : (facts : DayFacts) (table : Table) (blocks duties : SidePlan) → IsCheckable facts table blocks duties →
    IsAnswerOf facts (blocks_of facts false) (duties_over facts blocks.columns false) (answer_of facts blocks duties)
answer-is facts table blocks duties is =
    let listed = blocks_listed (record { day = facts; counts = false }) in
    let few_trips = is.day.in_range.few in
    record {
      blocks = is.blocks_are;
      block_lists = listed;
      trips = refl;
      pools = length-map facts.params.pools (λ (pool : Pool). pool.cap);
      few = omega (arith, few_trips, has_few_columns (blocks_of facts false) listed blocks.columns is.blocks_are);
      duties = is.duties_are;
      duty_lists = duties_listed (duty_facts facts blocks.columns false);
      pieces = refl;
      groups = length-map facts.params.groups (λ (group : Group). group.cap);
      parts = pieces-of-blocks facts blocks.columns (few-pieces facts blocks.columns is.blocks_are few_trips);
      bounds = refl;
    }

text-back : PlanReadsBack → (facts : DayFacts) (table : Table) (blocks duties : SidePlan) (cert : Cert) →
    IsCheckable facts table blocks duties →
    text_in (case_of facts table blocks duties cert) ≡ Ok (written_text facts blocks duties)
text-back back facts table blocks duties cert is =
    back facts table (answer_of facts blocks duties) (blocks_of facts false) (duties_over facts blocks.columns false)
    is.day.table_is is.day.numbers (answer-is facts table blocks duties is)

-- The columns of a plan without their worths are judged as the plan.
without-worths : (columns : List Column) → HaveSameLists (map without_worth columns) columns
without-worths [] = tt
without-worths (c ∷ cs) = (refl, refl, without-worths cs)

pub has-blocks : PlanReadsBack → (facts : DayFacts) (table : Table) (blocks duties : SidePlan) (cert : Cert) →
    IsCheckable facts table blocks duties →
    HasBlocks (case_of facts table blocks duties cert) (written_text facts blocks duties) (plan_of blocks)
has-blocks back facts table blocks duties cert is = record {
  said = text-back back facts table blocks duties cert is;
  lawful = (without-worths blocks.columns, is.blocks_are);
}

-- A group is found again by its number, since the numbers rise.
own-number : (n : ℕ) → nat_eq n n ≡ true
own-number n = grind (arith, nat_tests)

other-number : (m n : ℕ) → m < n → nat_eq m n ≡ false
other-number m n below = grind (arith, nat_tests)

-- X_DIENST names a group by its number alone. The groups' numbers rise, so those before the group meant have smaller ones, and the
-- first group with that number is it. Without a law that numbers are of their own a duty might be read as one of another group, with
-- other costs and rules.
class-again : (facts : DayFacts) (class : ℕ) → AllPairs (λ (earlier later : Group). earlier.number < later.number) facts.params.groups →
    class < length facts.params.groups → class_of_group facts.params.groups (group_of facts class).number ≡ class
class-again facts class rise there =
    let groups = facts.params.groups in
    let number = (group_of facts class).number in
    let found : position_from (has_number number) 0 groups ≡ Some (0 + class) =
    first-at (has_number number) groups 0 class no_group there (own-number number)
    (λ j before. other-number (get_or groups j no_group).number number (rise j class no_group before there)) in
    let here : 0 + class ≡ class = omega arith in
    ap (λ (o : Option ℕ). unwrap_or o 0) found ∙ here

-- The pieces of a duty are found again by their blocks and indexes.
parts-again : (facts : DayFacts) (columns : List Column) (items : List ℕ) → AllBelow (length (pieces_of_plan facts columns)) items →
    map (part_number (pieces_of_plan facts columns)) (map (part_at (pieces_of_plan facts columns)) items) ≡ items
parts-again facts columns [] below = refl
parts-again facts columns (item ∷ items) below =
    let pieces = pieces_of_plan facts columns in
    let here : part_number pieces (part_at pieces item) ≡ item = number-again facts columns item no_piece below.0 in
    let rest = parts-again facts columns items below.1 in
    ap (λ (n : ℕ). n ∷ map (part_number pieces) (map (part_at pieces) items)) here ∙ ap (λ (ns : List ℕ). item ∷ ns) rest

-- So the lists that the tables say are those of the duties.
-- A duty is written as a group's number and the blocks and indexes of its pieces. Both are names that are found again (`class-again`,
-- `parts-again`), so a duty that is read has the class and the items that were planned; its worth is not read but made anew by the
-- checker.
lists-again : (facts : DayFacts) (blocks duties : List Column) →
    AllPairs (λ (earlier later : Group). earlier.number < later.number) facts.params.groups →
    AreColumns (duties_over facts blocks false) duties →
    HaveSameLists (map (duty_list facts.params.groups (pieces_of_plan facts blocks))
    (map (duty_text facts (pieces_of_plan facts blocks)) duties)) duties
lists-again facts blocks [] rise are = tt
lists-again facts blocks (duty ∷ duties) rise are =
    let same : length (map (λ (g : Group). g.cap) facts.params.groups) ≡ length facts.params.groups =
    length-map facts.params.groups (λ (g : Group). g.cap) in
    let there : duty.class < length facts.params.groups = omega (arith, same, are.0.0) in
    let listed = duties_listed (duty_facts facts blocks false) duty.class duty.items duty.worth are.0.1 in
    (class-again facts duty.class rise there, parts-again facts blocks duty.items listed.2, lists-again facts blocks duties rise are.1)

-- The first layers of the checker's definition: the tables say a plan (`text-back`), whose blocks and duties are lawful as lists,
-- because they are the columns of a plan, and a plan is judged by classes and items alone (`without-worths`, `lists-again`).
pub has-duties : PlanReadsBack → (facts : DayFacts) (table : Table) (blocks duties : SidePlan) (cert : Cert) →
    IsCheckable facts table blocks duties →
    HasDuties (case_of facts table blocks duties cert) (written_text facts blocks duties) (plan_of blocks) (plan_of duties)
has-duties back facts table blocks duties cert is = record {
  has_blocks = has-blocks back facts table blocks duties cert is;
  lawful = (lists-again facts blocks.columns duties.columns is.day.numbers.groups is.duties_are.worths, is.duties_are);
}
