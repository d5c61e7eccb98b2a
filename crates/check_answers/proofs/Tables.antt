-- Blocks and duties in printed order, written once more, are the tables that were written.
use Rattle.std.proofs.Common.{◌≡◌, ℕ, ◌≤◌, Bool, false, List, ◌∷◌, length, None, refl, sym, ap, ◌∙◌, subst, []}
use Rattle.std.specs.Prelude.{codes}
use Rattle.std.specs.List.{AllByRecursion}
use Rattle.std.specs.Str.{bytes_eq}
use Rattle.std.proofs.lemmas.List.Elements.{All-weaker}
use Rattle.plan_core.specs.declared.types.Piece.{Piece}
use Rattle.vdv451_text.specs.declared.table.Table.{Table}
use Rattle.cover_core.specs.declared.Column.{Column}
use Rattle.cover_core.specs.Plans.{IsPlan}
use Rattle.day_method.specs.Method.{SidePlan}
use Rattle.day_model.specs.Facts.{DayFacts}
use Rattle.block_cut.specs.Cuts.{IsShift, pieces_of_plan}
use Rattle.duty_network.specs.Duties.{duties as duties_of}
use Rattle.duty_network.specs.Listed.{duties_listed}
use Rattle.duty_network.specs.Ranges.{IsShift as IsDutyShift, NetFits}
use Rattle.umlauf_write.specs.declared.answer.Answer.{Answer}
use Rattle.umlauf_write.specs.Answers.{answer_tables, bound_table, duty_table, leg_table, part_table}
use Rattle.umlauf_write.specs.Printed.{printed}
use Rattle.umlauf_write.specs.Tables.{block_table, cost_table}
use Rattle.umlauf_write.specs.Trips.{found_table}
use Rattle.plan_read.specs.ReadsBack.{PlanReadsBack}
use Rattle.plan_cert.specs.declared.cert.Cert.{Cert}
use Rattle.plan_command.specs.PlanText.{answer_of}
use Rattle.plan_certify.specs.Certificate.{duty_facts}
use Rattle.table_differences.specs.Differences.{first_difference}
use Rattle.cert_check.specs.Judging.{duties_in, duties_over, made_in, pieces_in}
use Rattle.cert_check.specs.Reasons.{ArePlanAgain, HasTables, difference_in, duties_again, printed_pieces, tables_in}
use Rattle.check_answers.specs.Accepted.{plan_of, written_text}
use Rattle.check_answers.specs.Checkable.{IsCheckable, case_of}
use Rattle.check_answers.proofs.Apart.{Apart, IsOther}
use Rattle.check_answers.proofs.FirstTrips.{duties-kept}
use Rattle.check_answers.proofs.PieceNumbers.{few-pieces}
use Rattle.check_answers.proofs.SameTables.{named, no-difference}
use Rattle.check_answers.proofs.Shifts.{plan-shifts}
use Rattle.check_answers.proofs.Text.{has-duties}

-- the seven tables have names of their own, of which one is that of the table of trips
names-apart : (trips : List ℕ) → trips ≡ codes "REC_FRT" → (a b c d e f g : Table) → a.name ≡ codes "REC_UMLAUF" → b.name ≡ trips →
    c.name ≡ codes "X_UMLAUF" → d.name ≡ codes "X_UMLAUF_TEIL" →
    e.name ≡ codes "X_DIENST" → f.name ≡ codes "X_DIENST_STUECK" → g.name ≡ codes "X_SCHRANKE" →
    Apart named (a ∷ b ∷ c ∷ d ∷ e ∷ f ∷ g ∷ [])
names-apart trips is a b c d e f g an bn cn dn en fn gn =
    let bt : b.name ≡ codes "REC_FRT" = bn ∙ is in
    let one : AllByRecursion (IsOther named a) (b ∷ c ∷ d ∷ e ∷ f ∷ g ∷ []) = (
      other a b _ _ an bt refl refl,
      (
        other a c _ _ an cn refl refl,
        (
          other a d _ _ an dn refl refl,
          (other a e _ _ an en refl refl, (other a f _ _ an fn refl refl, (other a g _ _ an gn refl refl, tt))),
        ),
      ),
    ) in
    let two : AllByRecursion (IsOther named b) (c ∷ d ∷ e ∷ f ∷ g ∷ []) = (
      other b c _ _ bt cn refl refl,
      (
        other b d _ _ bt dn refl refl,
        (other b e _ _ bt en refl refl, (other b f _ _ bt fn refl refl, (other b g _ _ bt gn refl refl, tt))),
      ),
    ) in
    let three : AllByRecursion (IsOther named c) (d ∷ e ∷ f ∷ g ∷ []) = (
      other c d _ _ cn dn refl refl,
      (other c e _ _ cn en refl refl, (other c f _ _ cn fn refl refl, (other c g _ _ cn gn refl refl, tt))),
    ) in
    let four : AllByRecursion (IsOther named d) (e ∷ f ∷ g ∷ []) =
    (other d e _ _ dn en refl refl, (other d f _ _ dn fn refl refl, (other d g _ _ dn gn refl refl, tt))) in
    let five : AllByRecursion (IsOther named e) (f ∷ g ∷ []) = (other e f _ _ en fn refl refl, (other e g _ _ en gn refl refl, tt)) in
    let six : AllByRecursion (IsOther named f) (g ∷ []) = (other f g _ _ fn gn refl refl, tt) in
    (one, (two, (three, (four, (five, (six, (tt, tt)))))))
  where
    other : (t u : Table) (m n : List ℕ) → t.name ≡ m → u.name ≡ n → bytes_eq n m ≡ false → bytes_eq m n ≡ false → IsOther named t u
    other t u m n tn un one two = (
      ap (λ (x : List ℕ). bytes_eq x t.name) un ∙ (ap (λ (x : List ℕ). bytes_eq n x) tn ∙ one),
      ap (λ (x : List ℕ). bytes_eq x u.name) tn
          ∙ (ap (λ (x : List ℕ). bytes_eq m x) un ∙ two),
    )

-- A table of a plan is looked up by its name and has to stand once, so it matters that the seven names differ. Each two are compared
-- by computing; that of REC_FRT is the name of the table that was read.
answer-apart : (facts : DayFacts) (table : Table) (answer : Answer) → table.name ≡ codes "REC_FRT" →
    Apart named (answer_tables facts table answer)
answer-apart facts table answer is =
    names-apart table.name is (block_table facts answer.blocks.columns) (found_table facts table answer.blocks.columns)
    (cost_table facts answer.blocks.columns) (leg_table facts answer.legs)
    (duty_table facts answer.pieces answer.duties.columns) (part_table answer.pieces answer.duties.columns)
    (bound_table answer.blocks.columns answer.duties.columns answer.bounds)
    refl refl refl refl refl refl refl

module _ (facts : DayFacts) (table : Table) (blocks duties : SidePlan) (cert : Cert) (is : IsCheckable facts table blocks duties) where
  abbrev few : Type 0
  few = length (pieces_of_plan facts blocks.columns) ≤ 3000

  few-are : few
  few-are = few-pieces facts blocks.columns is.blocks_are is.day.in_range.few

  -- the duties in printed order over the pieces of the blocks in printed order are the duties
  -- Blocks that were read are in printed order already, so numbering their pieces anew changes no duty (`duties-kept`), and the duties
  -- are in printed order themselves.
  pub again : duties_again (case_of facts table blocks duties cert) (plan_of blocks) (plan_of duties) ≡ duties.columns
  again =
      ap printed (duties-kept facts blocks.columns is.blocks_are is.blocks_order
      (duties_of (duty_facts facts blocks.columns false)) duties.columns refl few-are
      (duties_listed (duty_facts facts blocks.columns false)) is.duties_are.worths) ∙ is.duties_order

  -- and the tables that they make are those that were written
  same-answer : tables_in (case_of facts table blocks duties cert) (written_text facts blocks duties) (plan_of blocks)
      (plan_of duties) ≡ answer_tables facts table (answer_of facts blocks duties)
  same-answer =
      let c = case_of facts table blocks duties cert in
      let bounds = (written_text facts blocks duties).bounds in
      ap (λ (bs : List Column). made_in c bs (duties_again c (plan_of blocks) (plan_of duties)) bounds) is.blocks_order
      ∙ ap (λ (ds : List Column). made_in c blocks.columns ds bounds) again

  -- The tables that the checker makes of what it read are those that the planner wrote (`same-answer`), and tables do not differ from
  -- themselves where their names are apart. X_SCHRANKE is compared without its bounds, which the certificate has to show, and that
  -- changes nothing here.
  no-difference-in : difference_in (case_of facts table blocks duties cert) (written_text facts blocks duties) (plan_of blocks)
      (plan_of duties) ≡ None
  no-difference-in =
      let tables : List Table = answer_tables facts table (answer_of facts blocks duties) in
      ap (λ (ts : List Table). first_difference (codes "X_SCHRANKE") (codes "SCHRANKE") tables ts) same-answer
      ∙ no-difference (codes "X_SCHRANKE") (codes "SCHRANKE") tables
      (answer-apart facts table (answer_of facts blocks duties) is.day.table_is.name)

  -- what holds of the pieces of the blocks holds of them in printed order
  pub in-order : (P : List Piece → Type 0) → P (pieces_of_plan facts blocks.columns) →
      P (printed_pieces (case_of facts table blocks duties cert) (plan_of blocks))
  in-order P here = subst (λ (bs : List Column). P (pieces_of_plan facts bs)) (sym is.blocks_order) here

  plan-again : ArePlanAgain (case_of facts table blocks duties cert) (plan_of blocks) (plan_of duties)
  plan-again =
      let c = case_of facts table blocks duties cert in
      let here : IsPlan (duties_in c (pieces_in c blocks.columns) false) (duties_again c (plan_of blocks) (plan_of duties)) =
      subst (λ (ds : List Column). IsPlan (duties_in c (pieces_in c blocks.columns) false) ds) (sym again) is.duties_are in
      in-order (λ (ps : List Piece). IsPlan (duties_in c ps false) (duties_again c (plan_of blocks) (plan_of duties))) here

  pub net-fits : (counts : Bool) → NetFits (duty_facts facts blocks.columns counts)
  net-fits counts = record {
    few = few-are;
    shifts = All-weaker IsShift IsDutyShift (λ p h. record { begins = h.begins; order = h.order; ends = h.ends; driving = h.driving })
        (pieces_of_plan facts blocks.columns)
        (plan-shifts facts is.day.in_range.daily is.day.short blocks.columns);
    params = is.day.in_range.params;
  }

  -- The layer of the checker's definition that is about tables: the text holds as duties, no table differs, the plan is one over
  -- pieces in printed order, and these have the ranges that covers of duties ask. The certificate is the next layer (`has-cert`).
  pub has-tables : PlanReadsBack →
      HasTables (case_of facts table blocks duties cert) (written_text facts blocks duties) (plan_of blocks) (plan_of duties)
  has-tables back =
      let c = case_of facts table blocks duties cert in
      record {
        has_duties = has-duties back facts table blocks duties cert is;
        same = no-difference-in;
        again = plan-again;
        fits = in-order (λ (ps : List Piece). NetFits (duties_over c ps false)) (net-fits false);
      }
