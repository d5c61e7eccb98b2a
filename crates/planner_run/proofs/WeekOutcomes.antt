-- A roster has one answer: its text, or one cause why it has none.
use Rattle.std.proofs.Common.{◌≡◌, ◌≢◌, ℕ, inl, inr, List, [], ◌∷◌, Result, Ok, Err, IfOk, refl, sym, ◌∙◌, ap, subst}
use Rattle.vdv451_text.specs.declared.table.Table.{Table}
use Rattle.vdv451_text.specs.Plain.{text}
use Rattle.week_check.specs.declared.denial.Denial.{Denial}
use Rattle.week_check.specs.declared.fault.RosterFault.{RosterFault}
use Rattle.week_check.specs.declared.fault.RosterFault.TheVariants as rosters
use Rattle.week_check.specs.declared.turn.Turn.{Turn}
use Rattle.week_check.specs.Denials.{AreDenials}
use Rattle.week_check.specs.Roster.{turns_of}
use Rattle.week_check.specs.RosterAnswers.{IsAnswer, IsFaultOf}
use Rattle.week_check.specs.Verdict.{verdict_table}
use Rattle.week_check.proofs.OneAnswer.{one_answer}
use Rattle.week_check.proofs.OneList.{one_list}
use Rattle.planner_run.specs.declared.status.Status.{Status}
use Rattle.planner_run.specs.WeekText.{IsVerdictText, IsWeekCause, IsWeekRefused, IsWeekText, roster_status}

abbrev fault_or : Result (List Turn) RosterFault → RosterFault → RosterFault
fault_or (Ok turns) other = other
fault_or (Err fault) other = fault

-- answers of reading a roster
abbrev read : List Turn → Result (List Turn) RosterFault
read turns = Ok turns

abbrev refused : RosterFault → Result (List Turn) RosterFault
refused fault = Err fault

apart : (turns : List Turn) (fault : RosterFault) → read turns ≡ refused fault → ⊥
apart turns fault e = absurd (cc)

same_fault : (one other : RosterFault) → refused one ≡ refused other → one ≡ other
same_fault one other same = let f : Result (List Turn) RosterFault → RosterFault = λ r. fault_or r one in ap f same

real : (fault : RosterFault) → fault ≢ rosters.Memory → refused fault ≢ refused rosters.Memory
real fault told = λ same. told (same_fault fault rosters.Memory same)

-- Reading a roster has one answer but for running out of memory (`one_answer`), and a cause is never that (`told`); so two causes are
-- two answers of one reading, and equal. That a text shuts a cause out goes the same way.
pub one_week_cause : (tables : List Table) (s t : Status) → IsWeekCause tables s → IsWeekCause tables t → s ≡ t
one_week_cause tables s t p q =
    let same : p.fault ≡ q.fault =
    same_fault p.fault q.fault
    (one_answer tables (Err p.fault) (Err q.fault) p.cause q.cause (real p.fault p.told) (real q.fault q.told)) in
    p.is ∙ ap roster_status same ∙ sym q.is

pub week_text_no_cause : (tables : List Table) (bytes : List ℕ) (s : Status) → IsWeekText tables bytes → IsWeekCause tables s → ⊥
week_text_no_cause tables bytes s p q =
    let right : read (turns_of tables) ≢ refused rosters.Memory = λ same. apart (turns_of tables) rosters.Memory same in
    let both : read (turns_of tables) ≡ refused q.fault =
    one_answer tables (Ok (turns_of tables)) (Err q.fault) p.roster q.cause right (real q.fault q.told) in
    apart (turns_of tables) q.fault both

-- The text of X_URTEIL is a function of the denials, and the denials of a list of duties are one list, each once and in order
-- (`one_list`). So the text of `week` is fixed by the tables, and no day or order of work is in it.
pub one_week_text : (tables : List Table) (xs ys : List ℕ) → IsWeekText tables xs → IsWeekText tables ys → xs ≡ ys
one_week_text tables xs ys p q =
    let same : p.verdict.denials ≡ q.verdict.denials =
    one_list (turns_of tables) p.verdict.denials q.verdict.denials p.verdict.are q.verdict.are in
    p.verdict.written ∙ ap (λ (ds : List Denial). text (verdict_table ds ∷ [])) same ∙ sym q.verdict.written

-- the refusal of a roster is that of the command
pub roster_refused : (tables : List Table) (fault : RosterFault) → IsFaultOf tables fault → IsWeekRefused tables (roster_status fault)
roster_refused tables rosters.Memory cause = inl refl
roster_refused tables (rosters.Table wrong) cause = inr (record { fault = rosters.Table wrong; cause = cause; told = λ e. cc; is = refl })
roster_refused tables (rosters.Days first last) cause =
    inr (record { fault = rosters.Days first last; cause = cause; told = λ e. cc; is = refl })

pub week_written : {E : Type 0} (tables : List Table) (turns : List Turn) (r : Result (List ℕ) E) → IsAnswer tables (Ok (turns_of tables)) →
    turns ≡ turns_of tables → IfOk r (IsVerdictText turns) → IfOk r (IsWeekText tables)
week_written tables turns (Ok bytes) roster same verdict =
    let P : List Turn → Type 0 = λ ts. IsVerdictText ts bytes in record { roster = roster; verdict = subst P same verdict }
week_written tables turns (Err e) roster same verdict = tt

-- the text of a table of denials is that of what is denied
pub verdict_of : {E : Type 0} (turns : List Turn) (denials : List Denial) (table : Table) (r : Result (List ℕ) E) →
    AreDenials turns denials → table ≡ verdict_table denials →
    IfOk r (λ bytes. bytes ≡ text (table ∷ [])) → IfOk r (IsVerdictText turns)
verdict_of turns denials table (Ok bytes) are same written =
    record { denials = denials; are = are; written = written ∙ ap (λ t. text (t ∷ [])) same }
verdict_of turns denials table (Err e) are same written = tt
