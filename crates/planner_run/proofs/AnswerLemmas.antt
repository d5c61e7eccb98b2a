-- From what is read and what the tables answer to the answer of the task.
use Rattle.std.proofs.Common.{◌≡◌, ◌≢◌, ℕ, Bool, true, false, ◌&&◌, ◌⊎◌, inl, inr, List, take, Option, Some, Result, Ok, Err, IfSome, MatchResult, refl, sym, ap, ◌∙◌, subst, slice_index_or, []}
use Rattle.std.specs.Prelude.{IfOk, IfErr}
use Rattle.vdv451_text.specs.declared.table.Table.{Table}
use Rattle.vdv451_text.specs.declared.fault.TextFault.{TextFault}
use Rattle.vdv451_text.specs.declared.fault.TextKind.{TextKind}
use Rattle.plan_command.specs.Planning.{Asked}
use Rattle.planner_run.specs.Tasks.{Task}
use Rattle.planner_run.specs.Tasks.{Certify, Check, Day, Make, MakeRun, Plan, Replan, Trips, Week}
use Rattle.planner_run.specs.declared.status.Status.{Status}
use Rattle.planner_run.specs.declared.status.Status.TheVariants as statuses
use Rattle.planner_run.specs.declared.status.InputFault.TheVariants as inputs
use Rattle.input_files.specs.declared.fault.FileFault.{FileFault}
use Rattle.input_files.specs.declared.fault.FileFault.TheVariants as files
use Rattle.input_files.specs.Inputs.{HasTextFault, IsFileCause, IsUnread as IsUnreadFile, SpellTables, held_under, refused_text}
use Rattle.input_files.specs.Parts.{joined}
use Rattle.planner_run.specs.declared.outcome.Outcome.{Outcome}
use Rattle.planner_run.specs.Endings.{HasCause, status_kind}
use Rattle.planner_run.specs.Run.{ArePartsRefused, IsAnswer, IsAnswerCause, IsPartsCause, IsRefusal, IsTablesRefusal, IsUnread, IsWhole, climbs, file_status, is_of_planning, is_open, names_for, stage_of, told_for}
use Rattle.input_files.proofs.InputLemmas.{if_told, of_told}
use Rattle.planner_run.specs.Model.{IsModelCause}
use Rattle.day_maker.specs.Made.{made_tables}
use Rattle.plan_command.specs.declared.fault.PlanFault.{PlanFault}
use Rattle.plan_command.specs.declared.fault.PlanFault.TheVariants as faults
use Rattle.planner_run.specs.PlanText.{IsPlanCause, plan_status_of}
use Rattle.cover_plan.specs.Endings.{Numbers}
use Rattle.replan_command.specs.declared.fault.ReplanFault.{ReplanFault}
use Rattle.replan_command.specs.declared.fault.ReplanFault.TheVariants as replans
use Rattle.planner_run.specs.ReplanText.{IsReplanCause, replan_status_of}
use Rattle.planner_run.specs.Trips.{IsDayCause}
use Rattle.week_check.specs.declared.fault.RosterFault.{RosterFault}
use Rattle.week_check.specs.declared.fault.RosterFault.TheVariants as rosters
use Rattle.planner_run.specs.WeekText.{roster_status}
use Rattle.planner_run.proofs.WeekOutcomes.{one_week_cause, week_text_no_cause}
use Rattle.planner_run.proofs.Outcomes.{one_cause, text_no_cause}
use Rattle.planner_run.proofs.ModelOutcomes.{day_text_no_cause, model_no_cause, one_model_cause}
use Rattle.planner_run.proofs.CertOutcomes.{cert_text_no_cause}
use Rattle.planner_run.proofs.PlanOutcomes.{one_plan_cause, plan_text_no_cause, short_text_no_cause}
use Rattle.planner_run.proofs.ReplanOutcomes.{one_replan_cause, replan_text_no_cause}

-- The tables of each file have one cause why a command refuses them, and each command's own uniqueness says so (`one_cause`,
-- `one_model_cause`, `one_plan_cause` and such). Left open is only how planning by climbing is refused. With `no_cause` this makes a
-- refusal exact: whatever the body answers, a cause that is there can be no other than the one answered.
same_cause : (task : Task) (parts : List (List Table)) (day : ℕ) (s t : Status) → is_open task t ≡ false → IsPartsCause task parts day s →
    IsPartsCause task parts day t → s ≡ t
same_cause Trips parts day s t settled p q = one_cause (joined parts) day s t p q
same_cause Day parts day s t settled p q = one_model_cause (joined parts) day s t p q
same_cause (Plan asked) parts day s t settled p q = one_plan_cause asked (joined parts) day s t settled p q
same_cause (Certify asked) parts day s t settled p q = one_plan_cause asked (joined parts) day s t settled p q
same_cause (Check count) parts day s t settled p q = one_model_cause (joined (take count parts)) day s t p q
same_cause (Replan count moment numbers) parts day s t settled p q =
    one_replan_cause numbers moment (joined (take count parts)) (slice_index_or parts count []) day s t settled p q
same_cause (Make seed trips) parts day s t settled p q = absurd p
same_cause Week parts day s t settled p q = one_week_cause (joined parts) s t p q
same_cause (MakeRun seed trips asked) parts day s t settled p q = one_plan_cause asked (made_tables seed trips) day s t settled p q

-- Tables from which a command has its text are not refused: text and cause of each command shut one another out. So a body that
-- answers a text answers it only where no cause is there, and one that answers a cause does so only where there is no text;
-- `read_refused` and `read_complete` are these two.
no_cause : (task : Task) (parts : List (List Table)) (day : ℕ) (ending : Status) (bytes : List ℕ) (s : Status) → is_open task s ≡ false →
    IsWhole task parts day ending bytes
    → IsPartsCause task parts day s → ⊥
no_cause Trips parts day ending bytes s settled p q = text_no_cause (joined parts) day bytes s p.0 q
no_cause Day parts day ending bytes s settled p q = day_text_no_cause (joined parts) day bytes s p.0 q
no_cause (Plan asked) parts day ending bytes s settled p q = plan_text_no_cause asked (joined parts) day bytes s settled p.0 q
no_cause (Certify asked) parts day ending bytes s settled p q = cert_text_no_cause asked (joined parts) day bytes s settled p.0 q
no_cause (Check count) parts day ending bytes s settled p q = model_no_cause (joined (take count parts)) day p.facts s p.model q
no_cause (Replan count moment numbers) parts day ending bytes s settled p q =
    replan_text_no_cause numbers moment (joined (take count parts)) (slice_index_or parts count []) day bytes s settled p.0 q
no_cause (Make seed trips) parts day ending bytes s settled p q = q
no_cause Week parts day ending bytes s settled p q = week_text_no_cause (joined parts) bytes s p.0 q
no_cause (MakeRun seed trips asked) parts day ending bytes s settled p q =
    short_text_no_cause asked (made_tables seed trips) day bytes s settled p.0 q

-- nothing is left open where nothing climbs
never_open : (task : Task) (s : Status) → climbs task ≡ false → is_open task s ≡ false
never_open task s fixed = go (is_of_planning s) (climbs task) fixed
  where
    go : (a b : Bool) → b ≡ false → (a && b) ≡ false
    go true b e = e
    go false b e = refl

memory_is_unread : (s : Status) → s ≡ statuses.Memory → IsUnread s
memory_is_unread s e = subst IsUnread (sym e) tt

-- a refusal is one of a text, or of the tables
pub record IsTextStatus (status : Status) : Type 0 where
  pub file : ℕ
  pub fault : TextFault
  pub is : status ≡ statuses.Input (inputs.Text file fault)

pub record IsOtherStatus (status : Status) : Type 0 where
  pub names : (names : List (List ℕ)) → names_for names status ≡ names
  pub refusal : (task : Task) (contents : List (List ℕ)) (day : ℕ) → IsRefusal task contents day status →
      IsTablesRefusal task contents day status

-- Each refusal is one of a text, which speaks of the files up to its own, or it speaks of all files and has its cause in their tables.
-- Here the statuses are gone through once, so that `read_refused` and `unread_refused` split into two cases only. For the statuses
-- that are no refusals the second holds since they have no cause.
pub parts_of : (status : Status) → IsTextStatus status ⊎ IsOtherStatus status
parts_of (statuses.Input (inputs.Text file fault)) = inl (record { file = file; fault = fault; is = refl })
parts_of statuses.Memory = inr (record { names = λ names. refl; refusal = λ task contents day r. absurd r })
parts_of statuses.Ok = inr (record { names = λ names. refl; refusal = λ task contents day r. absurd r })
parts_of statuses.Usage = inr (record { names = λ names. refl; refusal = λ task contents day r. absurd r })
parts_of (statuses.ReadFault file) = inr (record { names = λ names. refl; refusal = λ task contents day r. absurd r })
parts_of statuses.WriteFault = inr (record { names = λ names. refl; refusal = λ task contents day r. absurd r })
parts_of (statuses.CheckNo reason) = inr (record { names = λ names. refl; refusal = λ task contents day r. absurd r })
parts_of _ = inr (record { names = λ names. refl; refusal = λ task contents day r. r })

-- what all files tell is what the refusal of tables speaks of
told_others : (held : List ℕ → Option (List ℕ)) (names contents : List (List ℕ)) (status : Status) → IsOtherStatus status →
    told_for held names status ≡ Some contents → held_under held names ≡ Some contents
told_others held names contents status other told = let P : List (List ℕ) → Type 0 = λ ns. held_under held ns ≡ Some contents in
    subst P (other.names names) told

-- a status that tables are refused with: a refusal, but not one of a text
abbrev IsTableStatus : Status → Type 0
IsTableStatus (statuses.Input (inputs.Text file fault)) = ⊥
IsTableStatus status = HasCause (Unit {0}) (λ file. ⊥) ⊥ (status_kind status)

model_is_of_tables : (tables : List Table) (day : ℕ) (status : Status) → IsModelCause tables day status → IsTableStatus status
model_is_of_tables tables day (statuses.Input (inputs.Table fault)) c = tt
model_is_of_tables tables day (statuses.Input (inputs.Trips count)) c = tt
model_is_of_tables tables day (statuses.Input (inputs.Params fault)) c = tt
model_is_of_tables tables day (statuses.Input (inputs.Trip fid fault)) c = tt
model_is_of_tables tables day (statuses.Day fault) c = tt
model_is_of_tables tables day _ c = absurd c

unplanned_is_of_tables : (fault : PlanFault) → fault ≢ faults.Memory → IsTableStatus (plan_status_of fault)
unplanned_is_of_tables (faults.NoPlan side bound places) told = tt
unplanned_is_of_tables (faults.NotPlaced side item name partial) told = tt
unplanned_is_of_tables faults.Memory told = absurd (told refl)

plan_is_of_tables : (asked : Asked) (tables : List Table) (day : ℕ) (status : Status) →
    IsPlanCause asked tables day status → IsTableStatus status
plan_is_of_tables asked tables day status (inl c) = model_is_of_tables tables day status c
plan_is_of_tables asked tables day status (inr c) = subst IsTableStatus (sym c.is) (unplanned_is_of_tables c.fault c.told)

roster_is_of_tables : (fault : RosterFault) → fault ≢ rosters.Memory → IsTableStatus (roster_status fault)
roster_is_of_tables (rosters.Table wrong) told = tt
roster_is_of_tables (rosters.Days first last) told = tt
roster_is_of_tables rosters.Memory told = absurd (told refl)

trips_are_of_tables : (tables : List Table) (day : ℕ) (status : Status) → IsDayCause tables day status → IsTableStatus status
trips_are_of_tables tables day (statuses.Input (inputs.Table fault)) c = tt
trips_are_of_tables tables day (statuses.Input (inputs.Trips count)) c = tt
trips_are_of_tables tables day (statuses.Day fault) c = tt
trips_are_of_tables tables day _ c = absurd c

not_replanned_is_of_tables : (fault : ReplanFault) → fault ≢ replans.Plan faults.Memory → IsTableStatus (replan_status_of fault)
not_replanned_is_of_tables (replans.OldPlan reason) told = tt
not_replanned_is_of_tables (replans.Plan fault) told = unplanned_is_of_tables fault (λ e. told (ap (λ f. replans.Plan f) e))

replan_is_of_tables : (numbers : Numbers) (moment : ℕ) (tables old : List Table) (day : ℕ) (status : Status) →
    IsReplanCause numbers moment tables old day status → IsTableStatus status
replan_is_of_tables numbers moment tables old day status (inl c) = model_is_of_tables tables day status c
replan_is_of_tables numbers moment tables old day status (inr c) =
    subst IsTableStatus (sym c.is) (not_replanned_is_of_tables c.fault c.told)

-- A cause of the tables is never of a status for words, texts, reads or writes: what each command gives as causes is gone through. So
-- `IsAnswerCause`, which asks something else of every kind of status, asks a refusal of the tables here (`cause_of`), whatever the
-- command.
is_of_tables : (task : Task) (parts : List (List Table)) (day : ℕ) (status : Status) →
    IsPartsCause task parts day status → IsTableStatus status
is_of_tables Trips parts day status c = trips_are_of_tables (joined parts) day status c
is_of_tables Day parts day status c = model_is_of_tables (joined parts) day status c
is_of_tables (Plan asked) parts day status c = plan_is_of_tables asked (joined parts) day status c
is_of_tables (Certify asked) parts day status c = plan_is_of_tables asked (joined parts) day status c
is_of_tables (Check count) parts day status c = model_is_of_tables (joined (take count parts)) day status c
is_of_tables (Replan count moment numbers) parts day status c =
    replan_is_of_tables numbers moment (joined (take count parts)) (slice_index_or parts count []) day status c
is_of_tables (Make seed trips) parts day status c = absurd c
is_of_tables Week parts day status c = subst IsTableStatus (sym c.is) (roster_is_of_tables c.fault c.told)
is_of_tables (MakeRun seed trips asked) parts day status c = plan_is_of_tables asked (made_tables seed trips) day status c

-- a cause in the tables is a refusal of them
tables_cause : (task : Task) (held : List ℕ → Option (List ℕ)) (names : List (List ℕ)) (parts : List (List Table))
    (day : ℕ) (status : Status)
    → IfSome (held_under held names) (λ contents. SpellTables (stage_of task) contents parts) → IsPartsCause task parts day status
    → IfSome (held_under held names) (λ contents. IsTablesRefusal task contents day status)
tables_cause task held names parts day status spelled c =
    let told = held_under held names in
    if_told told (λ contents. IsTablesRefusal task contents day status) (λ contents e.
    record { parts = parts; spelled = of_told told (λ contents. SpellTables (stage_of task) contents parts) contents e spelled; cause = c })

-- the tables' cause is the task's
pub cause_of : (task : Task) (held : List ℕ → Option (List ℕ)) (names : List (List ℕ)) (parts : List (List Table)) (day : ℕ)
    (R : ℕ → Type 0) (status : Status)
    → IsTableStatus status → IfSome (held_under held names) (λ contents. SpellTables (stage_of task) contents parts) →
    IsPartsCause task parts day status
    → IsAnswerCause (λ s. IfSome (told_for held names s) (λ contents. IsRefusal task contents day s)) R status
cause_of task held names parts day R (statuses.Input (inputs.Text file fault)) t spelled c = absurd t
cause_of task held names parts day R statuses.Memory t spelled c = absurd t
cause_of task held names parts day R statuses.Ok t spelled c = absurd t
cause_of task held names parts day R statuses.Usage t spelled c = absurd t
cause_of task held names parts day R (statuses.ReadFault file) t spelled c = absurd t
cause_of task held names parts day R statuses.WriteFault t spelled c = absurd t
cause_of task held names parts day R (statuses.CheckNo reason) t spelled c = absurd t
cause_of task held names parts day R status t spelled c = tables_cause task held names parts day status spelled c

refused_cause : (task : Task) (held : List ℕ → Option (List ℕ)) (names : List (List ℕ)) (parts : List (List Table)) (day : ℕ)
    (R : ℕ → Type 0) (status : Status)
    → IfSome (held_under held names) (λ contents. SpellTables (stage_of task) contents parts) → ArePartsRefused task parts day status
    → IsAnswerCause (λ s. IfSome (told_for held names s) (λ contents. IsRefusal task contents day s)) R status
refused_cause task held names parts day R status spelled (inl memory) =
    let P : Status → Type 0 = IsAnswerCause (λ s. IfSome (told_for held names s) (λ contents. IsRefusal task contents day s)) R in
    subst P (sym memory) tt
refused_cause task held names parts day R status spelled (inr c) =
    cause_of task held names parts day R status (is_of_tables task parts day status c) spelled c

-- All files were read, so the parts that the body has are what they spell, and the text that it made of these parts is the task's
-- answer: the clause `written` of `answer_of`. Where some file's bytes are not told the clause says nothing, and nothing has to be
-- proved.
pub read_written : (task : Task) (held : List ℕ → Option (List ℕ)) (names : List (List ℕ)) (parts : List (List Table))
    (day : ℕ) (r : Result Outcome Status)
    → IfSome (held_under held names) (λ contents. SpellTables (stage_of task) contents parts) →
    IfOk r (λ outcome. IsWhole task parts day outcome.ending outcome.text)
    → IfOk r (λ outcome. IfSome (held_under held names) (λ contents. IsAnswer task contents day outcome.ending outcome.text))
read_written task held names parts day (Ok outcome) spelled written =
    let told = held_under held names in
    if_told told (λ contents. IsAnswer task contents day outcome.ending outcome.text) (λ contents e.
    record {
      parts = parts;
      spelled = of_told told (λ contents. SpellTables (stage_of task) contents parts) contents e spelled;
      written =
          written;
    })
read_written task held names parts day (Err s) spelled written = tt

-- All files were read and the command refused: memory ran out, which needs no cause, or a cause is in the parts read, which are what
-- the files spell (`refused_cause`). So the clause `cause` of `answer_of` has it as a cause in the files.
pub read_cause : (task : Task) (held : List ℕ → Option (List ℕ)) (names : List (List ℕ)) (parts : List (List Table)) (day : ℕ)
    (R : ℕ → Type 0) (r : Result Outcome Status)
    → IfSome (held_under held names) (λ contents. SpellTables (stage_of task) contents parts) → IfErr r (ArePartsRefused task parts day)
    → IfErr r (IsAnswerCause (λ s. IfSome (told_for held names s) (λ contents. IsRefusal task contents day s)) R)
read_cause task held names parts day R (Ok outcome) spelled cause = tt
read_cause task held names parts day R (Err s) spelled cause = refused_cause task held names parts day R s spelled cause

-- Where the parts have a cause, the body's answer is that status, or memory ran out: a text is shut out (`no_cause`), and the cause
-- that it answered is the same one (`same_cause`).
tables_refused : (task : Task) (parts : List (List Table)) (day : ℕ) (r : Result Outcome Status) (status : Status) →
    is_open task status ≡ false
    → IfOk r (λ outcome. IsWhole task parts day outcome.ending outcome.text) → IfErr r (ArePartsRefused task parts day) →
    IsPartsCause task parts day status
    → MatchResult r (λ outcome. ⊥) (λ s. IsUnread s ⊎ (s ≡ status))
tables_refused task parts day (Ok outcome) status settled written cause c =
    no_cause task parts day outcome.ending outcome.text status settled written c
tables_refused task parts day (Err s) status settled written (inl memory) c = inl (memory_is_unread s memory)
tables_refused task parts day (Err s) status settled written (inr d) c = inr (same_cause task parts day s status settled d c)

-- All files were read, and a refusal is called for. One of a text cannot be: files that were read have no fault of text (`none`). Any
-- other is one of tables that the files spell, and these are the parts read, since files spell one list of tables alone (`only`); so
-- what `tables_refused` says of the parts is said of the files. It is the clause `refused` of `answer_of`, on which the clause
-- `refused` of `run` rests: what is wrong in the files is answered and nothing else.
pub read_refused : (task : Task) (held : List ℕ → Option (List ℕ)) (names : List (List ℕ)) (parts : List (List Table)) (day : ℕ)
    (r : Result Outcome Status) (status : Status)
    → is_open task status ≡ false
    → ((others : List (List Table)) →
    IfSome (held_under held names) (λ contents. SpellTables (stage_of task) contents others → parts ≡ others))
    → ((file line : ℕ) (kind : TextKind) →
    IfSome (held_under held (take file names)) (λ contents. HasTextFault (stage_of task) 1 contents file line kind → ⊥))
    → IfOk r (λ outcome. IsWhole task parts day outcome.ending outcome.text) → IfErr r (ArePartsRefused task parts day)
    → IfSome (told_for held names status) (λ contents. IsRefusal task contents day status →
    MatchResult r (λ outcome. ⊥) (λ s. IsUnread s ⊎ (s ≡ status)))
read_refused task held names parts day r status settled only none written cause = elim (parts_of status) [
  | inl t ↦
      let text : Status = statuses.Input (inputs.Text t.file t.fault) in
      let Goal : Status → Type 0 =
      λ status. IfSome (told_for held names status) (λ contents. IsRefusal task contents day status →
      MatchResult r (λ outcome. ⊥) (λ s. IsUnread s ⊎ (s ≡ status))) in
      let told = held_under held (take t.file names) in
      let at : Goal text = if_told told (λ contents. IsRefusal task contents day text →
      MatchResult r (λ outcome. ⊥) (λ s. IsUnread s ⊎ (s ≡ text))) (λ contents e refusal.
      absurd (of_told told (λ contents. HasTextFault (stage_of task) 1 contents t.file t.fault.line t.fault.kind → ⊥) contents e
      (none t.file t.fault.line t.fault.kind) refusal)) in
      subst Goal (sym t.is) at
  | inr other ↦ if_told (told_for held names status) (λ contents. IsRefusal task contents day status →
      MatchResult r (λ outcome. ⊥) (λ s. IsUnread s ⊎ (s ≡ status))) (λ contents told refusal.
      let t = other.refusal task contents day refusal in
      let all = held_under held names in
      let same = of_told all (λ contents. SpellTables (stage_of task) contents t.parts → parts ≡ t.parts) contents
      (told_others held names contents status other told) (only t.parts) t.spelled in
      let P : List (List Table) → Type 0 = λ ps. IsPartsCause task ps day status in
      tables_refused task parts day r status settled written cause (subst P (sym same) t.cause))
]

-- All files were read, and an answer is there: its parts are the parts read (`only`), and so a cause in these would be one beside a
-- text (`no_cause`). So the body had no cause, and there is a text, or memory ran out. Nothing is open where nothing climbs
-- (`never_open`). It is the clause `complete` of `answer_of`.
pub read_complete : (task : Task) → climbs task ≡ false →
    (contents : List (List ℕ)) (parts : List (List Table)) (day : ℕ) (r : Result Outcome Status) (end : Status) (bytes : List ℕ)
    → ((others : List (List Table)) → SpellTables (stage_of task) contents others → parts ≡ others) →
    IfErr r (ArePartsRefused task parts day) → IsAnswer task contents day end bytes
    → MatchResult r (λ found. Unit {0}) IsUnread
read_complete task fixed contents parts day (Ok found) end bytes only cause answer = tt
read_complete task fixed contents parts day (Err s) end bytes only (inl memory) answer = memory_is_unread s memory
read_complete task fixed contents parts day (Err s) end bytes only (inr d) answer =
    let P : List (List Table) → Type 0 = λ ps. IsWhole task ps day end bytes in
    absurd (no_cause task parts day end bytes s (never_open task s fixed)
    (subst P (sym (only answer.parts answer.spelled)) answer.written) d)

-- a file that is not read, as a status
pub unread_status : (fault : FileFault) → IsUnreadFile fault → IsUnread (file_status fault)
unread_status (files.Text file fault) unread = absurd unread
unread_status (files.Read file) unread = tt
unread_status files.Memory unread = tt

-- A file was refused. The cause that `read_files` gives of it, by the files up to its own or by a count that rose, is word for word
-- the one that the task's answer asks for that status, since `told_for` looks at just these files.
pub unread_answer : (task : Task) (held : List ℕ → Option (List ℕ)) (names : List (List ℕ)) (day : ℕ) (R : ℕ → Type 0) (fault : FileFault)
    → IsFileCause (λ file line kind. IfSome (held_under held (take file names))
    (λ contents. HasTextFault (stage_of task) 1 contents file line kind)) R fault
    → IsAnswerCause (λ s. IfSome (told_for held names s) (λ contents. IsRefusal task contents day s)) R (file_status fault)
unread_answer task held names day R files.Memory cause = tt
unread_answer task held names day R (files.Read file) cause = cause
unread_answer task held names day R (files.Text file fault) cause = cause

-- the fault of a text is the status that is meant
fault_is : (fault : FileFault) (file line : ℕ) (kind : TextKind) → IsUnreadFile fault ⊎ (fault ≡ refused_text file line kind)
    → IsUnread (file_status fault) ⊎ (file_status fault ≡ statuses.Input (inputs.Text file (record { line = line; kind = kind })))
fault_is fault file line kind (inl unread) = inl (unread_status fault unread)
fault_is fault file line kind (inr same) = inr (ap file_status same)

-- A file was refused, and a refusal is called for. If it is a fault of text, `read_files` answers that one or is unread (`exact`). If
-- it is one of tables, the files spell tables, and a file of these is refused only for running out of memory or a failed read
-- (`only`). So the clause `refused` of `answer_of` holds here too, without a look at what the command does.
pub unread_refused : (task : Task) (held : List ℕ → Option (List ℕ)) (names : List (List ℕ)) (day : ℕ) (fault : FileFault) (status : Status)
    → ((parts : List (List Table)) →
    IfSome (held_under held names) (λ contents. SpellTables (stage_of task) contents parts → IsUnreadFile fault))
    → ((file line : ℕ) (kind : TextKind) →
    IfSome (held_under held (take file names)) (λ contents. HasTextFault (stage_of task) 1 contents file line kind →
    IsUnreadFile fault ⊎ (fault ≡ refused_text file line kind)))
    → IfSome (told_for held names status) (λ contents. IsRefusal task contents day status →
    IsUnread (file_status fault) ⊎ (file_status fault ≡ status))
unread_refused task held names day fault status only exact = elim (parts_of status) [
  | inl t ↦
      let text : Status = statuses.Input (inputs.Text t.file t.fault) in
      let s = file_status fault in
      let Goal : Status → Type 0 =
      λ status. IfSome (told_for held names status) (λ contents. IsRefusal task contents day status → IsUnread s ⊎ (s ≡ status)) in
      let told = held_under held (take t.file names) in
      let at : Goal text = if_told told (λ contents. IsRefusal task contents day text → IsUnread s ⊎ (s ≡ text)) (λ contents e refusal.
      let found = of_told told (λ contents. HasTextFault (stage_of task) 1 contents t.file t.fault.line t.fault.kind →
      IsUnreadFile fault ⊎ (fault ≡ refused_text t.file t.fault.line t.fault.kind)) contents e
      (exact t.file t.fault.line t.fault.kind) refusal in
      fault_is fault t.file t.fault.line t.fault.kind found) in
      subst Goal (sym t.is) at
  | inr other ↦ if_told (told_for held names status) (λ contents. IsRefusal task contents day status →
      IsUnread (file_status fault) ⊎ (file_status fault ≡ status)) (λ contents told refusal.
      let t = other.refusal task contents day refusal in
      inl (unread_status fault
      (of_told (held_under held names) (λ contents. SpellTables (stage_of task) contents t.parts → IsUnreadFile fault) contents
      (told_others held names contents status other told) (only t.parts) t.spelled)))
]

-- a read fault of a file is answered as that status
pub still_status : (fault : FileFault) (file : ℕ) → fault ≡ files.Read file → (status : Status) → status ≡ file_status fault →
    status ≡ statuses.ReadFault file
still_status fault file same status is = is ∙ ap file_status same
