-- The text of a task is one, unless it climbs: files that are told, words and a day determine it.
use Rattle.std.proofs.Common.{◌≡◌, ℕ, ◌+◌, ℤ, pos, false, true, inl, inr, List, [], ◌∷◌, ◌++◌, length, Option, Some, Result, Ok, IfSome, sym, ◌∙◌, ap, subst, slice_index_or, take}
use Rattle.jiff_core.specs.Calendar.{days_from_civil, weekday_number}
use Rattle.vdv451_text.specs.declared.table.Table.{Table}
use Rattle.vdv451_text.specs.Plain.{text}
use Rattle.vdv451_text.proofs.Readings.{reads_given}
use Rattle.vdv452_tables.specs.declared.net.Net.{Net}
use Rattle.vdv452_tables.specs.declared.reading.Needs.TheVariants as needs
use Rattle.vdv452_tables.specs.Calendar.{net_of}
use Rattle.vdv452_rows.specs.Rows.{table_of}
use Rattle.vdv452_rows.specs.Schema as schema
use Rattle.day_calendar.specs.Days.{HasWeekday}
use Rattle.day_model.specs.Facts.{DayFacts}
use Rattle.day_maker.specs.Made.{made_tables}
use Rattle.day_tables.specs.DayTables.{day_tables_of}
use Rattle.plan_command.specs.PlanText.{IsPlanTextOver}
use Rattle.plan_command.proofs.AlikeDays.{same_short_texts, same_texts}
use Rattle.trip_times.specs.declared.trip.Trip.{Trip}
use Rattle.plan_command.specs.Planning.{Asked}
use Rattle.planner_run.specs.Tasks.{Task}
use Rattle.planner_run.specs.Tasks.{Certify, Check, Day, Make, MakeRun, Plan, Replan, Trips, Week}
use Rattle.planner_run.specs.declared.status.Status.{Status}
use Rattle.planner_run.specs.declared.status.Status.TheVariants as statuses
use Rattle.planner_run.specs.DayText.{IsDayText}
use Rattle.input_files.specs.declared.stage.Stage.{Stage}
use Rattle.input_files.specs.Inputs.{SpellTables}
use Rattle.input_files.specs.Parts.{joined}
use Rattle.input_files.specs.Stages.{next_stage, room}
use Rattle.planner_run.specs.Endings.{is_done}
use Rattle.planner_run.specs.Run.{IsAnswer, IsWhole, IsWritten, checks, climbs, stage_of}
use Rattle.planner_run.specs.MadeText.{IsShortText}
use Rattle.planner_run.specs.PlanText.{IsPlanText}
use Rattle.planner_run.specs.Trips.{IsTripsText, picked_table}
use Rattle.planner_run.proofs.ModelOutcomes.{days_alike, rows_same}
use Rattle.planner_run.proofs.CertOutcomes.{one_certificate}
use Rattle.planner_run.proofs.PlanOutcomes.{days_short, days_text}
use Rattle.planner_run.proofs.Outcomes.{kinds_same, some_same}
use Rattle.planner_run.proofs.ReplanOutcomes.{one_replan_text}
use Rattle.planner_run.proofs.WeekOutcomes.{one_week_text}

-- a text spells one list of tables
ok_same : {E : Type 0} (xs ys : List Table) (r : Result (List Table) E) → r ≡ Ok xs → r ≡ Ok ys → xs ≡ ys
ok_same xs ys r p q = let both : Ok xs ≡ Ok ys = sym p ∙ q in cc

-- Files of which the first is of a stage spell one list of tables, file by file: a text has one reading (`reads_given`), and the stage
-- of the next file is fixed by the bytes of this one, so the induction goes on with the same stage on both sides.
one_spelling : (stage : Stage) (contents : List (List ℕ)) (xs ys : List (List Table)) → SpellTables stage contents xs →
    SpellTables stage contents ys → xs ≡ ys
one_spelling stage [] xs ys p q = p ∙ sym q
one_spelling stage (bytes ∷ files) xs ys p q =
    let first : p.0 ≡ q.0 = ok_same p.0 q.0 _ (reads_given (room stage) bytes p.0 p.2) (reads_given (room stage) bytes q.0 q.2) in
    let others : p.1 ≡ q.1 = one_spelling (next_stage stage (length bytes)) files p.1 q.1 p.3 q.3 in
    p.4 ∙ ap (λ (t : List Table). t ∷ p.1) first ∙ ap (λ (t : List (List Table)). q.0 ∷ t) others ∙ sym q.4

-- one text of trips
one_trips_text : (tables : List Table) (day : ℕ) (xs ys : List ℕ) → IsTripsText tables day xs → IsTripsText tables day ys → xs ≡ ys
one_trips_text tables day xs ys p q =
    let places : p.places ≡ q.places =
    rows_same (net_of needs.Calendar tables) day p.kind q.kind p.places q.places p.day_is.kind_is q.day_is.kind_is
    p.day_is.rows q.day_is.rows in
    let table : p.table ≡ q.table = some_same (table_of schema.trips tables) p.table q.table p.found q.found in
    p.written ∙ ap (λ (t : Table). text (picked_table t p.places ∷ [])) table
    ∙ ap (λ ps. text (picked_table q.table ps ∷ [])) places ∙ sym q.written

-- one weekday
abbrev weekday_at : ℤ → ℕ → ℕ → ℕ
weekday_at year month day = weekday_number (days_from_civil year month day) + 1

one_weekday : (day a b : ℕ) → HasWeekday day a → HasWeekday day b → a ≡ b
one_weekday day a b p q =
    let years : p.0.year ≡ q.0.year = p.1.0 ∙ sym q.1.0 in
    let both_months : pos p.0.month ≡ pos q.0.month = p.1.1 ∙ sym q.1.1 in
    let both_days : pos p.0.day ≡ pos q.0.day = p.1.2 ∙ sym q.1.2 in
    let months : p.0.month ≡ q.0.month = cc in
    let days : p.0.day ≡ q.0.day = cc in
    p.2 ∙ ap (λ y. weekday_at y p.0.month p.0.day) years ∙ ap (λ m. weekday_at q.0.year m p.0.day) months
    ∙ ap (λ d. weekday_at q.0.year q.0.month d) days ∙ sym q.2

-- one text of a day
abbrev text_with : Net → DayFacts → ℕ → ℕ → ℕ → ℕ → List ℕ → List Trip → List ℕ
text_with net facts version kind day weekday rows trips =
    text (day_tables_of net
    (record facts { kind = record { version = version; kind = kind; day = day; weekday = weekday }; rows = rows; trips = trips }))

-- The text of `day` tells, besides what planning reads (`days_alike`), the date, its weekday and the places of the trips' rows; these
-- too are fixed by the tables and the day. So one field after another of the one day is replaced by the other's.
one_day_text : (tables : List Table) (day : ℕ) (xs ys : List ℕ) → IsDayText tables day xs → IsDayText tables day ys → xs ≡ ys
one_day_text tables day xs ys p q =
    let net : Net = net_of needs.All tables in
    let a = p.facts in
    let b = q.facts in
    let kinds = kinds_same net day a.kind b.kind p.model.model.kind_is q.model.model.kind_is in
    let days : a.kind.day ≡ b.kind.day = p.model.model.kind_is.day_is ∙ sym q.model.model.kind_is.day_is in
    let weekdays : a.kind.weekday ≡ b.kind.weekday =
    one_weekday day a.kind.weekday b.kind.weekday p.model.model.kind_is.weekday q.model.model.kind_is.weekday in
    let rows : a.rows ≡ b.rows =
    rows_same net day a.kind b.kind a.rows b.rows p.model.model.kind_is q.model.model.kind_is p.model.model.day_is.rows
    q.model.model.day_is.rows in
    let trips : a.trips ≡ b.trips = (days_alike tables day a b p.model q.model).trips in
    p.written
    ∙ ap (λ v. text_with net a v a.kind.kind a.kind.day a.kind.weekday a.rows a.trips) kinds.0
    ∙ ap (λ k. text_with net a b.kind.version k a.kind.day a.kind.weekday a.rows a.trips) kinds.1
    ∙ ap (λ d. text_with net a b.kind.version b.kind.kind d a.kind.weekday a.rows a.trips) days
    ∙ ap (λ w. text_with net a b.kind.version b.kind.kind b.kind.day w a.rows a.trips) weekdays
    ∙ ap (λ ps. text_with net a b.kind.version b.kind.kind b.kind.day b.kind.weekday ps a.trips) rows
    ∙ ap (λ ts. text_with net a b.kind.version b.kind.kind b.kind.day b.kind.weekday b.rows ts) trips
    ∙ sym q.written

-- one text of a plan: two days of the tables plan alike, and a day has one text
one_plan_text : (asked : Asked) → asked.numbers.climb ≡ false → (tables : List Table) (day : ℕ) (xs ys : List ℕ) →
    IsPlanText asked tables day xs → IsPlanText asked tables day ys → xs ≡ ys
one_plan_text asked fixed tables day xs ys p q =
    let table : p.table ≡ q.table = some_same (table_of schema.trips tables) p.table q.table p.found q.found in
    let P : Table → Type 0 = λ t. IsPlanTextOver p.facts asked t xs in
    days_text q.facts asked fixed q.table xs ys
    (same_texts p.facts q.facts (days_alike tables day p.facts q.facts p.model q.model) asked q.table xs (subst P table p.plan)) q.plan

-- and one short text
one_short_text : (asked : Asked) → asked.numbers.climb ≡ false → (tables : List Table) (day : ℕ) (xs ys : List ℕ) →
    IsShortText asked tables day xs → IsShortText asked tables day ys → xs ≡ ys
one_short_text asked fixed tables day xs ys p q =
    days_short q.facts asked fixed xs ys
    (same_short_texts p.facts q.facts (days_alike tables day p.facts q.facts p.model q.model) asked xs p.plan) q.plan

one_text : (task : Task) → climbs task ≡ false → checks task ≡ false →
    (parts : List (List Table)) (day : ℕ) (s t : Status) (xs ys : List ℕ) → IsWhole task parts day s xs →
    IsWhole task parts day t ys → xs ≡ ys
one_text Trips fixed text parts day s t xs ys p q = one_trips_text (joined parts) day xs ys p.0 q.0
one_text Day fixed text parts day s t xs ys p q = one_day_text (joined parts) day xs ys p.0 q.0
one_text (Plan asked) fixed text parts day s t xs ys p q = one_plan_text asked fixed (joined parts) day xs ys p.0 q.0
one_text (Certify asked) fixed text parts day s t xs ys p q = one_certificate asked fixed (joined parts) day xs ys p.0 q.0
one_text (Check count) fixed text parts day s t xs ys p q = absurd cc
one_text (Replan count moment numbers) fixed text parts day s t xs ys p q =
    one_replan_text numbers fixed moment (joined (take count parts)) (slice_index_or parts count []) day xs ys p.0 q.0
one_text (Make seed trips) fixed text parts day s t xs ys p q = p.0 ∙ sym q.0
one_text Week fixed text parts day s t xs ys p q = one_week_text (joined parts) xs ys p.0 q.0
one_text (MakeRun seed trips asked) fixed text parts day s t xs ys p q =
    one_short_text asked fixed (made_tables seed trips) day xs ys p.0 q.0

-- The bytes of the files spell one list of tables (`one_spelling`), and over one list of tables each command has one text. So the text
-- is fixed by what the files hold, the day and the words; no worker, gate or order of work is in it. It is the clause `only` of `run`.
pub one_answer : (task : Task) → climbs task ≡ false → checks task ≡ false →
    (contents : List (List ℕ)) (day : ℕ) (s t : Status) (xs ys : List ℕ) → IsAnswer task contents day s xs →
    IsAnswer task contents day t ys → xs ≡ ys
one_answer task fixed text contents day s t xs ys p q =
    let same : p.parts ≡ q.parts = one_spelling (stage_of task) contents p.parts q.parts p.spelled q.spelled in
    let P : List (List Table) → Type 0 = λ ps. IsWhole task ps day s xs in
    one_text task fixed text q.parts day s t xs ys (subst P same p.written) q.written

-- what was taken is any text that is the one written
pub same_taken : (old new : Option (List ℕ)) (before now : ℕ) (text bytes : List ℕ) (ending status : Status) → text ≡ bytes →
    IsWritten old new before now text ending status → is_done status ≡ true →
    IfSome old (λ bytes_before. new ≡ Some (bytes_before ++ bytes))
same_taken old new before now text bytes ending status same (inl (is, whole)) done =
    let Q : List ℕ → Type 0 = λ t. IfSome old (λ bytes_before. new ≡ Some (bytes_before ++ t)) in
    subst Q same whole
same_taken old new before now text bytes ending status same (inr (is, front, rose)) done =
    let P : Status → Type 0 = λ s. is_done s ≡ true in absurd (let bad = subst P is done in cc)
