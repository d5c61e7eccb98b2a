-- From the new plan of a day to the answer of the command, and a request that plans a day anew.
use Rattle.std.proofs.Common.{◌≡◌, ℕ, ◌+◌, ◌-◌, ◌≤◌, inl, inr, Bool, true, false, List, [], ◌∷◌, ◌++◌, length, take, None, Some, Result, Ok, Err, IfOk, IfErr, refl, sym, ap, ◌∙◌, subst, arith, slice_index_or}
use Rattle.vdv451_text.specs.declared.table.Table.{Table}
use Rattle.vdv452_rows.specs.Schema as schema
use Rattle.vdv452_rows.specs.Rows.{table_of}
use Rattle.price_rounds.specs.declared.effort.Effort.{Effort}
use Rattle.cover_plan.specs.Endings.{Numbers, numbers_of}
use Rattle.day_model.specs.Facts.{DayFacts}
use Rattle.command_words.specs.declared.command.Command.{Command}
use Rattle.command_words.specs.declared.command.Command.TheVariants as commands
use Rattle.command_words.specs.Words.{HasNames}
use Rattle.input_files.specs.Parts.{joined}
use Rattle.input_files.specs.Stages.{most_bytes}
use Rattle.input_files.specs.declared.stage.Stage.TheVariants as stages
use Rattle.plan_command.specs.declared.fault.PlanFault.TheVariants as plans
use Rattle.replan_command.specs.declared.fault.ReplanFault.{ReplanFault}
use Rattle.replan_command.specs.declared.fault.ReplanFault.TheVariants as faults
use Rattle.replan_command.specs.ReplanText.{IsReplanCauseOver, IsReplanTextOver}
use Rattle.planner_run.specs.declared.outcome.Outcome.{Outcome}
use Rattle.planner_run.specs.declared.status.Status.{Status}
use Rattle.planner_run.specs.declared.status.Status.TheVariants as statuses
use Rattle.planner_run.specs.Model.{IsModelOf, IsModelRefused}
use Rattle.planner_run.specs.ReplanText.{IsReplanRefused, IsReplanStatus, IsReplanText, replan_status_of}
use Rattle.planner_run.specs.Run.{ArePartsRefused, HasParts, IsWhole, stage_of}
use Rattle.planner_run.specs.Tasks.{Replan, is_check, reads_plan, replan_moment, task_for}

-- refusals of a new plan
pub model_to_replan : (numbers : Numbers) (moment : ℕ) (tables old : List Table) (day : ℕ) (status : Status) →
    IsModelRefused tables day status → IsReplanRefused numbers moment tables old day status
model_to_replan numbers moment tables old day status (inl memory) = inl memory
model_to_replan numbers moment tables old day status (inr cause) = inr (inl cause)

not_replanned : (numbers : Numbers) (moment : ℕ) (tables old : List Table) (day : ℕ) (facts : DayFacts) (status : Status) →
    IsModelOf tables day facts → (fault : ReplanFault)
    → IsReplanCauseOver facts old moment numbers fault → status ≡ replan_status_of fault →
    IsReplanRefused numbers moment tables old day status
not_replanned numbers moment tables old day facts status model (faults.OldPlan reason) cause is =
    inr (inr (record { facts = facts; model = model; fault = faults.OldPlan reason; cause = cause; told = λ e. cc; is = is }))
not_replanned numbers moment tables old day facts status model (faults.Plan plans.Memory) cause is = inl is
not_replanned numbers moment tables old day facts status model (faults.Plan (plans.NoPlan side bound places)) cause is =
    inr (inr (record {
      facts = facts;
      model = model;
      fault = faults.Plan (plans.NoPlan side bound places);
      cause =
          cause;
      told = λ e. cc;
      is = is;
    }))
not_replanned numbers moment tables old day facts status model (faults.Plan (plans.NotPlaced side item name partial)) cause is =
    inr (inr (record {
      facts = facts;
      model = model;
      fault = faults.Plan (plans.NotPlaced side item name partial);
      cause =
          cause;
      told = λ e. cc;
      is = is;
    }))

-- the text of a new plan, of the day that the tables tell
pub replan_written : (numbers : Numbers) (moment : ℕ) (tables old : List Table) (day : ℕ) (facts : DayFacts) (table : Table)
    (r : Result (List ℕ) Status) → IsModelOf tables day facts
    → table_of schema.trips tables ≡ Some table → IfOk r (IsReplanTextOver facts old moment numbers table) →
    IfOk r (IsReplanText numbers moment tables old day)
replan_written numbers moment tables old day facts table (Ok bytes) model found written =
    record { facts = facts; model = model; table = table; found = found; plan = written }
replan_written numbers moment tables old day facts table (Err status) model found written = tt

pub replan_left : (numbers : Numbers) (moment : ℕ) (tables old : List Table) (day : ℕ) (facts : DayFacts) (r : Result (List ℕ) Status) →
    IsModelOf tables day facts
    → IfErr r (IsReplanStatus facts old moment numbers) → IfErr r (IsReplanRefused numbers moment tables old day)
replan_left numbers moment tables old day facts (Ok bytes) model cause = tt
replan_left numbers moment tables old day facts (Err status) model cause =
    not_replanned numbers moment tables old day facts status model cause.fault cause.cause cause.is

-- the parts of planning files and of an earlier plan are found again by how many planning files there are
front_of : {A : Type 0} (xs : List A) (y : A) → take (length xs) (xs ++ y ∷ []) ≡ xs
front_of [] y = refl
front_of (x ∷ xs) y = ap (λ (t : List _). x ∷ t) (front_of xs y)

last_of : {A : Type 0} (xs : List A) (y d : A) → slice_index_or (xs ++ y ∷ []) (length xs) d ≡ y
last_of [] y d = refl
last_of (x ∷ xs) y d = last_of xs y d

one_more : {A : Type 0} (xs : List A) (y : A) → length (xs ++ y ∷ []) ≡ length xs + 1
one_more [] y = refl
one_more (x ∷ xs) y = let rest = one_more xs y in omega (arith, rest)

count_is : (xs : List (List Table)) (y : List Table) (count : ℕ) → length (xs ++ y ∷ []) ≡ count + 1 → length xs ≡ count
count_is xs y count e = let both : length xs + 1 ≡ count + 1 = sym (one_more xs y) ∙ e in omega (arith, both)

abbrev AreParts : List (List Table) → List (List Table) → List Table → Type 0
AreParts parts planning old = parts ≡ planning ++ old ∷ []

-- what is said of the planning tables and of the earlier plan holds of the parts
-- The proof puts planning files and earlier plan together, asks the two reads by place, which give them back (`front_of`, `last_of`),
-- and replaces the length of the planning files by the task's count. It is made for any property, so text and refusal need it once.
at_parts : (P : List Table → List Table → Type 0) (count : ℕ) (parts planning : List (List Table)) (old tables : List Table) →
    AreParts parts planning old → length parts ≡ count + 1
    → tables ≡ joined planning → P tables old → P (joined (take count parts)) (slice_index_or parts count [])
at_parts P count parts planning old tables are number same h =
    let whole : List (List Table) = planning ++ old ∷ [] in
    let number_of : length whole ≡ count + 1 = ap length (sym are) ∙ number in
    let count_same : length planning ≡ count = count_is planning old count number_of in
    let one : P (joined planning) old = subst (λ ts. P ts old) same h in
    let two : P (joined (take (length planning) whole)) old = subst (λ front. P (joined front) old) (sym (front_of planning old)) one in
    let three : P (joined (take (length planning) whole)) (slice_index_or whole (length planning) []) =
    subst (λ o. P (joined (take (length planning) whole)) o) (sym (last_of planning old [])) two in
    let four : P (joined (take count whole)) (slice_index_or whole count []) =
    subst (λ n. P (joined (take n whole)) (slice_index_or whole n [])) count_same three in
    subst (λ ps. P (joined (take count ps)) (slice_index_or ps count [])) (sym are) four

-- the text of a new plan is the task's whole answer, and ends with Ok
replan_at : (count moment : ℕ) (numbers : Numbers) (parts planning : List (List Table)) (old tables : List Table) (day : ℕ)
    (r : Result Outcome Status) → AreParts parts planning old
    → length parts ≡ count + 1 → tables ≡ joined planning →
    IfOk r (λ o. IsReplanText numbers moment tables old day o.text × (o.ending ≡ statuses.Ok))
    → IfOk r (λ o. IsWhole (Replan count moment numbers) parts day o.ending o.text)
replan_at count moment numbers parts planning old tables day (Ok o) are number same h =
    (at_parts (λ ts os. IsReplanText numbers moment ts os day o.text) count parts planning old tables are number same h.0, h.1)
replan_at count moment numbers parts planning old tables day (Err s) are number same h = tt

replan_refused_at : (count moment : ℕ) (numbers : Numbers) (parts planning : List (List Table)) (old tables : List Table) (day : ℕ)
    (r : Result Outcome Status) → AreParts parts planning old
    → length parts ≡ count + 1 → tables ≡ joined planning → IfErr r (IsReplanRefused numbers moment tables old day) →
    IfErr r (ArePartsRefused (Replan count moment numbers) parts day)
replan_refused_at count moment numbers parts planning old tables day (Ok o) are number same h = tt
replan_refused_at count moment numbers parts planning old tables day (Err s) are number same h =
    at_parts (λ ts os. IsReplanRefused numbers moment ts os day s) count parts planning old tables are number same h

moment_same : (a b : ℕ) → Some a ≡ Some b → a ≡ b
moment_same a b e = cc

pub replan_whole : (command : Command) (effort : Effort) (flow : Bool) (n moment : ℕ) → replan_moment command ≡ Some moment →
    (parts planning : List (List Table)) (old tables : List Table) (day : ℕ)
    (r : Result Outcome Status) → AreParts parts planning old → HasParts (task_for command effort flow n) (length parts) →
    tables ≡ joined planning
    → IfOk r (λ o. IsReplanText (numbers_of effort) moment tables old day o.text × (o.ending ≡ statuses.Ok)) →
    IfOk r (λ o. IsWhole (task_for command effort flow n) parts day o.ending o.text)
replan_whole (commands.Replan at) effort flow n moment is parts planning old tables day r are number same h =
    let P : ℕ → Type 0 = λ m. IfOk r (λ o. IsWhole (Replan (n - 1) m (numbers_of effort)) parts day o.ending o.text) in
    subst P (sym (moment_same at moment is))
    (replan_at (n - 1) moment (numbers_of effort) parts planning old tables day r are number same h)
replan_whole _ effort flow n moment is parts planning old tables day r are number same h = absurd (let bad = is in cc)

pub replan_refused : (command : Command) (effort : Effort) (flow : Bool) (n moment : ℕ) → replan_moment command ≡ Some moment →
    (parts planning : List (List Table)) (old tables : List Table) (day : ℕ)
    (r : Result Outcome Status) → AreParts parts planning old → HasParts (task_for command effort flow n) (length parts) →
    tables ≡ joined planning
    → IfErr r (IsReplanRefused (numbers_of effort) moment tables old day) →
    IfErr r (ArePartsRefused (task_for command effort flow n) parts day)
replan_refused (commands.Replan at) effort flow n moment is parts planning old tables day r are number same h =
    let P : ℕ → Type 0 = λ m. IfErr r (ArePartsRefused (Replan (n - 1) m (numbers_of effort)) parts day) in
    subst P (sym (moment_same at moment is))
    (replan_refused_at (n - 1) moment (numbers_of effort) parts planning old tables day r are number same h)
replan_refused _ effort flow n moment is parts planning old tables day r are number same h = absurd (let bad = is in cc)

-- an earlier plan is among the parts
pub least_of_parts : (command : Command) (effort : Effort) (flow : Bool) (n moment count : ℕ) → replan_moment command ≡ Some moment →
    HasParts (task_for command effort flow n) count → 1 ≤ count
least_of_parts (commands.Replan at) effort flow n moment count is number = omega (arith, number)
least_of_parts _ effort flow n moment count is number = absurd (let bad = is in cc)

-- a command that neither checks nor plans anew reads no plan
pub reads_none : (command : Command) → is_check command ≡ false → replan_moment command ≡ None → reads_plan command ≡ false
reads_none (commands.Replan at) free none = absurd (let bad = none in cc)
reads_none commands.Check free none = absurd (let bad = free in cc)
reads_none _ free none = refl

-- before an earlier plan there are all the other files
pub least_of_replan : (command : Command) (n : ℕ) → is_check command ≡ false → reads_plan command ≡ true → HasNames command n → 2 ≤ n
least_of_replan (commands.Replan at) n free is names = names.0
least_of_replan commands.Check n free is names = absurd (let bad = free in cc)
least_of_replan _ n free is names = absurd (let bad = is in cc)

one_less : (n : ℕ) → 2 ≤ n → n - 2 ≡ n - 1 - 1
one_less n least = omega (arith, least)

pub replan_stage : (command : Command) (effort : Effort) (flow : Bool) (n : ℕ) → is_check command ≡ false →
    reads_plan command ≡ true → HasNames command n
    → stages.Planning (n - 2) most_bytes ≡ stage_of (task_for command effort flow n)
replan_stage (commands.Replan at) effort flow n free is names = ap (λ m. stages.Planning m most_bytes) (one_less n names.0)
replan_stage commands.Check effort flow n free is names = absurd (let bad = free in cc)
replan_stage _ effort flow n free is names = absurd (let bad = is in cc)
