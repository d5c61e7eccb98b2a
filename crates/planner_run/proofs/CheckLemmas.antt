-- A request that checks a plan and a certificate, and one that writes a text from planning tables alone.
use Rattle.std.proofs.Common.{◌≡◌, ℕ, suc, ◌+◌, ◌-◌, ◌≤◌, Bool, true, false, List, [], ◌∷◌, ◌++◌, length, take, Result, Ok, Err, IfOk, IfErr, refl, sym, ap, ◌∙◌, subst, arith, slice_index_or}
use Rattle.vdv451_text.specs.declared.table.Table.{Table}
use Rattle.price_rounds.specs.declared.effort.Effort.{Effort}
use Rattle.cert_check.specs.declared.reason.Answered.{Answered}
use Rattle.cert_check.specs.declared.reason.Answered.TheVariants.{Yes, No}
use Rattle.command_words.specs.declared.command.Command.{Command}
use Rattle.command_words.specs.declared.command.Command.TheVariants as commands
use Rattle.command_words.specs.Words.{HasNames}
use Rattle.input_files.specs.Parts.{joined}
use Rattle.input_files.specs.Stages.{most_bytes}
use Rattle.input_files.specs.declared.stage.Stage.TheVariants as stages
use Rattle.plan_command.specs.Planning.{Asked}
use Rattle.planner_run.specs.declared.outcome.Outcome.{Outcome}
use Rattle.planner_run.specs.declared.status.Status.{Status}
use Rattle.planner_run.specs.declared.status.Status.TheVariants as statuses
use Rattle.planner_run.specs.CheckText.{IsCheckText, ending_of}
use Rattle.planner_run.specs.Endings.{is_done}
use Rattle.planner_run.specs.Model.{IsModelRefused}
use Rattle.planner_run.specs.Run.{ArePartsRefused, HasParts, IsEndingOf, IsRefused, IsText, IsWhole, stage_of, tables_in}
use Rattle.planner_run.specs.Tasks.{Task, asked_by, is_check, make_task, reads_plan, task_for}
use Rattle.planner_run.specs.Tasks.{Certify, Check, Day, Make, Plan, Replan, Trips, Week}

-- the parts of planning files, of a plan and of a certificate are found again by how many planning files there are
pub front_of : {A : Type 0} (xs : List A) (y z : A) → take (length xs) (xs ++ y ∷ z ∷ []) ≡ xs
front_of [] y z = refl
front_of (x ∷ xs) y z = ap (λ (t : List _). x ∷ t) (front_of xs y z)

pub plan_of : {A : Type 0} (xs : List A) (y z d : A) → slice_index_or (xs ++ y ∷ z ∷ []) (length xs) d ≡ y
plan_of [] y z d = refl
plan_of (x ∷ xs) y z d = plan_of xs y z d

last_of : {A : Type 0} (xs : List A) (y z d : A) → slice_index_or (xs ++ y ∷ z ∷ []) (suc (length xs)) d ≡ z
last_of [] y z d = refl
last_of (x ∷ xs) y z d = last_of xs y z d

one_more : (n : ℕ) → suc n ≡ n + 1
one_more n = omega arith

pub cert_of : {A : Type 0} (xs : List A) (y z d : A) → slice_index_or (xs ++ y ∷ z ∷ []) (length xs + 1) d ≡ z
cert_of xs y z d = let P : ℕ → Type 0 = λ n. slice_index_or (xs ++ y ∷ z ∷ []) n d ≡ z in subst P (one_more (length xs)) (last_of xs y z d)

two_more : {A : Type 0} (xs : List A) (y z : A) → length (xs ++ y ∷ z ∷ []) ≡ length xs + 2
two_more [] y z = refl
two_more (x ∷ xs) y z = let rest = two_more xs y z in omega (arith, rest)

count_is : (xs : List (List Table)) (y z : List Table) (count : ℕ) → length (xs ++ y ∷ z ∷ []) ≡ count + 2 → length xs ≡ count
count_is xs y z count e = let both : length xs + 2 ≡ count + 2 = sym (two_more xs y z) ∙ e in omega (arith, both)

-- The files of a check are told apart by place alone: so many planning files, then the plan, then the certificate. The three reads by
-- place of `IsWhole` give back the three parts that were put together (`front_of`, `plan_of`, `cert_of`), and so what is said of the
-- parts is said of all files in one list.
pub whole_at : (planning : List (List Table)) (plan cert : List Table) (day : ℕ) (ending : Status) (bytes : List ℕ) →
    IsCheckText (joined planning) plan cert day ending bytes
    → IsWhole (Check (length planning)) (planning ++ plan ∷ cert ∷ []) day ending bytes
whole_at planning plan cert day ending bytes h =
    let parts : List (List Table) = planning ++ plan ∷ cert ∷ [] in
    let P : List (List Table) → List Table → List Table → Type 0 = λ front p c. IsCheckText (joined front) p c day ending bytes in
    let one : P (take (length planning) parts) plan cert = subst (λ front. P front plan cert) (sym (front_of planning plan cert)) h in
    let two : P (take (length planning) parts) (slice_index_or parts (length planning) []) cert =
    subst (λ p. P (take (length planning) parts) p cert) (sym (plan_of planning plan cert [])) one in
    subst (λ c. P (take (length planning) parts) (slice_index_or parts (length planning) []) c) (sym (cert_of planning plan cert [])) two

refused_at : (planning : List (List Table)) (plan cert : List Table) (day : ℕ) (status : Status) →
    IsModelRefused (joined planning) day status
    → ArePartsRefused (Check (length planning)) (planning ++ plan ∷ cert ∷ []) day status
refused_at planning plan cert day status h =
    let P : List (List Table) → Type 0 = λ front. IsModelRefused (joined front) day status in
    subst P (sym (front_of planning plan cert)) h

-- what is checked is the task's whole answer
abbrev AreParts : List (List Table) → List (List Table) → List Table → List Table → Type 0
AreParts parts planning plan cert = parts ≡ planning ++ plan ∷ cert ∷ []

check_at : (count : ℕ) (parts planning : List (List Table)) (plan cert tables : List Table) (day : ℕ) (r : Result Outcome Status) →
    AreParts parts planning plan cert
    → length parts ≡ count + 2 → tables ≡ joined planning → IfOk r (λ o. IsCheckText tables plan cert day o.ending o.text) →
    IfOk r (λ o. IsWhole (Check count) parts day o.ending o.text)
check_at count parts planning plan cert tables day (Err s) are number same h = tt
check_at count parts planning plan cert tables day (Ok o) are number same h =
    let number_of : length (planning ++ plan ∷ cert ∷ []) ≡ count + 2 = ap length (sym are) ∙ number in
    let count_same : length planning ≡ count = count_is planning plan cert count number_of in
    let P : List Table → Type 0 = λ ts. IsCheckText ts plan cert day o.ending o.text in
    let there = whole_at planning plan cert day o.ending o.text (subst P same h) in
    let Q : List (List Table) → Type 0 = λ ps. IsWhole (Check (length planning)) ps day o.ending o.text in
    let R : ℕ → Type 0 = λ n. IsWhole (Check n) parts day o.ending o.text in
    subst R count_same (subst Q (sym are) there)

check_refused_at : (count : ℕ) (parts planning : List (List Table)) (plan cert tables : List Table) (day : ℕ) (r : Result Outcome Status) →
    AreParts parts planning plan cert
    → length parts ≡ count + 2 → tables ≡ joined planning → IfErr r (IsModelRefused tables day) →
    IfErr r (ArePartsRefused (Check count) parts day)
check_refused_at count parts planning plan cert tables day (Ok o) are number same h = tt
check_refused_at count parts planning plan cert tables day (Err s) are number same h =
    let number_of : length (planning ++ plan ∷ cert ∷ []) ≡ count + 2 = ap length (sym are) ∙ number in
    let count_same : length planning ≡ count = count_is planning plan cert count number_of in
    let P : List Table → Type 0 = λ ts. IsModelRefused ts day s in
    let there = refused_at planning plan cert day s (subst P same h) in
    let Q : List (List Table) → Type 0 = λ ps. ArePartsRefused (Check (length planning)) ps day s in
    let R : ℕ → Type 0 = λ n. ArePartsRefused (Check n) parts day s in
    subst R count_same (subst Q (sym are) there)

-- The text of a check is the whole answer of its task. A request names as many files as were read (`HasParts`), and two of them are
-- the plan and the certificate; so the number of planning files in the task is the length of the list in front of these two, by which
-- `whole_at` finds them.
pub check_whole : (command : Command) (effort : Effort) (flow : Bool) (n : ℕ) → is_check command ≡ true →
    (parts planning : List (List Table)) (plan cert tables : List Table) (day : ℕ) (r : Result Outcome Status)
    → AreParts parts planning plan cert → HasParts (task_for command effort flow n) (length parts) → tables ≡ joined planning →
    IfOk r (λ o. IsCheckText tables plan cert day o.ending o.text)
    → IfOk r (λ o. IsWhole (task_for command effort flow n) parts day o.ending o.text)
check_whole commands.Check effort flow n is parts planning plan cert tables day r are number same h =
    check_at (n - 2) parts planning plan cert tables day r are number same h
check_whole _ effort flow n is parts planning plan cert tables day r are number same h = absurd (let bad = is in cc)

pub check_refused : (command : Command) (effort : Effort) (flow : Bool) (n : ℕ) → is_check command ≡ true →
    (parts planning : List (List Table)) (plan cert tables : List Table) (day : ℕ) (r : Result Outcome Status)
    → AreParts parts planning plan cert → HasParts (task_for command effort flow n) (length parts) → tables ≡ joined planning →
    IfErr r (IsModelRefused tables day)
    → IfErr r (ArePartsRefused (task_for command effort flow n) parts day)
check_refused commands.Check effort flow n is parts planning plan cert tables day r are number same h =
    check_refused_at (n - 2) parts planning plan cert tables day r are number same h
check_refused _ effort flow n is parts planning plan cert tables day r are number same h = absurd (let bad = is in cc)

-- a text from planning tables alone is the task's whole answer, and ends with Ok
made_whole : (run : Bool) (seed trips : ℕ) (asked : Asked) (parts : List (List Table)) (day : ℕ) (bytes : List ℕ) →
    IsText (make_task run seed trips asked) (joined parts) day bytes
    → IsWhole (make_task run seed trips asked) parts day statuses.Ok bytes
made_whole true seed trips asked parts day bytes h = (h, refl)
made_whole false seed trips asked parts day bytes h = (h, refl)

text_whole : (command : Command) (effort : Effort) (flow : Bool) (n : ℕ) → reads_plan command ≡ false →
    (parts : List (List Table)) (tables : List Table) (day : ℕ) (bytes : List ℕ) → tables ≡ joined parts
    → IsText (task_for command effort flow n) tables day bytes → IsWhole (task_for command effort flow n) parts day statuses.Ok bytes
text_whole commands.Check effort flow n is parts tables day bytes same h = absurd (let bad = is in cc)
text_whole (commands.Make making) effort flow n is parts tables day bytes same h =
    let P : List Table → Type 0 = λ ts. IsText (make_task making.run making.seed making.trips (asked_by effort false)) ts day bytes in
    made_whole making.run making.seed making.trips (asked_by effort false) parts day bytes (subst P same h)
text_whole (commands.Replan moment) effort flow n is parts tables day bytes same h = absurd (let bad = is in cc)
text_whole command effort flow n is parts tables day bytes same h =
    let P : List Table → Type 0 = λ ts. IsText (task_for command effort flow n) ts day bytes in (subst P same h, refl)

-- The text of a command that reads no plan is made of the tables of all files in one list, and so is its task's answer, which ends
-- with Ok. `check_whole`, `replan_whole` and this are for the three ways of `outcome_of`, from where on no proof asks which command it
-- is.
pub texts_whole : (command : Command) (effort : Effort) (flow : Bool) (n : ℕ) → reads_plan command ≡ false →
    (parts : List (List Table)) (tables : List Table) (day : ℕ) (r : Result Outcome Status) → tables ≡ joined parts
    → IfOk r (λ o. IsText (task_for command effort flow n) tables day o.text × (o.ending ≡ statuses.Ok)) →
    IfOk r (λ o. IsWhole (task_for command effort flow n) parts day o.ending o.text)
texts_whole command effort flow n is parts tables day (Ok o) same h =
    let P : Status → Type 0 = λ s. IsWhole (task_for command effort flow n) parts day s o.text in
    subst P (sym h.1) (text_whole command effort flow n is parts tables day o.text same h.0)
texts_whole command effort flow n is parts tables day (Err s) same h = tt

made_tables_all : (run : Bool) (seed trips : ℕ) (asked : Asked) (parts : List (List Table)) →
    joined parts ≡ tables_in (make_task run seed trips asked) parts
made_tables_all true seed trips asked parts = refl
made_tables_all false seed trips asked parts = refl

tables_all : (command : Command) (effort : Effort) (flow : Bool) (n : ℕ) → reads_plan command ≡ false → (parts : List (List Table)) →
    joined parts ≡ tables_in (task_for command effort flow n) parts
tables_all commands.Check effort flow n is parts = absurd (let bad = is in cc)
tables_all (commands.Make making) effort flow n is parts = made_tables_all making.run making.seed making.trips (asked_by effort false) parts
tables_all (commands.Replan moment) effort flow n is parts = absurd (let bad = is in cc)
tables_all _ effort flow n is parts = refl

made_refused : (run : Bool) (seed trips : ℕ) (asked : Asked) (parts : List (List Table)) (day : ℕ) (status : Status)
    → IsRefused (make_task run seed trips asked) (tables_in (make_task run seed trips asked) parts) day status →
    ArePartsRefused (make_task run seed trips asked) parts day status
made_refused true seed trips asked parts day status h = h
made_refused false seed trips asked parts day status h = h

parts_refused : (command : Command) (effort : Effort) (flow : Bool) (n : ℕ) → reads_plan command ≡ false →
    (parts : List (List Table)) (day : ℕ) (status : Status)
    → IsRefused (task_for command effort flow n) (tables_in (task_for command effort flow n) parts) day status →
    ArePartsRefused (task_for command effort flow n) parts day status
parts_refused commands.Check effort flow n is parts day status h = absurd (let bad = is in cc)
parts_refused (commands.Make making) effort flow n is parts day status h =
    made_refused making.run making.seed making.trips (asked_by effort false) parts day status h
parts_refused (commands.Replan moment) effort flow n is parts day status h = absurd (let bad = is in cc)
parts_refused _ effort flow n is parts day status h = h

text_refused : (command : Command) (effort : Effort) (flow : Bool) (n : ℕ) → reads_plan command ≡ false →
    (parts : List (List Table)) (tables : List Table) (day : ℕ) (status : Status) → tables ≡ joined parts
    → IsRefused (task_for command effort flow n) tables day status → ArePartsRefused (task_for command effort flow n) parts day status
text_refused command effort flow n is parts tables day status same h =
    let P : List Table → Type 0 = λ ts. IsRefused (task_for command effort flow n) ts day status in
    parts_refused command effort flow n is parts day status (subst P (same ∙ tables_all command effort flow n is parts) h)

pub texts_refused : (command : Command) (effort : Effort) (flow : Bool) (n : ℕ) → reads_plan command ≡ false →
    (parts : List (List Table)) (tables : List Table) (day : ℕ) (r : Result Outcome Status) → tables ≡ joined parts
    → IfErr r (IsRefused (task_for command effort flow n) tables day) → IfErr r (ArePartsRefused (task_for command effort flow n) parts day)
texts_refused command effort flow n is parts tables day (Ok o) same h = tt
texts_refused command effort flow n is parts tables day (Err s) same h = text_refused command effort flow n is parts tables day s same h

-- an answer ends with Ok, and a check may end with a no
done_of : (answer : Answered) → is_done (ending_of answer) ≡ true
done_of (Yes vehicles block_cost duty_count duty_cost) = refl
done_of (No reason) = refl

ends_so : (task : Task) (parts : List (List Table)) (day : ℕ) (ending : Status) (bytes : List ℕ) → IsWhole task parts day ending bytes →
    IsEndingOf task ending
ends_so (Check count) parts day ending bytes h =
    let P : Status → Type 0 = λ s. is_done s ≡ true in subst P (sym h.check.ends) (done_of h.check.answer)
ends_so _ parts day ending bytes h = h.1

pub ends_well : (task : Task) (parts : List (List Table)) (day : ℕ) (r : Result Outcome Status) →
    IfOk r (λ o. IsWhole task parts day o.ending o.text) → IfOk r (λ o. IsEndingOf task o.ending)
ends_well task parts day (Ok o) h = ends_so task parts day o.ending o.text h
ends_well task parts day (Err s) h = tt

ok_is_done : (status : Status) → status ≡ statuses.Ok → is_done status ≡ true
ok_is_done status is = let P : Status → Type 0 = λ s. is_done s ≡ true in subst P (sym is) refl

pub is_done_so : (task : Task) (status : Status) → IsEndingOf task status → is_done status ≡ true
is_done_so (Check count) status h = h
is_done_so _ status h = ok_is_done status h

-- as many files are named as are read
made_parts : (run : Bool) (seed trips : ℕ) (asked : Asked) (n : ℕ) → HasParts (make_task run seed trips asked) n
made_parts true seed trips asked n = tt
made_parts false seed trips asked n = tt

pub has_parts : (command : Command) (effort : Effort) (flow : Bool) (n : ℕ) → HasNames command n →
    HasParts (task_for command effort flow n) n
has_parts commands.Check effort flow n names = let least = names.0 in omega (arith, least)
has_parts (commands.Make making) effort flow n names = made_parts making.run making.seed making.trips (asked_by effort false) n
has_parts (commands.Replan moment) effort flow n names = let least = names.0 in omega (arith, least)
has_parts _ effort flow n names = tt

pub are_few : (command : Command) (n : ℕ) → HasNames command n → n ≤ 66
are_few commands.Trips n names = let most = names.1 in omega (arith, most)
are_few commands.Day n names = let most = names.1 in omega (arith, most)
are_few commands.Plan n names = let most = names.1 in omega (arith, most)
are_few commands.Certify n names = let most = names.1 in omega (arith, most)
are_few commands.Check n names = names.1
are_few (commands.Make making) n names = omega (arith, names)
are_few (commands.Replan moment) n names = let most = names.1 in omega (arith, most)
are_few commands.Week n names = omega (arith, names)

-- before a plan and a certificate there are all the other files
pub least_of_check : (command : Command) (n : ℕ) → is_check command ≡ true → HasNames command n → 3 ≤ n
least_of_check commands.Check n is names = names.0
least_of_check _ n is names = absurd (let bad = is in cc)

one_less : (n : ℕ) → 3 ≤ n → n - 3 ≡ n - 2 - 1
one_less n least = omega (arith, least)

pub check_stage : (command : Command) (effort : Effort) (flow : Bool) (n : ℕ) → is_check command ≡ true → HasNames command n →
    stages.Planning (n - 3) most_bytes ≡ stage_of (task_for command effort flow n)
check_stage commands.Check effort flow n is names = ap (λ m. stages.Planning m most_bytes) (one_less n names.0)
check_stage _ effort flow n is names = absurd (let bad = is in cc)

made_stage : (run : Bool) (seed trips : ℕ) (asked : Asked) → stages.Planning 63 most_bytes ≡ stage_of (make_task run seed trips asked)
made_stage true seed trips asked = refl
made_stage false seed trips asked = refl

pub text_stage : (command : Command) (effort : Effort) (flow : Bool) (n : ℕ) → reads_plan command ≡ false →
    stages.Planning 63 most_bytes ≡ stage_of (task_for command effort flow n)
text_stage commands.Check effort flow n is = absurd (let bad = is in cc)
text_stage (commands.Make making) effort flow n is = made_stage making.run making.seed making.trips (asked_by effort false)
text_stage (commands.Replan moment) effort flow n is = absurd (let bad = is in cc)
text_stage _ effort flow n is = refl
