-- Promise: what each command answers, all of it in one place.
use Rattle.std.specs.Prelude.{◌≡◌, ℕ, ◌+◌, ◌-◌, Bool, true, false, List, [], take, slice_index_or}
use Rattle.vdv451_text.specs.declared.table.Table.{Table}
use Rattle.input_files.specs.declared.stage.Stage.{Stage}
use Rattle.input_files.specs.declared.stage.Stage.TheVariants as stages
use Rattle.input_files.specs.Parts.{joined}
use Rattle.input_files.specs.Stages.{most_bytes}
use Rattle.cover_plan.specs.Endings.{Numbers}
use Rattle.day_maker.specs.Made.{made_tables}
use Rattle.planner_run.specs.declared.status.Status.{Status}
use Rattle.planner_run.specs.declared.status.Status.TheVariants as statuses
use Rattle.planner_run.specs.CertText.{IsCertText}
use Rattle.planner_run.specs.CheckText.{IsCheckText}
use Rattle.planner_run.specs.DayText.{IsDayText}
use Rattle.planner_run.specs.Endings.{is_done}
use Rattle.planner_run.specs.MadeText.{IsMadeText, IsShortText}
use Rattle.planner_run.specs.Model.{IsModelCause}
use Rattle.planner_run.specs.PlanText.{IsPlanCause, IsPlanText}
use Rattle.planner_run.specs.ReplanText.{IsReplanCause, IsReplanText}
use Rattle.planner_run.specs.Trips.{IsDayCause, IsTripsText}
use Rattle.planner_run.specs.WeekText.{IsWeekCause, IsWeekText}
use Rattle.planner_run.specs.Tasks.{Task}
use Rattle.planner_run.specs.Tasks.{Certify, Check, Day, Make, MakeRun, Plan, Replan, Trips, Week}

-- What a command answers, for an operating day and the files that were read, of which each spells its list of tables.
pub record Answering : Type 1 where
  -- what the first file is: a planning file, and so many others of these may come after it
  pub stage : Stage
  -- whether it is this number of files
  pub has_parts : ℕ → Type 0
  -- the planning tables of all files
  pub tables : List (List Table) → List Table
  -- the text, from planning tables and day, of a command that reads nothing besides
  pub text : List Table → ℕ → List ℕ → Type 0
  -- the text from the tables of each file and the day, and the status that it ends with
  pub whole : List (List Table) → ℕ → Status → List ℕ → Type 0
  -- why the planning tables are refused for the day
  pub cause : List Table → ℕ → Status → Type 0
  -- why the tables of each file are refused for the day
  pub parts_cause : List (List Table) → ℕ → Status → Type 0
  -- whether the command may end with this status after it has written its text
  pub ends : Status → Type 0
  -- whether a plan is found by climbing
  pub climbs : Bool
  -- whether a plan and a certificate are checked
  pub checks : Bool

-- a command that writes a text of the planning tables of all files, at most 64, and ends with Ok then
abbrev pub of_tables : (List Table → ℕ → List ℕ → Type 0) → (List Table → ℕ → Status → Type 0) → Bool → Answering
of_tables text cause climbs = record {
  stage = stages.Planning 63 most_bytes;
  has_parts = λ files. Unit {0};
  tables = joined;
  text = text;
  whole = λ parts day ending bytes. text (joined parts) day bytes × (ending ≡ statuses.Ok);
  cause = cause;
  parts_cause = λ parts day status. cause (joined parts) day status;
  ends = λ status. status ≡ statuses.Ok;
  climbs = climbs;
  checks = false;
}

-- so many planning files, a plan and a certificate: a line, which may be a no
abbrev pub checking : ℕ → Answering
checking count = record {
  stage = stages.Planning (count - 1) most_bytes;
  has_parts = λ files. files ≡ count + 2;
  tables = λ parts. joined (take count parts);
  text = λ tables day bytes. ⊥;
  whole = λ parts day ending bytes.
      IsCheckText (joined (take count parts)) (slice_index_or parts count []) (slice_index_or parts (count + 1) []) day ending bytes;
  cause = IsModelCause;
  parts_cause = λ parts day status. IsModelCause (joined (take count parts)) day status;
  ends = λ status. is_done status ≡ true;
  climbs = false;
  checks = true;
}

-- So many planning files and an earlier plan: a new plan from a moment on. The earlier plan may be the cause why there is none, or what is
-- left of the day beside it.
abbrev pub replanning : ℕ → ℕ → Numbers → Answering
replanning count moment numbers = record {
  stage = stages.Planning (count - 1) most_bytes;
  has_parts = λ files. files ≡ count + 1;
  tables = λ parts. joined (take count parts);
  text = λ tables day bytes. ⊥;
  whole = λ parts day ending bytes.
      IsReplanText numbers moment (joined (take count parts)) (slice_index_or parts count []) day bytes × (ending ≡ statuses.Ok);
  cause = IsModelCause;
  parts_cause = λ parts day status. IsReplanCause numbers moment (joined (take count parts)) (slice_index_or parts count []) day status;
  ends = λ status. status ≡ statuses.Ok;
  climbs = numbers.climb;
  checks = false;
}

-- Each command's answer. A day that is made is its own tables, whatever the files hold.
abbrev pub answering : Task → Answering
answering Trips = of_tables IsTripsText IsDayCause false
answering Day = of_tables IsDayText IsModelCause false
answering (Plan asked) = of_tables (IsPlanText asked) (IsPlanCause asked) asked.numbers.climb
answering (Certify asked) = of_tables (IsCertText asked) (IsPlanCause asked) asked.numbers.climb
answering (Check count) = checking count
answering (Replan count moment numbers) = replanning count moment numbers
answering (Make seed trips) = of_tables (λ tables day bytes. IsMadeText seed trips bytes) (λ tables day status. ⊥) false
answering (MakeRun seed trips asked) =
    of_tables (λ tables day bytes. IsShortText asked (made_tables seed trips) day bytes)
    (λ tables day status. IsPlanCause asked (made_tables seed trips) day status) asked.numbers.climb
answering Week = of_tables (λ tables day bytes. IsWeekText tables bytes) (λ tables day status. IsWeekCause tables status) false
