-- Promise: what a request asks for.
use Rattle.std.specs.Prelude.{ℕ, ◌-◌, Bool, true, false, ◌||◌, List, length, Option, None, Some, is_some}
use Rattle.price_rounds.specs.declared.effort.Effort.{Effort}
use Rattle.cover_plan.specs.Endings.{Numbers, numbers_of}
use Rattle.command_words.specs.declared.command.Command.{Command}
use Rattle.command_words.specs.declared.command.Command.TheVariants as commands
use Rattle.command_words.specs.declared.request.Request.{Request}
use Rattle.plan_command.specs.Planning.{Asked}

-- A command; for a day that is made its seed and its number of trips; for a plan and its certificate the numbers of rounds, lowering rounds
-- and exchange steps, the method, and whether the flow is asked for; for a check how many planning files there are, before a plan and a
-- certificate; and for a day that is planned anew how many there are before the earlier plan, the moment from which it is, and the numbers
-- and the method. No worker occurs in it.
pub data Task : Type 0 where
  Trips : Task
  Day : Task
  Plan : Asked → Task
  Certify : Asked → Task
  Check : ℕ → Task
  Replan : ℕ → ℕ → Numbers → Task
  Make : ℕ → ℕ → Task
  MakeRun : ℕ → ℕ → Asked → Task
  Week : Task

-- a day is made, and it is planned where that is said
abbrev pub make_task : Bool → ℕ → ℕ → Asked → Task
make_task false seed trips asked = Make seed trips
make_task true seed trips asked = MakeRun seed trips asked

-- what is asked of a plan: the numbers and the method of an effort, and whether the flow is asked for
abbrev pub asked_by : Effort → Bool → Asked
asked_by effort flow = record { numbers = numbers_of effort; flow = flow }

-- By the command, the effort, whether the flow is asked for, and how many files are named. A day that is made is planned without the
-- flow, and so is what is left of a day.
abbrev pub task_for : Command → Effort → Bool → ℕ → Task
task_for commands.Trips effort flow files = Trips
task_for commands.Day effort flow files = Day
task_for commands.Plan effort flow files = Plan (asked_by effort flow)
task_for commands.Certify effort flow files = Certify (asked_by effort flow)
task_for commands.Check effort flow files = Check (files - 2)
task_for (commands.Replan moment) effort flow files = Replan (files - 1) moment (numbers_of effort)
task_for commands.Week effort flow files = Week
task_for (commands.Make making) effort flow files = make_task making.run making.seed making.trips (asked_by effort false)

abbrev pub task_of : Request → Task
task_of request = task_for request.command request.effort request.flow (length request.names)

-- whether a command checks a plan and a certificate
abbrev pub is_check : Command → Bool
is_check commands.Check = true
is_check _ = false

-- the moment from which a command plans a day anew
abbrev pub replan_moment : Command → Option ℕ
replan_moment (commands.Replan moment) = Some moment
replan_moment _ = None

-- whether a plan is read behind the planning files
abbrev pub reads_plan : Command → Bool
reads_plan command = is_check command || is_some (replan_moment command)
