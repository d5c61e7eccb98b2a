-- A command that makes a day ends well, or for running out of memory, or with a write that fails.
use Rattle.std.proofs.Common.{◌≡◌, ℕ, zero, suc, ◌≤◌, Bool, true, false, IfSome, List, [], Option, Some, refl, sym, subst, arith}
use Rattle.std.specs.Prelude.{take}
use Rattle.command_words.specs.Words.{asked}
use Rattle.command_words.specs.MadeRequests.{makes}
use Rattle.command_words.proofs.MadeRequests.{made_request}
use Rattle.command_words.specs.declared.command.Command.TheVariants as commands
use Rattle.command_words.specs.declared.request.Request.{Request}
use Rattle.cert_check.specs.declared.reason.Reason.{Reason}
use Rattle.cover_core.specs.declared.Plan.{Plan}
use Rattle.day_calendar.specs.declared.day.DayFault.{DayFault}
use Rattle.day_method.specs.declared.side.Side.{Side}
use Rattle.input_files.specs.Inputs.{IsReadFault, held_under}
use Rattle.plan_command.specs.declared.fault.ItemName.{ItemName}
use Rattle.plan_command.specs.Planning.{Asked}
use Rattle.price_rounds.specs.declared.effort.Effort.{Effort}
use Rattle.planner_run.specs.declared.status.Status.{Status}
use Rattle.planner_run.specs.declared.status.Status.TheVariants as statuses
use Rattle.planner_run.specs.declared.status.InputFault.{InputFault}
use Rattle.planner_run.specs.declared.status.InputFault.TheVariants as inputs
use Rattle.planner_run.specs.Endings.{is_done}
use Rattle.planner_run.specs.MadeEnds.{IsMadeEnding}
use Rattle.planner_run.specs.Run.{IsEndingOf, IsRefusal, stage_of, told, told_for}
use Rattle.planner_run.specs.Tasks.{asked_by, make_task, task_of}
use Rattle.planner_run.proofs.MadeEnds.{has_no_made_cause}

-- Nothing refuses it.
module _ (seed trips : ℕ) (asked : Asked) (few : trips ≤ 3000) where
  free_input : (b : Bool) (fault : InputFault) → IsRefusal (make_task b seed trips asked) [] 20260302 (statuses.Input fault) → ⊥
  free_input false (inputs.Text file fault) cause = cause
  free_input false (inputs.Table fault) cause = cause.cause
  free_input false (inputs.Days first last) cause = cause.cause
  free_input false (inputs.Trips count) cause = cause.cause
  free_input false (inputs.Params fault) cause = cause.cause
  free_input false (inputs.Trip fid fault) cause = cause.cause
  free_input true (inputs.Text file fault) cause = cause
  free_input true (inputs.Table fault) cause = has_no_made_cause seed trips asked (statuses.Input (inputs.Table fault)) few cause.cause
  free_input true (inputs.Days first last) cause =
      has_no_made_cause seed trips asked (statuses.Input (inputs.Days first last)) few cause.cause
  free_input true (inputs.Trips count) cause = has_no_made_cause seed trips asked (statuses.Input (inputs.Trips count)) few cause.cause
  free_input true (inputs.Params fault) cause = has_no_made_cause seed trips asked (statuses.Input (inputs.Params fault)) few cause.cause
  free_input true (inputs.Trip fid fault) cause =
      has_no_made_cause seed trips asked (statuses.Input (inputs.Trip fid fault)) few cause.cause

  free_day : (b : Bool) (fault : DayFault) → IsRefusal (make_task b seed trips asked) [] 20260302 (statuses.Day fault) → ⊥
  free_day false fault cause = cause.cause
  free_day true fault cause = has_no_made_cause seed trips asked (statuses.Day fault) few cause.cause

  free_plan : (b : Bool) (side : Side) (bound places : ℕ) →
      IsRefusal (make_task b seed trips asked) [] 20260302 (statuses.NoPlan side bound places) → ⊥
  free_plan false side bound places cause = cause.cause
  free_plan true side bound places cause = has_no_made_cause seed trips asked (statuses.NoPlan side bound places) few cause.cause

  free_left : (b : Bool) (side : Side) (item : ℕ) (name : ItemName) (partial : Plan) →
      IsRefusal (make_task b seed trips asked) [] 20260302 (statuses.NotPlaced side item name partial) → ⊥
  free_left false side item name partial cause = cause.cause
  free_left true side item name partial cause =
      has_no_made_cause seed trips asked (statuses.NotPlaced side item name partial) few cause.cause

  free_old : (b : Bool) (reason : Reason) → IsRefusal (make_task b seed trips asked) [] 20260302 (statuses.OldPlan reason) → ⊥
  free_old false reason cause = cause.cause
  free_old true reason cause = has_no_made_cause seed trips asked (statuses.OldPlan reason) few cause.cause

  ends_ok : (b : Bool) (status : Status) → IsEndingOf (make_task b seed trips asked) status → status ≡ statuses.Ok
  ends_ok false status is = is
  ends_ok true status is = is

-- there are no files
abbrev no_files : List (List ℕ)
no_files = []

no_text : (file : ℕ) → take file no_files ≡ no_files
no_text zero = refl
no_text (suc file) = refl

-- what holds of the ending of a request, as the call that carries it out promises it
abbrev Ends : (List ℕ → Option (List ℕ)) → (List ℕ → ℕ) → (List ℕ → ℕ) → Status → Request → Type 0
Ends held before now status request =
    (status ≡ statuses.Usage → ⊥) →
    ((fault : InputFault) → status ≡ statuses.Input fault →
    IfSome (told_for held request.names (statuses.Input fault))
    (λ contents. IsRefusal (task_of request) contents request.day (statuses.Input fault))) →
    ((fault : DayFault) → status ≡ statuses.Day fault →
    IfSome (told held request) (λ contents. IsRefusal (task_of request) contents request.day (statuses.Day fault))) →
    ((side : Side) (bound places : ℕ) → status ≡ statuses.NoPlan side bound places →
    IfSome (told held request) (λ contents. IsRefusal (task_of request) contents request.day (statuses.NoPlan side bound places))) →
    ((side : Side) (item : ℕ) (name : ItemName) (partial : Plan) → status ≡ statuses.NotPlaced side item name partial →
    IfSome (told held request) (λ contents. IsRefusal (task_of request) contents request.day (statuses.NotPlaced side item name partial))) →
    ((reason : Reason) → status ≡ statuses.OldPlan reason →
    IfSome (told held request) (λ contents. IsRefusal (task_of request) contents request.day (statuses.OldPlan reason))) →
    ((file : ℕ) → status ≡ statuses.ReadFault file → IsReadFault (stage_of (task_of request)) held request.names before now file) →
    (is_done status ≡ true → IsEndingOf (task_of request) status) → IsMadeEnding status

-- a request for a made day
abbrev made_one : ℕ → ℕ → Bool → Effort → Bool → Request
made_one seed trips run effort flow = record {
  command = commands.Make (record { seed = seed; trips = trips; run = run });
  effort =
      effort;
  flow = flow;
  day = 20260302;
  names = [];
}

-- The end of a request for a made day: each status but Ok, running out of memory and a failed write is excluded by the promise that
-- `run` makes of it. A refusal would need a cause, and a made day has none (`has_no_made_cause`); a failed read would be one of a
-- file, and none is named; a no is the end of a check alone. So the clause `made` of `run` follows from its other clauses, and not
-- from its body.
made_ends : (held : List ℕ → Option (List ℕ)) (before now : List ℕ → ℕ) (seed trips : ℕ) (run : Bool) (effort : Effort) (flow : Bool) →
    trips ≤ 3000 → (status : Status) → Ends held before now status (made_one seed trips run effort flow)
made_ends held before now seed trips run effort flow few statuses.Ok usage input day plan left old read ending = tt
made_ends held before now seed trips run effort flow few statuses.Memory usage input day plan left old read ending = tt
made_ends held before now seed trips run effort flow few statuses.WriteFault usage input day plan left old read ending = tt
made_ends held before now seed trips run effort flow few statuses.Usage usage input day plan left old read ending = usage refl
made_ends held before now seed trips run effort flow few (statuses.Input (inputs.Text file fault)) usage input
    day plan left old read ending =
    let P : List (List ℕ) → Type 0 =
    λ names. IfSome (held_under held names)
    (λ contents. IsRefusal (make_task run seed trips (asked_by effort false)) contents 20260302
    (statuses.Input (inputs.Text file fault))) in
    free_input seed trips (asked_by effort false) few run (inputs.Text file fault)
    (subst P (no_text file) (input (inputs.Text file fault) refl))
made_ends held before now seed trips run effort flow few (statuses.Input (inputs.Table fault)) usage input day plan left old read ending =
    free_input seed trips (asked_by effort false) few run (inputs.Table fault) (input (inputs.Table fault) refl)
made_ends held before now seed trips run effort flow few (statuses.Input (inputs.Days first last)) usage input
    day plan left old read ending =
    free_input seed trips (asked_by effort false) few run (inputs.Days first last) (input (inputs.Days first last) refl)
made_ends held before now seed trips run effort flow few (statuses.Input (inputs.Trips count)) usage input day plan left old read ending =
    free_input seed trips (asked_by effort false) few run (inputs.Trips count) (input (inputs.Trips count) refl)
made_ends held before now seed trips run effort flow few (statuses.Input (inputs.Params fault)) usage input day plan left old read ending =
    free_input seed trips (asked_by effort false) few run (inputs.Params fault) (input (inputs.Params fault) refl)
made_ends held before now seed trips run effort flow few (statuses.Input (inputs.Trip fid fault)) usage input
    day plan left old read ending =
    free_input seed trips (asked_by effort false) few run (inputs.Trip fid fault) (input (inputs.Trip fid fault) refl)
made_ends held before now seed trips run effort flow few (statuses.Day fault) usage input day plan left old read ending =
    free_day seed trips (asked_by effort false) few run fault (day fault refl)
made_ends held before now seed trips run effort flow few (statuses.NoPlan side bound places) usage input day plan left old read ending =
    free_plan seed trips (asked_by effort false) few run side bound places (plan side bound places refl)
made_ends held before now seed trips run effort flow few (statuses.NotPlaced side item name partial) usage input
    day plan left old read ending =
    free_left seed trips (asked_by effort false) few run side item name partial (left side item name partial refl)
made_ends held before now seed trips run effort flow few (statuses.OldPlan reason) usage input day plan left old read ending =
    free_old seed trips (asked_by effort false) few run reason (old reason refl)
made_ends held before now seed trips run effort flow few (statuses.CheckNo reason) usage input day plan left old read ending =
    let same : statuses.CheckNo reason ≡ statuses.Ok =
    ends_ok seed trips (asked_by effort false) few run (statuses.CheckNo reason) (ending refl) in absurd (cc)
made_ends held before now seed trips run effort flow few (statuses.ReadFault file) usage input day plan left old read ending =
    let fault = read file refl in
    let first = fault.first in
    let last : file ≤ 0 = fault.last in
    absurd (omega (arith, first, last))

pub made_ending : (held : List ℕ → Option (List ℕ)) (before now : List ℕ → ℕ) (words : List (List ℕ)) (request : Request)
    (status : Status) → asked words ≡ Some request → makes request.command ≡ true →
    Ends held before now status request
made_ending held before now words request status asks makes_one =
    let made = made_request words request asks makes_one in
    let command_is = made.command_is in
    let day_is = made.day_is in
    let names_are = made.names_are in
    let is : request ≡ made_one made.seed made.trips made.run request.effort request.flow =
    λ i. record { command = command_is i; effort = request.effort; flow = request.flow; day = day_is i; names = names_are i } in
    let P : Request → Type 0 = λ request. Ends held before now status request in
    subst P (sym is) (made_ends held before now made.seed made.trips made.run request.effort request.flow made.few status)
