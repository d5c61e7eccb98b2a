-- Promise: how planning of a made day ends.
use Rattle.std.specs.Prelude.{ℕ, ◌≤◌}
use Rattle.plan_core.specs.Limits.{most_items}
use Rattle.day_maker.specs.Made.{made_tables}
use Rattle.plan_command.specs.Planning.{Asked}
use Rattle.planner_run.specs.declared.status.Status.{Status}
use Rattle.planner_run.specs.declared.status.Status.TheVariants as statuses
use Rattle.planner_run.specs.PlanText.{IsPlanCause}

-- nothing stands against planning of a day that is made from a seed
abbrev pub HasNoMadeCause : Type 0
HasNoMadeCause =
    (seed trips : ℕ) (asked : Asked) (status : Status) → trips ≤ most_items → IsPlanCause asked (made_tables seed trips) 20260302 status → ⊥

-- how a command that makes a day may end: its text is written whole, or memory ran out, or a write failed
abbrev pub IsMadeEnding : Status → Type 0
IsMadeEnding statuses.Ok = Unit {0}
IsMadeEnding statuses.Memory = Unit {0}
IsMadeEnding statuses.WriteFault = Unit {0}
IsMadeEnding _ = ⊥
