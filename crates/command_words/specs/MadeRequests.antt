-- Promise: requests for a day that is made.
use Rattle.std.specs.Prelude.{◌≡◌, ℕ, ◌≤◌, Bool, true, false, []}
use Rattle.plan_core.specs.Limits.{most_items}
use Rattle.command_words.specs.declared.command.Command.{Command}
use Rattle.command_words.specs.declared.command.Command.TheVariants as commands
use Rattle.command_words.specs.declared.request.Request.{Request}

-- whether a command makes a day
abbrev pub makes : Command → Bool
makes commands.Trips = false
makes commands.Day = false
makes commands.Plan = false
makes commands.Certify = false
makes commands.Check = false
makes (commands.Replan moment) = false
makes (commands.Make making) = true
makes commands.Week = false

-- a request for a made day of at most 3,000 trips: it has the day of the calendar that is made, and names no file
pub record IsMadeRequest (request : Request) : Type 0 where
  pub seed : ℕ
  pub trips : ℕ
  pub run : Bool
  pub few : trips ≤ most_items
  pub command_is : request.command ≡ commands.Make (record { seed = seed; trips = trips; run = run })
  pub day_is : request.day ≡ 20260302
  pub names_are : request.names ≡ []
