-- Promise: what the next file is, how many bytes it may have, and what follows behind it.
use Rattle.std.specs.Prelude.{ℕ, zero, suc, ◌-◌, ◌<◌, ◌≤◌, ◌^◌}
use Rattle.input_files.specs.declared.stage.Stage.{Stage}
use Rattle.input_files.specs.declared.stage.Stage.TheVariants as stages

-- the bytes that all planning files may have together, and a plan by itself
abbrev pub most_bytes : ℕ
most_bytes = 67108864

-- the bytes that a certificate may have
abbrev pub most_cert : ℕ
most_cert = 268435456

-- the bytes that the next file may have
abbrev pub room : Stage → ℕ
room (stages.Planning more left) = left
room stages.Plan = most_bytes
room stages.Cert = most_cert

-- What follows behind a file of so many bytes: planning files share their bytes, a plan and a certificate do not.
abbrev pub next_stage : Stage → ℕ → Stage
next_stage (stages.Planning zero left) bytes = stages.Plan
next_stage (stages.Planning (suc more) left) bytes = stages.Planning more (left - bytes)
next_stage stages.Plan bytes = stages.Cert
next_stage stages.Cert bytes = stages.Cert

-- planning files have at most their limit
abbrev pub IsStage : Stage → Type 0
IsStage (stages.Planning more left) = (left ≤ most_bytes) × (more < 2 ^ 32)
IsStage stages.Plan = Unit {0}
IsStage stages.Cert = Unit {0}
