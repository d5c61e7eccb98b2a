-- Promise: what the commands `plan` and `certify` write is accepted by the command `check`.
use Rattle.std.specs.Prelude.{◌≡◌, ℕ, ◌≤◌, false, List, [], ◌∷◌, ◌++◌, length, codes}
use Rattle.input_files.specs.Stages.{most_bytes, most_cert}
use Rattle.plan_command.specs.Planning.{Asked}
use Rattle.planner_run.specs.declared.status.Status.{Status}
use Rattle.planner_run.specs.declared.status.Status.TheVariants as statuses
use Rattle.planner_run.specs.Run.{IsAnswer}
use Rattle.planner_run.specs.Tasks.{Certify, Check, Plan}

-- Behind planning files with these contents two files are a plan and a certificate to which a check says `yes`. It has that answer where
-- there are at most 64 planning files and no file is too long, and it has no other answer.
pub record AreAccepted (contents : List (List ℕ)) (day : ℕ) (plan cert : List ℕ) : Type 0 where
  pub answers :
      length contents ≤ 64 → length plan ≤ most_bytes → length cert ≤ most_cert →
      IsAnswer (Check (length contents)) (contents ++ plan ∷ cert ∷ []) day statuses.Ok (codes "yes\n")
  pub only :
      (ending : Status) (bytes : List ℕ) → IsAnswer (Check (length contents)) (contents ++ plan ∷ cert ∷ []) day ending bytes →
      (bytes ≡ codes "yes\n") × (ending ≡ statuses.Ok)

-- Of planning files, a day and what is asked of a plan by fixed rounds: the text that `plan` writes and the one that `certify` writes are
-- accepted, whatever numbers of workers they were written with.
abbrev pub WrittenTextsAreAccepted : Type 0
WrittenTextsAreAccepted =
    (contents : List (List ℕ)) (day : ℕ) (asked : Asked) → asked.numbers.climb ≡ false → (plan cert : List ℕ) →
    IsAnswer (Plan asked) contents day statuses.Ok plan → IsAnswer (Certify asked) contents day statuses.Ok cert →
    AreAccepted contents day plan cert
