-- Promise: workers.
use Rattle.std.specs.Prelude.{ℕ}
use Rattle.plan_dive.specs.declared.crew.Workers.{Workers}

-- how many there are
abbrev pub count_of : Workers → ℕ
count_of workers = workers.count
