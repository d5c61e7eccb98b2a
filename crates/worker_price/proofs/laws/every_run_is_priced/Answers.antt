use Rattle.std.proofs.Common.{arith}
use Rattle.worker_price.specs.Runs.{extent_for}
use Rattle.worker_price.proofs.Runs.{kept_is_priced, least_is_least}
use Rattle.worker_price.proofs.laws.every_run_is_priced.Goals as goal

pub returns-clause-columns : goal.returns-clause-columns
returns-clause-columns c = λ p prices limits events v end pricing.
    kept_is_priced p prices limits v (c.every_run_is_sound.ensures.whole (extent_for p) events end.desk.0 v end.small end.desk.1 end.share)
    (((c.every_run_is_sound.ensures.kept (extent_for p) events end.small).desks end.desk.0 v end.desk.1).of_board (let s =
    end.share in omega arith)) end.ended pricing

pub returns-clause-least : goal.returns-clause-least
returns-clause-least c = λ p prices limits events v end pricing class low.
    least_is_least p prices limits v (c.every_run_is_sound.ensures.whole (extent_for p) events end.desk.0 v end.small end.desk.1 end.share)
    (((c.every_run_is_sound.ensures.kept (extent_for p) events end.small).desks end.desk.0 v end.desk.1).of_board (let s =
    end.share in omega arith)) end.ended pricing class low
