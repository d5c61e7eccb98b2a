use Rattle.std.proofs.Common.{List, ℕ, [], ◌∷◌, ◌++◌, sym, ◌∙◌}
use Rattle.plan_read.proofs.Gathered.{change-beyond, change-there}
use Rattle.plan_read.proofs.gathering.put_trip.Goals as goal

pub returns-in_ok-put_behind : goal.returns-in_ok-put_behind
returns-in_ok-put_behind c =
    let entry = c.args.entry in
    c.in_ok-put_behind.ensures
    ∙ sym (change-there (λ (trips : List ℕ). trips ++ entry.0 ∷ []) entry.1 c.args.lists.now [] c.if-block-lists.true)

pub returns-else-block-lists : goal.returns-else-block-lists
returns-else-block-lists c =
    let entry = c.args.entry in
    sym (change-beyond (λ (trips : List ℕ). trips ++ entry.0 ∷ []) entry.1 c.args.lists.now c.if-block-lists.false)
