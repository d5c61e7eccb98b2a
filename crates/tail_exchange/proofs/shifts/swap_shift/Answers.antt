use Rattle.std.proofs.Common.{◌≡◌, ◌∙◌, ◌-◌, ◌==◌, ◌&&◌, true, length, ap, rules}
use Rattle.cover_core.specs.Parts.{column_at}
use Rattle.tail_exchange.proofs.Places.{swap-stays, second-vanishes, first-vanishes}
use Rattle.tail_exchange.proofs.shifts.swap_shift.Goals as goal

pub returns-then-joins_nothing : goal.returns-then-joins_nothing
returns-then-joins_nothing g c =
    let s = c.args.step in
    let plan = c.args.plan.now in
    let test : ((s.j == 0) && (s.i == length (column_at plan s.a).items)) ≡ true = search rules in
    λ len. second-vanishes (g.C.Columns.problem c.args.columns.now) plan s.a s.b s.i s.j c.requires.order c.requires.below test
    (len ∙ ap (λ n. n - 1) c.columns_of-len.ensures.value)

pub returns-then-joins_nothing-2 : goal.returns-then-joins_nothing-2
returns-then-joins_nothing-2 g c =
    let s = c.args.step in
    let plan = c.args.plan.now in
    let test : ((s.i == 0) && (s.j == length (column_at plan s.b).items)) ≡ true = search rules in
    λ len. first-vanishes (g.C.Columns.problem c.args.columns.now) plan s.a s.b s.i s.j c.requires.order c.requires.below test
    (len ∙ ap (λ n. n - 1) c.columns_of-len.ensures.value)

pub returns-else-joins_nothing-2 : goal.returns-else-joins_nothing-2
returns-else-joins_nothing-2 g c =
    let p = g.C.Columns.problem c.args.columns.now in
    let s = c.args.step in
    let plan = c.args.plan.now in
    λ len. rw c.columns_of-len.ensures.value
    (swap-stays p plan s.a s.b s.i s.j c.requires.order c.requires.below (len ∙ c.columns_of-len.ensures.value))
