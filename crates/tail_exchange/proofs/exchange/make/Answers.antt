use Rattle.std.proofs.Common.{◌≡◌, ◌≤◌, ◌∙◌, length, Option, List, refl, sym, ap, subst, arith, rules}
use Rattle.cover_core.specs.declared.Column.{Column}
use Rattle.tail_exchange.specs.declared.candidate.Candidate.{Candidate}
use Rattle.tail_exchange.specs.Exchange.{applied, IsStep, LeadsSome}
use Rattle.tail_exchange.specs.Kept.{IsMoved, IsUseful}
use Rattle.tail_exchange.proofs.Steps.{steps-there}
use Rattle.tail_exchange.proofs.Renewals.{useful-leasts}
use Rattle.tail_exchange.proofs.exchange.make.Goals as goal

pub shift_of-shift-requires-clause-there : goal.shift_of-shift-requires-clause-there
shift_of-shift-requires-clause-there g c =
    rw c.as_slice.ensures (steps-there (g.C.Columns.problem c.args.columns.now) c.args.plan.now c.args.step c.requires.least.0)

pub leasts_after-requires-clause-useful : goal.leasts_after-requires-clause-useful
leasts_after-requires-clause-useful g c κs within =
    let p = g.C.Columns.problem c.args.columns.now in
    let old : List Column = c.args.plan.now in
    let new : List Column = c.as_slice-then-len-shift.result.now in
    let s = c.args.step in
    let shift = c.shift_of-shift.result in
    let kept : List (Option Candidate) = c.args.leasts.now.items in
    let Tells : List Column → Type 0 = λ l. length (applied p l s) ≡ shift.len → IsMoved l (applied p l s) shift.gone shift.x shift.y in
    let Moved : List Column → Type 0 = λ l. IsMoved old l shift.gone shift.x shift.y in
    let Useful : List (Option Candidate) → Type 0 = λ l. IsUseful p new shift.gone shift.x shift.y l in
    let made : c.take.new.plan ≡ applied p old s = c.in_ok-take.ensures.made in
    let len : length (applied p old s) ≡ shift.len = ap (λ l. length l) (sym made) ∙ sym c.len.ensures ∙ c.if-len-shift.true in
    let moved : Moved new =
    subst Moved (sym (c.as_slice-then-len-shift.ensures ∙ made)) (subst Tells c.as_slice.ensures c.shift_of-shift.ensures len) in
    subst Useful (sym c.as_slice-then-len-shift-2.ensures.value)
    (useful-leasts p old new shift.gone shift.x shift.y kept moved c.requires.leasts)

pub returns-in_err-leasts_after-clause-memory : goal.returns-in_err-leasts_after-clause-memory
returns-in_err-leasts_after-clause-memory g c =
    let p = g.C.Columns.problem c.args.columns.now in
    let old = c.args.plan.now in
    let step : IsStep p old c.take.new.plan = (c.args.step, c.requires.least, c.requires.lowers, c.in_ok-take.ensures.made) in
    let one : 1 ≤ 1 = omega arith in
    let some : LeadsSome p 1 old c.take.new.plan = (1, one, (old, refl, step)) in
    search (rules, some)

pub returns-in_err-leasts-clause-memory : goal.returns-in_err-leasts-clause-memory
returns-in_err-leasts-clause-memory g c =
    let p = g.C.Columns.problem c.args.columns.now in
    let old = c.args.plan.now in
    let step : IsStep p old c.take.new.plan = (c.args.step, c.requires.least, c.requires.lowers, c.in_ok-take.ensures.made) in
    let one : 1 ≤ 1 = omega arith in
    let some : LeadsSome p 1 old c.take.new.plan = (1, one, (old, refl, step)) in
    search (rules, some)
