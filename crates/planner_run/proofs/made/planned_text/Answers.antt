use Rattle.std.proofs.Common.{◌<◌, ◌^◌, All, List, IfOk, IfErr, length, sym, subst, true, false, ◌≡◌}
use Rattle.vdv451_text.specs.declared.table.Table.{Table}
use Rattle.vdv451_text.specs.Plain.{are_plain}
use Rattle.planner_run.specs.MadeText.{IsShortText}
use Rattle.planner_run.specs.PlanText.{IsPlanRefused}
use Rattle.planner_run.specs.Tasks.{asked_by}
use Rattle.planner_run.proofs.MadeLemmas.{made_few, made_plain}
use Rattle.planner_run.proofs.made.planned_text.Goals as goal

pub short_text-requires-clause-plain : goal.short_text-requires-clause-plain
short_text-requires-clause-plain g c = λ lifetimes within.
    let P : List Table → Type 0 = λ ts. are_plain ts ≡ true in
    subst P (sym c.in-Ok.ensures) (made_plain c.args.making.seed c.args.making.trips)

pub short_text-requires-clause-sized : goal.short_text-requires-clause-sized
short_text-requires-clause-sized g c = λ lifetimes within.
    let P : List Table → Type 0 = λ ts. All (λ (table : Table). length table.rows < 2 ^ 32) ts in
    subst P (sym c.in-Ok.ensures) (made_few c.args.making.seed c.args.making.trips c.requires.trips)

pub returns-in-Ok-clause-written : goal.returns-in-Ok-clause-written
returns-in-Ok-clause-written g c =
    let P : List Table → Type 0 = λ ts. IfOk c.short_text.result (IsShortText (asked_by c.args.effort.now false) ts c.args.day) in
    subst P c.in-Ok.ensures c.short_text.ensures.written

pub returns-in-Ok-clause-cause : goal.returns-in-Ok-clause-cause
returns-in-Ok-clause-cause g c =
    let P : List Table → Type 0 = λ ts. IfErr c.short_text.result (IsPlanRefused (asked_by c.args.effort.now false) ts c.args.day) in
    subst P c.in-Ok.ensures c.short_text.ensures.cause
