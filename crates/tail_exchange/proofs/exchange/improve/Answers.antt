use Rattle.std.proofs.Common.{◌≡◌, true, List, add-one, ap, refl, sym, subst, arith, rules}
use Rattle.cover_core.specs.declared.Column.{Column}
use Rattle.cover_core.specs.Plans.{cost}
use Rattle.cover_core.proofs.Ranges.{modest-columns}
use Rattle.tail_exchange.specs.Exchange.{Leads}
use Rattle.tail_exchange.specs.Searches.{IsSearchable, IsStepOrNone}
use Rattle.tail_exchange.proofs.Steps.{leads-more, leads-cheaper}
use Rattle.tail_exchange.proofs.exchange.improve.Goals as goal

pub returns-then-steps-eq0-clause-cheap : goal.returns-then-steps-eq0-clause-cheap
returns-then-steps-eq0-clause-cheap g c =
    modest-columns (g.C.Columns.problem c.args.columns.now) c.args.plan.now.columns c.classes-classes.ensures.worths c.requires.plan.worths

pub all_leasts-requires-after_bounds : goal.all_leasts-requires-after_bounds
all_leasts-requires-after_bounds g c κs within =
    let p = g.C.Columns.problem c.args.columns.now in
    let plan : List Column = c.args.plan.now.columns in
    let cheap = modest-columns p plan c.classes-classes.ensures.worths c.requires.plan.worths in
    let Ready : List Column → Type 0 = λ l. IsSearchable p l in
    subst Ready (sym c.as_slice.ensures) (record { plan = c.requires.plan; cheap = cheap })

pub returns-in_err-leasts-clause-cheap : goal.returns-in_err-leasts-clause-cheap
returns-in_err-leasts-clause-cheap g c =
    modest-columns (g.C.Columns.problem c.args.columns.now) c.args.plan.now.columns c.classes-classes.ensures.worths c.requires.plan.worths

pub loop-made-init : goal.loop-made-init
loop-made-init g c =
    let p = g.C.Columns.problem c.args.columns.now in
    let plan : List Column = c.args.plan.now.columns in
    let cheap = modest-columns p plan c.classes-classes.ensures.worths c.requires.plan.worths in
    record {
      leads = refl;
      ready = record { plan = c.requires.plan; cheap = cheap };
      leasts = search rules;
    }

pub loop-made-preserved : goal.loop-made-preserved
loop-made-preserved g c =
    let p = g.C.Columns.problem c.args.columns.now in
    let start = c.args.plan.now.columns in
    let mid = c.loop-made.plan.columns in
    let new = c.make_step.new.plan in
    let made : c.in_ok-make_step.field-0 ≡ true = search rules in
    let step = subst (λ b. IsStepOrNone p mid new b) made c.in_ok-make_step.ensures.step in
    record {
      leads = subst (λ n. Leads p n start new) (sym (add-one c.loop-made.made)) (mid, c.loop-made.invariant.leads, step);
      ready = search rules;
      leasts = search rules;
    }

pub returns-in_err-make_step-clause-memory : goal.returns-in_err-make_step-clause-memory
returns-in_err-make_step-clause-memory g c =
    let p = g.C.Columns.problem c.args.columns.now in
    let some = leads-more p c.loop-made.made c.args.steps c.args.plan.now.columns c.loop-made.plan.columns c.make_step.new.plan
    c.loop-made-test.true c.loop-made.invariant.leads c.in_err-make_step.ensures.memory in
    search (rules, some)

pub returns-in_err-make_step-clause-cost : goal.returns-in_err-make_step-clause-cost
returns-in_err-make_step-clause-cost g c =
    let p = g.C.Columns.problem c.args.columns.now in
    let some = leads-more p c.loop-made.made c.args.steps c.args.plan.now.columns c.loop-made.plan.columns c.make_step.new.plan
    c.loop-made-test.true c.loop-made.invariant.leads c.in_err-make_step.ensures.memory in
    leads-cheaper p c.args.steps c.args.plan.now.columns c.make_step.new.plan (c.steps_keep_plans.ensures.improve c.args.columns.now)
    c.requires.plan some

pub returns-then-not-branch-clause-cost : goal.returns-then-not-branch-clause-cost
returns-then-not-branch-clause-cost g c =
    let less = (c.steps_keep_plans.ensures.improve c.args.columns.now c.loop-made.made c.args.plan.now.columns c.loop-made.plan.columns
    c.requires.plan c.loop-made.invariant.leads).1 in
    let same : c.make_step.new.plan ≡ c.loop-made.plan.columns = search rules in
    let costs = ap cost same in
    omega arith

pub returns-clause-cost : goal.returns-clause-cost
returns-clause-cost g c =
    let less = (c.steps_keep_plans.ensures.improve c.args.columns.now c.loop-made.made c.args.plan.now.columns c.loop-made.plan.columns
    c.requires.plan c.loop-made.invariant.leads).1 in
    omega arith
