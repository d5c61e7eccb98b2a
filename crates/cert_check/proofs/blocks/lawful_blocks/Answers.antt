use Rattle.std.proofs.Common.{◌≡◌, Some, false, slice_get, refl, ap, ◌∙◌, subst, arith}
use Rattle.plan_check.specs.declared.verdict.PlanVerdict.TheVariants as verdicts
use Rattle.plan_params.specs.declared.rows.ParamRows.{ParamRows}
use Rattle.cert_check.specs.Judging.{Case, blocks_in}
use Rattle.cert_check.proofs.FewRows.{few-items, few-lists}
use Rattle.cert_check.proofs.LawfulLists.{block-verdict, pool-over, trip-times, unlawful-below}
use Rattle.cert_check.proofs.blocks.lawful_blocks.Goals as goal

pub check_plan-requires-clause-lists : goal.check_plan-requires-clause-lists
check_plan-requires-clause-lists c = few-lists c.args.case.now c.args.text.now c.as_slice.result.now c.requires.case c.requires.said
    c.as_slice.ensures

pub check_plan-requires-clause-items : goal.check_plan-requires-clause-items
check_plan-requires-clause-items c = few-items c.args.case.now c.args.text.now c.as_slice.result.now c.requires.case c.requires.said
    c.as_slice.ensures

pub overflow_add-result : goal.overflow_add-result
overflow_add-result c =
    let k = c.args.case.now in
    let lists = c.args.text.now.blocks.columns in
    let verdict = block-verdict k c.new-net.result c.as_slice.result.now lists c.in_ok-blocks.field-0
    (verdicts.Unlawful c.in-Unlawful.place)
    (c.new-net.ensures.day ∙ ap (λ (x : Case). x.day) c.case.view_is) c.new-net.ensures.counts c.as_slice.ensures c.in-Unlawful.is
    c.in_ok-blocks.ensures.verdict in
    let below = unlawful-below (blocks_in k false) lists c.in-Unlawful.place verdict in
    let few = few-lists k c.args.text.now lists c.requires.case c.requires.said refl in
    omega (arith, below, few)

pub returns-in-Times-clause-stop : goal.returns-in-Times-clause-stop
returns-in-Times-clause-stop c =
    let k = c.args.case.now in
    let verdict = block-verdict k c.new-net.result c.as_slice.result.now c.args.text.now.blocks.columns c.in_ok-blocks.field-0
    (verdicts.Times c.in-Times.item c.in-Times.count)
    (c.new-net.ensures.day ∙ ap (λ (x : Case). x.day) c.case.view_is) c.new-net.ensures.counts c.as_slice.ensures c.in-Times.is
    c.in_ok-blocks.ensures.verdict in
    let at = subst (λ (x : Case). slice_get x.day.trips c.in-Times.item ≡ Some c.trip.result.now) c.case.view_is c.trip.ensures.trip in
    trip-times k c.args.text.now c.in-Times.item c.in-Times.count c.trip.result.now c.requires.said at verdict

pub returns-in-Over-clause-stop : goal.returns-in-Over-clause-stop
returns-in-Over-clause-stop c =
    let k = c.args.case.now in
    let verdict = block-verdict k c.new-net.result c.as_slice.result.now c.args.text.now.blocks.columns c.in_ok-blocks.field-0
    (verdicts.Over c.in-Over.class c.in-Over.used)
    (c.new-net.ensures.day ∙ ap (λ (x : Case). x.day) c.case.view_is) c.new-net.ensures.counts c.as_slice.ensures c.in-Over.is
    c.in_ok-blocks.ensures.verdict in
    let rows = c.pools.ensures.rows ∙ (ap (λ (p : ParamRows). p.pools) c.params.ensures.settings
    ∙ ap (λ (x : Case). x.day.params.pools) c.case.view_is) in
    pool-over k c.args.text.now c.pools.result.now c.in-Over.class c.in-Over.used _ rows c.requires.said verdict
