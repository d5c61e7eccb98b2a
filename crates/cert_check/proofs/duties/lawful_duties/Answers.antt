use Rattle.std.proofs.Common.{◌≡◌, false, refl, ap, ◌∙◌, arith}
use Rattle.plan_check.specs.declared.verdict.PlanVerdict.TheVariants as verdicts
use Rattle.plan_params.specs.declared.rows.ParamRows.{ParamRows}
use Rattle.cert_check.specs.Judging.{Case, duties_in, duty_lists, pieces_in}
use Rattle.cert_check.proofs.FewRows.{few-duties, few-parts}
use Rattle.cert_check.proofs.LawfulLists.{duty-verdict, group-over, lists-are, piece-times, unlawful-below}
use Rattle.cert_check.proofs.duties.lawful_duties.Goals as goal

pub check_plan-requires-clause-lists : goal.check_plan-requires-clause-lists
check_plan-requires-clause-lists c =
    let k = c.args.case.now in
    let text = c.args.text.now in
    let columns = c.args.blocks.now.columns in
    let groups = c.groups.ensures.rows ∙ (ap (λ (p : ParamRows). p.groups) c.params-params.ensures.settings
    ∙ ap (λ (x : Case). x.day.params.groups) c.case.view_is) in
    let lists : c.as_slice-3.result.now ≡ duty_lists k columns text =
    c.as_slice-3.ensures ∙ lists-are k columns text _ c.groups.result.now c.as_slice.result.now c.as_slice-2.result.now
    c.in_ok-lists.ensures groups (c.as_slice.ensures ∙ c.requires.pieces) c.as_slice-2.ensures in
    few-duties k text columns c.as_slice-3.result.now c.requires.case c.requires.blocks.said lists

pub check_plan-requires-clause-items : goal.check_plan-requires-clause-items
check_plan-requires-clause-items c =
    let k = c.args.case.now in
    let text = c.args.text.now in
    let columns = c.args.blocks.now.columns in
    let groups = c.groups.ensures.rows ∙ (ap (λ (p : ParamRows). p.groups) c.params-params.ensures.settings
    ∙ ap (λ (x : Case). x.day.params.groups) c.case.view_is) in
    let lists : c.as_slice-3.result.now ≡ duty_lists k columns text =
    c.as_slice-3.ensures ∙ lists-are k columns text _ c.groups.result.now c.as_slice.result.now c.as_slice-2.result.now
    c.in_ok-lists.ensures groups (c.as_slice.ensures ∙ c.requires.pieces) c.as_slice-2.ensures in
    few-parts k text columns c.as_slice-3.result.now c.requires.case c.requires.blocks.said lists

pub returns-in-Times-clause-stop : goal.returns-in-Times-clause-stop
returns-in-Times-clause-stop c =
    let k = c.args.case.now in
    let text = c.args.text.now in
    let columns = c.args.blocks.now.columns in
    let params = c.params-params.ensures.settings ∙ ap (λ (x : Case). x.day.params) c.case.view_is in
    let groups = c.groups.ensures.rows ∙ ap (λ (p : ParamRows). p.groups) params in
    let lists : c.as_slice-3.result.now ≡ duty_lists k columns text =
    c.as_slice-3.ensures ∙ lists-are k columns text _ c.groups.result.now c.as_slice.result.now c.as_slice-2.result.now
    c.in_ok-lists.ensures groups (c.as_slice.ensures ∙ c.requires.pieces) c.as_slice-2.ensures in
    let verdict = duty-verdict k columns text c.args.pieces.now c.params-params.result.now c.in_ok-net.net c.as_slice-3.result.now
    c.in_ok-duties.field-0 (verdicts.Times c.in-Times.item c.in-Times.count)
    c.in_ok-net.ensures c.requires.pieces params lists c.in-Times.is c.in_ok-duties.ensures.verdict in
    piece-times k text c.args.blocks.now c.as_slice-in-Times.result.now c.in-Times.item c.in-Times.count _
    (c.as_slice-in-Times.ensures ∙ c.requires.pieces) c.requires.blocks verdict

pub overflow_add-result : goal.overflow_add-result
overflow_add-result c =
    let k = c.args.case.now in
    let text = c.args.text.now in
    let columns = c.args.blocks.now.columns in
    let params = c.params-params.ensures.settings ∙ ap (λ (x : Case). x.day.params) c.case.view_is in
    let groups = c.groups.ensures.rows ∙ ap (λ (p : ParamRows). p.groups) params in
    let lists : c.as_slice-3.result.now ≡ duty_lists k columns text =
    c.as_slice-3.ensures ∙ lists-are k columns text _ c.groups.result.now c.as_slice.result.now c.as_slice-2.result.now
    c.in_ok-lists.ensures groups (c.as_slice.ensures ∙ c.requires.pieces) c.as_slice-2.ensures in
    let verdict = duty-verdict k columns text c.args.pieces.now c.params-params.result.now c.in_ok-net.net c.as_slice-3.result.now
    c.in_ok-duties.field-0 (verdicts.Unlawful c.in-Unlawful.place)
    c.in_ok-net.ensures c.requires.pieces params lists c.in-Unlawful.is c.in_ok-duties.ensures.verdict in
    let below = unlawful-below (duties_in k (pieces_in k columns) false) (duty_lists k columns text) c.in-Unlawful.place verdict in
    let few = few-duties k text columns (duty_lists k columns text) c.requires.case c.requires.blocks.said refl in
    omega (arith, below, few)

pub returns-clause-stop : goal.returns-clause-stop
returns-clause-stop c =
    let k = c.args.case.now in
    let text = c.args.text.now in
    let columns = c.args.blocks.now.columns in
    let params = c.params-params.ensures.settings ∙ ap (λ (x : Case). x.day.params) c.case.view_is in
    let groups = c.groups.ensures.rows ∙ ap (λ (p : ParamRows). p.groups) params in
    let lists : c.as_slice-3.result.now ≡ duty_lists k columns text =
    c.as_slice-3.ensures ∙ lists-are k columns text _ c.groups.result.now c.as_slice.result.now c.as_slice-2.result.now
    c.in_ok-lists.ensures groups (c.as_slice.ensures ∙ c.requires.pieces) c.as_slice-2.ensures in
    let verdict = duty-verdict k columns text c.args.pieces.now c.params-params.result.now c.in_ok-net.net c.as_slice-3.result.now
    c.in_ok-duties.field-0 (verdicts.Over c.in-Over.class c.in-Over.used)
    c.in_ok-net.ensures c.requires.pieces params lists c.in-Over.is c.in_ok-duties.ensures.verdict in
    let drivers = c.groups-in-Over.ensures.rows ∙ ap (λ (p : ParamRows). p.groups) params in
    group-over k text c.args.blocks.now c.groups-in-Over.result.now c.in-Over.class c.in-Over.used _ drivers c.requires.blocks verdict
