use Rattle.std.proofs.Common.{◌≡◌, false, List, sym, ap, ◌∙◌, subst}
use Rattle.cover_core.specs.declared.Column.{Column}
use Rattle.plan_params.specs.declared.rows.ParamRows.{ParamRows}
use Rattle.plan_check.specs.declared.verdict.PlanVerdict.{PlanVerdict}
use Rattle.plan_check.specs.declared.verdict.PlanVerdict.TheVariants.{Lawful}
use Rattle.plan_check.specs.Verdicts.{IsVerdict}
use Rattle.duty_network.specs.Duties.{DutyFacts, duties}
use Rattle.cert_check.specs.Judging.{Case, duties_in, duties_over, same_worths}
use Rattle.cert_check.proofs.SameWorths.{itself, other-worths, plan-found}
use Rattle.cert_check.proofs.printing.are_plan.Goals as goal

pub returns-in-Lawful-clause-yes : goal.returns-in-Lawful-clause-yes
returns-in-Lawful-clause-yes c =
    let p = duties_in c.args.case.now c.args.pieces.now false in
    let cs = c.args.duties.now.columns in
    let with : ParamRows → DutyFacts = λ params. record { pieces = c.args.pieces.now; params = params; counts = false } in
    let net : c.in_ok-net.net ≡ duties_over c.args.case.now c.args.pieces.now false =
    c.in_ok-net.ensures ∙ (ap with c.params.ensures.settings ∙ ap (λ (k : Case). duties_over k c.args.pieces.now false) c.case.view_is) in
    let judged : IsVerdict p cs c.in_ok-found.field-0 =
    subst (λ (l : List Column). IsVerdict p l c.in_ok-found.field-0) c.as_slice.ensures
    (subst (λ (d : DutyFacts). IsVerdict (duties d) c.as_slice.result.now c.in_ok-found.field-0) net c.in_ok-found.ensures.verdict) in
    let found = c.in-Lawful.found in
    let lawful : IsVerdict p cs (Lawful found) = subst (λ (v : PlanVerdict). IsVerdict p cs v) c.in-Lawful.is judged in
    let worths : c.have_worths.result ≡ same_worths cs found.columns =
    c.have_worths.ensures ∙ (ap (λ (l : List Column). same_worths l c.as_slice-in-Lawful-2.result.now) c.as_slice-in-Lawful.ensures
    ∙ ap (λ (l : List Column). same_worths cs l) c.as_slice-in-Lawful-2.ensures) in
    λ yes. plan-found p cs found lawful (sym worths ∙ yes)

pub returns-in-Lawful-clause-no : goal.returns-in-Lawful-clause-no
returns-in-Lawful-clause-no c =
    let p = duties_in c.args.case.now c.args.pieces.now false in
    let cs = c.args.duties.now.columns in
    let with : ParamRows → DutyFacts = λ params. record { pieces = c.args.pieces.now; params = params; counts = false } in
    let net : c.in_ok-net.net ≡ duties_over c.args.case.now c.args.pieces.now false =
    c.in_ok-net.ensures ∙ (ap with c.params.ensures.settings ∙ ap (λ (k : Case). duties_over k c.args.pieces.now false) c.case.view_is) in
    let judged : IsVerdict p cs c.in_ok-found.field-0 =
    subst (λ (l : List Column). IsVerdict p l c.in_ok-found.field-0) c.as_slice.ensures
    (subst (λ (d : DutyFacts). IsVerdict (duties d) c.as_slice.result.now c.in_ok-found.field-0) net c.in_ok-found.ensures.verdict) in
    let found = c.in-Lawful.found in
    let lawful : IsVerdict p cs (Lawful found) = subst (λ (v : PlanVerdict). IsVerdict p cs v) c.in-Lawful.is judged in
    let worths : c.have_worths.result ≡ same_worths cs found.columns =
    c.have_worths.ensures ∙ (ap (λ (l : List Column). same_worths l c.as_slice-in-Lawful-2.result.now) c.as_slice-in-Lawful.ensures
    ∙ ap (λ (l : List Column). same_worths cs l) c.as_slice-in-Lawful-2.ensures) in
    λ no plan. other-worths p cs found lawful (sym worths ∙ no) plan

pub returns-clause-no : goal.returns-clause-no
returns-clause-no c =
    let p = duties_in c.args.case.now c.args.pieces.now false in
    let cs = c.args.duties.now.columns in
    let with : ParamRows → DutyFacts = λ params. record { pieces = c.args.pieces.now; params = params; counts = false } in
    let net : c.in_ok-net.net ≡ duties_over c.args.case.now c.args.pieces.now false =
    c.in_ok-net.ensures ∙ (ap with c.params.ensures.settings ∙ ap (λ (k : Case). duties_over k c.args.pieces.now false) c.case.view_is) in
    let judged : IsVerdict p cs c.in_ok-found.field-0 =
    subst (λ (l : List Column). IsVerdict p l c.in_ok-found.field-0) c.as_slice.ensures
    (subst (λ (d : DutyFacts). IsVerdict (duties d) c.as_slice.result.now c.in_ok-found.field-0) net c.in_ok-found.ensures.verdict) in
    λ no plan. c.in_default.not-Lawful (record { columns = cs }) (itself p cs c.in_ok-found.field-0 judged plan)
