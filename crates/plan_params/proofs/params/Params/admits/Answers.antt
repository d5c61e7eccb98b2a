use Rattle.std.proofs.Common.{◌≡◌, ◌==◌, ◌&&◌, ◌||◌, true, false, not, sym, ap, ◌∙◌}
use Rattle.std.specs.List.{list_any}
use Rattle.plan_params.specs.declared.rows.ParamRows.{ParamRows}
use Rattle.plan_params.specs.declared.rows.admission.Admission.{Admission}
use Rattle.plan_params.specs.LookUps.{admits_in, is_listed}
use Rattle.plan_params.proofs.IndexLemmas.{is_found}
use Rattle.plan_params.proofs.params.Params.admits.Goals as goal

pub returns-then-is_none : goal.returns-then-is_none
returns-then-is_none c =
    let rows = c.self.inside.rows in
    let listed : is_listed rows c.args.line ≡ false =
    sym (is_found (λ (row : Admission). tt {0}) (λ (row : Admission). row.line == c.args.line) rows.admissions c.get.result
    (c.get.ensures.value ∙ c.self.invariant.0.lines c.args.line)) ∙ c.if-is_none.ensures in
    ap (λ b. not b || list_any (λ (row : Admission). (row.line == c.args.line) && (row.typ == c.args.typ)) rows.admissions) (sym listed)
    ∙ ap (λ (rows : ParamRows). admits_in rows c.args.line c.args.typ) c.self.view_is

pub returns : goal.returns
returns c =
    let rows = c.self.inside.rows in
    let listed : is_listed rows c.args.line ≡ true =
    sym (is_found (λ (row : Admission). tt {0}) (λ (row : Admission). row.line == c.args.line) rows.admissions c.get.result
    (c.get.ensures.value ∙ c.self.invariant.0.lines c.args.line)) ∙ c.if-is_none.ensures in
    c.is_some.ensures
    ∙ is_found (λ (row : Admission). tt {0}) (λ (row : Admission). (row.line == c.args.line) && (row.typ == c.args.typ)) rows.admissions
    c.get-2.result (c.get-2.ensures.value ∙ c.self.invariant.0.admissions (record { line = c.args.line; typ = c.args.typ }))
    ∙ ap (λ b. not b || list_any (λ (row : Admission). (row.line == c.args.line) && (row.typ == c.args.typ)) rows.admissions) (sym listed)
    ∙ ap (λ (rows : ParamRows). admits_in rows c.args.line c.args.typ) c.self.view_is
