use Rattle.std.proofs.Common.{ap, ◌∙◌}
use Rattle.plan_core.specs.declared.types.Point.{Point}
use Rattle.vdv452_tables.specs.Keys.{point_eq}
use Rattle.plan_params.specs.declared.rows.ParamRows.{ParamRows}
use Rattle.plan_params.specs.LookUps.{is_relief_in}
use Rattle.plan_params.proofs.IndexLemmas.{is_found}
use Rattle.plan_params.proofs.params.Params.relief.Goals as goal

pub returns : goal.returns
returns c =
    c.is_some.ensures
    ∙ is_found (λ (row : Point). tt {0}) (λ (row : Point). point_eq row c.args.at) c.self.inside.rows.reliefs c.get.result
    (c.get.ensures.value ∙ c.self.invariant.0.reliefs c.args.at)
    ∙ ap (λ (rows : ParamRows). is_relief_in rows c.args.at) c.self.view_is
