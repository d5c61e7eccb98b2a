use Rattle.std.proofs.Common.{◌&&◌, Some, IfSome, if◌then◌else◌, find, option_map, sym, ap, subst, ◌∙◌}
use Rattle.vdv452_tables.specs.Keys.{point_eq}
use Rattle.vdv452_tables.specs.Ranges.{IsTime}
use Rattle.plan_params.specs.declared.rows.ParamRows.{ParamRows}
use Rattle.plan_params.specs.declared.rows.way.Way.{Way}
use Rattle.plan_params.specs.LookUps.{way_in}
use Rattle.plan_params.proofs.IndexLemmas.{found_all}
use Rattle.plan_params.proofs.params.Params.way.Goals as goal

pub returns-clause-value : goal.returns-clause-value
returns-clause-value c =
    let rows = c.self.inside.rows in
    c.copied.ensures
    ∙ c.get.ensures.value
    ∙ c.self.invariant.0.ways (record { from = c.args.from; to = c.args.to })
    ∙ ap (λ b. if b then Some 0 else option_map (λ (way : Way). way.time)
    (find (λ (way : Way). point_eq way.from c.args.from && point_eq way.to c.args.to) rows.ways)) c.if-eq.ensures
    ∙ ap (λ (rows : ParamRows). way_in rows c.args.from c.args.to) c.self.view_is

pub returns-clause-range : goal.returns-clause-range
returns-clause-range c =
    let found = c.copied.ensures ∙ c.get.ensures.value ∙ c.self.invariant.0.ways (record { from = c.args.from; to = c.args.to }) in
    subst (λ r. IfSome r IsTime) (sym found)
    (found_all IsTime (λ (way : Way). way.time) (λ (way : Way). point_eq way.from c.args.from && point_eq way.to c.args.to)
    c.self.inside.rows.ways c.self.invariant.1.ways)
