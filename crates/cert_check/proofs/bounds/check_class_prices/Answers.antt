use Rattle.std.proofs.Common.{◌≤◌, List, length, ap, ◌∙◌, subst, sym}
use Rattle.plan_params.specs.declared.rows.ParamRows.{ParamRows}
use Rattle.plan_params.specs.declared.rows.pool.Pool.{Pool}
use Rattle.plan_params.specs.declared.rows.group.Group.{Group}
use Rattle.plan_cert.specs.declared.cert.CertPart.{CertPart}
use Rattle.plan_cert.specs.Shapes.{shape_of}
use Rattle.cert_check.specs.Judging.{Case}
use Rattle.cert_check.specs.Reasons.{AllCharged, IsFirstNegative, printed_pieces}
use Rattle.cert_check.specs.Steps.{HaveFewClasses}
use Rattle.cert_check.proofs.Charges.{few-classes}
use Rattle.cert_check.proofs.bounds.check_class_prices.Goals as goal

pub four_parts-requires : goal.four_parts-requires
four_parts-requires c = (shape_of c.args.case.now.day (length (printed_pieces c.args.case.now c.args.blocks.now)), c.requires.parts)

pub negative_in-requires : goal.negative_in-requires
negative_in-requires c =
    let Pools : List Pool → Type 0 = λ pools. length pools ≤ 32 in
    let Groups : List Group → Type 0 = λ groups. length groups ≤ 32 in
    subst HaveFewClasses c.four_parts.ensures
    (few-classes c.args.case.now.day (length (printed_pieces c.args.case.now c.args.blocks.now)) c.args.cert.now.parts
    (subst Pools (c.pools.ensures.rows
    ∙ (ap (λ (p : ParamRows). p.pools) c.params.ensures.settings ∙ ap (λ (k : Case). k.day.params.pools) c.case.view_is))
    c.pools.ensures.few)
    (subst Groups (c.groups.ensures.rows
    ∙ (ap (λ (p : ParamRows). p.groups) c.params-2.ensures.settings ∙ ap (λ (k : Case). k.day.params.groups) c.case.view_is))
    c.groups.ensures.few)
    c.requires.parts)

pub returns-in-None-clause-charged : goal.returns-in-None-clause-charged
returns-in-None-clause-charged c =
    record { has_cert = c.requires; charged = subst AllCharged (sym c.four_parts.ensures) c.in-None.ensures.none }

pub returns-in-Some-clause-stop : goal.returns-in-Some-clause-stop
returns-in-Some-clause-stop c =
    let P : List CertPart → Type 0 = λ parts. IsFirstNegative 1 parts c.in-Some.found.pass c.in-Some.found.class in (
      c.args.text.now,
      c.args.blocks.now,
      c.args.duties.now,
      c.args.cert.now,
      c.requires,
      subst P (sym c.four_parts.ensures) c.in-Some.ensures.some,
    )
