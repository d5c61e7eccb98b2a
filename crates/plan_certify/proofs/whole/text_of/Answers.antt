use Rattle.std.proofs.Common.{◌∙◌}
use Rattle.plan_command.specs.Planning.{side_of}
use Rattle.plan_certify.proofs.Texts.{ok-text}
use Rattle.plan_certify.proofs.whole.text_of.Goals as goal

pub returns : goal.returns
returns c =
    ok-text c.args.model.now (side_of c.args.plan.blocks) (side_of c.args.plan.duties) c.in_ok-cert.cert c.write_tables.result
    c.as_slice.result.now c.in_ok-cert.ensures.cert
    (c.as_slice.ensures ∙ c.in_ok-tables.ensures.tables) c.write_tables.ensures.spelling
