use Rattle.plan_chart.proofs.RunLemmas.{held_cause}
use Rattle.plan_chart.proofs.run.answer.Goals as goal

pub returns-clause-cause : goal.returns-clause-cause
returns-clause-cause g c =
    held_cause c.page_of.result (g.F.Files.held c.args.files.now c.args.name.now) _ _ c.in-Ok.bytes.items c.as_slice.result.now
    c.in-Ok.ensures.bytes c.as_slice.ensures.value c.page_of.ensures.cause
