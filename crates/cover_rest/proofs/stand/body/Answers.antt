use Rattle.std.proofs.Common.{sym, ◌∙◌}
use Rattle.cover_rest.proofs.Steps.{body-here, body-past}
use Rattle.cover_rest.proofs.stand.body.Goals as goal

pub returns-in-None : goal.returns-in-None
returns-in-None c = let past = c.in-None.ensures.lookup.3 in c.as_slice.ensures ∙ sym (body-past c.args.bodies.now c.args.item past)

pub returns-in-Some : goal.returns-in-Some
returns-in-Some c =
    let (there, is) = c.in-Some.ensures.lookup.3 in
    c.as_slice-in-Some.ensures ∙ c.in-Some.ensures.lookup.1 ∙ body-here c.args.bodies.now c.args.item c.in-Some.body.now there
