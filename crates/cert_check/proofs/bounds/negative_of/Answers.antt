use Rattle.std.proofs.Common.{refl, sym, ap, ◌∙◌}
use Rattle.cert_check.specs.Steps.{first_negative}
use Rattle.cert_check.proofs.Charges.{negative-there, none-negative}
use Rattle.cert_check.proofs.bounds.negative_of.Goals as goal

pub returns-in-Some-clause-some : goal.returns-in-Some-clause-some
returns-in-Some-clause-some c =
    (refl, negative-there c.args.part.now c.in-Some.class (sym (c.in-Some.ensures ∙ ap first_negative c.as_slice.ensures)))

pub returns-in-None-clause-none : goal.returns-in-None-clause-none
returns-in-None-clause-none c = none-negative c.args.part.now (sym (c.in-None.ensures ∙ ap first_negative c.as_slice.ensures))
