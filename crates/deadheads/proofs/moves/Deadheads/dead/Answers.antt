use Rattle.std.proofs.Common.{IfSome, subst, sym, ◌∙◌}
use Rattle.vdv452_tables.specs.Ranges.{IsTime}
use Rattle.deadheads.proofs.moves.Deadheads.dead.Goals as goal

pub returns-clause-range : goal.returns-clause-range
returns-clause-range c =
    subst (λ time. IfSome time IsTime) (sym (c.copied.ensures ∙ c.get.ensures.value))
    (c.self.invariant (record { from = c.args.from; to = c.args.to }))
