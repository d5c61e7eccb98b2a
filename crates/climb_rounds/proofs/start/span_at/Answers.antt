use Rattle.std.proofs.Common.{pos}
use Rattle.plan_dive.proofs.Readies.{span_get}
use Rattle.climb_rounds.proofs.start.span_at.Goals as goal

pub returns-clause-low : goal.returns-clause-low
returns-clause-low c = (span_get c.args.spans.now c.args.item (record { low = pos 0; high = pos 0 }) c.requires.inside c.requires.spans).low

pub returns-clause-ordered : goal.returns-clause-ordered
returns-clause-ordered c =
    (span_get c.args.spans.now c.args.item (record { low = pos 0; high = pos 0 }) c.requires.inside c.requires.spans).ordered

pub returns-clause-high : goal.returns-clause-high
returns-clause-high c =
    (span_get c.args.spans.now c.args.item (record { low = pos 0; high = pos 0 }) c.requires.inside c.requires.spans).high
