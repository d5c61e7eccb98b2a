use Rattle.std.proofs.Common.{◌∙◌}
use Rattle.duty_network.specs.Followers.{facts}
use Rattle.duty_network.proofs.Laid.{between_is, between_within}
use Rattle.duty_network.proofs.net.way_in_layout.Goals as goal

pub time_at-requires : goal.time_at-requires
time_at-requires c =
    rw (c.as_slice.ensures, c.as_slice-2.ensures)
    (between_within c.args.pieces.now c.args.params.now c.args.layout.now c.args.p c.args.q c.requires.laid c.requires.p c.requires.q)

pub returns-clause-value : goal.returns-clause-value
returns-clause-value c =
    c.time_at.ensures.value
    ∙ (rw (c.as_slice.ensures, c.as_slice-2.ensures)
    (between_is (facts c.args.pieces.now c.args.params.now) c.args.layout.now c.args.p c.args.q c.requires.laid c.requires.p c.requires.q))
