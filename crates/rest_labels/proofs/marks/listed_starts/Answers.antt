use Rattle.std.proofs.Common.{◌∙◌}
use Rattle.rest_labels.proofs.Marked.{all-listed}
use Rattle.rest_labels.proofs.marks.listed_starts.Goals as goal

pub returns : goal.returns
returns c =
    c.in_ok-extend_from_slice.ensures.items
    ∙ all-listed c.args.class c.args.heads.now c.args.free.now c.loop-head.starts.items c.loop-head.head-index c.requires
    c.loop-head-test.false c.loop-head.invariant
