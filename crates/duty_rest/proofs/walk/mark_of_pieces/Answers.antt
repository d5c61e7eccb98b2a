use Rattle.std.proofs.Common.{[], sym, slice_index_or}
use Rattle.duty_network.proofs.Sizes.{marking-safe}
use Rattle.duty_rest.proofs.walk.mark_of_pieces.Goals as goal

pub mark_with_pieces-requires-clause-first : goal.mark_with_pieces-requires-clause-first
mark_with_pieces-requires-clause-first c =
    (marking-safe c.args.net.now [] c.args.class c.args.group.now c.fits.ensures c.requires.ranges tt).starts
    (slice_index_or c.args.list.now 0 0) c.in_ok-first-in-len1-up.first (sym c.in_ok-first-in-len1-up.ensures)
