use Rattle.depot_network.specs.BlockMarks.{block_marking}
use Rattle.depot_network.specs.Network.{blocks_of}
use Rattle.mark_cover.proofs.Paid.{cover-is-paid}
use Rattle.block_cover.specs.Laws.{marks-ordered, marks-placed, marks-tied}
use Rattle.block_cover.proofs.laws.block_cover_is_paid.Goals as goal

-- A cover of marks pays for every block: each block's list of trips has a mark, and going along its trips a mark of the cover is at
-- least as good as the list's own at every step; so it closes no higher than the block's value, and not below minus the class price.
-- What it asks of marks are three laws: good marks lead to good ones, steps go to later trips, and lists with a mark that closes are
-- those with a worth.
pub returns : goal.returns
returns c = λ day counts prices.
    cover-is-paid (block_marking day counts prices) (blocks_of day counts) prices (marks-ordered day counts prices)
    (marks-placed day counts prices) (marks-tied day counts prices)
