use Rattle.std.proofs.Common.{List, ◌∙◌, subst}
use Rattle.plan_core.specs.declared.Price.{Price}
use Rattle.mark_cover.specs.Minimal.{AreMinimal}
use Rattle.depot_network.specs.BlockMarks.{block_marking}
use Rattle.depot_network.specs.Network.{NetFacts}
use Rattle.block_cover.specs.Seen.{mark_order}
use Rattle.block_cover.proofs.cover.make_block_cover.Goals as goal

pub returns-in-Ok-clause-minimal : goal.returns-in-Ok-clause-minimal
returns-in-Ok-clause-minimal c =
    let made = c.new-marks.result in
    let P : NetFacts → Type 0 = λ n. AreMinimal (block_marking n.day n.counts made.prices.now) mark_order c.in-Ok.marks in
    let Q : List Price → Type 0 =
    λ prices. AreMinimal (block_marking c.args.net.now.day c.args.net.now.counts prices) mark_order c.in-Ok.marks in
    subst Q (c.new-marks.ensures.prices ∙ c.as_slice.ensures) (subst P c.new-marks.ensures.net c.in-Ok.ensures.minimal)
