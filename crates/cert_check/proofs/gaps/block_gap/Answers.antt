use Rattle.std.proofs.Common.{ap, sym, ◌∙◌, subst}
use Rattle.day_model.specs.Facts.{DayFacts}
use Rattle.mark_cover.specs.Searches.{AreThere}
use Rattle.depot_network.specs.BlockMarks.{block_marking}
use Rattle.cert_check.specs.Judging.{Case}
use Rattle.cert_check.proofs.PartGaps.{block-marks-there, moderate-within}
use Rattle.cert_check.proofs.gaps.block_gap.Goals as goal

pub first_block_gap-requires-clause-moderate : goal.first_block_gap-requires-clause-moderate
first_block_gap-requires-clause-moderate c = moderate-within c.args.part.now.prices.items c.requires.part.part_is.moderate

pub first_block_gap-requires-clause-there : goal.first_block_gap-requires-clause-there
first_block_gap-requires-clause-there c =
    let part = c.args.part.now in
    let counts = c.new-net.result.counts in
    let day = c.new-net.ensures.day ∙ ap (λ (x : Case). x.day) c.case.view_is in
    subst (λ (d : DayFacts). AreThere (block_marking d counts part.prices.items) part.blocks.marks) (sym day)
    (block-marks-there c.args.case.now.day counts part.prices.items part.blocks.marks c.requires.part.marks)
