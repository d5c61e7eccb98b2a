use Rattle.std.proofs.Common.{sym, ◌∙◌}
use Rattle.block_cover.proofs.Linking.{extended-with}
use Rattle.block_cover.proofs.moves.linked_made.Goals as goal

pub returns : goal.returns
returns c =
    c.extended_over.ensures
    ∙ sym (extended-with c.args.day.now c.args.counts c.args.prices.now c.args.mark.now c.args.item c.args.pool.now
    c.args.next.now c.args.link
    c.requires.there c.requires.next c.requires.later c.requires.admitted (sym c.requires.linked))
