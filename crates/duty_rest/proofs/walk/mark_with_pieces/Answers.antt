use Rattle.std.proofs.Common.{[], sym, ◌∙◌, rules}
use Rattle.cover_core.proofs.Values.{AllBelow-get}
use Rattle.duty_network.specs.Marks.{marking}
use Rattle.duty_network.proofs.Sizes.{marking-safe}
use Rattle.rest_labels.proofs.Walking.{after-more}
use Rattle.duty_rest.proofs.walk.mark_with_pieces.Goals as goal

pub next-requires-clause-item : goal.next-requires-clause-item
next-requires-clause-item c = AllBelow-get _ c.args.rest.now c.loop-piece.piece-index c.requires.rest (search rules)

pub loop-piece-preserved : goal.loop-piece-preserved
loop-piece-preserved c =
    let net = c.args.net.now in
    let group = c.args.group.now in
    record {
      fits = (marking-safe net [] 0 group c.fits.ensures c.requires.ranges tt).steps c.loop-piece.open
          c.in_ok-open.open _ c.loop-piece.invariant.fits (sym c.in_ok-open.ensures);
      walked = λ class. c.loop-piece.invariant.walked class
          ∙ after-more (marking net [] class group) c.loop-piece.open _ c.args.rest.now c.loop-piece.piece-index
          (search rules) c.in_ok-open.ensures;
    }
