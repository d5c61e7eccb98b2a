use Rattle.std.proofs.Common.{◌≡◌, ◌+◌, ◌++◌, List, ap, drop, ◌∙◌, rules}
use Rattle.plan_core.specs.declared.types.Piece.{Piece}
use Rattle.day_model.specs.Pieces.{parts, pieces_from}
use Rattle.block_cut.specs.Cuts.{ended}
use Rattle.block_cut.proofs.Pieces.{after_leg_at, after_next_at, cut_done, cut_more, cut_whole, stands_more}
use Rattle.block_cut.proofs.Times.{on_made}
use Rattle.block_cut.proofs.block.add_pieces.Goals as goal

pub cut_leg-requires-clause-after : goal.cut_leg-requires-clause-after
cut_leg-requires-clause-after c =
    after_leg_at c.loop-leg.at.held c.args.legs.now c.loop-leg.leg-index _ (search rules) c.loop-leg.invariant.after

pub loop-leg-preserved : goal.loop-leg-preserved
loop-leg-preserved c = record {
  made = cut_more c.args.day.now c.args.pool.now c.args.block c.loop-leg.at.index c.in_ok-at.at.index c.loop-leg.at.held c.in_ok-at.at.held
      c.args.legs.now c.loop-leg.leg-index _ c.loop-leg.pieces c.cut_leg.new.pieces _ (search rules) c.loop-leg.invariant.made
      (c.in_ok-at.ensures.pieces (drop (c.loop-leg.leg-index + 1) c.args.legs.now));
  few = stands_more c.args.legs.now c.loop-leg.leg-index _ c.loop-leg.at.index c.in_ok-at.at.index _ (search rules) c.loop-leg.invariant.few
      c.in_ok-at.ensures.index;
  after = after_next_at c.loop-leg.at.held c.in_ok-at.at.held c.args.legs.now c.loop-leg.leg-index _ (search rules)
      c.loop-leg.invariant.after c.in_ok-at.ensures.held;
  shifts = c.in_ok-at.ensures.shifts;
}

pub returns-clause-pieces : goal.returns-clause-pieces
returns-clause-pieces c =
    let all : List Piece = c.args.pieces.now ++ pieces_from c.args.block 1 (parts c.args.day.now c.args.pool.now c.args.legs.now) in
    let done = cut_done c.args.day.now c.args.pool.now c.args.block c.loop-leg.at.index c.loop-leg.at.held c.args.legs.now
    c.loop-leg.leg-index c.loop-leg.pieces _ c.loop-leg-test.false c.loop-leg.invariant.made in
    let whole = ap (λ (ps : List Piece). c.args.pieces.now ++ ps) (cut_whole c.args.day.now c.args.pool.now c.args.block c.args.legs.now) in
    on_made c.end_piece.result (λ pieces. pieces ≡ all) c.end_piece.new.pieces (c.loop-leg.pieces ++ ended c.loop-leg.at.held)
    c.end_piece.ensures (done ∙ whole)
