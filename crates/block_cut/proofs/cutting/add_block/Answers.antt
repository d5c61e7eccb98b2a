use Rattle.std.proofs.Common.{◌≡◌, ◌≤◌, ◌++◌, List, ap, sym, subst, ◌∙◌, rules}
use Rattle.plan_core.specs.declared.types.Leg.{Leg}
use Rattle.plan_core.specs.declared.types.Piece.{Piece}
use Rattle.plan_params.specs.declared.rows.pool.Pool.{Pool}
use Rattle.day_model.specs.Pieces.{parts, pieces_from}
use Rattle.block_cut.specs.Cuts.{block_pieces, stands}
use Rattle.block_cut.proofs.Few.{few_stands, pieces_are, pool_of_legs}
use Rattle.block_cut.proofs.LegLists.{pool_at}
use Rattle.block_cut.proofs.Times.{on_made}
use Rattle.block_cut.proofs.cutting.add_block.Goals as goal

pub add_pieces-requires-clause-few : goal.add_pieces-requires-clause-few
add_pieces-requires-clause-few c =
    let P : List Leg → Type 0 = λ ls. stands ls ≤ 3000 in
    subst P (sym c.as_slice.ensures)
    (few_stands c.args.day.now c.args.column.now.class c.args.column.now.items c.in_ok-legs.legs c.requires.worth
    c.in_ok-legs.ensures.legs (search rules))

pub returns-clause-pieces : goal.returns-clause-pieces
returns-clause-pieces c =
    let day = c.args.day.now in
    let column = c.args.column.now in
    let pool : Pool = pool_at c.pools.result.now column.class in
    let made : List Piece = c.args.pieces.now ++ pieces_from c.args.number 1 (parts day pool c.as_slice.result.now) in
    let pooled = pool_of_legs day column.class column.items c.in_ok-legs.legs c.pools.result.now c.in_ok-legs.ensures.legs (search rules) in
    let is = ap (λ (ls : List Leg). pieces_from c.args.number 1 (parts day pool ls)) c.as_slice.ensures
    ∙ pieces_are day c.args.number column pool c.in_ok-legs.legs pooled c.in_ok-legs.ensures.legs in
    on_made c.add_pieces.result (λ pieces. pieces ≡ c.args.pieces.now ++ block_pieces day c.args.number column) c.add_pieces.new.pieces made
    c.add_pieces.ensures.pieces (ap (λ (ps : List Piece). c.args.pieces.now ++ ps) is)
