use Rattle.std.proofs.Common.{◌≡◌, ◌+◌, ◌<◌, ℕ, List, [], None, Option, get_or, ap, ◌∙◌, length, arith}
use Rattle.one_pool_flow.proofs.Laid.{other_default}
use Rattle.one_pool_flow.proofs.net.DayArcsArcs.arc.Goals as goal

pub returns : goal.returns
returns c =
    let arcs = c.args.self.now in
    let row_in : c.args.x < arcs.nodes + 1 = omega (arith, arcs.count, c.requires.row) in
    let column_in : c.args.v < arcs.nodes + 1 = omega (arith, arcs.count, c.requires.column) in
    let count = arcs.laid.count in
    let within : c.args.x < length arcs.rows.now = omega (arith, count, row_in) in
    let row : c.as_slice.result.now ≡ get_or arcs.rows.now c.args.x [] =
    c.as_slice.ensures ∙ other_default arcs.rows.now c.args.x c.index-self-x.result [] within in
    ap (λ (cells : List (Option ℕ)). get_or cells c.args.v None) row ∙ (arcs.laid.each c.args.x row_in).cells c.args.v column_in
