use Rattle.std.proofs.Common.{◌≡◌, ◌==◌, ◌+◌, ℕ, Bool, true, false, None, List, length, cond, get_or, set, ap, ◌∙◌, arith, length-set}
use Rattle.path_cover.specs.Searching.{seen_count}
use Rattle.path_cover.proofs.Begun.{IsRoot, all_past, root_treed}
use Rattle.path_cover.proofs.Counts.{count_none}
use Rattle.path_cover.proofs.Reaching.{fits_of, set_at}
use Rattle.path_cover.proofs.search.begin.Goals as goal

pub scan-requires-clause-feasible : goal.scan-requires-clause-feasible
scan-requires-clause-feasible g c v cost below arc =
    let root_in = c.requires.root in
    let limit = c.requires.limit in
    fits_of cost (get_or c.args.falls.now.heads.items v 0) (get_or c.args.falls.now.tails.items c.args.target.root 0)
    (c.requires.seated.1.feasible c.args.target.root v cost (omega arith) (omega arith) arc)

pub returns-clause-treed : goal.returns-clause-treed
returns-clause-treed g c =
    let net = g.A.Arcs.net c.args.arcs.now in
    let target = c.args.target in
    let falls = c.args.falls.now in
    let clean = c.clear.new.growth in
    let done = c.clear.ensures in
    let scan = c.scan.ensures in
    let new = c.scan.new.growth in
    let sized = c.requires.sized in
    let n = net.nodes in
    let rows_count : length clean.rows.items ≡ n + 1 = done.row_count ∙ sized.rows in
    let columns_count : length clean.columns.items ≡ n + 1 = done.column_count ∙ sized.rows in
    let least_count : length clean.least.items ≡ n + 1 = done.least_count ∙ sized.rows in
    let depth_count : length clean.depth.items ≡ n + 1 = done.depth_count ∙ sized.rows in
    let rows_old = sized.rows in
    let root_in = c.requires.root in
    let rows_none = all_past clean.rows.items (n + 1) false rows_count (λ i within. done.rows i (omega arith)) in
    let columns_none = all_past clean.columns.items (n + 1) false columns_count (λ i within. done.columns i (omega arith)) in
    let least_none = all_past clean.least.items (n + 1) None least_count (λ i within. done.least i (omega arith)) in
    let depth_none = all_past clean.depth.items (n + 1) 0 depth_count (λ i within. done.depth i (omega arith)) in
    let rows_are : new.rows.items ≡ set clean.rows.items target.root true = scan.rows ∙ c.see.ensures in
    let is : IsRoot net falls target clean.columns.items clean.least.items clean.via.items new = record {
      sized = record {
        rows = ap length rows_are ∙ (length-set clean.rows.items target.root true ∙ rows_count);
        columns = ap length scan.columns ∙ columns_count;
        by = ap length scan.by ∙ (ap length done.by ∙ sized.by);
        via = scan.scanned.via_count ∙ (ap length done.via ∙ sized.via);
        least = scan.scanned.least_count ∙ least_count;
        depth = ap length scan.depth ∙ depth_count;
      };
      rows = λ x. ap (λ (l : List Bool). get_or l x false) rows_are
          ∙ (set_at clean.rows.items target.root true false (omega arith) x ∙ ap (cond (x == target.root) true) (rows_none x));
      columns_none = λ v. ap (λ (l : List Bool). get_or l v false) scan.columns ∙ columns_none v;
      depth_none = λ x. ap (λ (l : List ℕ). get_or l x 0) scan.depth ∙ depth_none x;
      before_none = columns_none;
      least_none = least_none;
      scanned = scan.scanned;
    } in
    root_treed net falls c.args.placing.now target clean.columns.items clean.least.items clean.via.items new c.requires.seated root_in
    c.requires.fixed c.requires.level c.requires.low c.requires.free is

pub returns-clause-none : goal.returns-clause-none
returns-clause-none g c =
    let clean = c.clear.new.growth in
    let done = c.clear.ensures in
    let count = done.column_count in
    ap seen_count c.scan.ensures.columns ∙ count_none clean.columns.items (λ i within. done.columns i (omega arith))
