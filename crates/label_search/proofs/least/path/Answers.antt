use Rattle.std.proofs.Common.{List, ◌++◌, [], ℕ, reverse, ap, ◌∙◌, arith}
use Rattle.label_search.specs.Lists.{list_before, helds_from}
use Rattle.label_search.proofs.Paths.{path-step}
use Rattle.label_search.proofs.least.path.Goals as goal

pub loop-rank-smaller : goal.loop-rank-smaller
loop-rank-smaller g c =
    (path-step c.args.stock.now.kept c.loop-rank.rank c.kept_at-node.result.now c.loop-rank.list.items _ c.requires.back
    c.loop-rank-test.true c.loop-rank.invariant.there c.kept_at-node.ensures c.loop-rank.invariant.list).0

pub loop-rank-preserved : goal.loop-rank-preserved
loop-rank-preserved g c =
    let (less, list) = path-step c.args.stock.now.kept c.loop-rank.rank c.kept_at-node.result.now c.loop-rank.list.items _ c.requires.back
    c.loop-rank-test.true c.loop-rank.invariant.there c.kept_at-node.ensures c.loop-rank.invariant.list in
    let there = c.loop-rank.invariant.there in
    record {
      there = omega arith;
      list = ap (λ (l : List ℕ). list_before (helds_from [] c.args.stock.now.kept) c.kept_at-node.result.now.before ++ reverse l)
          c.in_ok-push_item.ensures ∙ list;
    }
