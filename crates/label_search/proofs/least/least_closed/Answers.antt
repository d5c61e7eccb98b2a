use Rattle.std.proofs.Common.{List, ℕ, sym, ◌∙◌, subst, rules, w64}
use Rattle.std.specs.Prelude.{None, Some, FitsSigned}
use Rattle.std.proofs.lemmas.Int.{to_z-of_z}
use Rattle.label_search.specs.Answers.{IsLeastClosed}
use Rattle.label_search.specs.Limits.{limited}
use Rattle.label_search.proofs.Leasts.{from-limited-nodes, back-nodes}
use Rattle.label_search.proofs.Limits.{limited-safe}
use Rattle.label_search.proofs.Sound.{AllSound-is}
use Rattle.label_search.proofs.least.least_closed.Goals as goal

pub best_node-best-requires-clause-sound : goal.best_node-best-requires-clause-sound
best_node-best-requires-clause-sound g c =
    let s = c.args.labels.now in
    let w = g.W.Labels in
    let test = w.may_close s c.args.limit in
    let limit_fits : FitsSigned w64 c.args.limit = search rules in
    let z = to_z-of_z w64 c.args.limit limit_fits in
    let nodes = rw z at c.in_ok-fill.ensures.nodes in
    AllSound-is (limited (w.labelling s) test) (w.good s) (w.value_at s) (w.sound s)
    (limited-safe (w.labelling s) (w.sound s) test (g.met.W.Labels.safe s)) (w.count s)
    c.fill.new.nodes.stock.kept nodes

pub returns-in-None-clause-none : goal.returns-in-None-clause-none
returns-in-None-clause-none g c =
    let s = c.args.labels.now in
    let m = g.met.W.Labels in
    let w = g.W.Labels in
    let limit_fits : FitsSigned w64 c.args.limit = search rules in
    let z = to_z-of_z w64 c.args.limit limit_fits in
    let nodes = rw z at c.in_ok-fill.ensures.nodes in
    from-limited-nodes (w.labelling s) (w.good s) (w.value_at s) (w.close_of s) (w.count s) (w.last s) (w.sound s) (w.may_close s)
    c.args.limit (m.kept s) (m.valued s) (m.stepwise s) (m.hides_none s)
    c.fill.new.nodes.stock.kept c.best_node-best.result None nodes c.best_node-best.ensures c.in-None.is

pub path-requires-clause-there : goal.path-requires-clause-there
path-requires-clause-there g c =
    let s = c.args.labels.now in
    let m = g.met.W.Labels in
    let w = g.W.Labels in
    let limit_fits : FitsSigned w64 c.args.limit = search rules in
    let z = to_z-of_z w64 c.args.limit limit_fits in
    let nodes = rw z at c.in_ok-fill.ensures.nodes in
    let answer = from-limited-nodes (w.labelling s) (w.good s) (w.value_at s) (w.close_of s) (w.count s) (w.last s) (w.sound s)
    (w.may_close s) c.args.limit (m.kept s) (m.valued s) (m.stepwise s) (m.hides_none s)
    c.fill.new.nodes.stock.kept c.best_node-best.result (Some c.in-Some.best) nodes
    c.best_node-best.ensures c.in-Some.is in
    answer.0

pub path-requires-clause-back : goal.path-requires-clause-back
path-requires-clause-back g c =
    let s = c.args.labels.now in
    let w = g.W.Labels in
    let limit_fits : FitsSigned w64 c.args.limit = search rules in
    let z = to_z-of_z w64 c.args.limit limit_fits in
    let nodes = rw z at c.in_ok-fill.ensures.nodes in
    back-nodes (limited (w.labelling s) (w.may_close s c.args.limit)) (w.good s) (w.value_at s) (w.count s)
    c.fill.new.nodes.stock.kept nodes

pub returns-in_ok-list-in-Some-clause-found : goal.returns-in_ok-list-in-Some-clause-found
returns-in_ok-list-in-Some-clause-found g c =
    let s = c.args.labels.now in
    let m = g.met.W.Labels in
    let w = g.W.Labels in
    let limit_fits : FitsSigned w64 c.args.limit = search rules in
    let z = to_z-of_z w64 c.args.limit limit_fits in
    let nodes = rw z at c.in_ok-fill.ensures.nodes in
    let answer = from-limited-nodes (w.labelling s) (w.good s) (w.value_at s) (w.close_of s) (w.count s) (w.last s) (w.sound s)
    (w.may_close s) c.args.limit (m.kept s) (m.valued s) (m.stepwise s) (m.hides_none s)
    c.fill.new.nodes.stock.kept c.best_node-best.result (Some c.in-Some.best) nodes
    c.best_node-best.ensures c.in-Some.is in
    let fits : FitsSigned w64 c.in-Some.best.value = search rules in
    let P : List ℕ → Type 0 =
    λ l. IsLeastClosed (limited (w.labelling s) (w.may_close s c.args.limit)) (w.close_of s) l c.in-Some.best.value in
    rw (to_z-of_z w64 _ fits) (subst P (sym (c.from_vec.ensures ∙ c.in_ok-list-in-Some.ensures)) answer.1)
