use Rattle.std.proofs.Common.{List, subst, sym, w64, rules}
use Rattle.std.proofs.lemmas.Int.{to_z-of_z}
use Rattle.std.specs.Prelude.{FitsSigned}
use Rattle.label_search.specs.declared.node.Node.{Node}
use Rattle.label_search.specs.Levels.{EndsAt}
use Rattle.label_search.specs.Limits.{limited}
use Rattle.label_search.specs.Nodes.{AllSound}
use Rattle.label_search.proofs.Leveled.{made-ends}
use Rattle.label_search.proofs.Limits.{limited-safe, limited-stepwise}
use Rattle.label_search.proofs.Sound.{AllSound-is}
use Rattle.label_search.proofs.levels.add_item.Goals as goal

pub make_item-requires-clause-sound : goal.make_item-requires-clause-sound
make_item-requires-clause-sound g c =
    let s = c.args.labels.now in
    let w = g.W.Labels in
    let test = w.may_close s c.args.limit in
    AllSound-is (limited (w.labelling s) test) (w.good s) (w.value_at s) (w.sound s)
    (limited-safe (w.labelling s) (w.sound s) test (g.met.W.Labels.safe s)) c.args.item
    c.args.nodes.now.stock.kept c.requires.nodes

pub keep_level-requires-clause-made : goal.keep_level-requires-clause-made
keep_level-requires-clause-made g c =
    let s = c.args.labels.now in
    let w = g.W.Labels in
    let test = w.may_close s c.args.limit in
    let v = limited (w.labelling s) test in
    let safe = limited-safe (w.labelling s) (w.sound s) test (g.met.W.Labels.safe s) in
    let step = limited-stepwise (w.labelling s) (w.count s) (w.last s) test (g.met.W.Labels.stepwise s) in
    let P : List (Node g.row.W-Label.Denot) → Type 0 = λ ns. AllSound (EndsAt (w.sound s) (w.last s) c.args.item) ns in
    let limit_fits : FitsSigned w64 c.args.limit = search rules in
    let z = to_z-of_z w64 c.args.limit limit_fits in
    let made = rw z at c.in_ok-make_item.ensures.made in
    subst P (sym made)
    (made-ends v (w.good s) (w.value_at s) (w.sound s) (w.count s) (w.last s) safe step c.args.nodes.now.stock.kept c.args.item
    (AllSound-is v (w.good s) (w.value_at s) (w.sound s) safe c.args.item c.args.nodes.now.stock.kept c.requires.nodes))
