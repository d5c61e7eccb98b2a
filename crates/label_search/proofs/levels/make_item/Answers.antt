use Rattle.std.proofs.Common.{◌<ℤ◌, ◌∙◌, [], ap, rules, w64}
use Rattle.std.proofs.lemmas.Int.{to_z-of_z}
use Rattle.std.specs.Prelude.{FitsSigned, fold}
use Rattle.label_search.specs.Nodes.{insert_node, node_of}
use Rattle.label_search.proofs.Leveled.{ended-all, ended-least, level-unreached}
use Rattle.label_search.proofs.levels.make_item.Goals as goal

-- no list goes on with the item
pub returns-in-None-clause-made : goal.returns-in-None-clause-made
returns-in-None-clause-made g c =
    let s = c.args.labels.now in
    let w = g.W.Labels in
    let test = w.may_close s c.args.limit in
    let ins = insert_node (w.good s) (w.value_at s) in
    let limit_fits : FitsSigned w64 c.args.limit = search rules in
    let z = to_z-of_z w64 c.args.limit limit_fits in
    let none = rw z at c.in-None.ensures.none in
    let start = rw z at c.start.ensures in
    c.in_ok-insert_some.ensures.made ∙ ap (λ l. fold ins l (node_of c.args.item 0 c.start.result)) c.requires.empty
    ∙ ap (λ o. fold ins [] (node_of c.args.item 0 o)) start ∙
    level-unreached (w.labelling s) test (w.good s) (w.value_at s) c.args.stock.now.kept c.args.item
    (ended-all (w.labelling s) test (w.sound s) c.args.item c.args.stock.now.kept c.requires.sound none)

-- or none of those that there are
pub returns-else-least-reach-clause-made : goal.returns-else-least-reach-clause-made
returns-else-least-reach-clause-made g c =
    let s = c.args.labels.now in
    let w = g.W.Labels in
    let test = w.may_close s c.args.limit in
    let ins = insert_node (w.good s) (w.value_at s) in
    let limit_fits : FitsSigned w64 c.args.limit = search rules in
    let z = to_z-of_z w64 c.args.limit limit_fits in
    let none = rw z at c.in-Some.ensures.most in
    let start = rw z at c.start.ensures in
    let high : c.in-Some.reach <ℤ c.args.least = search rules in
    c.in_ok-insert_some.ensures.made ∙ ap (λ l. fold ins l (node_of c.args.item 0 c.start.result)) c.requires.empty
    ∙ ap (λ o. fold ins [] (node_of c.args.item 0 o)) start ∙
    level-unreached (w.labelling s) test (w.good s) (w.value_at s) c.args.stock.now.kept c.args.item
    (ended-least (w.labelling s) test (w.value_at s) (w.sound s) c.args.item c.args.least c.in-Some.reach c.args.stock.now.kept
    c.requires.sound c.requires.least high none)
