use Rattle.std.proofs.Common.{◌≡◌, ◌≤ℤ◌, ◌<ℤ◌, ◌+◌, ◌∙◌, arith, pos, refl, rules, w64}
use Rattle.std.proofs.lemmas.Int.{ints, to_z-of_z}
use Rattle.std.specs.Prelude.{FitsSigned, fold}
use Rattle.cover_core.specs.Plans.{number_at}
use Rattle.label_search.specs.Limits.{limited}
use Rattle.label_search.specs.Nodes.{insert_node, node_of}
use Rattle.label_search.specs.Levels.{level_so_far}
use Rattle.label_search.proofs.Extensions.{level-step}
use Rattle.label_search.proofs.Leveled.{on-ok, one-skipped}
use Rattle.label_search.proofs.Sound.{AllSound-get}
use Rattle.label_search.proofs.Values.{value-ended, values-count}
use Rattle.label_search.proofs.levels.extend_one.Goals as goal

pub at-requires : goal.at-requires
at-requires g c =
    let count = values-count (g.W.Labels.value_at c.args.labels.now) c.args.values.now c.args.stock.now.kept c.requires.values in
    let there = c.requires.there in
    omega arith

pub extend-label-requires-clause-sound : goal.extend-label-requires-clause-sound
extend-label-requires-clause-sound g c =
    AllSound-get (g.W.Labels.sound c.args.labels.now) c.args.stock.now.kept c.args.place c.kept_at.result.now c.requires.sound
    c.requires.there c.kept_at.ensures

-- a node of a value above the most does not go on
pub returns-then-at-most-clause-made : goal.returns-then-at-most-clause-made
returns-then-at-most-clause-made g c =
    let s = c.args.labels.now in
    let w = g.W.Labels in
    let test = w.may_close s c.args.limit in
    let fits : FitsSigned w64 c.at.result = search rules in
    let value : c.at.result ≡ number_at c.args.values.now c.args.place = search rules in
    let high : c.args.most <ℤ number_at c.args.values.now c.args.place =
    (let above : c.args.most <ℤ c.at.result = search rules in omega (arith, ints)) in
    let held : number_at c.args.values.now c.args.place ≤ℤ pos 9223372036854775807 = omega (arith, ints, fits, value) in
    c.requires.so_far ∙ one-skipped (w.labelling s) test (w.good s) (w.value_at s) c.args.stock.now.kept c.args.item c.args.place
    (value-ended (w.labelling s) test (w.value_at s) c.args.item c.args.most c.args.values.now c.args.stock.now.kept c.args.place
    c.requires.values c.requires.above (high, held))

pub returns-clause-made : goal.returns-clause-made
returns-clause-made g c =
    let s = c.args.labels.now in
    let w = g.W.Labels in
    let limit_fits : FitsSigned w64 c.args.limit = search rules in
    let z = to_z-of_z w64 c.args.limit limit_fits in
    let v = limited (w.labelling s) (w.may_close s c.args.limit) in
    let ins = insert_node (w.good s) (w.value_at s) in
    let label = rw z at c.extend-label.ensures in
    on-ok c.insert_some.result
    (c.insert_some.new.stock.made ≡ fold ins c.args.stock.now.made (node_of c.args.item (c.args.place + 1) c.extend-label.result))
    (c.insert_some.new.stock.made ≡ level_so_far v (w.good s) (w.value_at s) c.args.stock.now.kept c.args.item (c.args.place + 1))
    (λ e. e ∙ level-step ins v c.args.item c.args.place c.args.place c.args.stock.now.kept c.kept_at.result.now
    (node_of c.args.item 0 (v.start c.args.item)) c.args.stock.now.made c.extend-label.result c.requires.there c.kept_at.ensures
    refl label c.requires.so_far)
    c.insert_some.ensures.made
