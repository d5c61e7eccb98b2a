use Rattle.std.proofs.Common.{◌<ℤ◌, ◌-◌, ◌∙◌, rules, w64}
use Rattle.std.proofs.lemmas.Int.{to_z-of_z}
use Rattle.std.specs.Prelude.{FitsSigned, drop, take}
use Rattle.label_search.proofs.Leveled.{ended-above, ended-follows, ended-reach, level-skipped}
use Rattle.label_search.proofs.levels.follow.Goals as goal

pub returns-then-level-reach-clause-made : goal.returns-then-level-reach-clause-made
returns-then-level-reach-clause-made g c =
    let s = c.args.labels.now in
    let w = g.W.Labels in
    let test = w.may_close s c.args.limit in
    let level = c.args.level.now in
    let part = take (level.end - c.args.from) (drop c.args.from c.args.stock.now.kept) in
    let high : c.args.reach <ℤ level.least = search rules in
    c.requires.so_far ∙ level-skipped (w.labelling s) test (w.good s) (w.value_at s) c.args.stock.now.kept c.args.item
    c.args.from level.end c.requires.order
    (ended-reach (w.labelling s) test (w.value_at s) (w.sound s) (w.last s) c.args.item c.args.reach level part
    c.requires.level high c.requires.reach)

pub returns-in-None-clause-made : goal.returns-in-None-clause-made
returns-in-None-clause-made g c =
    let s = c.args.labels.now in
    let w = g.W.Labels in
    let test = w.may_close s c.args.limit in
    let limit_fits : FitsSigned w64 c.args.limit = search rules in
    let level = c.args.level.now in
    let part = take (level.end - c.args.from) (drop c.args.from c.args.stock.now.kept) in
    let none = rw (to_z-of_z w64 c.args.limit limit_fits) at c.in-None.ensures.none in
    c.requires.so_far ∙ level-skipped (w.labelling s) test (w.good s) (w.value_at s) c.args.stock.now.kept c.args.item
    c.args.from level.end c.requires.order
    (ended-follows (w.labelling s) test (w.value_at s) (w.sound s) (w.last s) c.args.item level part c.requires.level none)

pub returns-else-level-most-clause-made : goal.returns-else-level-most-clause-made
returns-else-level-most-clause-made g c =
    let s = c.args.labels.now in
    let w = g.W.Labels in
    let test = w.may_close s c.args.limit in
    let limit_fits : FitsSigned w64 c.args.limit = search rules in
    let level = c.args.level.now in
    let part = take (level.end - c.args.from) (drop c.args.from c.args.stock.now.kept) in
    let none = rw (to_z-of_z w64 c.args.limit limit_fits) at c.in-Some.ensures.most in
    let high : c.in-Some.most <ℤ level.least = search rules in
    c.requires.so_far ∙ level-skipped (w.labelling s) test (w.good s) (w.value_at s) c.args.stock.now.kept c.args.item
    c.args.from level.end c.requires.order
    (ended-above (w.labelling s) test (w.value_at s) (w.sound s) (w.last s) c.args.item c.in-Some.most level
    part c.requires.level high none)
