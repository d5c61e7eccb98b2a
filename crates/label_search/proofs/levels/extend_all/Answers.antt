use Rattle.std.proofs.Common.{◌≡◌, ◌<◌, ◌+◌, ◌-◌, None, arith, rules, w64}
use Rattle.std.proofs.lemmas.Int.{to_z-of_z}
use Rattle.std.specs.Prelude.{FitsSigned, drop, take}
use Rattle.label_search.specs.Levels.{IsAbove}
use Rattle.label_search.specs.Limits.{passed}
use Rattle.label_search.proofs.Leveled.{level-most, part-one}
use Rattle.label_search.proofs.levels.extend_all.Goals as goal

pub extend_one-requires-clause-above : goal.extend_one-requires-clause-above
extend_one-requires-clause-above g c =
    let s = c.args.labels.now in
    let w = g.W.Labels in
    let test = w.may_close s c.args.limit in
    let limit_fits : FitsSigned w64 c.args.limit = search rules in
    let most_fits : FitsSigned w64 c.args.most = search rules in
    let kept = c.args.stock.now.kept in
    let level = c.args.level.now in
    let part = take (level.end - c.args.from) (drop c.args.from kept) in
    let below : c.loop-place.place < c.args.from + (level.end - c.args.from) =
    (let inside = c.loop-place-test.true in let order = c.requires.order in omega arith) in
    rw (to_z-of_z w64 c.args.limit limit_fits, to_z-of_z w64 c.args.most most_fits, c.loop-place.invariant.kept)
    (part-one (λ a. IsAbove c.args.most (w.value_at s a) → passed test ((w.labelling s).extend a c.args.item) ≡ None) kept c.args.from
    (level.end - c.args.from) c.loop-place.place
    c.loop-place.invariant.after below
    (level-most (w.labelling s) test (w.value_at s) (w.sound s) (w.last s) c.args.item c.args.most level part
    c.requires.level c.requires.most))
