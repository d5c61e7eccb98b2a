use Rattle.std.proofs.Common.{◌≡◌, ◌≤ℤ◌, ◌++◌, ◌∷◌, [], length, refl, rules, w64}
use Rattle.std.proofs.lemmas.Int.{to_z-of_z}
use Rattle.std.specs.Prelude.{FitsSigned}
use Rattle.label_search.specs.declared.node.Level.{Level}
use Rattle.label_search.specs.Levels.{AllAtLeast}
use Rattle.label_search.specs.Nodes.{values_of}
use Rattle.label_search.proofs.Leveled.{least-more, levels-kept}
use Rattle.label_search.proofs.Values.{values-joined}
use Rattle.label_search.proofs.levels.keep_level.Goals as goal

pub returns-clause-levels : goal.returns-clause-levels
returns-clause-levels g c =
    let s = c.args.labels.now in
    let w = g.W.Labels in
    let l : Level = record { item = c.args.item; end = length c.keep_made.new.self.kept; least = c.in_ok-least.least } in
    let fits : FitsSigned w64 c.in_ok-least.least = search rules in
    let nodes : c.keep_made.new.self.kept ≡ c.args.nodes.now.stock.kept ++ c.args.nodes.now.stock.made = search rules in
    let levels : c.push_level.new.levels.items ≡ c.args.nodes.now.levels.items ++ l ∷ [] = search rules in
    let least : AllAtLeast (w.value_at s) c.in_ok-least.least c.args.nodes.now.stock.made = search rules in
    levels-kept (w.sound s) (w.last s) (w.value_at s) c.args.nodes.now.stock.kept c.args.nodes.now.stock.made c.keep_made.new.self.kept
    c.args.nodes.now.levels.items c.push_level.new.levels.items l
    nodes levels refl c.requires.levels c.requires.made least

pub returns-clause-least : goal.returns-clause-least
returns-clause-least g c =
    let s = c.args.labels.now in
    let w = g.W.Labels in
    let fits : FitsSigned w64 c.lower-nodes.result = search rules in
    let nodes : c.keep_made.new.self.kept ≡ c.args.nodes.now.stock.kept ++ c.args.nodes.now.stock.made = search rules in
    let made : AllAtLeast (w.value_at s) c.in_ok-least.least c.args.nodes.now.stock.made = search rules in
    let first : c.lower-nodes.result ≤ℤ c.args.nodes.now.least = search rules in
    let second : c.lower-nodes.result ≤ℤ c.in_ok-least.least = search rules in
    rw (to_z-of_z w64 _ fits)
    (least-more (w.value_at s) c.args.nodes.now.stock.kept c.args.nodes.now.stock.made c.keep_made.new.self.kept c.args.nodes.now.least
    c.in_ok-least.least c.lower-nodes.result nodes c.requires.least made first second)

pub returns-clause-values : goal.returns-clause-values
returns-clause-values g c =
    let value_at = g.W.Labels.value_at c.args.labels.now in
    let nodes : c.keep_made.new.self.kept ≡ c.args.nodes.now.stock.kept ++ c.args.nodes.now.stock.made = search rules in
    let values : c.keep_values.new.values.items ≡ c.args.nodes.now.values.items ++ values_of value_at c.args.nodes.now.stock.made =
    search rules in
    values-joined value_at c.args.nodes.now.values.items (values_of value_at c.args.nodes.now.stock.made) c.keep_values.new.values.items
    c.args.nodes.now.stock.kept c.args.nodes.now.stock.made c.keep_made.new.self.kept c.requires.values refl values nodes
