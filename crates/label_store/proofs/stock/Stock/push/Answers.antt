use Rattle.std.proofs.Common.{◌+◌, ◌++◌, ◌∷◌, [], List, ℕ, ap, subst, sym, ◌∙◌}
use Rattle.label_region.specs.Shelf.{Shelf}
use Rattle.label_store.specs.Stocks.{IsStocked, Stock, shown}
use Rattle.std.specs.Prelude.{is_ok}
use Rattle.label_store.proofs.Shown.{live-spare, push-stocked, put-kept, put-made, shown-spare}
use Rattle.label_store.proofs.stock.Stock.push.Goals as goal

pub invariant_of-self-in_err-push : goal.invariant_of-self-in_err-push
invariant_of-self-in_err-push g c =
    let r = c.self.inside in
    let P : Shelf g.row.T.Denot → Type 0 = λ s. IsStocked s r.kept.items r.made.items in
    let was = subst P (sym c.reserve.ensures.nothing_else)
    (record {
      live = live-spare r.region c.reserve.new.self.spare (r.kept.items ++ r.made.items) c.self.invariant.live;
      once =
          c.self.invariant.once;
    }) in
    push-stocked c.reserve.new.self c.put-id.new.self c.put-id.result c.args.label r.kept.items r.made.items c.push.new.self.items
    (is_ok c.push.result) was c.put-id.ensures.was_free c.put-id.ensures.label c.put-id.ensures.others c.push.ensures.items

pub returns-in_err-push-clause-kept : goal.returns-in_err-push-clause-kept
returns-in_err-push-clause-kept g c =
    let r = c.self.inside in
    let P : Shelf g.row.T.Denot → Type 0 = λ s. IsStocked s r.kept.items r.made.items in
    let was = subst P (sym c.reserve.ensures.nothing_else)
    (record {
      live = live-spare r.region c.reserve.new.self.spare (r.kept.items ++ r.made.items) c.self.invariant.live;
      once =
          c.self.invariant.once;
    }) in
    put-kept c.reserve.new.self c.put-id.new.self c.put-id.result r.kept.items r.made.items was
    c.put-id.ensures.was_free c.put-id.ensures.others
    ∙ ap (λ (s : Shelf g.row.T.Denot). shown s r.kept.items) c.reserve.ensures.nothing_else
    ∙ shown-spare r.region c.reserve.new.self.spare r.kept.items
    ∙ ap (λ (s : Stock g.row.T.Denot). s.kept) c.self.view_is

pub invariant_of-self-2 : goal.invariant_of-self-2
invariant_of-self-2 g c =
    let r = c.self.inside in
    let P : Shelf g.row.T.Denot → Type 0 = λ s. IsStocked s r.kept.items r.made.items in
    let was = subst P (sym c.reserve.ensures.nothing_else)
    (record {
      live = live-spare r.region c.reserve.new.self.spare (r.kept.items ++ r.made.items) c.self.invariant.live;
      once =
          c.self.invariant.once;
    }) in
    push-stocked c.reserve.new.self c.put-id.new.self c.put-id.result c.args.label r.kept.items r.made.items c.push.new.self.items
    (is_ok c.push.result) was c.put-id.ensures.was_free c.put-id.ensures.label c.put-id.ensures.others c.push.ensures.items

pub returns-clause-kept : goal.returns-clause-kept
returns-clause-kept g c =
    let r = c.self.inside in
    let P : Shelf g.row.T.Denot → Type 0 = λ s. IsStocked s r.kept.items r.made.items in
    let was = subst P (sym c.reserve.ensures.nothing_else)
    (record {
      live = live-spare r.region c.reserve.new.self.spare (r.kept.items ++ r.made.items) c.self.invariant.live;
      once =
          c.self.invariant.once;
    }) in
    put-kept c.reserve.new.self c.put-id.new.self c.put-id.result r.kept.items r.made.items was
    c.put-id.ensures.was_free c.put-id.ensures.others
    ∙ ap (λ (s : Shelf g.row.T.Denot). shown s r.kept.items) c.reserve.ensures.nothing_else
    ∙ shown-spare r.region c.reserve.new.self.spare r.kept.items
    ∙ ap (λ (s : Stock g.row.T.Denot). s.kept) c.self.view_is

pub returns-clause-made : goal.returns-clause-made
returns-clause-made g c =
    let r = c.self.inside in
    let P : Shelf g.row.T.Denot → Type 0 = λ s. IsStocked s r.kept.items r.made.items in
    let was = subst P (sym c.reserve.ensures.nothing_else)
    (record {
      live = live-spare r.region c.reserve.new.self.spare (r.kept.items ++ r.made.items) c.self.invariant.live;
      once =
          c.self.invariant.once;
    }) in
    ap (λ (l : List ℕ). shown {X = g.row.T.Denot} c.put-id.new.self l) c.in_ok-push.ensures.items
    ∙ put-made c.reserve.new.self c.put-id.new.self c.put-id.result c.args.label r.kept.items r.made.items was c.put-id.ensures.was_free
    c.put-id.ensures.label c.put-id.ensures.others
    ∙ ap (λ (s : Shelf g.row.T.Denot). shown s r.made.items ++ c.args.label ∷ []) c.reserve.ensures.nothing_else
    ∙ ap (λ (l : List g.row.T.Denot). l ++ c.args.label ∷ []) (shown-spare r.region c.reserve.new.self.spare r.made.items)
    ∙ ap (λ (s : Stock g.row.T.Denot). s.made ++ c.args.label ∷ []) c.self.view_is
