use Rattle.std.proofs.Common.{◌≡◌, ◌++◌, ◌∷◌, [], List, take, drop, sym, ap, ◌∙◌, subst, rules}
use Rattle.std.proofs.Math.ListN.{set}
use Rattle.cover_core.specs.declared.Column.{Column}
use Rattle.cover_core.specs.Parts.{column_at}
use Rattle.cover_core.specs.FirstLeast.{AreCheap}
use Rattle.cover_core.proofs.Values.{AreCheap-push, AreCheap-set}
use Rattle.tail_exchange.specs.Exchange.{made, without_empty}
use Rattle.tail_exchange.proofs.Moderate.{AreCheap-without, set-push}
use Rattle.tail_exchange.proofs.moves.cut.Goals as goal

pub returns-clause-ok : goal.returns-clause-ok
returns-clause-ok g c =
    let p = g.C.Columns.problem c.args.columns.now in
    let plan = c.args.plan.now in
    let s = c.args.step in
    let d : Column = column_at plan s.a in
    let kept : Column = c.in_ok-kept.kept in
    let new : Column = c.in_ok-new.new in
    let front : kept ≡ made p d.class (take s.i d.items) = search rules in
    let tail : new ≡ made p s.j (drop s.i d.items) = search rules in
    c.remove_empty.ensures ∙ ap without_empty
    (c.set.ensures ∙ ap (λ (l : List Column). set l s.a kept) c.in_ok-push.ensures.ok ∙ set-push plan s.a kept new c.requires.below ∙
    ap (λ (x : Column). set plan s.a x ++ new ∷ []) front
    ∙ ap (λ (x : Column). set plan s.a (made p d.class (take s.i d.items)) ++ x ∷ []) tail)

pub returns-clause-cheap : goal.returns-clause-cheap
returns-clause-cheap g c =
    let plan = c.args.plan.now in
    let s = c.args.step in
    let kept : Column = c.in_ok-kept.kept in
    let new : Column = c.in_ok-new.new in
    let is = c.remove_empty.ensures ∙ ap without_empty (c.set.ensures ∙ ap (λ (l : List Column). set l s.a kept) c.in_ok-push.ensures.ok) in
    subst AreCheap (sym is)
    (AreCheap-without _ (AreCheap-set (plan ++ new ∷ []) s.a kept (AreCheap-push plan new c.requires.ready.cheap c.in_ok-new.ensures.cheap)
    c.in_ok-kept.ensures.cheap))
