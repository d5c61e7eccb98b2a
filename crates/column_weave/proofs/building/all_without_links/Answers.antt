use Rattle.std.proofs.Common.{◌≡◌, ◌++◌, ◌∷◌, ◌+◌, [], List, length, get_or, sym, ap, ◌∙◌, subst, arith, length-append}
use Rattle.column_weave.specs.declared.links.ClassLinks.{ClassLinks}
use Rattle.column_weave.specs.Webs.{AreLinks}
use Rattle.column_weave.proofs.Linked.{classes-push}
use Rattle.column_weave.proofs.building.all_without_links.Goals as goal

pub loop-class-preserved : goal.loop-class-preserved
loop-class-preserved g c =
    let p = g.C.Columns.problem c.args.problem.now in
    let old : List ClassLinks = c.loop-class.classes.items in
    let one : ClassLinks = c.in_ok-no_links.field-0 in
    let pushed : c.push.new.self.items ≡ old ++ one ∷ [] = c.in_ok-push.ensures.items in
    record {
      len = ap (λ (l : List ClassLinks). length l) pushed ∙ (omega (arith, length-append old (one ∷ []), c.loop-class.invariant.len));
      links = λ k d h.
          (let P : List ClassLinks → Type 0 = λ l. AreLinks p k (get_or l k d) in
          subst P (sym pushed) (classes-push p old one c.loop-class.class c.loop-class.invariant.len c.loop-class.invariant.links
          c.in_ok-no_links.ensures k d h));
    }
