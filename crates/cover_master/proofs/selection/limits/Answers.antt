use Rattle.std.proofs.Common.{◌≡◌, ◌∙◌, ◌++◌, ◌∷◌, [], ℤ, List, length, get_or, sym, ap, subst, arith, rules, w64, to_z, of_z, to_z-of_z, FitsSigned, length-append}
use Rattle.cover_core.specs.Plans.{number_at}
use Rattle.cover_master.specs.Candidates.{IsLimit}
use Rattle.cover_master.proofs.Limits.{limits-more}
use Rattle.cover_master.proofs.selection.limits.Goals as goal

pub loop-class-preserved : goal.loop-class-preserved
loop-class-preserved c =
    let keys = c.args.keys.now in
    let caps = c.args.caps.now in
    let class = c.loop-class.class in
    let limit : ℤ = to_z w64 (of_z w64 c.in_ok-limit.limit) in
    let fits : FitsSigned w64 c.in_ok-limit.limit = search rules in
    let P : ℤ → Type 0 = λ l. IsLimit keys class (get_or caps class 0) l in
    let here : IsLimit keys class (get_or caps class 0) limit = subst P (sym (to_z-of_z fits)) c.in_ok-limit.ensures in
    let pushed : c.push.new.self.items ≡ c.loop-class.limits.items ++ limit ∷ [] = c.in-Ok.ensures.items in
    record {
      order = omega arith;
      len = ap (λ (l : List ℤ). length l) pushed
          ∙ (omega (arith, length-append c.loop-class.limits.items (limit ∷ []), c.loop-class.invariant.len));
      are = λ k below.
          let Q : List ℤ → Type 0 = λ l. IsLimit keys k (get_or caps k 0) (number_at l k) in
          subst Q (sym pushed) (limits-more keys caps c.loop-class.limits.items limit class c.loop-class.invariant.len here
          c.loop-class.invariant.are k below);
    }
