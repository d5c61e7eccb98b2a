use Rattle.std.proofs.Common.{◌≡◌, ◌++◌, ◌∷◌, [], ℤ, List, Option, IfSome, sym, ◌∙◌, subst, rules, FitsSigned, w64, to_z, of_z, to_z-of_z}
use Rattle.cover_core.specs.declared.Column.{Column}
use Rattle.cover_core.specs.Plans.{number_at}
use Rattle.column_weave.specs.Woven.{AreWoven, IsWoven}
use Rattle.column_weave.proofs.Wovens.{woven-push}
use Rattle.column_weave.proofs.weaving.weave_class.Goals as goal
use Rattle.column_weave.proofs.weaving.weave_class.Goals.{then-is_gain+in_ok-woven_at+in-None, then-is_gain+in_ok-woven_at+in-Some+in_ok-push-in-Some, else-is_gain}

pub loop-group-preserved : goal.loop-group-preserved
loop-group-preserved g c =
    let p = g.C.Columns.problem c.args.problem.now in
    let prices = c.args.prices.now.items in
    let free = c.args.free.now in
    let asked = c.args.asked.now in
    let class = c.args.class in
    let P : List Column → Type 0 = λ l. AreWoven p prices free asked l in
    let fits : FitsSigned w64 c.asked_at-asked.result = search rules in
    let z : ℤ = to_z w64 (of_z w64 c.asked_at-asked.result) in
    let asks : z ≡ number_at asked class = to_z-of_z fits ∙ c.asked_at-asked.ensures.value in
    elim c.if-is_gain.branch [
      | then-is_gain+in_ok-woven_at+in-None w ↦ subst P (sym w.woven-is) c.loop-group.invariant
      | then-is_gain+in_ok-woven_at+in-Some+in_ok-push-in-Some w ↦
          let S : Option Column → Type 0 = λ o. IfSome o (IsWoven p prices class z) in
          let is : IsWoven p prices class z w.in-Some.column = subst S w.in-Some.is w.in_ok-woven_at.ensures in
          let pushed : w.push.new.self ≡ c.loop-group.woven ++ w.in-Some.column ∷ [] = w.in_ok-push-in-Some.ensures.ok in
          subst P (sym w.woven-is)
          (woven-push p prices free asked class z c.loop-group.woven w.push.new.self w.in-Some.column c.requires.place asks is
          pushed c.loop-group.invariant)
      | else-is_gain w ↦ subst P (sym w.woven-is) c.loop-group.invariant
    ]
