use Rattle.std.proofs.Common.{◌≡◌, ℕ, ℤ, ◌<◌, ◌≤◌, List, length, Option, Some, None, Result, Ok, Err, IfOk, IfSome, sym, subst}
use Rattle.std.proofs.lemmas.Int.{to_z-of_z}
use Rattle.plan_core.specs.declared.Memory.{Memory}
use Rattle.plan_core.specs.declared.Price.{Price}
use Rattle.cover_core.specs.declared.Column.{Column}
use Rattle.cover_core.specs.Cover.{Problem, AllBelow}
use Rattle.cover_core.specs.Best.{best_of, within}
use Rattle.cover_core.specs.Laws.{BestIsFirstLeast, BestIsFitting}
use Rattle.worker_price.specs.Work.{IsSound}
use Rattle.worker_price.proofs.Limits.{within_some}
use Rattle.worker_price.proofs.worker.best.Goals as goal

sound_column : (p : Problem) (prices : List Price) (class group : ℕ) (limit : ℤ) (o : Option Column) → BestIsFirstLeast p →
    BestIsFitting p → class < length p.caps → length prices ≡ p.items
    → o ≡ within limit prices (best_of p prices class group) → IfSome o (λ (c : Column). c.worth ≤ 4000000000) →
    IfSome o (IsSound prices class)
sound_column p prices class group limit None best fitting small long is cheap = tt
sound_column p prices class group limit (Some c) best fitting small long is cheap =
    let first = (best prices class group small).is_first_least c (within_some prices limit (best_of p prices class group) c (sym is)) in
    let fit = fitting prices class group c first in
    record { of_class = fit.of_class; rises = fit.rises; items = subst (λ (n : ℕ). AllBelow n c.items) (sym long) fit.items; cheap = cheap }

sound_answer : (p : Problem) (prices : List Price) (class group : ℕ) (limit : ℤ) (r : Result (Option Column) Memory) → BestIsFirstLeast p →
    BestIsFitting p → class < length p.caps → length prices ≡ p.items
    → IfOk r (λ o. o ≡ within limit prices (best_of p prices class group)) → IfOk r (λ o. IfSome o (λ (c : Column). c.worth ≤ 4000000000)) →
    IfOk r (λ o. IfSome o (IsSound prices class))
sound_answer p prices class group limit (Ok o) best fitting small long is cheap =
    sound_column p prices class group limit o best fitting small long is cheap
sound_answer p prices class group limit (Err e) best fitting small long is cheap = tt

pub returns-clause-sound : goal.returns-clause-sound
returns-clause-sound g c =
    let fits = c.ranges.limit in
    sound_answer (g.P.Columns.problem c.args.pricer.now) c.args.prices.now.items c.args.class c.args.group c.args.limit c.best.result
    (c.best_is_first_least.ensures.best c.args.pricer.now) (c.best_is_first_least.ensures.fitting c.args.pricer.now)
    c.requires.class c.requires.prices.0
    (simp to_z-of_z at c.best.ensures.best) c.best.ensures.bound
