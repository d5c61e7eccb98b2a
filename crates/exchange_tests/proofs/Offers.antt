-- A pool of a problem's columns stays one where a column of the problem is offered to it.
use Rattle.std.proofs.Common.{◌≡◌, ◌≤◌, Bool, true, false, cond, List, [], ◌∷◌, ◌++◌, Result, Ok, Err, IfOk, OnOk, sym, subst}
use Rattle.plan_core.specs.declared.Memory.{Memory}
use Rattle.cover_core.specs.declared.Column.{Column}
use Rattle.cover_core.specs.Cover.{Problem}
use Rattle.cover_core.specs.Plans.{IsColumn, AreColumns}
use Rattle.cover_core.specs.FirstLeast.{AreCheap}
use Rattle.cover_core.proofs.Parts.{AreColumns-push}
use Rattle.column_pool.specs.Pools.{is_refused, pool_after}
use Rattle.plan_round.proofs.Counts.{AreCheap-push}

-- A pool that is offered a column either refuses it and stays as it is, or has it as its last member. In both cases each member is a
-- column of the problem, so pools of tests that begin empty and are only offered columns may be handed to rounding.
pub AreColumns-pool_after : (p : Problem) (pool : List Column) (c : Column) → AreColumns p pool → IsColumn p c →
    AreColumns p (pool_after pool c)
AreColumns-pool_after p pool c h is =
    elim (is_refused pool c) as (λ t. AreColumns p (cond t pool (pool ++ c ∷ []))) [ true ↦ h | false ↦ AreColumns-push p pool c h is ]

pub AreCheap-pool_after : (pool : List Column) (c : Column) → AreCheap pool → c.worth ≤ 4000000000 → AreCheap (pool_after pool c)
AreCheap-pool_after pool c h cheap =
    elim (is_refused pool c) as (λ t. AreCheap (cond t pool (pool ++ c ∷ []))) [ true ↦ h | false ↦ AreCheap-push pool c h cheap ]

pub columns_if : (p : Problem) (old : List Column) (c : Column) (new : List Column) (result : Result Bool Memory) →
    AreColumns p old → IsColumn p c →
    IfOk result (λ added. new ≡ pool_after old c) → OnOk result (AreColumns p new)
columns_if p old c new (Ok added) h is after = subst (AreColumns p) (sym after) (AreColumns-pool_after p old c h is)
columns_if p old c new (Err e) h is after = after

pub cheap_if : (old : List Column) (c : Column) (new : List Column) (result : Result Bool Memory) → AreCheap old → c.worth ≤ 4000000000 →
    IfOk result (λ added. new ≡ pool_after old c) → OnOk result (AreCheap new)
cheap_if old c new (Ok added) h cheap after = subst AreCheap (sym after) (AreCheap-pool_after old c h cheap)
cheap_if old c new (Err e) h cheap after = after
