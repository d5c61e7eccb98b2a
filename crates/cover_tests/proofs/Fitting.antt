-- Columns stay fit to be valued where a fit column is put to them.
use Rattle.std.proofs.Common.{◌≡◌, ◌≤◌, ◌<◌, ℕ, Bool, true, false, cond, List, [], ◌∷◌, ◌++◌, Result, Ok, Err, IfOk, OnOk, sym, subst}
use Rattle.plan_core.specs.declared.Memory.{Memory}
use Rattle.cover_core.specs.declared.Column.{Column}
use Rattle.cover_core.specs.Cover.{Rises, AllBelow}
use Rattle.cover_core.specs.Fitting.{AreFit}
use Rattle.cover_core.proofs.Fits.{IsFit}
use Rattle.column_pool.specs.Pools.{is_refused, pool_after}

-- a column is fit where its parts are
pub IsFit-made : (n k : ℕ) (c : Column) (class worth : ℕ) (list : List ℕ) → c.class ≡ class → c.worth ≡ worth → c.items ≡ list →
    class < k → worth ≤ 4000000000 → Rises list → AllBelow n list → IsFit n k c
IsFit-made n k c class worth list class_is worth_is items_is low cheap rises items =
    let P : List ℕ → Type 0 = λ l. Rises l in
    let Q : List ℕ → Type 0 = λ l. AllBelow n l in
    let R : ℕ → Type 0 = λ x. x ≤ 4000000000 in
    let S : ℕ → Type 0 = λ x. x < k in
    record {
      rises = subst P (sym items_is) rises;
      items = subst Q (sym items_is) items;
      cheap = subst R (sym worth_is) cheap;
      class = subst S (sym class_is) low;
    }

pub AreFit-push : (n k : ℕ) (cs : List Column) (c : Column) → AreFit n k cs → IsFit n k c → AreFit n k (cs ++ c ∷ [])
AreFit-push n k [] c h f = ((f.rises, f.items, f.cheap, f.class), tt)
AreFit-push n k (d ∷ ds) c h f = (h.0, AreFit-push n k ds c h.1 f)

-- A pool refuses a column or takes it as its last; either way its members can be valued without leaving 64 bits, if they could before
-- and the column can. So the pools that tests build column by column satisfy what valuing them asks.
pub AreFit-pool_after : (n k : ℕ) (pool : List Column) (c : Column) → AreFit n k pool → IsFit n k c → AreFit n k (pool_after pool c)
AreFit-pool_after n k pool c h f =
    elim (is_refused pool c) as (λ t. AreFit n k (cond t pool (pool ++ c ∷ []))) [ true ↦ h | false ↦ AreFit-push n k pool c h f ]

-- so it is after an addition, whatever the answer
pub fits_if : (n k : ℕ) (old : List Column) (c : Column) (new : List Column) (result : Result Bool Memory) → AreFit n k old → IsFit n k c →
    IfOk result (λ added. new ≡ pool_after old c) → OnOk result (AreFit n k new)
fits_if n k old c new (Ok added) h f is =
    let P : List Column → Type 0 = λ l. AreFit n k l in subst P (sym is) (AreFit-pool_after n k old c h f)
fits_if n k old c new (Err e) h f is = is
