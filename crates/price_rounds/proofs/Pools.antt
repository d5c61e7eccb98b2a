-- Columns that may be valued and lowered, and pools of them.
use Rattle.std.proofs.Common.{ℕ, ◌+◌, ◌<◌, ◌≤◌, zero, suc, true, false, Bool, cond, List, [], ◌∷◌, ◌++◌, length, get_or, arith}
use Rattle.cover_core.specs.declared.Column.{Column}
use Rattle.cover_core.specs.Cover.{Problem, Rises, AllBelow}
use Rattle.cover_core.specs.Fitting.{AreFit}
use Rattle.cover_core.specs.FirstLeast.{AreCheap}
use Rattle.cover_core.proofs.Parts.{AreColumns-push}
use Rattle.column_pool.specs.Pools.{is_refused, pool_after}
use Rattle.price_rounds.specs.Steps.{AreReady}

-- a fit column
abbrev pub IsFit : ℕ → ℕ → Column → Type 0
IsFit n k c = Rises c.items × AllBelow n c.items × (c.worth ≤ 4000000000) × (c.class < k)

fit_push : (n k : ℕ) (cs : List Column) (c : Column) → AreFit n k cs → IsFit n k c → AreFit n k (cs ++ c ∷ [])
fit_push n k [] c h f = (f, tt)
fit_push n k (d ∷ ds) c h f = (h.0, fit_push n k ds c h.1 f)

pub fit_get : (n k : ℕ) (cs : List Column) (i : ℕ) (d : Column) → i < length cs → AreFit n k cs → IsFit n k (get_or cs i d)
fit_get n k [] i d below h = absurd (omega arith)
fit_get n k (c ∷ cs) zero d below h = h.0
fit_get n k (c ∷ cs) (suc i) d below h = fit_get n k cs i d (omega arith) h.1

pub ready_after : (p : Problem) (pool : List Column) (c : Column) (cs : List Column) → AreReady p pool → AreReady p (c ∷ cs) →
    AreReady p (pool_after pool c)
ready_after p pool c cs old new = go (is_refused pool c)
  where
    go : (b : Bool) → AreReady p (cond b pool (pool ++ c ∷ []))
    go true = old
    go false = record { are = AreColumns-push p pool c old.are new.are.0; fit = fit_push p.items (length p.caps) pool c old.fit new.fit.0 }

pub ready_rest : (p : Problem) (c : Column) (cs : List Column) → AreReady p (c ∷ cs) → AreReady p cs
ready_rest p c cs h = record { are = h.are.1; fit = h.fit.1 }

pub none_ready : (p : Problem) → AreReady p []
none_ready p = record { are = tt; fit = tt }

pub fit_cheap : (n k : ℕ) (cs : List Column) → AreFit n k cs → AreCheap cs
fit_cheap n k [] h = tt
fit_cheap n k (c ∷ cs) h = (h.0.2, fit_cheap n k cs h.1)
