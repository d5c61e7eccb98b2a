-- Columns that are ready, one at a time.
use Rattle.std.proofs.Common.{◌≡◌, ℕ, pos, neg_ℤ, ◌≤ℤ◌, ◌<◌, zero, suc, List, [], ◌∷◌, ◌++◌, length, get_or, subst, sym, arith}
use Rattle.std.specs.Prelude.{slice_set}
use Rattle.cover_core.specs.declared.Column.{Column}
use Rattle.cover_core.specs.Cover.{Problem}
use Rattle.cover_core.specs.Fitting.{AreFit}
use Rattle.cover_core.specs.FirstLeast.{AreCheap, AllWithin}
use Rattle.cover_core.specs.Plans.{AreColumns, HasListedColumns}
use Rattle.cover_core.proofs.Parts.{AreColumns-get, AreColumns-push}
use Rattle.cover_core.proofs.Values.{IsWithin}
use Rattle.lagrangian_climb.specs.declared.vectors.Span.{Span}
use Rattle.lagrangian_climb.specs.Climbs.{AreSpans}
use Rattle.plan_core.specs.declared.Price.{Price}
use Rattle.price_rounds.specs.Steps.{AreReady}
use Rattle.price_rounds.proofs.Pools.{IsFit, fit_get}

fit_push : (n k : ℕ) (cs : List Column) (c : Column) → AreFit n k cs → IsFit n k c → AreFit n k (cs ++ c ∷ [])
fit_push n k [] c h f = (f, tt)
fit_push n k (d ∷ ds) c h f = (h.0, fit_push n k ds c h.1 f)

-- one column more
pub ready_push : (p : Problem) (cs : List Column) (c : Column) → AreReady p cs → AreReady p (c ∷ []) → AreReady p (cs ++ c ∷ [])
ready_push p cs c h one =
    record { are = AreColumns-push p cs c h.are one.are.0; fit = fit_push p.items (length p.caps) cs c h.fit one.fit.0 }

-- a column at a place
pub ready_at : (p : Problem) (cs : List Column) (i : ℕ) (d c : Column) → i < length cs → c ≡ get_or cs i d →
    AreReady p cs → AreReady p (c ∷ [])
ready_at p cs i d c below is h =
    let P : Column → Type 0 = λ x. AreReady p (x ∷ []) in
    subst P (sym is) (record {
      are = (AreColumns-get p cs i d below h.are, tt);
      fit =
          (fit_get p.items (length p.caps) cs i d below h.fit, tt);
    })

-- the columns of a plan
pub plan_ready : (p : Problem) (cs : List Column) → HasListedColumns p → AreColumns p cs → AreCheap cs → AreReady p cs
plan_ready p cs listed are cheap = record { are = are; fit = go cs are cheap }
  where
    go : (cs : List Column) → AreColumns p cs → AreCheap cs → AreFit p.items (length p.caps) cs
    go [] are cheap = tt
    go (c ∷ cs) are cheap = let h = listed c.class c.items c.worth are.0.1 in ((h.1, h.2, cheap.0, are.0.0), go cs are.1 cheap.1)

-- a price that is changed
pub within_set : (n : ℕ) (xs : List Price) (i : ℕ) (x : Price) → AllWithin n xs → IsWithin n x.0 → AllWithin n (slice_set xs i x)
within_set n [] i x h w = tt
within_set n (y ∷ ys) zero x h w = (w.low, w.high, h.2)
within_set n (y ∷ ys) (suc i) x h w = (h.0, h.1, within_set n ys i x h.2 w)

-- a price more
pub within_push : (n : ℕ) (xs : List Price) (x : Price) → AllWithin n xs → IsWithin n x.0 → AllWithin n (xs ++ x ∷ [])
within_push n [] x h w = (w.low, w.high, tt)
within_push n (y ∷ ys) x h w = (h.0, h.1, within_push n ys x h.2 w)

-- a span in range
pub record IsSpan (s : Span) : Type 0 where
  pub low : neg_ℤ (pos 10000000000000) ≤ℤ s.low
  pub ordered : s.low ≤ℤ s.high
  pub high : s.high ≤ℤ pos 10000000000000

pub spans_push : (ss : List Span) (s : Span) → AreSpans ss → IsSpan s → AreSpans (ss ++ s ∷ [])
spans_push [] s h w = (w.low, w.ordered, w.high, tt)
spans_push (y ∷ ys) s h w = (h.0, h.1, h.2, spans_push ys s h.3 w)

pub span_get : (ss : List Span) (i : ℕ) (d : Span) → i < length ss → AreSpans ss → IsSpan (get_or ss i d)
span_get [] i d h are = absurd (omega arith)
span_get (s ∷ ss) zero d h are = record { low = are.0; ordered = are.1; high = are.2 }
span_get (s ∷ ss) (suc i) d h are = span_get ss i d (omega arith) are.3
