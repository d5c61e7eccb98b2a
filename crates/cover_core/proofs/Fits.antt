-- Columns that fit, one at a time.
use Rattle.std.proofs.Common.{◌≡◌, ℕ, ◌<◌, ◌≤◌, zero, suc, List, [], ◌∷◌, length, get_or, sym, subst, arith}
use Rattle.cover_core.specs.declared.Column.{Column}
use Rattle.cover_core.specs.Cover.{Rises, AllBelow}
use Rattle.cover_core.specs.Fitting.{AreFit}

pub record IsFit (n k : ℕ) (c : Column) : Type 0 where
  pub rises : Rises c.items
  pub items : AllBelow n c.items
  pub cheap : c.worth ≤ 4000000000
  pub class : c.class < k

pub fit-get : (n k : ℕ) (cs : List Column) (i : ℕ) (d : Column) → i < length cs → AreFit n k cs → IsFit n k (get_or cs i d)
fit-get n k [] i d h f = absurd (omega arith)
fit-get n k (c ∷ cs) zero d h f = record { rises = f.0.0; items = f.0.1; cheap = f.0.2; class = f.0.3 }
fit-get n k (c ∷ cs) (suc i) d h f = fit-get n k cs i d (omega arith) f.1

pub fit-at : (n k : ℕ) (cs : List Column) (i : ℕ) (c : Column) → i < length cs → c ≡ get_or cs i c → AreFit n k cs → IsFit n k c
fit-at n k cs i c h e f = subst (IsFit n k) (sym e) (fit-get n k cs i c h f)

pub AreFit-wider : (n k m : ℕ) (cs : List Column) → k ≤ m → AreFit n k cs → AreFit n m cs
AreFit-wider n k m [] h f = tt
AreFit-wider n k m (c ∷ cs) h f =
    let below = f.0.3 in let class : c.class < m = omega arith in ((f.0.0, f.0.1, f.0.2, class), AreFit-wider n k m cs h f.1)
