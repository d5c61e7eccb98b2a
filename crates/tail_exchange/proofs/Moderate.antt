-- Worths stay moderate where a step is made.
use Rattle.std.proofs.Common.{◌≡◌, ◌==◌, ℕ, ◌+◌, ◌<◌, true, false, cond, zero, suc, List, [], ◌∷◌, ◌++◌, length, get_or, take, refl, sym, ap, ◌∙◌, arith}
use Rattle.std.proofs.Math.ListN.{set}
use Rattle.std.proofs.lemmas.List.{take_more}
use Rattle.cover_core.specs.declared.Column.{Column}
use Rattle.cover_core.specs.Plans.{times, all_classes}
use Rattle.cover_core.specs.FirstLeast.{AreCheap}
use Rattle.cover_core.proofs.Parts.{placed-push}
use Rattle.tail_exchange.specs.Exchange.{has_any, without_empty}

pub AreCheap-without : (cs : List Column) → AreCheap cs → AreCheap (without_empty cs)
AreCheap-without [] h = tt
AreCheap-without (c ∷ cs) h =
    elim (has_any c.items) as (λ t. AreCheap (cond t (c ∷ without_empty cs) (without_empty cs))) [
      | true ↦
          (h.0, AreCheap-without cs h.1)
      | false ↦ AreCheap-without cs h.1
    ]

-- a column put in before another is put behind
pub set-push : (cs : List Column) (k : ℕ) (c d : Column) → k < length cs → set (cs ++ d ∷ []) k c ≡ set cs k c ++ d ∷ []
set-push [] k c d h = absurd (omega arith)
set-push (x ∷ xs) zero c d h = refl
set-push (x ∷ xs) (suc k) c d h = ap (λ l. x ∷ l) (set-push xs k c d (omega arith))

-- one more column is counted
pub counted-more : (class : ℕ) (plan : List Column) (k : ℕ) (c : Column) → k < length plan → c ≡ get_or plan k c →
    times class (all_classes (take (k + 1) plan)) ≡ times class (all_classes (take k plan)) + cond (class == c.class) 1 0
counted-more class plan k c h is =
    ap (λ l. times class (all_classes l)) (take_more plan k c h) ∙ placed-push class (take k plan) (get_or plan k c) ∙
    ap (λ (d : Column). times class (all_classes (take k plan)) + cond (class == d.class) 1 0) (sym is)
