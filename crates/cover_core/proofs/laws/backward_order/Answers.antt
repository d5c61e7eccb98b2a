use Rattle.std.proofs.Common.{inl, inr, arith}
use Rattle.std.proofs.lemmas.Int.{ints}
use Rattle.cover_core.proofs.Order.{backward_cmp_total, backward_cmp-append, IsNotAfter-append}
use Rattle.cover_core.proofs.Best.{backward_cmp-apart}
use Rattle.cover_core.proofs.laws.backward_order.Goals as goal

pub returns-clause-total : goal.returns-clause-total
returns-clause-total c = backward_cmp_total

pub returns-clause-apart : goal.returns-clause-apart
returns-clause-apart c = backward_cmp-apart

pub returns-clause-tail : goal.returns-clause-tail
returns-clause-tail c = backward_cmp-append

pub returns-clause-kept : goal.returns-clause-kept
returns-clause-kept c = λ u v more xs ys tail h.
    elim h [
      | inl less ↦ inl (omega (arith, ints))
      | inr (same, early) ↦ inr (omega (arith, ints), IsNotAfter-append xs ys tail early)
    ]
