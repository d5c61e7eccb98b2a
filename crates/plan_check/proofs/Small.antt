-- The lists of a plan that was found are few and cheap: a plan has no more lists than the problem has items, and each of its lists has the
-- worth that the problem gives it.
use Rattle.std.proofs.Common.{◌≡◌, ℕ, ◌≤◌, Bool, true, false, cond, nat_lt, List, [], ◌∷◌, length, map, refl, sym, subst, arith}
use Rattle.std.proofs.lemmas.Bool.Decides.{nat_tests}
use Rattle.std.specs.Prelude.{Option, Some, None, IfSome, Result, Ok, Err, IfOk, unwrap_or}
use Rattle.cover_core.specs.declared.Column.{Column}
use Rattle.cover_core.specs.Cover.{Problem}
use Rattle.cover_core.specs.FirstLeast.{AreCheap}
use Rattle.cover_core.specs.Plans.{HasListedColumns}
use Rattle.cover_core.specs.Ranges.{HasModestWorths}
use Rattle.cover_core.proofs.Counts.{has_few_columns}
use Rattle.plan_check.specs.declared.verdict.PlanVerdict.{PlanVerdict}
use Rattle.plan_check.specs.declared.verdict.PlanVerdict.TheVariants.{Lawful, Times, Unlawful, Over}
use Rattle.plan_check.specs.Judged.{verdict_of, with_worth}
use Rattle.plan_check.specs.Verdicts.{HasFewLists, IsVerdict}
use Rattle.plan_check.proofs.Decided.{verdict-is}

few-found : (p : Problem) (lists : List Column) (v : PlanVerdict) → HasListedColumns p → p.items ≤ 3000 →
    IsVerdict p lists v → HasFewLists v
few-found p lists (Lawful plan) listed few is = omega (arith, few, has_few_columns p listed plan.columns is.1)
few-found p lists (Times item count) listed few is = tt
few-found p lists (Unlawful place) listed few is = tt
few-found p lists (Over class used) listed few is = tt

-- so the computed verdict names few lists
pub few-judged : {E : Type 0} (p : Problem) (lists : List Column) (r : Result PlanVerdict E) → HasListedColumns p → p.items ≤ 3000 →
    IfOk r (λ verdict. verdict ≡ verdict_of p lists) → IfOk r HasFewLists
few-judged p lists (Ok v) listed few is =
    subst HasFewLists (sym is) (few-found p lists (verdict_of p lists) listed few (verdict-is p lists))
few-judged p lists (Err e) listed few is = tt

or-zero : (o : Option ℕ) → IfSome o (λ worth. worth ≤ 4000000000) → unwrap_or o 0 ≤ 4000000000
or-zero None modest = omega arith
or-zero (Some worth) modest = modest

with-cheap : (p : Problem) (c : Column) → HasModestWorths p → (with_worth p c).worth ≤ 4000000000
with-cheap p c modest = by (nat_lt c.class (length p.caps)) refl
  where
    by : (t : Bool) → nat_lt c.class (length p.caps) ≡ t → unwrap_or (cond t (p.worth c.class c.items) None) 0 ≤ 4000000000
    by true there = or-zero (p.worth c.class c.items) (modest c.class c.items (grind (arith, nat_tests)))
    by false off = omega arith

pub all-cheap : (p : Problem) (lists : List Column) → HasModestWorths p → AreCheap (map (with_worth p) lists)
all-cheap p [] modest = tt
all-cheap p (c ∷ cs) modest = (with-cheap p c modest, all-cheap p cs modest)
