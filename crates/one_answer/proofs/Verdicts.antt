-- Lists have one verdict.
use Rattle.std.proofs.Common.{◌≡◌, ℕ, ◌≤◌, List, length, sym, ap, ◌∙◌, arith}
use Rattle.std.specs.Prelude.{Some, slice_get, slice_index}
use Rattle.cover_core.specs.declared.Column.{Column}
use Rattle.cover_core.specs.Cover.{Problem}
use Rattle.cover_core.specs.Plans.{times, all_classes, all_items}
use Rattle.plan_check.specs.declared.verdict.PlanVerdict.{PlanVerdict}
use Rattle.plan_check.specs.declared.verdict.PlanVerdict.TheVariants.{Lawful, Times, Unlawful, Over}
use Rattle.plan_check.specs.Verdicts.{EachOnce, HasWorth, HaveWorths, IsFirstOver, IsFirstTimes, IsFirstUnlawful, IsVerdict}
use Rattle.plan_check.proofs.Lists.{plans-found}
use Rattle.one_answer.proofs.Firsts.{one-first, place-there}

pub one-times : (number : ℕ) (lists : List Column) (item count item' count' : ℕ) → IsFirstTimes number lists item count →
    IsFirstTimes number lists item' count' → Times item count ≡ Times item' count'
one-times number lists item count item' count' h k =
    let P : ℕ → Type 0 = λ n. times n (all_items lists) ≡ 1 in
    let items = one-first P item item' h.first (λ one. h.other (sym h.count_is ∙ one)) k.first (λ one. k.other (sym k.count_is ∙ one)) in
    let counts : count ≡ count' = sym h.count_is ∙ (ap (λ n. times n (all_items lists)) items ∙ k.count_is) in
    cc

pub one-unlawful : (p : Problem) (lists : List Column) (place place' : ℕ) → IsFirstUnlawful p lists place → IsFirstUnlawful p lists place' →
    Unlawful place ≡ Unlawful place'
one-unlawful p lists place place' h k =
    let P : ℕ → Type 0 = λ n. (list : Column) → slice_get lists n ≡ Some list → HasWorth p list in
    ap Unlawful
    (one-first P place place' (λ n below list at. h.first n list below at) (λ all. h.none (all h.list h.at))
    (λ n below list at. k.first n list below at) (λ all. k.none (all k.list k.at)))

one-over : (p : Problem) (lists : List Column) (class used class' used' : ℕ) → IsFirstOver p lists class used →
    IsFirstOver p lists class' used' → Over class used ≡ Over class' used'
one-over p lists class used class' used' h k =
    let P : ℕ → Type 0 = λ n. times n (all_classes lists) ≤ slice_index p.caps n in
    let fails : P class → ⊥ = λ low. let is = h.used_is in let over = h.over in omega arith in
    let fails' : P class' → ⊥ = λ low. let is = k.used_is in let over = k.over in omega arith in
    let classes = one-first P class class' h.first fails k.first fails' in
    let counts : used ≡ used' = sym h.used_is ∙ (ap (λ n. times n (all_classes lists)) classes ∙ k.used_is) in
    cc

-- where each item stands once, none is the first that does not
pub not-times : (number : ℕ) (lists : List Column) (item count : ℕ) → EachOnce number lists → IsFirstTimes number lists item count → ⊥
not-times number lists item count stand is = is.other (sym is.count_is ∙ stand item is.there)

-- where each list has a worth, none is the first that has not
pub not-unlawful : (p : Problem) (lists : List Column) (place : ℕ) → HaveWorths p lists (length lists) → IsFirstUnlawful p lists place → ⊥
not-unlawful p lists place worths is = is.none (worths place is.list (place-there lists place is.list is.at) is.at)

-- A plan is the only verdict on its lists; the first item, list or class is one, and the later verdicts say that the earlier are not met.
pub one-verdict : (p : Problem) (lists : List Column) (v w : PlanVerdict) → IsVerdict p lists v → IsVerdict p lists w → v ≡ w
one-verdict p lists (Lawful plan) w h k = sym (plans-found p lists plan.columns w h.0 h.1 k)
one-verdict p lists (Times item count) (Lawful plan) h k = plans-found p lists plan.columns (Times item count) k.0 k.1 h
one-verdict p lists (Times item count) (Times item' count') h k = one-times p.items lists item count item' count' h k
one-verdict p lists (Times item count) (Unlawful place) h k = absurd (not-times p.items lists item count k.0 h)
one-verdict p lists (Times item count) (Over class used) h k = absurd (not-times p.items lists item count k.0 h)
one-verdict p lists (Unlawful place) (Lawful plan) h k = plans-found p lists plan.columns (Unlawful place) k.0 k.1 h
one-verdict p lists (Unlawful place) (Times item count) h k = absurd (not-times p.items lists item count h.0 k)
one-verdict p lists (Unlawful place) (Unlawful place') h k = one-unlawful p lists place place' h.1 k.1
one-verdict p lists (Unlawful place) (Over class used) h k = absurd (not-unlawful p lists place k.1 h.1)
one-verdict p lists (Over class used) (Lawful plan) h k = plans-found p lists plan.columns (Over class used) k.0 k.1 h
one-verdict p lists (Over class used) (Times item count) h k = absurd (not-times p.items lists item count h.0 k)
one-verdict p lists (Over class used) (Unlawful place) h k = absurd (not-unlawful p lists place h.1 k.1)
one-verdict p lists (Over class used) (Over class' used') h k = one-over p lists class used class' used' h.2 k.2
