-- Lists that are the same but for their worths.
use Rattle.std.proofs.Common.{◌≡◌, ℕ, ◌<◌, List, [], ◌∷◌, length, zero, suc, refl, sym, ap, ◌∙◌, subst, arith}
use Rattle.std.specs.Prelude.{Some, slice_get}
use Rattle.std.proofs.lemmas.Option.{same_Some}
use Rattle.cover_core.specs.declared.Column.{Column}
use Rattle.cover_core.specs.Cover.{Problem}
use Rattle.cover_core.specs.Plans.{AreColumns, IsColumn, times, all_items, all_classes}
use Rattle.cover_core.specs.Laws.{CountDuality}
use Rattle.cover_core.specs.Plans.{WeakDuality}
use Rattle.plan_check.specs.declared.verdict.PlanVerdict.{PlanVerdict}
use Rattle.plan_check.specs.declared.verdict.PlanVerdict.TheVariants.{Lawful, Times, Unlawful, Over}
use Rattle.plan_check.specs.Verdicts.{HaveSameLists, HasWorth, PlansAreFound}
use Rattle.plan_check.specs.Shown.{ShowsPlans}

pub same-items : (as' bs : List Column) → HaveSameLists as' bs → all_items as' ≡ all_items bs
same-items [] [] h = refl
same-items [] (b ∷ bs) h = absurd h
same-items (a ∷ as') [] h = absurd h
same-items (a ∷ as') (b ∷ bs) h = let rest = same-items as' bs h.2 in let head = h.1 in rw (head, rest) refl

pub same-classes : (as' bs : List Column) → HaveSameLists as' bs → all_classes as' ≡ all_classes bs
same-classes [] [] h = refl
same-classes [] (b ∷ bs) h = absurd h
same-classes (a ∷ as') [] h = absurd h
same-classes (a ∷ as') (b ∷ bs) h = let rest = same-classes as' bs h.2 in let head = h.0 in rw (head, rest) refl

-- a list that is the same as a column of the problem has a worth
column-worth : (p : Problem) (a b : Column) → a.class ≡ b.class → a.items ≡ b.items → IsColumn p b → HasWorth p a
column-worth p a b class items column =
    let there : a.class < length p.caps = (let below = column.0 in omega arith) in
    (there, b.worth, ap (λ k. p.worth k a.items) class ∙ (ap (λ xs. p.worth b.class xs) items ∙ column.1))

-- so a list at a place has a worth where the lists are the same as columns
pub worth-at : (p : Problem) (as' bs : List Column) (place : ℕ) (list : Column) → HaveSameLists as' bs → AreColumns p bs →
    slice_get as' place ≡ Some list → HasWorth p list
worth-at p [] [] place list h columns at = absurd (cc)
worth-at p [] (b ∷ bs) place list h columns at = absurd h
worth-at p (a ∷ as') [] place list h columns at = absurd h
worth-at p (a ∷ as') (b ∷ bs) zero list h columns at =
    let P : Column → Type 0 = λ c. HasWorth p c in
    subst P (same_Some a list at) (column-worth p a b h.0 h.1 columns.0)
worth-at p (a ∷ as') (b ∷ bs) (suc place) list h columns at = worth-at p as' bs place list h.2 columns.1 at

-- lists that are the same as the columns of two plans: their classes and items are the same, and so the problem gives them the same worths
one-column : (p : Problem) (l a b : Column) → l.class ≡ a.class → l.items ≡ a.items → l.class ≡ b.class → l.items ≡ b.items →
    p.worth a.class a.items ≡ Some a.worth → p.worth b.class b.items ≡ Some b.worth → a ≡ b
one-column p l a b ca ia cb ib wa wb =
    let class : a.class ≡ b.class = sym ca ∙ cb in
    let items : a.items ≡ b.items = sym ia ∙ ib in
    let worth : a.worth ≡ b.worth =
    same_Some a.worth b.worth (sym wa ∙ (ap (λ k. p.worth k a.items) class ∙ (ap (λ xs. p.worth b.class xs) items ∙ wb))) in
    let make : ℕ → ℕ → List ℕ → Column = λ c w is. record { class = c; worth = w; items = is } in
    ap (λ c. make c a.worth a.items) class ∙ (ap (λ w. make b.class w a.items) worth ∙ ap (λ is. make b.class b.worth is) items)

-- Lists are those of one plan at most: classes and items are given, and the problem gives the worths.
one-plan : (p : Problem) (lists as' bs : List Column) → HaveSameLists lists as' → HaveSameLists lists bs → AreColumns p as' →
    AreColumns p bs → as' ≡ bs
one-plan p [] [] [] h k ca cb = refl
one-plan p [] [] (b ∷ bs) h k ca cb = absurd k
one-plan p [] (a ∷ as') bs h k ca cb = absurd h
one-plan p (l ∷ ls) [] bs h k ca cb = absurd h
one-plan p (l ∷ ls) (a ∷ as') [] h k ca cb = absurd k
one-plan p (l ∷ ls) (a ∷ as') (b ∷ bs) h k ca cb =
    let rest = one-plan p ls as' bs h.2 k.2 ca.1 cb.1 in
    let head = one-column p l a b h.0 h.1 k.0 k.1 ca.0.1 cb.0.1 in
    cc

-- The lists of a plan have one verdict, that they are this plan: every other verdict names an item that stands once after all, a
-- list that has a worth, or a class within its cap. So the checker never refuses a plan.
pub plans-found : (p : Problem) → PlansAreFound p
plans-found p lists plan (Lawful found) same is_plan verdict =
    let columns = one-plan p lists found.columns plan verdict.0 same verdict.1.worths is_plan.worths in
    let make : List Column → PlanVerdict = λ cs. Lawful (record { columns = cs }) in
    ap make columns
plans-found p lists plan (Times item count) same is_plan verdict =
    let items = same-items lists plan same in
    absurd (verdict.other (sym verdict.count_is ∙ (ap (times item) items ∙ is_plan.once item verdict.there)))
plans-found p lists plan (Unlawful place) same is_plan verdict =
    let found = verdict.1 in
    absurd (found.none (worth-at p lists plan place found.list same is_plan.worths found.at))
plans-found p lists plan (Over class used) same is_plan verdict =
    let found = verdict.2 in
    let classes = same-classes lists plan same in
    let e : times class (all_classes lists) ≡ times class (all_classes plan) = ap (times class) classes in
    let used_is = found.used_is in
    let cap = is_plan.caps class found.there in
    let over = found.over in
    absurd (omega arith)

-- A plan with paid prices shows that no plan is smaller or cheaper than the bounds: duality says so of the bounds of these prices,
-- and the given ones are at most those. Nothing is asked of where plan and prices come from.
pub shows : (p : Problem) → WeakDuality p → CountDuality p → ShowsPlans p
shows p weak count counted plan prices prices' class_prices class_prices' fewest cheapest is_count is_plan counted_paid paid low low' =
    record {
      is_plan = is_plan;
      number = λ other is.
          let items = counted_paid.items ∙ is_count.items in
          let classes = counted_paid.classes ∙ ap length is_count.caps in
          let bound = count counted prices class_prices is_count items classes counted_paid.paid other is in
          omega arith;
      costs = λ other is. let bound = weak prices' class_prices' paid.items paid.classes paid.paid other is in omega arith;
    }
