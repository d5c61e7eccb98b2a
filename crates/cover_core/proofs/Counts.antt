-- How many columns a plan has.
use Rattle.std.proofs.Common.{◌≡◌, ℕ, ℤ, pos, ◌*ℤ◌, ◌≤ℤ◌, ◌+◌, ◌<◌, ◌≤◌, zero, suc, List, [], ◌∷◌, ◌++◌, length, get_or, sum, refl, ap, sym, ◌∙◌, subst, arith, length-append}
use Rattle.std.proofs.lemmas.Int.{ints}
use Rattle.std.proofs.lemmas.List.Sums.{sum_by-cons}
use Rattle.cover_core.specs.declared.Column.{Column}
use Rattle.cover_core.specs.Cover.{Problem, AllBelow}
use Rattle.cover_core.specs.Plans.{HasListedColumns, AreColumns, times, all_items, all_classes, cost, IsPlan, bound_of}
use Rattle.cover_core.specs.Laws.{IsCountOf, HasFewColumns, KeepsCaps, CountDuality, NoPlanAbove}
use Rattle.cover_core.proofs.Sums.{sum_first, sum_each, sum_first-same, sum_first-mono, sum_first-front, sum_each-times, product-mono}
use Rattle.cover_core.proofs.Duality.{all_items-below, all_classes-below, weak_duality-below}

-- one for each
abbrev one_each : ℕ → ℤ
one_each i = pos 1

one_each-length : (xs : List ℕ) → sum_each one_each xs ≡ pos (length xs)
one_each-length [] = refl
one_each-length (x ∷ xs) = omega (arith, ints, one_each-length xs)

one_each-first : (n : ℕ) → sum_first one_each n ≡ pos n
one_each-first zero = refl
one_each-first (suc n) = omega (arith, ints, one_each-first n)

all_classes-length : (columns : List Column) → length (all_classes columns) ≡ length columns
all_classes-length [] = refl
all_classes-length (c ∷ cs) = omega (arith, all_classes-length cs)

not_empty : (xs : List ℕ) → (xs ≡ [] → ⊥) → 1 ≤ length xs
not_empty [] h = absurd (h refl)
not_empty (x ∷ xs) h = omega arith

all_items-length : (p : Problem) (columns : List Column) → HasListedColumns p → AreColumns p columns →
    length columns ≤ length (all_items columns)
all_items-length p [] listed h = omega arith
all_items-length p (c ∷ cs) listed h =
    let some = not_empty c.items (listed c.class c.items c.worth h.0.1).0 in
    let rest = all_items-length p cs listed h.1 in
    let both : length (c.items ++ all_items cs) ≡ length c.items + length (all_items cs) = length-append c.items (all_items cs) in
    omega arith

-- No plan has more columns than items: no column is empty, so there are at most as many columns as items in all of them; and the
-- items of all columns, counted by item, are each there once.
pub has_few_columns : (p : Problem) → HasListedColumns p → HasFewColumns p
has_few_columns p listed columns plan =
    let below : AllBelow p.items (all_items columns) = all_items-below p columns listed plan.worths in
    let spread : sum_each one_each (all_items columns) ≡ sum_first (λ i. pos (times i (all_items columns)) *ℤ one_each i) p.items =
    sum_each-times one_each p.items (all_items columns) below in
    let once : sum_first (λ i. pos (times i (all_items columns)) *ℤ one_each i) p.items ≡ sum_first one_each p.items =
    sum_first-same _ _ _ (λ i h. let one : times i (all_items columns) ≡ 1 = plan.once i h in rw one (omega (arith, ints))) in
    let many = all_items-length p columns listed plan.worths in
    omega (arith, ints, one_each-length (all_items columns), one_each-first p.items)

sum-first : (caps : List ℕ) → sum_first (λ k. pos (get_or caps k 0) *ℤ one_each k) (length caps) ≡ pos (sum caps)
sum-first [] = refl
sum-first (cap ∷ caps) =
    omega (
      arith,
      ints,
      sum-first caps,
      sum_first-front (λ k. pos (get_or (cap ∷ caps) k 0) *ℤ one_each k) (length caps),
      sum_by-cons (λ (n : ℕ). n) cap caps,
    )

pub keeps_caps : (p : Problem) → KeepsCaps p
keeps_caps p columns plan =
    let below : AllBelow (length p.caps) (all_classes columns) = all_classes-below p columns plan.worths in
    let places : sum_each one_each (all_classes columns) ≡ sum_first (λ k. pos (times k (all_classes columns)) *ℤ one_each k)
    (length p.caps) = sum_each-times one_each (length p.caps) (all_classes columns) below in
    let capped : sum_first (λ k. pos (times k (all_classes columns)) *ℤ one_each k) (length p.caps) ≤ℤ sum_first
    (λ k. pos (get_or p.caps k 0) *ℤ one_each k) (length p.caps) =
    sum_first-mono _ _ _ (λ k h. product-mono (times k (all_classes columns)) (get_or p.caps k 0) (one_each k)
    (plan.caps k h) (omega (arith, ints))) in
    omega (arith, ints, one_each-length (all_classes columns), all_classes-length columns, sum-first p.caps)

-- the columns with each worth 1
abbrev counted_columns : List Column → List Column
counted_columns [] = []
counted_columns (c ∷ cs) = record { class = c.class; worth = 1; items = c.items } ∷ counted_columns cs

counted-items : (cs : List Column) → all_items (counted_columns cs) ≡ all_items cs
counted-items [] = refl
counted-items (c ∷ cs) = ap (λ l. c.items ++ l) (counted-items cs)

counted-classes : (cs : List Column) → all_classes (counted_columns cs) ≡ all_classes cs
counted-classes [] = refl
counted-classes (c ∷ cs) = ap (λ l. c.class ∷ l) (counted-classes cs)

counted-cost : (cs : List Column) → cost (counted_columns cs) ≡ length cs
counted-cost [] = refl
counted-cost (c ∷ cs) = omega (arith, counted-cost cs)

counted-are : (p q : Problem) (cs : List Column) → IsCountOf p q → AreColumns p cs → AreColumns q (counted_columns cs)
counted-are p q [] count h = tt
counted-are p q (c ∷ cs) count h = (
  (
    (let P : List ℕ → Type 0 = λ caps. c.class < length caps in subst P (sym count.caps) h.0.0),
    count.one c.class c.items c.worth h.0.1,
  ),
  counted-are p q cs count h.1,
)

counted-plan : (p q : Problem) (cs : List Column) → IsCountOf p q → IsPlan p cs → IsPlan q (counted_columns cs)
counted-plan p q cs count plan = record {
  worths = counted-are p q cs count plan.worths;
  once = λ item below. rw (counted-items cs) (plan.once item (let P : ℕ → Type 0 = λ n. item < n in subst P count.items below));
  caps = λ class below. rw (counted-classes cs, count.caps)
      (plan.caps class (let P : List ℕ → Type 0 = λ caps. class < length caps in subst P count.caps below));
}

-- The columns of a plan, each taken as worth 1, are a plan of the problem that counts, and it costs their number: so weak duality
-- there is a bound on how many columns a plan has. What is a column does not change, so the bound on vehicles or drivers holds of
-- plans with costs.
pub count_duality : (p : Problem) → HasListedColumns p → CountDuality p
count_duality p listed q prices zs count prices-length zs-length paid columns plan =
    let below : AllBelow q.items (all_items (counted_columns columns)) =
    rw (counted-items columns, count.items) (all_items-below p columns listed plan.worths) in
    let bound : bound_of prices zs q.caps ≤ cost (counted_columns columns) =
    weak_duality-below q prices zs (prices-length ∙ sym count.items) (zs-length ∙ ap length (sym count.caps)) paid (counted_columns columns)
    below (counted-plan p q columns count plan) in
    let here : bound_of prices zs p.caps ≡ bound_of prices zs q.caps = ap (bound_of prices zs) (sym count.caps) in
    omega (arith, counted-cost columns)

pub no_plan_above : (p : Problem) → HasListedColumns p → NoPlanAbove p
no_plan_above p listed q prices zs count prices-length zs-length paid above columns plan =
    let many = count_duality p listed q prices zs count prices-length zs-length paid columns plan in
    let few = keeps_caps p columns plan in
    omega arith
