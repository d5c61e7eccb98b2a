-- How often items and classes stand in columns that are joined, put in or changed.
use Rattle.std.proofs.Common.{◌≡◌, ◌==◌, ℕ, ◌+◌, ◌<◌, ◌≤◌, true, false, cond, zero, suc, List, [], ◌∷◌, ◌++◌, length, get_or, refl, ap, inl, inr, arith}
use Rattle.std.proofs.Math.ListN.{set}
use Rattle.std.proofs.lemmas.Bool.{cases_eq}
use Rattle.std.proofs.lemmas.Bool.Decides.{nat_tests}
use Rattle.cover_core.specs.declared.Column.{Column}
use Rattle.cover_core.specs.Cover.{Problem, Rises}
use Rattle.cover_core.specs.Plans.{IsColumn, AreColumns, times, all_items, all_classes, cost, IsPlan}
use Rattle.cover_core.specs.Parts.{IsPart, column_at}

pub times-append : (i : ℕ) (xs ys : List ℕ) → times i (xs ++ ys) ≡ times i xs + times i ys
times-append i [] ys = omega arith
times-append i (x ∷ xs) ys = omega (arith, times-append i xs ys)

-- how often an item stands in columns
abbrev pub held : ℕ → List Column → ℕ
held i columns = times i (all_items columns)

pub held-cons : (i : ℕ) (c : Column) (cs : List Column) → times i (all_items (c ∷ cs)) ≡ times i c.items + times i (all_items cs)
held-cons i c cs = times-append i c.items (all_items cs)

pub held-append : (i : ℕ) (cs ds : List Column) → times i (all_items (cs ++ ds)) ≡ times i (all_items cs) + times i (all_items ds)
held-append i [] ds = omega arith
held-append i (c ∷ cs) ds =
    omega (arith, held-append i cs ds, times-append i c.items (all_items cs), times-append i c.items (all_items (cs ++ ds)))

pub held-push : (i : ℕ) (cs : List Column) (c : Column) → times i (all_items (cs ++ c ∷ [])) ≡ times i (all_items cs) + times i c.items
held-push i cs c = omega (arith, held-append i cs (c ∷ []), held-cons i c [])

pub placed-append : (k : ℕ) (cs ds : List Column) → times k (all_classes (cs ++ ds)) ≡ times k (all_classes cs) + times k (all_classes ds)
placed-append k [] ds = omega arith
placed-append k (c ∷ cs) ds = omega (arith, placed-append k cs ds)

pub placed-push : (k : ℕ) (cs : List Column) (c : Column) →
    times k (all_classes (cs ++ c ∷ [])) ≡ times k (all_classes cs) + cond (k == c.class) 1 0
placed-push k cs c = omega (arith, placed-append k cs (c ∷ []))

pub AreColumns-push : (p : Problem) (cs : List Column) (c : Column) → AreColumns p cs → IsColumn p c → AreColumns p (cs ++ c ∷ [])
AreColumns-push p [] c h k = (k, tt)
AreColumns-push p (d ∷ ds) c h k = (h.0, AreColumns-push p ds c h.1 k)

pub AreColumns-get : (p : Problem) (cs : List Column) (k : ℕ) (d : Column) → k < length cs → AreColumns p cs → IsColumn p (get_or cs k d)
AreColumns-get p [] k d below h = absurd (omega arith)
AreColumns-get p (c ∷ cs) zero d below h = h.0
AreColumns-get p (c ∷ cs) (suc k) d below h = AreColumns-get p cs k d (omega arith) h.1

pub AreColumns-set : (p : Problem) (cs : List Column) (k : ℕ) (c : Column) → AreColumns p cs → IsColumn p c → AreColumns p (set cs k c)
AreColumns-set p [] k c h new = tt
AreColumns-set p (d ∷ ds) zero c h new = (new, h.1)
AreColumns-set p (d ∷ ds) (suc k) c h new = (h.0, AreColumns-set p ds k c h.1 new)

-- a column put in another's place
pub held-set : (i : ℕ) (cs : List Column) (k : ℕ) (c d : Column) → k < length cs →
    times i (all_items (set cs k c)) + times i (get_or cs k d).items ≡ times i (all_items cs) + times i c.items
held-set i [] k c d h = absurd (omega arith)
held-set i (x ∷ xs) zero c d h = omega (arith, held-cons i c xs, held-cons i x xs)
held-set i (x ∷ xs) (suc k) c d h = omega (arith, held-set i xs k c d (omega arith), held-cons i x xs, held-cons i x (set xs k c))

pub placed-set : (class : ℕ) (cs : List Column) (k : ℕ) (c d : Column) → k < length cs → c.class ≡ (get_or cs k d).class →
    times class (all_classes (set cs k c)) ≡ times class (all_classes cs)
placed-set class [] k c d h same = absurd (omega arith)
placed-set class (x ∷ xs) zero c d h same = ap (λ n. cond (class == n) 1 0 + times class (all_classes xs)) same
placed-set class (x ∷ xs) (suc k) c d h same = ap (λ n. cond (class == x.class) 1 0 + n) (placed-set class xs k c d (omega arith) same)

pub cost-push : (cs : List Column) (c : Column) → cost (cs ++ c ∷ []) ≡ cost cs + c.worth
cost-push [] c = omega arith
cost-push (d ∷ ds) c = omega (arith, cost-push ds c)

pub cost-set : (cs : List Column) (k : ℕ) (c d : Column) → k < length cs → cost (set cs k c) + (get_or cs k d).worth ≡ cost cs + c.worth
cost-set [] k c d h = absurd (omega arith)
cost-set (x ∷ xs) zero c d h = omega arith
cost-set (x ∷ xs) (suc k) c d h = omega (arith, cost-set xs k c d (omega arith))

-- an item that stands nowhere comes in once
pub once-more : (j item old new : ℕ) → new ≡ cond (j == item) 1 0 + old → (j ≡ item → old ≡ 0) → old ≤ 1 → new ≤ 1
once-more j item old new e free h =
    elim (cases_eq j item) [
      | inl same ↦
          let none : old ≡ 0 = free same in
          let test : (j == item) ≡ true = grind (arith, nat_tests) in
          let sum = rw test at e in
          omega arith
      | inr other ↦
          let test : (j == item) ≡ false = grind (arith, nat_tests) in
          let sum = rw test at e in
          omega arith
    ]

-- a part in which each item stands is a plan
pub whole_part : (p : Problem) (cs : List Column) → IsPart p cs →
    ((item : ℕ) → item < p.items → times item (all_items cs) ≡ 1) → IsPlan p cs
whole_part p cs part all = record { worths = part.worths; once = all; caps = part.caps }

-- in a list that rises no item stands twice
pub Rises-above : (j x : ℕ) (xs : List ℕ) → Rises (x ∷ xs) → j ≤ x → times j xs ≡ 0
Rises-above j x [] r h = refl
Rises-above j x (y ∷ ys) r h =
    let step : x < y = r.0 in
    let rest : times j ys ≡ 0 = Rises-above j y ys r.1 (omega arith) in
    let test : (j == y) ≡ false = grind (arith, nat_tests) in
    rw test (omega arith)

pub Rises-tail : (x : ℕ) (xs : List ℕ) → Rises (x ∷ xs) → Rises xs
Rises-tail x [] r = tt
Rises-tail x (y ∷ ys) r = r.1

pub Rises-once : (j : ℕ) (xs : List ℕ) → Rises xs → times j xs ≤ 1
Rises-once j [] r = omega arith
Rises-once j (x ∷ xs) r =
    elim (cases_eq j x) [
      | inl same ↦
          let none : times j xs ≡ 0 = Rises-above j x xs r (omega arith) in
          let test : (j == x) ≡ true = grind (arith, nat_tests) in
          rw test (omega arith)
      | inr apart ↦
          let at_most : times j xs ≤ 1 = Rises-once j xs (Rises-tail x xs r) in
          let test : (j == x) ≡ false = grind (arith, nat_tests) in
          rw test (omega arith)
    ]

pub column-there : (plan : List Column) (place : ℕ) (c : Column) → place < length plan → c ≡ get_or plan place c → c ≡ column_at plan place
column-there [] place c h e = absurd (omega arith)
column-there (x ∷ xs) zero c h e = e
column-there (x ∷ xs) (suc place) c h e = column-there xs place c (omega arith) e
