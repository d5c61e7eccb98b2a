-- A plan stays a plan when its columns are put in order.
use Rattle.std.proofs.Common.{◌≡◌, ℕ, ◌+◌, ◌≤◌, Bool, true, false, List, [], ◌∷◌, nat_lt, if◌then◌else◌, refl, ◌∙◌, arith}
use Rattle.cover_core.specs.declared.Column.{Column}
use Rattle.cover_core.specs.Cover.{Problem}
use Rattle.cover_core.specs.FirstLeast.{AreCheap}
use Rattle.cover_core.specs.Plans.{AreColumns, IsColumn, IsPlan, all_classes, all_items, times}
use Rattle.cover_core.proofs.Parts.{times-append}
use Rattle.plan_params.specs.Settings.{put_in_order}
use Rattle.umlauf_write.specs.Printed.{first_of_column, printed}

abbrev put : Column → List Column → List Column
put c cs = put_in_order first_of_column c cs

put_columns : (p : Problem) (c : Column) (cs : List Column) → IsColumn p c → AreColumns p cs → AreColumns p (put c cs)
put_columns p c [] is are = (is, tt)
put_columns p c (next ∷ cs) is are = by (nat_lt (first_of_column next) (first_of_column c)) (put_columns p c cs is are.1)
  where
    by : (b : Bool) → AreColumns p (put c cs) → AreColumns p (if b then next ∷ put c cs else c ∷ next ∷ cs)
    by true later = (are.0, later)
    by false later = (is, are)

order_columns : (p : Problem) (cs : List Column) → AreColumns p cs → AreColumns p (printed cs)
order_columns p [] are = tt
order_columns p (c ∷ cs) are = put_columns p c (printed cs) are.0 (order_columns p cs are.1)

put_cheap : (c : Column) (cs : List Column) → c.worth ≤ 4000000000 → AreCheap cs → AreCheap (put c cs)
put_cheap c [] is are = (is, tt)
put_cheap c (next ∷ cs) is are = by (nat_lt (first_of_column next) (first_of_column c)) (put_cheap c cs is are.1)
  where
    by : (b : Bool) → AreCheap (put c cs) → AreCheap (if b then next ∷ put c cs else c ∷ next ∷ cs)
    by true later = (are.0, later)
    by false later = (is, are)

pub order_cheap : (cs : List Column) → AreCheap cs → AreCheap (printed cs)
order_cheap [] are = tt
order_cheap (c ∷ cs) are = put_cheap c (printed cs) are.0 (order_cheap cs are.1)

-- To put a column among others changes neither how often an item stands in all nor how many columns a class has: it is counted in
-- front or behind the one that it passes, and sums do not mind the order. Classes are counted the same way below.
put_items : (i : ℕ) (c : Column) (cs : List Column) → times i (all_items (put c cs)) ≡ times i c.items + times i (all_items cs)
put_items i c [] = times-append i c.items []
put_items i c (next ∷ cs) = by (nat_lt (first_of_column next) (first_of_column c)) (put_items i c cs)
  where
    by : (b : Bool) → times i (all_items (put c cs)) ≡ times i c.items + times i (all_items cs) →
        times i (all_items (if b then next ∷ put c cs else c ∷ next ∷ cs)) ≡ times i c.items + times i (all_items (next ∷ cs))
    by true later = omega (arith, times-append i next.items (all_items (put c cs)), later, times-append i next.items (all_items cs))
    by false later = times-append i c.items (all_items (next ∷ cs))

order_items : (i : ℕ) (cs : List Column) → times i (all_items (printed cs)) ≡ times i (all_items cs)
order_items i [] = refl
order_items i (c ∷ cs) = omega (arith, put_items i c (printed cs), order_items i cs, times-append i c.items (all_items cs))

put_classes : (k : ℕ) (c : Column) (cs : List Column) → times k (all_classes (put c cs)) ≡ times k (c.class ∷ all_classes cs)
put_classes k c [] = refl
put_classes k c (next ∷ cs) = by (nat_lt (first_of_column next) (first_of_column c)) (put_classes k c cs)
  where
    by : (b : Bool) → times k (all_classes (put c cs)) ≡ times k (c.class ∷ all_classes cs) →
        times k (all_classes (if b then next ∷ put c cs else c ∷ next ∷ cs)) ≡ times k (c.class ∷ next.class ∷ all_classes cs)
    by true later = omega (arith, later)
    by false later = refl

order_classes : (k : ℕ) (cs : List Column) → times k (all_classes (printed cs)) ≡ times k (all_classes cs)
order_classes k [] = refl
order_classes k (c ∷ cs) = omega (arith, put_classes k c (printed cs), order_classes k cs)

-- A plan in printed order. All that makes columns a plan is counted over all of them or asked of each: worths are asked of each
-- (`put_columns`), items and classes are counted (`order_items`, `order_classes`). So a plan may be sorted before it is printed, and
-- stays lawful.
pub order_plan : (p : Problem) (cs : List Column) → IsPlan p cs → IsPlan p (printed cs)
order_plan p cs plan = record {
  worths = order_columns p cs plan.worths;
  once = λ item within. order_items item cs ∙ plan.once item within;
  caps = λ class there. omega (arith, order_classes class cs, plan.caps class there);
}
