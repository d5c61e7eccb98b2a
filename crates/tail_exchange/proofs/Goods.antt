-- An exchange step of a plan is a plan, and its cost changes by what the step says.
use Rattle.std.proofs.Common.{◌≡◌, ◌≢◌, ◌==◌, ℕ, ℤ, pos, ◌-ℤ◌, ◌+ℤ◌, ◌+◌, ◌<◌, ◌≤◌, true, false, cond, zero, suc, List, [], ◌∷◌, ◌++◌, length, get_or, take, drop, Option, Some, refl, sym, ap, ◌∙◌, inl, inr, arith, get_or-set_other, length-set}
use Rattle.std.specs.Prelude.{nat_lt, slice_index, unwrap_or}
use Rattle.std.proofs.Math.ListN.{set}
use Rattle.std.proofs.lemmas.Int.{ints}
use Rattle.std.proofs.lemmas.Bool.{cases_eq}
use Rattle.std.proofs.lemmas.Bool.Decides.{nat_tests}
use Rattle.cover_core.specs.declared.Column.{Column}
use Rattle.cover_core.specs.Cover.{Problem}
use Rattle.cover_core.specs.Plans.{AreColumns, times, all_items, all_classes, cost, IsPlan}
use Rattle.cover_core.specs.Parts.{has_place, no_column, column_at}
use Rattle.cover_core.proofs.Parts.{times-append, held-cons, held-push, placed-push, AreColumns-get, held-set, placed-set, cost-push, cost-set}
use Rattle.tail_exchange.specs.declared.candidate.Candidate.{Candidate}
use Rattle.tail_exchange.specs.Exchange.{worth_of, made, has_any, without_empty, joined, swapped, parted, applied}

-- columns that may be empty
abbrev pub IsLoose : Problem → Column → Type 0
IsLoose p c = (c.class < length p.caps) × (worth_of p c.class c.items ≡ Some c.worth)

abbrev pub AreLoose : Problem → List Column → Type 0
AreLoose p [] = Unit {0}
AreLoose p (c ∷ cs) = IsLoose p c × AreLoose p cs

-- a list with a worth is not empty
abbrev pub NoneOfNothing : Problem → Type 0
NoneOfNothing p = (class worth : ℕ) → p.worth class [] ≡ Some worth → ⊥

loose-worth : (p : Problem) (class : ℕ) (list : List ℕ) (worth : ℕ) → NoneOfNothing p → p.worth class list ≡ Some worth →
    worth_of p class list ≡ Some worth
loose-worth p class [] worth none e = absurd (none class worth e)
loose-worth p class (x ∷ xs) worth none e = e

loose-columns : (p : Problem) (cs : List Column) → NoneOfNothing p → AreColumns p cs → AreLoose p cs
loose-columns p [] none h = tt
loose-columns p (c ∷ cs) none h = ((h.0.0, loose-worth p c.class c.items c.worth none h.0.1), loose-columns p cs none h.1)

AreLoose-set : (p : Problem) (cs : List Column) (k : ℕ) (c : Column) → AreLoose p cs → IsLoose p c → AreLoose p (set cs k c)
AreLoose-set p [] k c h new = tt
AreLoose-set p (d ∷ ds) zero c h new = (new, h.1)
AreLoose-set p (d ∷ ds) (suc k) c h new = (h.0, AreLoose-set p ds k c h.1 new)

AreLoose-push : (p : Problem) (cs : List Column) (c : Column) → AreLoose p cs → IsLoose p c → AreLoose p (cs ++ c ∷ [])
AreLoose-push p [] c h k = (k, tt)
AreLoose-push p (d ∷ ds) c h k = (h.0, AreLoose-push p ds c h.1 k)

-- what is left without the empty columns
pub record IsCleaned (p : Problem) (old new : List Column) : Type 0 where
  pub worths : AreColumns p new
  pub holds : (j : ℕ) → times j (all_items new) ≡ times j (all_items old)
  pub places : (class : ℕ) → times class (all_classes new) ≤ times class (all_classes old)
  pub costs : cost new ≡ cost old

one-cleaned : (p : Problem) (c : Column) (cs new : List Column) (list : List ℕ) → c.items ≡ list → IsLoose p c → IsCleaned p cs new →
    IsCleaned p (c ∷ cs) (cond (has_any list) (c ∷ new) new)
one-cleaned p c cs new [] e loose h =
    let nothing : worth_of p c.class [] ≡ Some c.worth = ap (worth_of p c.class) (sym e) ∙ loose.1 in
    let free : 0 ≡ c.worth = ap (λ (o : Option ℕ). unwrap_or o 0) nothing in
    let same = h.costs in
    record {
      worths = h.worths;
      holds = λ j. let empty : times j c.items ≡ 0 = ap (times j) e in omega (arith, h.holds j, held-cons j c cs);
      places = λ class. let at_most = h.places class in omega arith;
      costs = omega arith;
    }
one-cleaned p c cs new (x ∷ xs) e loose h =
    let has : p.worth c.class (x ∷ xs) ≡ Some c.worth = ap (worth_of p c.class) (sym e) ∙ loose.1 in
    let same = h.costs in
    record {
      worths = ((loose.0, ap (p.worth c.class) e ∙ has), h.worths);
      holds = λ j. omega (arith, h.holds j, held-cons j c cs, held-cons j c new);
      places = λ class. let at_most = h.places class in omega arith;
      costs = omega arith;
    }

-- Without the empty columns nothing is lost: an empty one has no item and costs nothing, and one column fewer is within every cap.
-- So a step may be made as if columns could be empty, and the empty ones be taken away at the end.
pub cleaned : (p : Problem) (cs : List Column) → AreLoose p cs → IsCleaned p cs (without_empty cs)
cleaned p [] h = record { worths = tt; holds = λ j. refl; places = λ class. omega arith; costs = refl }
cleaned p (c ∷ cs) h = one-cleaned p c cs (without_empty cs) c.items refl h.0 (cleaned p cs h.1)

pub times-split : (j i : ℕ) (xs : List ℕ) → times j (take i xs) + times j (drop i xs) ≡ times j xs
times-split j zero xs = omega arith
times-split j (suc i) [] = omega arith
times-split j (suc i) (x ∷ xs) = omega (arith, times-split j i xs)

-- columns that hold the same as a plan's, with no more of each class than there are places
plan-from : (p : Problem) (old loose : List Column) (change : ℤ) → IsPlan p old → AreLoose p loose →
    ((j : ℕ) → times j (all_items loose) ≡ times j (all_items old)) →
    ((class : ℕ) → class < length p.caps → times class (all_classes loose) ≤ slice_index p.caps class) →
    pos (cost loose) ≡ pos (cost old) +ℤ change →
    IsPlan p (without_empty loose) × (pos (cost (without_empty loose)) ≡ pos (cost old) +ℤ change)
plan-from p old loose change plan are holds places costs =
    let clean = cleaned p loose are in (
      record {
        worths = clean.worths;
        once = λ item below. clean.holds item ∙ (holds item ∙ plan.once item below);
        caps = λ class below. let some = clean.places class in let room = places class below in omega arith;
      },
      ap (λ n. pos n) clean.costs ∙ costs,
    )

made-loose : (p : Problem) (class : ℕ) (list : List ℕ) (worth : ℕ) → class < length p.caps → worth_of p class list ≡ Some worth →
    IsLoose p (made p class list)
made-loose p class list worth below has =
    let same : unwrap_or (worth_of p class list) 0 ≡ worth = ap (λ (o : Option ℕ). unwrap_or o 0) has in
    (below, has ∙ ap (λ n. Some n) (sym same))

module _ (p : Problem) (none : NoneOfNothing p) (columns : List Column) (plan : IsPlan p columns) where
  abbrev pub IsGood : Candidate → Type 0
  IsGood c = IsPlan p (applied p columns c) × (pos (cost (applied p columns c)) ≡ pos (cost columns) +ℤ c.change)

  class-there : (a : ℕ) → a < length columns → (column_at columns a).class < length p.caps
  class-there a h = (AreColumns-get p columns a no_column h plan.worths).0

  -- A swap keeps each item in the plan exactly once, for both columns together have the fronts and tails that they had; both
  -- classes keep their number of columns; and both new lists have a worth. The cost changes by the two new worths less the two old
  -- ones, as the step says.
  pub swap-good : (a b i j left right : ℕ) → a < b → b < length columns →
      worth_of p (column_at columns a).class (joined (column_at columns a).items i (column_at columns b).items j) ≡ Some left →
      worth_of p (column_at columns b).class (joined (column_at columns b).items j (column_at columns a).items i) ≡ Some right →
      IsPlan p (swapped p columns a b i j)
      × (pos (cost (swapped p columns a b i j)) ≡ pos (cost columns)
      +ℤ (pos (left + right) -ℤ pos ((column_at columns a).worth + (column_at columns b).worth)))
  swap-good a b i j left right order below has_left has_right =
      let c : Column = column_at columns a in
      let d : Column = column_at columns b in
      let first : Column = made p c.class (joined c.items i d.items j) in
      let second : Column = made p d.class (joined d.items j c.items i) in
      let once : List Column = set columns a first in
      let twice : List Column = set once b second in
      let a_below : a < length columns = omega arith in
      let apart : b ≢ a = λ e. omega arith in
      let long : b < length once = omega (arith, length-set columns a first) in
      let still : get_or once b no_column ≡ d = get_or-set_other columns a b first no_column apart in
      let first_worth : first.worth ≡ left = ap (λ (o : Option ℕ). unwrap_or o 0) has_left in
      let second_worth : second.worth ≡ right = ap (λ (o : Option ℕ). unwrap_or o 0) has_right in
      let loose = AreLoose-set p once b second
      (AreLoose-set p columns a first (loose-columns p columns none plan.worths)
      (made-loose p c.class (joined c.items i d.items j) left (class-there a a_below) has_left))
      (made-loose p d.class (joined d.items j c.items i) right (class-there b below) has_right) in
      let still_worth : (get_or once b no_column).worth ≡ d.worth = ap (λ (x : Column). x.worth) still in
      let change_one : cost once + c.worth ≡ cost columns + first.worth = cost-set columns a first no_column a_below in
      let change_two : cost twice + (get_or once b no_column).worth ≡ cost once + second.worth = cost-set once b second no_column long in
      plan-from p columns twice (pos (left + right) -ℤ pos (c.worth + d.worth)) plan loose
      (λ k.
      let still_items : times k (get_or once b no_column).items ≡ times k d.items = ap (λ (x : Column). times k x.items) still in
      omega (
        arith,
        held-set k columns a first no_column a_below,
        held-set k once b second no_column long,
        times-append k (take i c.items) (drop j d.items),
        times-append k (take j d.items) (drop i c.items),
        times-split k i c.items,
        times-split k j d.items,
      ))
      (λ class there.
      let one = placed-set class columns a first no_column a_below refl in
      let two = placed-set class once b second no_column long (ap (λ (x : Column). x.class) (sym still)) in
      let room = plan.caps class there in
      omega arith)
      (omega (arith, ints))

  -- A cut keeps the items, and adds one column, of a class that has a place left. That it has one is part of what makes the cut a
  -- step.
  pub cut-good : (a i k left right : ℕ) → a < length columns → k < length p.caps → has_place p columns k ≡ true →
      worth_of p (column_at columns a).class (take i (column_at columns a).items) ≡ Some left →
      worth_of p k (drop i (column_at columns a).items) ≡ Some right →
      IsPlan p (parted p columns a i k)
      × (pos (cost (parted p columns a i k)) ≡ pos (cost columns) +ℤ (pos (left + right) -ℤ pos (column_at columns a).worth))
  cut-good a i k left right below there room has_left has_right =
      let c : Column = column_at columns a in
      let front : Column = made p c.class (take i c.items) in
      let tail : Column = made p k (drop i c.items) in
      let once : List Column = set columns a front in
      let both : List Column = once ++ tail ∷ [] in
      let front_worth : front.worth ≡ left = ap (λ (o : Option ℕ). unwrap_or o 0) has_left in
      let tail_worth : tail.worth ≡ right = ap (λ (o : Option ℕ). unwrap_or o 0) has_right in
      let loose = AreLoose-push p once tail
      (AreLoose-set p columns a front (loose-columns p columns none plan.worths)
      (made-loose p c.class (take i c.items) left (class-there a below) has_left))
      (made-loose p k (drop i c.items) right there has_right) in
      let change_one : cost once + c.worth ≡ cost columns + front.worth = cost-set columns a front no_column below in
      let change_two : cost both ≡ cost once + tail.worth = cost-push once tail in
      plan-from p columns both (pos (left + right) -ℤ pos c.worth) plan loose
      (λ j. omega (arith, held-set j columns a front no_column below, held-push j once tail, times-split j i c.items))
      (λ class inside.
      let one = placed-set class columns a front no_column below refl in
      let two = placed-push class once tail in
      let at_most = plan.caps class inside in
      elim (cases_eq class k) [
        | inl same ↦
            let free : times class (all_classes columns) < slice_index p.caps class =
            (let test : nat_lt (times class (all_classes columns)) (slice_index p.caps class) ≡ true =
            ap (λ n. has_place p columns n) same ∙ room in grind (arith, nat_tests)) in
            let test : (class == k) ≡ true = grind (arith, nat_tests) in
            let sum = rw test at two in
            omega arith
        | inr apart ↦
            let test : (class == k) ≡ false = grind (arith, nat_tests) in
            let sum = rw test at two in
            omega arith
      ])
      (omega (arith, ints))
