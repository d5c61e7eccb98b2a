-- There is a verdict on all lists.
use Rattle.std.proofs.Common.{◌≡◌, ◌≢◌, ℕ, ◌+◌, ◌<◌, ◌≤◌, Bool, true, false, cond, nat_eq, nat_lt, List, [], ◌∷◌, length, map, zero, suc, refl, sym, ap, ◌∙◌, subst, arith}
use Rattle.std.proofs.lemmas.Bool.Decides.{nat_tests}
use Rattle.std.specs.Prelude.{Option, Some, None, slice_get, slice_index, unwrap_or}
use Rattle.std.proofs.lemmas.Option.{same_Some}
use Rattle.std.proofs.lemmas.Bool.{not-false, not-true}
use Rattle.cover_core.specs.declared.Column.{Column}
use Rattle.cover_core.specs.Cover.{Problem}
use Rattle.cover_core.specs.Plans.{AreColumns, times, all_items, all_classes}
use Rattle.plan_check.specs.Counts.{IsFirstOf}
use Rattle.plan_check.specs.Firsts.{IsUnlawfulFound}
use Rattle.plan_check.specs.Verdicts.{HaveSameLists, HasWorth, HaveWorths, StandOnce, IsVerdict}
use Rattle.plan_check.specs.Judged.{first_of, worth_in, first_worthless, with_worth, is_off, is_over, by_classes, by_worths, by_items, verdict_of}
use Rattle.plan_check.proofs.Lists.{same-items, same-classes}

-- what the first number is
record IsFirst (count from k : ℕ) (test : ℕ → Bool) : Type 0 where
  pub least : from ≤ k
  pub most : k < from + count
  pub passes : test k ≡ true
  pub others : (j : ℕ) → from ≤ j → j < k → test j ≡ false

first-some : (count from k : ℕ) (test : ℕ → Bool) → first_of count from test ≡ Some k → IsFirst count from k test
first-some zero from k test e = absurd (cc)
first-some (suc count) from k test e =
    elim (test from) as (λ t. test from ≡ t → cond t (Some from) (first_of count (from + 1) test) ≡ Some k →
    IsFirst (suc count) from k test) [
      | true ↦ λ is f.
          let g : Option ℕ → ℕ = λ o. unwrap_or o 0 in
          let same : from ≡ k = ap g f in
          let P : ℕ → Type 0 = λ n. test n ≡ true in
          record { least = omega arith; most = omega arith; passes = subst P same is; others = λ j low high. absurd (omega arith) }
      | false ↦ λ is f.
          let x = first-some count (from + 1) k test f in
          let least = x.least in
          let most = x.most in
          record {
            least = omega arith;
            most = omega arith;
            passes = x.passes;
            others = λ j low high. elim (nat_eq j from) as (λ t. nat_eq j from ≡ t → test j ≡ false) [
              | true ↦ λ equal. let same : from ≡ j = grind (arith, nat_tests) in
                  let P : ℕ → Type 0 = λ n. test n ≡ false in subst P same is
              | false ↦ λ other. let above : from + 1 ≤ j = grind (arith, nat_tests) in x.others j above high
            ] refl;
          }
    ] refl e

first-none : (count from : ℕ) (test : ℕ → Bool) → first_of count from test ≡ None → (j : ℕ) → from ≤ j → j < from + count → test j ≡ false
first-none zero from test e j low high = absurd (omega arith)
first-none (suc count) from test e j low high =
    elim (test from) as (λ t. test from ≡ t → cond t (Some from) (first_of count (from + 1) test) ≡ None → test j ≡ false) [
      | true ↦ λ is f. absurd (cc)
      | false ↦ λ is f. elim (nat_eq j from) as (λ t. nat_eq j from ≡ t → test j ≡ false) [
        | true ↦ λ equal. let same : from ≡ j = grind (arith, nat_tests) in let P : ℕ → Type 0 = λ n. test n ≡ false in subst P same is
        | false ↦ λ other. let above : from + 1 ≤ j = grind (arith, nat_tests) in first-none count (from + 1) test f j above (omega arith)
      ] refl
    ] refl e

first-one : (count k : ℕ) (test : ℕ → Bool) (o : Option ℕ) → IsFirst count 0 k test → IsFirstOf count test o → Some k ≡ o
first-one count k test None x h =
    let most = x.most in
    let passes = x.passes in
    let fails = h k (omega arith) in
    absurd (cc)
first-one count k test (Some j) x h =
    let passes = x.passes in
    let passes' = h.1 in
    elim (nat_lt k j) as (λ t. nat_lt k j ≡ t → Some k ≡ Some j) [
      | true ↦ λ e. let below : k < j = grind (arith, nat_tests) in let fails = h.2 k below in absurd (cc)
      | false ↦ λ e. elim (nat_lt j k) as (λ t. nat_lt j k ≡ t → Some k ≡ Some j) [
        | true ↦ λ e'. let below : j < k = grind (arith, nat_tests) in let fails = x.others j (omega arith) below in absurd (cc)
        | false ↦ λ e'. let same : k ≡ j = grind (arith, nat_tests) in ap (λ n. Some n) same
      ] refl
    ] refl

-- The first number that passes is the first that is found: there is one first number alone. It joins two ways of saying it: that of
-- loops, that no number before passes, and that of the computed verdict.
pub first-is : (count : ℕ) (test : ℕ → Bool) (o : Option ℕ) → IsFirstOf count test o → first_of count 0 test ≡ o
first-is count test o h = elim (first_of count 0 test) as (λ r. first_of count 0 test ≡ r → r ≡ o) [
  | None ↦ λ e. elim o as (λ o. IsFirstOf count test o → None ≡ o) [
    | None ↦ λ h. refl
    | Some k ↦ λ h. let passes = h.1 in let below = h.0 in
        let fails = first-none count 0 test e k (omega arith) (omega arith) in absurd (cc)
  ] h
  | Some k ↦ λ e. first-one count k test o (first-some count 0 k test e) h
] refl

once : (lists : List Column) (item : ℕ) → is_off lists item ≡ false → times item (all_items lists) ≡ 1
once lists item h = let equal = not-false (nat_eq (times item (all_items lists)) 1) h in grind (arith, nat_tests)

off : (lists : List Column) (item : ℕ) → is_off lists item ≡ true → times item (all_items lists) ≢ 1
off lists item h = λ one. let other = not-true (nat_eq (times item (all_items lists)) 1) h in grind (arith, nat_tests)

-- a list has a worth exactly where it is found
worth-from : (p : Problem) (c : Column) (worth : ℕ) → worth_in p c ≡ Some worth →
    (c.class < length p.caps) × (p.worth c.class c.items ≡ Some worth)
worth-from p c worth e =
    elim (nat_lt c.class (length p.caps)) as (λ t. nat_lt c.class (length p.caps) ≡ t → cond t (p.worth c.class c.items) None ≡ Some worth →
    (c.class < length p.caps) × (p.worth c.class c.items ≡ Some worth)) [
      | true ↦ λ is f. (grind (arith, nat_tests), f)
      | false ↦ λ is f. absurd (cc)
    ] refl e

worth-none : (p : Problem) (c : Column) → worth_in p c ≡ None → HasWorth p c → ⊥
worth-none p c e has =
    let below = has.0 in
    let test : nat_lt c.class (length p.caps) ≡ true = grind (arith, nat_tests) in
    let P : Bool → Type 0 = λ t. cond t (p.worth c.class c.items) None ≡ None in
    let none : p.worth c.class c.items ≡ None = subst P test e in
    let bad : None ≡ Some has.1 = sym none ∙ has.2 in
    cc

-- the lists with their worths
record AreFound (p : Problem) (lists : List Column) : Type 0 where
  pub columns : AreColumns p (map (with_worth p) lists)
  pub worths : (spot : ℕ) (list : Column) → slice_get lists spot ≡ Some list → HasWorth p list

worthy : (p : Problem) (from : ℕ) (lists : List Column) → first_worthless p from lists ≡ None → AreFound p lists
worthy p from [] e = record { columns = tt; worths = λ spot list at. absurd (cc) }
worthy p from (c ∷ cs) e =
    elim (worth_in p c) as (λ o. worth_in p c ≡ o →
    (elim o as (λ x. Option ℕ) [ None ↦ Some from | Some worth ↦ first_worthless p (from + 1) cs ]) ≡ None → AreFound p (c ∷ cs)) [
      | None ↦ λ is f. absurd (cc)
      | Some worth ↦ λ is f.
          let rest = worthy p (from + 1) cs f in
          let (below, found) = worth-from p c worth is in
          let g : Option ℕ → ℕ = λ o. unwrap_or o 0 in
          let value : unwrap_or (worth_in p c) 0 ≡ worth = ap g is in
          record {
            columns = ((below, found ∙ ap (λ n. Some n) (sym value)), rest.columns);
            worths = λ spot list at. elim spot as (λ k. slice_get (c ∷ cs) k ≡ Some list → HasWorth p list) [
              | zero ↦ λ here. let P : Column → Type 0 = λ x. HasWorth p x in subst P (same_Some c list here) (below, worth, found)
              | suc k ↦ λ later. rest.worths k list later
            ] at;
          }
    ] refl e

-- the first list without a worth, its place counted on from this one
record IsWorthless (p : Problem) (from spot : ℕ) (lists : List Column) : Type 0 where
  pub gap : ℕ
  pub spot_is : spot ≡ from + gap
  pub list : Column
  pub at : slice_get lists gap ≡ Some list
  pub none : HasWorth p list → ⊥
  pub before : HaveWorths p lists gap

-- The first list without a worth is found by induction over the lists, of which each one before has a worth. Counting on from a
-- number is what lets the place in the rest of the lists be the place in all of them.
worthless : (p : Problem) (from spot : ℕ) (lists : List Column) → first_worthless p from lists ≡ Some spot → IsWorthless p from spot lists
worthless p from spot [] e = absurd (cc)
worthless p from spot (c ∷ cs) e =
    elim (worth_in p c) as (λ o. worth_in p c ≡ o →
    (elim o as (λ x. Option ℕ) [ None ↦ Some from | Some worth ↦ first_worthless p (from + 1) cs ]) ≡ Some spot →
    IsWorthless p from spot (c ∷ cs)) [
      | None ↦ λ is f.
          let same : from ≡ spot = same_Some from spot f in
          record {
            gap = 0;
            spot_is = omega arith;
            list = c;
            at = refl;
            none = worth-none p c is;
            before =
                λ k l below at. absurd (omega arith);
          }
      | Some worth ↦ λ is f.
          let x = worthless p (from + 1) spot cs f in
          let shifted = x.spot_is in
          let (below, found) = worth-from p c worth is in
          record {
            gap = suc x.gap;
            spot_is = omega arith;
            list = x.list;
            at = x.at;
            none = x.none;
            before = λ k l less at. elim k as (λ j. j < suc x.gap → slice_get (c ∷ cs) j ≡ Some l → HasWorth p l) [
              | zero ↦ λ low here. let P : Column → Type 0 = λ y. HasWorth p y in subst P (same_Some c l here) (below, worth, found)
              | suc j ↦ λ low later. x.before j l (omega arith) later
            ] less at;
          }
    ] refl e

same-lists : (p : Problem) (lists : List Column) → HaveSameLists lists (map (with_worth p) lists)
same-lists p [] = tt
same-lists p (c ∷ cs) = (refl, refl, same-lists p cs)

within-cap : (p : Problem) (lists : List Column) (class : ℕ) → is_over p lists class ≡ false →
    times class (all_classes lists) ≤ slice_index p.caps class
within-cap p lists class h = grind (arith, nat_tests)

over-cap : (p : Problem) (lists : List Column) (class : ℕ) → is_over p lists class ≡ true →
    slice_index p.caps class < times class (all_classes lists)
over-cap p lists class h = grind (arith, nat_tests)

-- By the classes: where each item stands once and each list has a worth, a class over its cap is the cause, or there is none, and
-- then the lists with their worths meet all that a plan is. Filling in worths changes neither items nor classes.
classes-verdict : (p : Problem) (lists : List Column) (o : Option ℕ) → StandOnce p lists → AreFound p lists →
    first_of (length p.caps) 0 (is_over p lists) ≡ o → IsVerdict p lists (by_classes p lists o)
classes-verdict p lists (Some class) stand found e =
    let x = first-some (length p.caps) 0 class (is_over p lists) e in
    let most = x.most in (
      stand,
      (λ spot list below at. found.worths spot list at),
      record {
        there = omega arith;
        used_is = refl;
        over = over-cap p lists class x.passes;
        first = λ earlier below. within-cap p lists earlier (x.others earlier (omega arith) below);
      },
    )
classes-verdict p lists None stand found e =
    let same = same-lists p lists in
    let items = same-items lists (map (with_worth p) lists) same in
    let classes = same-classes lists (map (with_worth p) lists) same in (
      same,
      record {
        worths = found.columns;
        once = λ item below. ap (times item) (sym items) ∙ stand item below;
        caps = λ class below.
            let low = within-cap p lists class (first-none (length p.caps) 0 (is_over p lists) e class (omega arith) (omega arith)) in
            let P : List ℕ → Type 0 = λ l. times class l ≤ slice_index p.caps class in
            subst P classes low;
      },
    )

-- The place that is found by going through the lists is that of the first list that is no column; where none is found, each is one.
pub unlawful-found : (p : Problem) (lists : List Column) (o : Option ℕ) → first_worthless p 0 lists ≡ o → IsUnlawfulFound p lists o
unlawful-found p lists (Some spot) e =
    let x = worthless p 0 spot lists e in
    let shifted = x.spot_is in
    let same : x.gap ≡ spot = omega arith in
    let P : ℕ → Type 0 = λ k. slice_get lists k ≡ Some x.list in
    let Q : ℕ → Type 0 = λ k. HaveWorths p lists k in
    record { list = x.list; at = subst P same x.at; none = x.none; first = subst Q same x.before }
unlawful-found p lists None e = λ spot list below at. (worthy p 0 lists e).worths spot list at

worths-verdict : (p : Problem) (lists : List Column) (o : Option ℕ) → StandOnce p lists → first_worthless p 0 lists ≡ o →
    IsVerdict p lists (by_worths p lists o)
worths-verdict p lists (Some spot) stand e = (stand, unlawful-found p lists (Some spot) e)
worths-verdict p lists None stand e = classes-verdict p lists (first_of (length p.caps) 0 (is_over p lists)) stand (worthy p 0 lists e) refl

items-verdict : (p : Problem) (lists : List Column) (o : Option ℕ) → first_of p.items 0 (is_off lists) ≡ o →
    IsVerdict p lists (by_items p lists o)
items-verdict p lists (Some item) e =
    let x = first-some p.items 0 item (is_off lists) e in
    let most = x.most in
    record {
      there = omega arith;
      count_is = refl;
      other = off lists item x.passes;
      first =
          λ earlier below. once lists earlier (x.others earlier (omega arith) below);
    }
items-verdict p lists None e =
    worths-verdict p lists (first_worthless p 0 lists)
    (λ item below. once lists item (first-none p.items 0 (is_off lists) e item (omega arith) (omega arith))) refl

-- The main theorem of this file: the computed verdict is one, for any lists. It goes by items, then lists, then classes, and each
-- stage may use that the ones before found nothing: so what is left at the end is a plan, and each cause is the first of its kind.
-- The checker, which only has to compute, thus decides whether lists from anywhere are a plan.
pub verdict-is : (p : Problem) (lists : List Column) → IsVerdict p lists (verdict_of p lists)
verdict-is p lists = items-verdict p lists (first_of p.items 0 (is_off lists)) refl
