-- The first least of the lists that close is the best column.
use Rattle.std.proofs.Common.{◌≡◌, ℕ, ℤ, pos, neg_ℤ, ◌+ℤ◌, ◌*◌, ◌+◌, ◌≤ℤ◌, ◌<◌, ◌≤◌, ◌/◌, Bool, true, false, cond, List, [], ◌∷◌, length, refl, sym, ap, ◌∙◌, arith}
use Rattle.std.proofs.lemmas.Int.{ints}
use Rattle.std.proofs.lemmas.Bool.Decides.{nat_tests}
use Rattle.std.specs.Prelude.{Option, Some, None, nat_eq, unwrap_or, Contains, Result, Ok, Err, IfOk}
use Rattle.plan_core.specs.declared.Price.{Price}
use Rattle.cover_core.specs.declared.Column.{Column}
use Rattle.cover_core.specs.Cover.{Problem}
use Rattle.cover_core.specs.Plans.{value_of, price_of}
use Rattle.cover_core.specs.FirstLeast.{InGroup, IsFirstLeast, AllAbove, value}
use Rattle.cover_core.specs.Labels.{Labelling, label_after, label_of, IsKept, IsValued, IsCover}
use Rattle.cover_core.proofs.Labels.{covers}
use Rattle.label_search.specs.Laws.{GoodAs, IsStepwise, IsSafe, HidesNone}
use Rattle.label_search.specs.Answers.{IsLeastClosed, AllCloseAbove}
use Rattle.label_search.specs.Pricing.{of_start, of_group, of_range, is_between, IsTied, IsTiedInGroup, CoverPays, worth_column}
use Rattle.cover_core.specs.Best.{best_of, within}
use Rattle.cover_core.specs.Laws.{WithinIsLimited}
use Rattle.std.specs.Option.{option_map}

pub start-parts : {L : Type 0} (t : Bool) (o : Option L) (b : L) → cond t o None ≡ Some b → (t ≡ true) × (o ≡ Some b)
start-parts true o b e = (refl, e)
start-parts false o b e = absurd (cc)

-- The laws of labels stay where a test says which items lists may begin with: they speak of steps, which are the same, and of starts, of
-- which some are left.
pub of_start-kept : {L : Type 0} (w : Labelling L) (good : L → L → Type 0) (begins : ℕ → Bool) → IsKept w good →
    IsKept (of_start w begins) good
of_start-kept w good begins k = record { same = k.same; through = k.through; extended = k.extended }

pub of_start-valued : {L : Type 0} (w : Labelling L) (good : L → L → Type 0) (value_at : L → ℤ) (close : L → Option ℤ) (begins : ℕ → Bool) →
    IsValued w good value_at close → IsValued (of_start w begins) good value_at close
of_start-valued w good value_at close begins v = record { at_most = v.at_most; apart = v.apart; closes = v.closes }

pub of_start-stepwise : {L : Type 0} (w : Labelling L) (count : ℕ) (last : L → ℕ) (begins : ℕ → Bool) → IsStepwise w count last →
    IsStepwise (of_start w begins) count last
of_start-stepwise w count last begins s = record {
  starts = λ item a e. let (test, e1) = start-parts _ _ a e in s.starts item a e1;
  steps = s.steps;
}

pub of_start-safe : {L : Type 0} (w : Labelling L) (sound : L → Type 0) (begins : ℕ → Bool) → IsSafe w sound →
    IsSafe (of_start w begins) sound
of_start-safe w sound begins s = record {
  starts = λ item a e. let (test, e1) = start-parts _ _ a e in s.starts item a e1;
  steps = s.steps;
}

pub of_start-hides : {L : Type 0} (w : Labelling L) (good : L → L → Bool) (close : L → Option ℤ) (sound : L → Type 0)
    (may_close : ℤ → L → Bool) (begins : ℕ → Bool) →
    HidesNone w good close sound may_close → HidesNone (of_start w begins) good close sound may_close
of_start-hides w good close sound may_close begins h = record { closes = h.closes; steps = h.steps; ordered = h.ordered }

after-start : {L : Type 0} (w : Labelling L) (begins : ℕ → Bool) (o : Option L) (xs : List ℕ) →
    label_after (of_start w begins) o xs ≡ label_after w o xs
after-start w begins None [] = refl
after-start w begins None (x ∷ xs) = refl
after-start w begins (Some a) [] = refl
after-start w begins (Some a) (x ∷ xs) = after-start w begins (w.extend a x) xs

-- the label of a list depends on the test of its first item alone
pub start-label : {L : Type 0} (w : Labelling L) (begins : ℕ → Bool) (x : ℕ) (xs : List ℕ) →
    label_of (of_start w begins) (x ∷ xs) ≡ label_after w (cond (begins x) (w.start x) None) xs
start-label w begins x xs = after-start w begins (cond (begins x) (w.start x) None) xs

-- the laws of labels stay in a group
pub of_group-kept : {L : Type 0} (w : Labelling L) (good : L → L → Type 0) (group : ℕ) → IsKept w good → IsKept (of_group w group) good
of_group-kept w good group = of_start-kept w good (λ item. nat_eq (item / 16) group)

pub of_group-valued : {L : Type 0} (w : Labelling L) (good : L → L → Type 0) (value_at : L → ℤ) (close : L → Option ℤ) (group : ℕ) →
    IsValued w good value_at close → IsValued (of_group w group) good value_at close
of_group-valued w good value_at close group = of_start-valued w good value_at close (λ item. nat_eq (item / 16) group)

pub of_group-stepwise : {L : Type 0} (w : Labelling L) (count : ℕ) (last : L → ℕ) (group : ℕ) → IsStepwise w count last →
    IsStepwise (of_group w group) count last
of_group-stepwise w count last group = of_start-stepwise w count last (λ item. nat_eq (item / 16) group)

pub of_group-safe : {L : Type 0} (w : Labelling L) (sound : L → Type 0) (group : ℕ) → IsSafe w sound → IsSafe (of_group w group) sound
of_group-safe w sound group = of_start-safe w sound (λ item. nat_eq (item / 16) group)

pub of_group-hides : {L : Type 0} (w : Labelling L) (good : L → L → Bool) (close : L → Option ℤ) (sound : L → Type 0)
    (may_close : ℤ → L → Bool) (group : ℕ) →
    HidesNone w good close sound may_close → HidesNone (of_group w group) good close sound may_close
of_group-hides w good close sound may_close group = of_start-hides w good close sound may_close (λ item. nat_eq (item / 16) group)

group-test : (x group : ℕ) → nat_eq (x / 16) group ≡ true → x / 16 ≡ group
group-test x group h = grind (arith, nat_tests)

test-group : (x group : ℕ) → x / 16 ≡ group → nat_eq (x / 16) group ≡ true
test-group x group h = grind (arith, nat_tests)

none-after : {L : Type 0} (w : Labelling L) (xs : List ℕ) (b : L) → label_after w None xs ≡ Some b → ⊥
none-after w [] b e = cc
none-after w (x ∷ xs) b e = cc

-- A list has a label in a group exactly where it has one and its first item is of the group, and then it is the same label: the test
-- stands at the start alone, and all further steps are those of the labelling. This is the one half, and `onto-group` the other;
-- together they carry the tie between closings and worths over to a group.
pub from-group : {L : Type 0} (w : Labelling L) (group : ℕ) (xs : List ℕ) (b : L) → label_of (of_group w group) xs ≡ Some b →
    (label_of w xs ≡ Some b) × InGroup group xs
from-group w group [] b e = absurd (cc)
from-group {L = L} w group (x ∷ xs) b e =
    let e' : label_after w (cond (nat_eq (x / 16) group) (w.start x) None) xs ≡ Some b =
    sym (start-label w (λ item. nat_eq (item / 16) group) x xs) ∙ e in
    elim (nat_eq (x / 16) group) as (λ t. nat_eq (x / 16) group ≡ t → label_after w (cond t (w.start x) None) xs ≡ Some b →
    (label_after w (w.start x) xs ≡ Some b) × (x / 16 ≡ group)) [
      | true ↦ λ is f. (f, group-test x group is)
      | false ↦ λ is f. absurd (none-after w xs b f)
    ] refl e'

pub onto-group : {L : Type 0} (w : Labelling L) (group : ℕ) (xs : List ℕ) → InGroup group xs →
    label_of (of_group w group) xs ≡ label_of w xs
onto-group w group [] inside = absurd inside
onto-group {L = L} w group (x ∷ xs) inside =
    start-label w (λ item. nat_eq (item / 16) group) x xs ∙ ap (λ t. label_after w (cond t (w.start x) None) xs) (test-group x group inside)

-- the tie of all lists is one of each group
pub of_group-tied : {L : Type 0} (w : Labelling L) (close : L → Option ℤ) (prices : List Price) (group : ℕ) (worth_of : List ℕ → Option ℕ) →
    IsTied w close prices worth_of → IsTiedInGroup (of_group w group) close prices group worth_of
of_group-tied w close prices group worth_of tied = record {
  onto = λ list worth e inside. let (a, has, closes) = tied.onto list worth e in (a, onto-group w group list inside ∙ has, closes);
  from = λ list a v e c. let (has, inside) = from-group w group list a e in let (worth, worth_is, value_is) = tied.from list a v has c in
      (inside, worth, worth_is, value_is);
}

-- an item of a group is between the group's first one and the next group's
between-group : (x group : ℕ) → x / 16 ≡ group → is_between (16 * group) (16 * group + 16) x ≡ true
between-group x group h = grind (arith, nat_tests)

group-between : (x group : ℕ) → is_between (16 * group) (16 * group + 16) x ≡ true → x / 16 ≡ group
group-between x group h = grind (arith, nat_tests)

-- the tie of all lists is one of each group, whose first items are a range
pub of_range-tied : {L : Type 0} (w : Labelling L) (close : L → Option ℤ) (prices : List Price) (group : ℕ) (worth_of : List ℕ → Option ℕ) →
    IsTied w close prices worth_of → IsTiedInGroup (of_range w (16 * group) (16 * group + 16)) close prices group worth_of
of_range-tied {L = L} w close prices group worth_of tied = record {
  onto = λ list worth e inside. let (a, has, closes) = tied.onto list worth e in (a, onto list inside ∙ has, closes);
  from = λ list a v e c. let (has, inside) = from list a e in let (worth, worth_is, value_is) = tied.from list a v has c in
      (inside, worth, worth_is, value_is);
}
  where
    onto : (xs : List ℕ) → InGroup group xs → label_of (of_range w (16 * group) (16 * group + 16)) xs ≡ label_of w xs
    onto [] inside = absurd inside
    onto (x ∷ xs) inside = start-label w (is_between (16 * group) (16 * group + 16)) x xs
        ∙ ap (λ t. label_after w (cond t (w.start x) None) xs) (between-group x group inside)

    from : (xs : List ℕ) (b : L) → label_of (of_range w (16 * group) (16 * group + 16)) xs ≡ Some b →
        (label_of w xs ≡ Some b) × InGroup group xs
    from [] b e = absurd (cc)
    from (x ∷ xs) b e =
        elim (is_between (16 * group) (16 * group + 16) x) as (λ t. is_between (16 * group) (16 * group + 16) x ≡ t →
        label_after w (cond t (w.start x) None) xs ≡ Some b → (label_after w (w.start x) xs ≡ Some b) × (x / 16 ≡ group)) [
          | true ↦ λ is f. (f, group-between x group is)
          | false ↦ λ is f. absurd (none-after w xs b f)
        ] refl (sym (start-label w (is_between (16 * group) (16 * group + 16)) x xs) ∙ e)

below-end : (x count end : ℕ) → x < count → count ≤ end → is_between 0 end x ≡ true
below-end x count end below few = grind (arith, nat_tests)

-- Where a range begins with item 0 and has all items, no list is left out by its first item, so each list has the label that it has
-- without a range. The test is at the first item alone: where no list starts with it both labels are none, and where one does the
-- item is below the count. So a search over all groups is a search by range, too.
pub of_range-all : {L : Type 0} (w : Labelling L) (count end : ℕ) (last : L → ℕ) → IsStepwise w count last → count ≤ end → (xs : List ℕ) →
    label_of (of_range w 0 end) xs ≡ label_of w xs
of_range-all w count end last steps few [] = refl
of_range-all {L = L} w count end last steps few (x ∷ xs) =
    start-label w (is_between 0 end) x xs ∙
    elim (w.start x) as (λ o. w.start x ≡ o → label_after w (cond (is_between 0 end x) o None) xs ≡ label_after w o xs) [
      | None ↦ λ is. none-either (is_between 0 end x)
      | Some a ↦ λ is. ap (λ t. label_after w (cond t (Some a) None) xs) (below-end x count end (steps.starts x a is).0 few)
    ] refl
  where
    none-either : (t : Bool) → label_after w (cond t None None) xs ≡ label_after w None xs
    none-either true = refl
    none-either false = refl

pub of_range-tied-all : {L : Type 0} (w : Labelling L) (count end : ℕ) (last : L → ℕ) (close : L → Option ℤ) (prices : List Price)
    (worth_of : List ℕ → Option ℕ) → IsStepwise w count last → count ≤ end →
    IsTied w close prices worth_of → IsTied (of_range w 0 end) close prices worth_of
of_range-tied-all w count end last close prices worth_of steps few tied = record {
  onto = λ list worth e. let (a, has, closes) = tied.onto list worth e in (a, of_range-all w count end last steps few list ∙ has, closes);
  from = λ list a v e c. tied.from list a v (sym (of_range-all w count end last steps few list) ∙ e) c;
}

-- What a search finds as a list is what the problem asks for as a column: the list that closes first is the first least column of
-- its class and group, and the value with which it closes is the column's. A tie says that the lists that close are those that are
-- columns, and that they close with their values; so "least" and "first" of the one reading are those of the other, each by `onto`
-- of the tie.
pub first_least : {L : Type 0} (w : Labelling L) (close : L → Option ℤ) (p : Problem) (prices : List Price) (class group : ℕ) →
    IsTiedInGroup w close prices group (p.worth class) → class < length p.caps →
    (column : Column) (least : ℤ) → column.class ≡ class → p.worth class column.items ≡ Some column.worth →
    IsLeastClosed w close column.items least → IsFirstLeast p prices class group column × (value prices column ≡ least)
first_least w close p prices class group tied there column least of_class worth_is answer =
    let (inside, worth, is_worth, value_is) = tied.from column.items answer.label least answer.label_is answer.closes in
    let same : worth ≡ column.worth = let g : Option ℕ → ℕ = λ o. unwrap_or o 0 in ap g (sym is_worth ∙ worth_is) in
    let total : least ≡ value prices column = value_is ∙ ap (λ n. value_of prices n column.items) same in (
      record {
        listed = (rw of_class there, rw of_class worth_is);
        of_class = of_class;
        of_group = inside;
        least = λ list n e g.
            let (a, has, closes) = tied.onto list n e g in
            let bound = answer.first.at_least list a (value_of prices n list) has closes in
            omega (arith, ints);
        first = λ list n e g equal.
            let (a, has, closes) = tied.onto list n e g in
            let same_value : value_of prices n list ≡ least = equal ∙ sym total in
            answer.first.first list a has (closes ∙ ap Some same_value);
      },
      sym total,
    )

-- where all lists close above the limit, all values are above it
pub all_above : {L : Type 0} (w : Labelling L) (close : L → Option ℤ) (p : Problem) (prices : List Price) (class group : ℕ) (limit : ℤ) →
    IsTiedInGroup w close prices group (p.worth class) → AllCloseAbove w close limit → AllAbove p prices class group limit
all_above w close p prices class group limit tied above = λ list n e g.
    let (a, has, closes) = tied.onto list n e g in above list a (value_of prices n list) has closes

-- a test that says the same as a relation
pub kept-by : {L : Type 0} (w : Labelling L) (good : L → L → Type 0) (test : L → L → Bool) → ((a b : L) → good a b → test a b ≡ true) →
    ((a b : L) → test a b ≡ true → good a b) →
    IsKept w good → IsKept w (GoodAs test)
kept-by w good test onto from k = record {
  same = λ a. onto a a (k.same a);
  through = λ a b c h i. onto a c (k.through a b c (from a b h) (from b c i));
  extended = λ a b b' item h e. let (a', is, better) = k.extended a b b' item (from a b h) e in (a', is, onto a' b' better);
}

pub valued-by : {L : Type 0} (w : Labelling L) (good : L → L → Type 0) (test : L → L → Bool) (value_at : L → ℤ) (close : L → Option ℤ) →
    ((a b : L) → test a b ≡ true → good a b) →
    IsValued w good value_at close → IsValued w (GoodAs test) value_at close
valued-by w good test value_at close from v = record {
  at_most = λ a b h. v.at_most a b (from a b h);
  apart = λ a b a' b' item h. v.apart a b a' b' item (from a b h);
  closes = λ a b z h. v.closes a b z (from a b h);
}

-- Labels that are a cover prove that prices are paid, without a search. A column's list has a label that closes with its value; some
-- label of the cover is at least as good and so closes with no more; and none of the cover closes below minus the class price. So
-- the column's value is at least minus the class price, which is to say that its prices are paid. The contract of `cover_pays` rests
-- on it.
pub cover-pays : {L : Type 0} (w : Labelling L) (good : L → L → Type 0) (value_at : L → ℤ) (close : L → Option ℤ) (kept : L → Type 0)
    (prices : List Price) (worth_of : List ℕ → Option ℕ) (class_price : ℤ) →
    IsKept w good → IsValued w good value_at close → IsTied w close prices worth_of → IsCover w good kept →
    ((a : L) (u : ℤ) → kept a → close a ≡ Some u → neg_ℤ class_price ≤ℤ u) →
    (list : List ℕ) (worth : ℕ) → worth_of list ≡ Some worth → price_of prices list ≤ℤ (pos (1000 * worth) +ℤ class_price)
cover-pays w good value_at close kept prices worth_of class_price k v tied cover low list worth e =
    let (b, has, closed) = tied.onto list worth e in
    let (a, is_kept, better) = covers w good kept k cover list b has in
    let (u, closes, below, strict) = v.closes a b (value_of prices worth list) better closed in
    let least = low a u is_kept closes in
    omega (arith, ints)

pub labels-pay : {L : Type 0} (w : Labelling L) (good : L → L → Type 0) (value_at : L → ℤ) (close : L → Option ℤ) → IsKept w good →
    IsValued w good value_at close → CoverPays w good close
labels-pay w good value_at close k v kept prices worth_of class_price =
    cover-pays w good value_at close (Contains kept) prices worth_of class_price k v

-- The step from the search to the contract of pricing: where a list that closes first is found within the limit, its column is the
-- best one of the class and group within the limit. Its worth is that of the tie, it is the first least column by `first_least`, and
-- within a limit the first least is the answer (`WithinIsLimited`). With `none-best`, where all lists close above the limit, no case
-- is left.
pub found-best : {L : Type 0} (w : Labelling L) (close : L → Option ℤ) (p : Problem) (prices : List Price) (class group : ℕ) (limit : ℤ) →
    WithinIsLimited p → class < length p.caps → IsTiedInGroup w close prices group (p.worth class) → (list : List ℕ) (least : ℤ) →
    IsLeastClosed w close list least → least ≤ℤ limit → worth_column p class list ≡ within limit prices (best_of p prices class group)
found-best w close p prices class group limit limited there tied list least answer low =
    let (inside, worth, is_worth, value_is) = tied.from list answer.label least answer.label_is answer.closes in
    let column : Column = record { class = class; worth = worth; items = list } in
    let (first, total) = first_least w close p prices class group tied there column least refl is_worth answer in
    let f : ℕ → Column = λ n. record { class = class; worth = n; items = list } in
    ap (option_map f) is_worth ∙ sym ((limited prices class group limit there).onto column first (omega (arith, ints, total)))

-- where all lists close above the limit there is none
pub none-best : {L : Type 0} (w : Labelling L) (close : L → Option ℤ) (p : Problem) (prices : List Price) (class group : ℕ) (limit : ℤ) →
    WithinIsLimited p → class < length p.caps → IsTiedInGroup w close prices group (p.worth class) → AllCloseAbove w close limit →
    None ≡ within limit prices (best_of p prices class group)
none-best w close p prices class group limit limited there tied above =
    sym ((limited prices class group limit there).none (all_above w close p prices class group limit tied above))

-- a fact of an answer that follows from another one
pub if-ok : {T E : Type 0} (r : Result T E) (P Q : T → Type 0) → ((x : T) → P x → Q x) → IfOk r P → IfOk r Q
if-ok (Ok x) P Q f h = f x h
if-ok (Err e) P Q f h = h
