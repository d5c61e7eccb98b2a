-- What a search among the labels of a class finds.
use Rattle.std.proofs.Common.{◌≡◌, ℕ, ℤ, pos, neg_ℤ, ◌+◌, ◌<◌, ◌⊎◌, inl, inr, ◌-ℤ◌, ◌≤ℤ◌, ◌<ℤ◌, List, length, Option, Some, None, refl, sym, ap, subst, ◌∙◌, arith}
use Rattle.std.specs.Prelude.{IfSome, IfNone}
use Rattle.std.specs.Option.{option_map}
use Rattle.std.proofs.lemmas.Int.{ints}
use Rattle.plan_core.specs.declared.Price.{Price}
use Rattle.cover_core.specs.declared.Column.{Column}
use Rattle.cover_core.specs.Cover.{Problem, AllBelow}
use Rattle.cover_core.specs.Plans.{HasListedColumns, number_at, value_of}
use Rattle.cover_core.specs.FirstLeast.{IsAtMostAll, value}
use Rattle.cover_core.specs.Labels.{Labelling}
use Rattle.cover_core.specs.Laws.{BestIsFirstLeast}
use Rattle.label_search.specs.Answers.{AllCloseAbove, IsLeastClosed}
use Rattle.label_search.specs.Limits.{passed}
use Rattle.label_search.specs.Pricing.{IsTied, worth_column}
use Rattle.unpaid_list.specs.Laws.{LeastIsBest, may_close_always}
use Rattle.unpaid_list.specs.Unpaid.{AreClassesPaid, IsClassPaid, IsFirstUnpaid, IsLeastOfClass}

-- every label passes
pub all-pass : {L : Type 0} (limit : ℤ) (o : Option L) → o ≡ passed (may_close_always limit) o
all-pass limit None = refl
all-pass limit (Some a) = refl

-- A list that closes first of all is the first least of its class: each list with a worth closes with its value, and each list that
-- closes has a worth and closes with its value.
pub record IsFound (p : Problem) (prices : List Price) (class : ℕ) (list : List ℕ) (least : ℤ) : Type 0 where
  pub worth : ℕ
  pub has : p.worth class list ≡ Some worth
  pub is_value : least ≡ value_of prices worth list
  pub first : IsLeastOfClass p prices class (record { class = class; worth = worth; items = list })

-- The search among labels knows nothing of worths: it finds the list that closes first of all. The tie of the two says that a list has
-- a worth exactly where its label closes, and then with its value. So what is least, and first, among lists that close is so among
-- columns.
pub found-least : {L : Type 0} (w : Labelling L) (close : L → Option ℤ) (p : Problem) (prices : List Price) (class : ℕ)
    (list : List ℕ) (least : ℤ) →
    class < length p.caps → IsTied w close prices (p.worth class) → IsLeastClosed w close list least → IsFound p prices class list least
found-least {L = L} w close p prices class list least there tied closed =
    let (worth, has, is) = tied.from list closed.label least closed.label_is closed.closes in
    record {
      worth = worth;
      has = has;
      is_value = is;
      first = record {
        listed = (there, has);
        of_class = refl;
        least = λ other more e.
            let (a, labelled, closes) = tied.onto other more e in
            let low = closed.first.at_least other a (value_of prices more other) labelled closes in
            let Q : ℤ → Type 0 = λ z. z ≤ℤ value_of prices more other in
            subst Q is low;
        first = λ other more e same.
            let (a, labelled, closes) = tied.onto other more e in
            let Q : ℤ → Type 0 = λ z. close a ≡ Some z in
            closed.first.first other a labelled (subst Q (same ∙ sym is) closes);
      };
    }

-- its items are there
pub found-below : (p : Problem) (prices : List Price) (class : ℕ) (list : List ℕ) (least : ℤ) → HasListedColumns p →
    IsFound p prices class list least → AllBelow p.items list
found-below p prices class list least listed found = (listed class list found.worth found.has).2

-- and it is there as a column
pub found-column : (p : Problem) (prices : List Price) (class : ℕ) (list : List ℕ) (least : ℤ) (answer : Option Column)
    (found : IsFound p prices class list least) →
    answer ≡ worth_column p class list → answer ≡ Some (record { class = class; worth = found.worth; items = list })
found-column p prices class list least answer found e =
    let made : ℕ → Column = λ worth. record { class = class; worth = worth; items = list } in
    e ∙ ap (option_map made) found.has

pub least-answer : (p : Problem) (prices : List Price) (class : ℕ) (list : List ℕ) (least : ℤ) (answer : Option Column) →
    IsFound p prices class list least →
    answer ≡ worth_column p class list → IfSome answer (λ column. IsLeastOfClass p prices class column)
least-answer p prices class list least answer found e =
    let P : Option Column → Type 0 = λ o. IfSome o (λ column. IsLeastOfClass p prices class column) in
    subst P (sym (found-column p prices class list least answer found e)) found.first

pub unpaid-answer : (p : Problem) (prices : List Price) (class : ℕ) (list : List ℕ) (least class_price : ℤ) (answer : Option Column) →
    IsFound p prices class list least →
    least ≤ℤ (neg_ℤ class_price -ℤ pos 1) → answer ≡ worth_column p class list →
    IfSome answer (λ column. value prices column <ℤ neg_ℤ class_price)
unpaid-answer p prices class list least class_price answer found low e =
    let P : Option Column → Type 0 = λ o. IfSome o (λ column. value prices column <ℤ neg_ℤ class_price) in
    let is = found.is_value in
    let below : value_of prices found.worth list <ℤ neg_ℤ class_price = omega (arith, ints, is, low) in
    subst P (sym (found-column p prices class list least answer found e)) below

pub none-answer : (p : Problem) (prices : List Price) (class : ℕ) (list : List ℕ) (least : ℤ) (answer : Option Column) (X : Type 0) →
    IsFound p prices class list least →
    answer ≡ worth_column p class list → IfNone answer X
none-answer p prices class list least answer X found e =
    let P : Option Column → Type 0 = λ o. IfNone o X in
    subst P (sym (found-column p prices class list least answer found e)) tt

-- Where each list closes above the limit, the class is paid. The search looks for closings of at most minus the class price less one;
-- where there is none, no column has a value below minus the class price, as values are whole numbers. So with `found-least` a class
-- is paid, or its first least list is told, and there is no third answer.
pub above-paid : {L : Type 0} (w : Labelling L) (close : L → Option ℤ) (p : Problem) (prices : List Price) (class : ℕ) (class_price : ℤ) →
    IsTied w close prices (p.worth class) → AllCloseAbove w close (neg_ℤ class_price -ℤ pos 1) →
    IsAtMostAll p prices class (neg_ℤ class_price)
above-paid w close p prices class class_price tied above = λ list worth e.
    let (a, labelled, closes) = tied.onto list worth e in
    let high = above list a (value_of prices worth list) labelled closes in
    omega (arith, ints, high)

-- the first least of the first class that is not paid
pub first-answer : (p : Problem) (prices : List Price) (class_prices : List ℤ) (class : ℕ) (column : Column) →
    IsLeastOfClass p prices class column →
    value prices column <ℤ neg_ℤ (number_at class_prices class) → AreClassesPaid p prices class_prices class →
    IsFirstUnpaid p prices class_prices column
first-answer p prices class_prices class column least unpaid earlier =
    let is = sym least.of_class in
    let P : ℕ → Type 0 = λ k. IsLeastOfClass p prices k column in
    let Q : ℕ → Type 0 = λ k. value prices column <ℤ neg_ℤ (number_at class_prices k) in
    let R : ℕ → Type 0 = λ k. AreClassesPaid p prices class_prices k in
    record { least = subst P is least; unpaid = subst Q is unpaid; earlier = subst R is earlier }

-- an unpaid list refutes that all classes are paid
pub unpaid-refutes : (p : Problem) (prices : List Price) (class_prices : List ℤ) (column : Column) →
    IsFirstUnpaid p prices class_prices column →
    AreClassesPaid p prices class_prices (length p.caps) → ⊥
unpaid-refutes p prices class_prices column found paid =
    let listed = found.least.listed in
    let low = paid column.class listed.0 column.items column.worth listed.1 in
    let high = found.unpaid in
    omega (arith, ints, low, high)

-- This is the step of the loop over classes: those before are paid. The first class that is not paid ends it (`first-answer`), with
-- its first least list; and where the loop ends otherwise all are paid.
pub next-paid : (p : Problem) (prices : List Price) (class_prices : List ℤ) (class : ℕ) → AreClassesPaid p prices class_prices class →
    IsClassPaid p prices class_prices class →
    AreClassesPaid p prices class_prices (class + 1)
next-paid p prices class_prices class earlier this = λ k below.
    elim (last-or-below k class below) as (λ _. IsClassPaid p prices class_prices k) [
      | inl less ↦ earlier k less
      | inr same ↦ let P : ℕ → Type 0 = λ i. IsClassPaid p prices class_prices i in subst P (sym same) this
    ]
  where
    last-or-below : (k n : ℕ) → k < n + 1 → (k < n) ⊎ (k ≡ n)
    last-or-below k n h = grind arith

pub least-best : (p : Problem) → BestIsFirstLeast p → LeastIsBest p
least-best p best = λ prices class group column least inside.
    let listed = least.listed in
    let P : ℕ → Type 0 = λ k. k < length p.caps in
    (best prices class group (subst P least.of_class listed.0)).only column (record {
      listed = listed;
      of_class = least.of_class;
      of_group = inside;
      least = λ list worth e of_group. least.least list worth e;
      first = λ list worth e of_group same. least.first list worth e same;
    })
