-- The best column of a group is its first least, and the only one.
use Rattle.std.proofs.Common.{◌≡◌, ◌⊎◌, ℕ, ℤ, ◌≤ℤ◌, ◌<ℤ◌, int_le, ◌+◌, ◌<◌, ◌≤◌, true, false, cond, zero, suc, List, [], ◌∷◌, ◌++◌, map, reverse, length, Option, Some, None, unwrap_or, refl, sym, ap, ◌∙◌, subst, inl, inr, arith, filter_map, option_map}
use Rattle.std.proofs.lemmas.Int.{ints}
use Rattle.std.proofs.lemmas.Bool.{cases_eq}
use Rattle.std.proofs.lemmas.Bool.Decides.{nat_tests}
use Rattle.std.proofs.lemmas.Cmp.{int_cmp_total, on_total, then_total, upto, tied_itself, int_ranked, by_ranked}
use Rattle.std.proofs.lemmas.List.{reverse-reverse}
use Rattle.std.specs.Option.{option_map_or}
use Rattle.std.specs.Ordering.{nat_cmp, int_cmp, is_gt, ordering_then, ordering_reverse}
use Rattle.std.specs.Cmp.{IsTotalOrder}
use Rattle.std.specs.Cmp.Lexicographic.{slice_cmp}
use Rattle.std.specs.declared.cmp.Ordering.{Ordering}
use Rattle.std.specs.declared.cmp.Ordering.TheVariants.{Less, Equal, Greater}
use Rattle.plan_core.specs.declared.Price.{Price}
use Rattle.cover_core.specs.declared.Column.{Column}
use Rattle.cover_core.specs.Cover.{Problem, Rises, AllBelow}
use Rattle.cover_core.specs.Plans.{HasListedColumns, value_of}
use Rattle.cover_core.specs.FirstLeast.{backward_cmp, IsNotAfter, InGroup, IsFirstLeast, value}
use Rattle.cover_core.specs.Best.{rising_from, is_in_group, column_of, column_cmp, earlier, earliest, group_columns, best_of, within}
use Rattle.cover_core.specs.Laws.{BestIsFirstLeast, WithinIsLimited}
use Rattle.cover_core.proofs.Order.{backward_cmp_total}
use Rattle.cover_core.proofs.Parts.{Rises-tail}

-- what is in a list
abbrev pub IsIn : {X : Type 0} → X → List X → Type 0
IsIn y [] = ⊥
IsIn y (x ∷ xs) = (x ≡ y) ⊎ IsIn y xs

abbrev pub IsEach : {X : Type 0} → (X → Type 0) → List X → Type 0
IsEach P [] = Unit {0}
IsEach P (x ∷ xs) = P x × IsEach P xs

pub IsIn-left : {X : Type 0} (y : X) (xs ys : List X) → IsIn y xs → IsIn y (xs ++ ys)
IsIn-left y [] ys h = absurd h
IsIn-left y (x ∷ xs) ys h = elim h [ inl here ↦ inl here | inr there ↦ inr (IsIn-left y xs ys there) ]

pub IsIn-right : {X : Type 0} (y : X) (xs ys : List X) → IsIn y ys → IsIn y (xs ++ ys)
IsIn-right y [] ys h = h
IsIn-right y (x ∷ xs) ys h = inr (IsIn-right y xs ys h)

pub IsIn-map : {X Y : Type 0} (f : X → Y) (x : X) (xs : List X) → IsIn x xs → IsIn (f x) (map f xs)
IsIn-map f x [] h = absurd h
IsIn-map f x (y ∷ ys) h = elim h [ inl here ↦ inl (ap f here) | inr there ↦ inr (IsIn-map f x ys there) ]

pub IsIn-filter_map : {X Y : Type 0} (h : X → Option Y) (x : X) (y : Y) (xs : List X) → h x ≡ Some y → IsIn x xs → IsIn y (filter_map h xs)
IsIn-filter_map h x y [] e i = absurd i
IsIn-filter_map {X = X} {Y = Y} h x y (z ∷ zs) e i =
    elim i [
      | inl here ↦ let is : h z ≡ Some y = ap h here ∙ e in rw is (inl refl)
      | inr there ↦
          let rest = IsIn-filter_map h x y zs e there in
          elim (h z) as (λ o. h z ≡ o → IsIn y (filter_map h (z ∷ zs))) [
            | None ↦ λ is. rw is rest
            | Some w ↦ λ is. rw is (inr rest)
          ] refl
    ]

pub IsEach-filter_map : {X Y : Type 0} (P : Y → Type 0) (h : X → Option Y) → ((x : X) (y : Y) → h x ≡ Some y → P y) →
    (xs : List X) → IsEach P (filter_map h xs)
IsEach-filter_map P h all [] = tt
IsEach-filter_map P h all (x ∷ xs) =
    let rest = IsEach-filter_map P h all xs in
    elim (h x) as (λ o. h x ≡ o → IsEach P (filter_map h (x ∷ xs))) [
      | None ↦ λ is. rw is rest
      | Some y ↦ λ is. rw is (all x y is, rest)
    ] refl

-- the first item, where there is one, is at least k
abbrev pub StartsFrom : ℕ → List ℕ → Type 0
StartsFrom k [] = Unit {0}
StartsFrom k (x ∷ xs) = k ≤ x

StartsFrom-tail : (x : ℕ) (xs : List ℕ) → Rises (x ∷ xs) → StartsFrom (suc x) xs
StartsFrom-tail x [] r = tt
StartsFrom-tail x (y ∷ ys) r = let step = r.0 in omega arith

-- Each list that rises is among them, by induction over the items that are left, where the list starts at k or later: it begins
-- with k, and its rest is among the lists from k + 1 on, or it does not begin with k and is itself among these. No code makes these
-- lists, which are far too many; they make the best column a function of the problem, and this lemma says that the function leaves
-- none out.
pub rising_from-has : (n k : ℕ) (xs : List ℕ) → Rises xs → StartsFrom k xs → AllBelow (k + n) xs → IsIn xs (rising_from n k)
rising_from-has zero k [] r s b = inl refl
rising_from-has zero k (x ∷ xs) r s b = let below = b.0 in absurd (omega arith)
rising_from-has (suc n) k [] r s b =
    IsIn-right [] (map (λ (list : List ℕ). k ∷ list) (rising_from n (suc k))) (rising_from n (suc k))
    (rising_from-has n (suc k) [] tt tt tt)
rising_from-has (suc n) k (x ∷ xs) r s b =
    let moved : k + suc n ≡ suc k + n = omega arith in
    let P : ℕ → Type 0 = λ m. AllBelow m (x ∷ xs) in
    let below : AllBelow (suc k + n) (x ∷ xs) = subst P moved b in
    elim (cases_eq k x) [
      | inl same ↦
          let starts : StartsFrom (suc k) xs = rw same (StartsFrom-tail x xs r) in
          let rest = rising_from-has n (suc k) xs (Rises-tail x xs r) starts below.1 in
          let Q : ℕ → Type 0 = λ y. IsIn (y ∷ xs) (rising_from (suc n) k) in
          subst Q same (IsIn-left (k ∷ xs) (map (λ (list : List ℕ). k ∷ list) (rising_from n (suc k))) (rising_from n (suc k))
          (IsIn-map (λ (list : List ℕ). k ∷ list) xs (rising_from n (suc k)) rest))
      | inr apart ↦
          let starts : suc k ≤ x = omega arith in
          IsIn-right (x ∷ xs) (map (λ (list : List ℕ). k ∷ list) (rising_from n (suc k))) (rising_from n (suc k))
          (rising_from-has n (suc k) (x ∷ xs) r starts below)
    ]

pub column_cmp_total : (prices : List Price) → IsTotalOrder (column_cmp prices)
column_cmp_total prices = then_total (on_total (value prices) int_cmp_total) (on_total (λ (c : Column). c.items) backward_cmp_total)

-- one column is not after another
abbrev pub IsFirst : List Price → Column → Column → Type 0
IsFirst prices a b = is_gt (column_cmp prices a b) ≡ false

turned_round : (o : Ordering) → is_gt o ≡ true → is_gt (ordering_reverse o) ≡ false
turned_round Less h = absurd (cc)
turned_round Equal h = absurd (cc)
turned_round Greater h = refl

pub IsFirst-same : (prices : List Price) (a : Column) → IsFirst prices a a
IsFirst-same prices a = rw (tied_itself (column_cmp_total prices) a) refl

pub IsFirst-trans : (prices : List Price) (a b c : Column) → IsFirst prices a b → IsFirst prices b c → IsFirst prices a c
IsFirst-trans prices = upto (column_cmp_total prices)

pub IsFirst-back : (prices : List Price) (a b : Column) → is_gt (column_cmp prices a b) ≡ true → IsFirst prices b a
IsFirst-back prices a b h = rw ((column_cmp_total prices).antisymm b a) (turned_round (column_cmp prices a b) h)

pub earliest-some : (prices : List Price) (cs : List Column) (c : Column) → IsIn c cs → earliest prices cs ≡ None → ⊥
earliest-some prices [] c i e = i
earliest-some prices (x ∷ xs) c i e = cc

-- what holds of each column holds of the earliest
pub earliest-each : (P : Column → Type 0) (prices : List Price) (cs : List Column) (c : Column) → IsEach P cs →
    earliest prices cs ≡ Some c → P c
earliest-each P prices [] c h e = absurd (cc)
earliest-each P prices (x ∷ xs) c h e =
    elim (earliest prices xs) as (λ o. earliest prices xs ≡ o → Some (option_map_or (earlier prices x) o x) ≡ Some c → P c) [
      | None ↦ λ is e'. let same : x ≡ c = ap (λ (o : Option Column). unwrap_or o x) e' in subst P same h.0
      | Some b ↦ λ is e'.
          let rest = earliest-each P prices xs b h.1 is in
          let same : earlier prices x b ≡ c = ap (λ (o : Option Column). unwrap_or o x) e' in
          subst P same (
          elim (is_gt (column_cmp prices x b)) as (λ t. P (cond t b x)) [ true ↦ rest | false ↦ h.0 ])
    ] refl e

-- None comes before the earliest. By induction over the columns: the earliest of the rest comes before all of the rest, and the
-- first column is compared with it alone; that the order of columns is total and carries over from one comparison to the next does
-- the others.
pub earliest-first : (prices : List Price) (cs : List Column) (c d : Column) → earliest prices cs ≡ Some c → IsIn d cs → IsFirst prices c d
earliest-first prices [] c d e i = absurd i
earliest-first prices (x ∷ xs) c d e i =
    elim (earliest prices xs) as (λ o. earliest prices xs ≡ o → Some (option_map_or (earlier prices x) o x) ≡ Some c → IsFirst prices c d) [
      | None ↦ λ is e'.
          let same : x ≡ c = ap (λ (o : Option Column). unwrap_or o x) e' in
          elim i [
            | inl here ↦ let P : Column → Type 0 = λ y. IsFirst prices y d in
                subst P same (let Q : Column → Type 0 = λ y. IsFirst prices x y in subst Q here (IsFirst-same prices x))
            | inr there ↦ absurd (earliest-some prices xs d there is)
          ]
      | Some b ↦ λ is e'.
          let same : earlier prices x b ≡ c = ap (λ (o : Option Column). unwrap_or o x) e' in
          let P : Column → Type 0 = λ y. IsFirst prices y d in
          subst P same (
          elim (is_gt (column_cmp prices x b)) as (λ t. is_gt (column_cmp prices x b) ≡ t → IsFirst prices (cond t b x) d) [
            | true ↦ λ after. elim i [
              | inl here ↦ let Q : Column → Type 0 = λ y. IsFirst prices b y in subst Q here (IsFirst-back prices x b after)
              | inr there ↦ earliest-first prices xs b d is there
            ]
            | false ↦ λ before. elim i [
              | inl here ↦ let Q : Column → Type 0 = λ y. IsFirst prices x y in subst Q here (IsFirst-same prices x)
              | inr there ↦ IsFirst-trans prices x b d before (earliest-first prices xs b d is there)
            ]
          ] refl)
    ] refl e

-- a column of the problem, of the class and the group
abbrev pub IsOf : Problem → ℕ → ℕ → Column → Type 0
IsOf p class group c = (c.class ≡ class) × (p.worth class c.items ≡ Some c.worth) × InGroup group c.items

in_group : (group : ℕ) (list : List ℕ) → is_in_group group list ≡ true → InGroup group list
in_group group [] e = absurd (cc)
in_group group (x ∷ xs) e = grind (arith, nat_tests)

is_in_group-true : (group : ℕ) (list : List ℕ) → InGroup group list → is_in_group group list ≡ true
is_in_group-true group [] h = absurd h
is_in_group-true group (x ∷ xs) h = grind (arith, nat_tests)

column_of-some : (p : Problem) (class group : ℕ) (list : List ℕ) (c : Column) → column_of p class group list ≡ Some c → IsOf p class group c
column_of-some p class group list c e =
    elim (is_in_group group list) as (λ t. is_in_group group list ≡ t →
    cond t (option_map (λ worth. record { class = class; worth = worth; items = list }) (p.worth class list)) None ≡ Some c →
    IsOf p class group c) [
      | false ↦ λ is e'. absurd (cc)
      | true ↦ λ is e'.
          elim (p.worth class list) as (λ o. p.worth class list ≡ o →
          option_map (λ worth. record { class = class; worth = worth; items = list }) o ≡ Some c → IsOf p class group c) [
            | None ↦ λ has e2. absurd (cc)
            | Some worth ↦ λ has e2.
                let made : Column = record { class = class; worth = worth; items = list } in
                let same : made ≡ c = ap (λ (o : Option Column). unwrap_or o made) e2 in
                let P : Column → Type 0 = λ d. IsOf p class group d in
                subst P same (refl, has, in_group group list is)
          ] refl e'
    ] refl e

pub group_columns-each : (p : Problem) (class group : ℕ) → IsEach (IsOf p class group) (group_columns p class group)
group_columns-each p class group =
    IsEach-filter_map (IsOf p class group) (column_of p class group) (λ list c e. column_of-some p class group list c e)
    (rising_from p.items 0)

abbrev pub made_of : ℕ → ℕ → List ℕ → Column
made_of class worth list = record { class = class; worth = worth; items = list }

-- Each list of the class and group with a worth is among the columns that the definition compares. The law of columns is what it
-- takes: a list with a worth rises and has items of the problem alone. So what holds of the compared columns holds of every list
-- there is.
pub group_columns-has : (p : Problem) (class group : ℕ) (list : List ℕ) (worth : ℕ) → HasListedColumns p →
    p.worth class list ≡ Some worth → InGroup group list → IsIn (made_of class worth list) (group_columns p class group)
group_columns-has p class group list worth listed has in_it =
    let law = listed class list worth has in
    let starts : StartsFrom 0 list = from_zero list in
    let inside : IsIn list (rising_from p.items 0) = rising_from-has p.items 0 list law.1 starts (below_all p.items list law.2) in
    let test : is_in_group group list ≡ true = is_in_group-true group list in_it in
    let is : column_of p class group list ≡ Some (made_of class worth list) = rw test (rw has refl) in
    IsIn-filter_map (column_of p class group) list (made_of class worth list) (rising_from p.items 0) is inside
  where
    from_zero : (xs : List ℕ) → StartsFrom 0 xs
    from_zero [] = tt
    from_zero (x ∷ xs) = omega arith

    below_all : (n : ℕ) (xs : List ℕ) → AllBelow n xs → AllBelow (0 + n) xs
    below_all n xs h = let P : ℕ → Type 0 = λ m. AllBelow m xs in let same : n ≡ 0 + n = omega arith in subst P same h

not_greater-value : (x y : ℤ) (o : Ordering) → is_gt (ordering_then (int_cmp x y) o) ≡ false → x ≤ℤ y
not_greater-value x y o h =
    by_ranked (x <ℤ y) (x ≡ y) (y <ℤ x) (int_cmp x y) (int_ranked x y (int_cmp x y) refl)
    (λ is less. omega (arith, ints))
    (λ is same. omega (arith, ints))
    (λ is greater. absurd (let e : is_gt (ordering_then Greater o) ≡ false =
    (let P : Ordering → Type 0 = λ r. is_gt (ordering_then r o) ≡ false in subst P is h) in cc))

not_greater-list : (x y : ℤ) (o : Ordering) → x ≡ y → is_gt (ordering_then (int_cmp x y) o) ≡ false → is_gt o ≡ false
not_greater-list x y o same h =
    let tied : int_cmp x y ≡ Equal = (let P : ℤ → Type 0 = λ z. int_cmp x z ≡ Equal in subst P same (tied_itself int_cmp_total x)) in
    rw tied at h

pub IsFirst-value : (prices : List Price) (a b : Column) → IsFirst prices a b → value prices a ≤ℤ value prices b
IsFirst-value prices a b h = not_greater-value (value prices a) (value prices b) (backward_cmp a.items b.items) h

pub IsFirst-list : (prices : List Price) (a b : Column) → value prices a ≡ value prices b → IsFirst prices a b → IsNotAfter a.items b.items
IsFirst-list prices a b same h = not_greater-list (value prices a) (value prices b) (backward_cmp a.items b.items) same h

-- The earliest of all columns of the group is a first least: the order compares values first, so its value is the least, and lists
-- next, so of those with that value none has a list before its own.
pub best-first : (p : Problem) → HasListedColumns p → (prices : List Price) (class group : ℕ) (column : Column) → class < length p.caps →
    best_of p prices class group ≡ Some column → IsFirstLeast p prices class group column
best-first p listed prices class group column below e =
    let of_it : IsOf p class group column =
    earliest-each (IsOf p class group) prices (group_columns p class group) column (group_columns-each p class group) e in
    let before : (list : List ℕ) (worth : ℕ) → p.worth class list ≡ Some worth → InGroup group list →
    IsFirst prices column (made_of class worth list) =
    λ list worth has in_it. earliest-first prices (group_columns p class group) column (made_of class worth list) e
    (group_columns-has p class group list worth listed has in_it) in
    record {
      listed = (
        (let P : ℕ → Type 0 = λ k. k < length p.caps in subst P (sym of_it.0) below),
        (let P : ℕ → Type 0 = λ k. p.worth k column.items ≡ Some column.worth in subst P (sym of_it.0) of_it.1),
      );
      of_class = of_it.0;
      of_group = of_it.2;
      least = λ list worth has in_it. IsFirst-value prices column (made_of class worth list) (before list worth has in_it);
      first = λ list worth has in_it same. IsFirst-list prices column (made_of class worth list) (sym same) (before list worth has in_it);
    }

pub best-none : (p : Problem) → HasListedColumns p → (prices : List Price) (class group : ℕ) → best_of p prices class group ≡ None →
    (list : List ℕ) (worth : ℕ) → p.worth class list ≡ Some worth → InGroup group list → ⊥
best-none p listed prices class group e list worth has in_it =
    earliest-some prices (group_columns p class group) (made_of class worth list)
    (group_columns-has p class group list worth listed has in_it) e

-- the order tells lists apart
slice_cmp-apart : (xs ys : List ℕ) → slice_cmp nat_cmp xs ys ≡ Equal → xs ≡ ys
slice_cmp-apart [] [] e = refl
slice_cmp-apart [] (y ∷ ys) e = absurd (cc)
slice_cmp-apart (x ∷ xs) [] e = absurd (cc)
slice_cmp-apart (x ∷ xs) (y ∷ ys) e =
    elim (cases_eq x y) [
      | inl same ↦
          let test : nat_cmp x y ≡ Equal = grind (arith, nat_tests) in
          let rest : slice_cmp nat_cmp xs ys ≡ Equal = rw test at e in
          ap (λ z. z ∷ xs) same ∙ ap (λ zs. y ∷ zs) (slice_cmp-apart xs ys rest)
      | inr apart ↦
          elim (nat_cmp x y) as (λ o. nat_cmp x y ≡ o → ordering_then o (slice_cmp nat_cmp xs ys) ≡ Equal → x ∷ xs ≡ y ∷ ys) [
            | Less ↦ λ is e'. absurd (cc)
            | Equal ↦ λ is e'. absurd (grind (arith, nat_tests))
            | Greater ↦ λ is e'. absurd (cc)
          ] refl e
    ]

-- Lists that compare as equal are one list: read backwards they agree item by item and end together, and reversing twice gives the
-- list again. Without this two columns of equal value could both be first, and what pricing answers would depend on the search.
pub backward_cmp-apart : (xs ys : List ℕ) → backward_cmp xs ys ≡ Equal → xs ≡ ys
backward_cmp-apart xs ys e =
    sym (reverse-reverse xs) ∙ ap reverse (slice_cmp-apart (reverse xs) (reverse ys) e) ∙ reverse-reverse ys

not_after_both : (o : Ordering) → is_gt o ≡ false → is_gt (ordering_reverse o) ≡ false → o ≡ Equal
not_after_both Less a b = absurd (cc)
not_after_both Equal a b = refl
not_after_both Greater a b = absurd (cc)

pub IsNotAfter-both : (xs ys : List ℕ) → IsNotAfter xs ys → IsNotAfter ys xs → xs ≡ ys
IsNotAfter-both xs ys a b =
    let turned : is_gt (ordering_reverse (backward_cmp xs ys)) ≡ false = rw (← backward_cmp_total.antisymm ys xs) b in
    backward_cmp-apart xs ys (not_after_both (backward_cmp xs ys) a turned)

same_columns : (a b : Column) → a.class ≡ b.class → a.worth ≡ b.worth → a.items ≡ b.items → a ≡ b
same_columns a b class worth items =
    ap (λ k. made_of k a.worth a.items) class ∙ ap (λ n. made_of b.class n a.items) worth ∙ ap (λ l. made_of b.class b.worth l) items

-- There is one first least at most: each of two has a value no greater than the other's, so the values are equal; then neither list
-- is after the other, so they are one list, and class and list tell the worth. Whatever finds a first least therefore finds this
-- column: with it searches of any kind, by any number of workers, must agree, and nothing need be known of how they search.
pub IsFirstLeast-one : (p : Problem) (prices : List Price) (class group : ℕ) (a b : Column) →
    IsFirstLeast p prices class group a → IsFirstLeast p prices class group b → a ≡ b
IsFirstLeast-one p prices class group a b fa fb =
    let worth_a : p.worth class a.items ≡ Some a.worth =
    (let P : ℕ → Type 0 = λ k. p.worth k a.items ≡ Some a.worth in subst P fa.of_class fa.listed.1) in
    let worth_b : p.worth class b.items ≡ Some b.worth =
    (let P : ℕ → Type 0 = λ k. p.worth k b.items ≡ Some b.worth in subst P fb.of_class fb.listed.1) in
    let down : value prices a ≤ℤ value prices b = fa.least b.items b.worth worth_b fb.of_group in
    let up : value prices b ≤ℤ value prices a = fb.least a.items a.worth worth_a fa.of_group in
    let same : value prices b ≡ value prices a = omega (arith, ints) in
    let lists : a.items ≡ b.items =
    IsNotAfter-both a.items b.items (fa.first b.items b.worth worth_b fb.of_group same)
    (fb.first a.items a.worth worth_a fa.of_group (sym same)) in
    let worths : Some a.worth ≡ Some b.worth = sym worth_a ∙ ap (p.worth class) lists ∙ worth_b in
    same_columns a b (fa.of_class ∙ sym fb.of_class) (ap (λ (o : Option ℕ). unwrap_or o a.worth) worths) lists

pub best-only : (p : Problem) → HasListedColumns p → (prices : List Price) (class group : ℕ) (column : Column) → class < length p.caps →
    IsFirstLeast p prices class group column → best_of p prices class group ≡ Some column
best-only p listed prices class group column below f =
    elim (best_of p prices class group) as (λ o. best_of p prices class group ≡ o → o ≡ Some column) [
      | None ↦ λ is.
          let has : p.worth class column.items ≡ Some column.worth =
          (let P : ℕ → Type 0 = λ k. p.worth k column.items ≡ Some column.worth in subst P f.of_class f.listed.1) in
          absurd (best-none p listed prices class group is column.items column.worth has f.of_group)
      | Some b ↦ λ is. ap (λ (c : Column). Some c)
          (IsFirstLeast-one p prices class group b column (best-first p listed prices class group b below is) f)
    ] refl

-- The main theorem of this file: `best_of` is the first least of a class and group, and every first least is `best_of`; it is none
-- exactly where no list of the group has a worth. One direction is that the earliest of all columns comes first, the other that
-- there is one alone. So a pricer may promise the function `best_of`, and its caller use what a first least is.
pub best_is_first_least : (p : Problem) → HasListedColumns p → BestIsFirstLeast p
best_is_first_least p listed prices class group below = record {
  is_first_least = λ column e. best-first p listed prices class group column below e;
  only = λ column f. best-only p listed prices class group column below f;
  no_list = λ e. best-none p listed prices class group e;
  none = λ empty.
      elim (best_of p prices class group) as (λ o. best_of p prices class group ≡ o → o ≡ None) [
        | None ↦ λ is. refl
        | Some b ↦ λ is.
            let f = best-first p listed prices class group b below is in
            let has : p.worth class b.items ≡ Some b.worth =
            (let P : ℕ → Type 0 = λ k. p.worth k b.items ≡ Some b.worth in subst P f.of_class f.listed.1) in
            absurd (empty b.items b.worth has f.of_group)
      ] refl;
}

within-some : (limit : ℤ) (prices : List Price) (o : Option Column) (c : Column) → within limit prices o ≡ Some c →
    (o ≡ Some c) × (value prices c ≤ℤ limit)
within-some limit prices None c e = absurd (cc)
within-some limit prices (Some b) c e =
    elim (int_le (value prices b) limit) as (λ t. int_le (value prices b) limit ≡ t → cond t (Some b) None ≡ Some c →
    (Some b ≡ Some c) × (value prices c ≤ℤ limit)) [
      | false ↦ λ is e'. absurd (cc)
      | true ↦ λ is e'.
          let same : b ≡ c = ap (λ (o : Option Column). unwrap_or o b) e' in
          let small : value prices b ≤ℤ limit = grind (arith, ints) in
          (e', (let P : Column → Type 0 = λ d. value prices d ≤ℤ limit in subst P same small))
    ] refl e

within-keeps : (limit : ℤ) (prices : List Price) (c : Column) → value prices c ≤ℤ limit → within limit prices (Some c) ≡ Some c
within-keeps limit prices c h = let test : int_le (value prices c) limit ≡ true = grind (arith, ints) in rw test refl

within-none : (limit : ℤ) (prices : List Price) (c : Column) → within limit prices (Some c) ≡ None → limit <ℤ value prices c
within-none limit prices c e =
    elim (int_le (value prices c) limit) as (λ t. int_le (value prices c) limit ≡ t → cond t (Some c) None ≡ None →
    limit <ℤ value prices c) [
      | true ↦ λ is e'. absurd (cc)
      | false ↦ λ is e'. grind (arith, ints)
    ] refl e

within-drops : (limit : ℤ) (prices : List Price) (c : Column) → limit <ℤ value prices c → within limit prices (Some c) ≡ None
within-drops limit prices c h = let test : int_le (value prices c) limit ≡ false = grind (arith, ints) in rw test refl

-- Under a limit the answer is the first least or nothing, and nothing means that all lists of the group have values above the
-- limit: the least value is one of them. So a search may drop every list that cannot close within its limit, and its answer is
-- still a proof for all.
pub within_is_limited : (p : Problem) → HasListedColumns p → WithinIsLimited p
within_is_limited p listed prices class group limit below =
    let best = best_is_first_least p listed prices class group below in
    record {
      found = λ column e. let parts = within-some limit prices (best_of p prices class group) column e in
          (best.is_first_least column parts.0, parts.1);
      onto = λ column f small. ap (within limit prices) (best.only column f) ∙ within-keeps limit prices column small;
      all_above = λ e list worth has in_it.
          elim (best_of p prices class group) as (λ o. best_of p prices class group ≡ o → within limit prices o ≡ None →
          limit <ℤ value_of prices worth list) [
            | None ↦ λ is e'. absurd (best.no_list is list worth has in_it)
            | Some b ↦ λ is e'.
                let high = within-none limit prices b e' in
                let low : value prices b ≤ℤ value_of prices worth list = (best.is_first_least b is).least list worth has in_it in
                omega (arith, ints)
          ] refl e;
      none = λ above.
          elim (best_of p prices class group) as (λ o. best_of p prices class group ≡ o → within limit prices o ≡ None) [
            | None ↦ λ is. refl
            | Some b ↦ λ is.
                let f = best.is_first_least b is in
                let has : p.worth class b.items ≡ Some b.worth =
                (let P : ℕ → Type 0 = λ k. p.worth k b.items ≡ Some b.worth in subst P f.of_class f.listed.1) in
                within-drops limit prices b (above b.items b.worth has f.of_group)
          ] refl;
    }
