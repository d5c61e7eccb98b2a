-- A stable sort by a number gives the items in their order.
use Rattle.std.proofs.Common.{◌≡◌, ℕ, ◌<◌, ◌≤◌, Bool, true, false, if◌then◌else◌, List, [], ◌∷◌, All, AllPairs, length, filter, get_or, nat_lt, refl, sym, ap, ◌∙◌, arith, suc, zero}
use Rattle.std.proofs.lemmas.Bool.Decides.{nat_tests}
use Rattle.std.proofs.lemmas.List.Elements.{All-cons, All-nil}
use Rattle.std.specs.List.Sorted.{IsNonDecreasingBy, IsStableByKey, ties}
use Rattle.std.specs.Ordering.{is_lt, nat_cmp}
use Rattle.std.proofs.lemmas.Bool.{ltb-false, ltb-true}
use Rattle.vdv452_tables.specs.Order.{in_order, put_in_order}

module _ {A : Type 0} (number : A → ℕ) where
  -- an item of the same number
  abbrev level : A → A → Bool
  level item = ties (λ x y. is_lt (nat_cmp (number x) (number y))) item

  level_same : (x y : A) → number x ≡ number y → level x y ≡ true
  level_same x y same = grind (arith, nat_tests)

  level_below : (x y : A) → number x < number y → level x y ≡ false
  level_below x y below = grind (arith, nat_tests)

  level_number : (x y : A) → level x y ≡ true → number x ≡ number y
  level_number x y e = grind (arith, nat_tests)

  -- no number after the first is below it
  abbrev IsAfter : A → A → Type 0
  IsAfter item other = number item ≤ number other

  -- the numbers do not fall
  abbrev Rises : List A → Type 0
  Rises [] = Unit {0}
  Rises (item ∷ items) = All (IsAfter item) items × Rises items

  All-rest : (P : A → Type 0) (x : A) (xs : List A) → All P (x ∷ xs) → All P xs
  All-rest P x xs all k d within = all (suc k) d (omega arith)

  -- What holds of all items holds of them with one more put in its place, and so of all in order (`order_all`). Order, number and
  -- ranges of pools and groups rest on this insertion, which is how the definition orders them. By induction on the items: one is
  -- either passed and stays in front, or the new one is put before it, and then nothing else has changed.
  pub put_all : (P : A → Type 0) (item : A) (items : List A) → P item → All P items → All P (put_in_order number item items)
  put_all P item [] first others = All-cons P item [] first others
  put_all P item (next ∷ items) first others =
      by (nat_lt (number next) (number item)) (put_all P item items first (All-rest P next items others))
    where
      by : (b : Bool) → All P (put_in_order number item items) →
          All P (if b then next ∷ put_in_order number item items else item ∷ next ∷ items)
      by true later = All-cons P next (put_in_order number item items) (others 0 next (omega arith)) later
      by false later = All-cons P item (next ∷ items) first others

  -- what holds of all items holds of them in order
  pub order_all : (P : A → Type 0) (items : List A) → All P items → All P (in_order number items)
  order_all P [] all = All-nil P
  order_all P (item ∷ items) all =
      put_all P item (in_order number items) (all 0 item (omega arith)) (order_all P items (All-rest P item items all))

  put_length : (item : A) (items : List A) → length (put_in_order number item items) ≡ suc (length items)
  put_length item [] = refl
  put_length item (next ∷ items) = by (nat_lt (number next) (number item)) (put_length item items)
    where
      by : (b : Bool) → length (put_in_order number item items) ≡ suc (length items) →
          length (if b then next ∷ put_in_order number item items else item ∷ next ∷ items) ≡ suc (suc (length items))
      by true later = ap suc later
      by false later = refl

  pub order_length : (items : List A) → length (in_order number items) ≡ length items
  order_length [] = refl
  order_length (item ∷ items) = put_length item (in_order number items) ∙ ap suc (order_length items)

  put_rises : (item : A) (items : List A) → Rises items → Rises (put_in_order number item items)
  put_rises item [] rises = (All-nil _, tt)
  put_rises item (next ∷ items) rises = by (nat_lt (number next) (number item)) refl (put_rises item items rises.1)
    where
      by : (b : Bool) → nat_lt (number next) (number item) ≡ b → Rises (put_in_order number item items) →
          Rises (if b then next ∷ put_in_order number item items else item ∷ next ∷ items)
      by true e later = (put_all (IsAfter next) item items (omega (arith, ltb-true (number next) (number item) e)) rises.0, later)
      by false e later = (
        All-cons (IsAfter item) next items (ltb-false (number next) (number item) e)
            (λ k d within. omega (arith, rises.0 k d within, ltb-false (number next) (number item) e)),
        rises,
      )

  in_order_rises : (items : List A) → Rises (in_order number items)
  in_order_rises [] = tt
  in_order_rises (item ∷ items) = put_rises item (in_order number items) (in_order_rises items)

  pairs_from : (items : List A) → Rises items → AllPairs IsAfter items
  pairs_from [] rises = λ i j d below within. absurd (omega arith)
  pairs_from (item ∷ items) rises = pairs (pairs_from items rises.1)
    where
      first : (d : A) (j : ℕ) → 0 < j → j < length (item ∷ items) → IsAfter item (get_or (item ∷ items) j d)
      first d zero below within = absurd (omega arith)
      first d (suc j) below within = rises.0 j d (omega arith)

      later : AllPairs IsAfter items → (i j : ℕ) (d : A) → suc i < j → j < length (item ∷ items) →
          IsAfter (get_or items i d) (get_or (item ∷ items) j d)
      later others i zero d below within = absurd (omega arith)
      later others i (suc j) d below within = others i j d (omega arith) (omega arith)

      pairs : AllPairs IsAfter items → AllPairs IsAfter (item ∷ items)
      pairs others zero j d below within = first d j below within
      pairs others (suc i) j d below within = later others i j d below within

  pub order_rises : (items : List A) → AllPairs IsAfter (in_order number items)
  order_rises items = pairs_from (in_order number items) (in_order_rises items)

  put_level : (x item : A) (items : List A) → filter (level x) (put_in_order number item items) ≡ filter (level x) (item ∷ items)
  put_level x item [] = refl
  put_level x item (next ∷ items) = by (nat_lt (number next) (number item)) refl (put_level x item items)
    where
      by_next : (b c : Bool) → level x next ≡ b → level x item ≡ c → nat_lt (number next) (number item) ≡ true
          → filter (level x) (put_in_order number item items) ≡ (if c then item ∷ filter (level x) items else filter (level x) items)
          → (if b then next ∷ filter (level x) (put_in_order number item items) else filter (level x) (put_in_order number item items))
          ≡ (if c then item ∷ (if b then next ∷ filter (level x) items else filter (level x) items) else
          (if b then next ∷ filter (level x) items else filter (level x) items))
      by_next true true e f below later =
          absurd (omega (arith, ltb-true (number next) (number item) below, level_number x next e, level_number x item f))
      by_next true false e f below later = ap (λ rs. next ∷ rs) later
      by_next false true e f below later = later
      by_next false false e f below later = later

      by : (b : Bool) → nat_lt (number next) (number item) ≡ b →
          filter (level x) (put_in_order number item items) ≡ filter (level x) (item ∷ items)
          → filter (level x) (if b then next ∷ put_in_order number item items else item ∷ next ∷ items)
          ≡ filter (level x) (item ∷ next ∷ items)
      by true e later = by_next (level x next) (level x item) refl refl e later
      by false e later = refl

  in_order_level : (x : A) (items : List A) → filter (level x) (in_order number items) ≡ filter (level x) items
  in_order_level x [] = refl
  in_order_level x (item ∷ items) =
      put_level x item (in_order number items) ∙ ap (λ rs. if level x item then item ∷ rs else rs) (in_order_level x items)

  none_level : (x : A) (items : List A) → All (λ item. number x < number item) items → filter (level x) items ≡ []
  none_level x [] above = refl
  none_level x (item ∷ items) above =
      ap (λ b. if b then item ∷ filter (level x) items else filter (level x) items) (level_below x item (above 0 item (omega arith)))
      ∙ none_level x items (All-rest (λ r. number x < number r) item items above)

  abbrev first_of : A → List A → A
  first_of d [] = d
  first_of d (item ∷ items) = item

  abbrev others_of : List A → List A
  others_of [] = []
  others_of (item ∷ items) = items

  kept : (x item : A) (items : List A) → number x ≡ number item → filter (level x) (item ∷ items) ≡ item ∷ filter (level x) items
  kept x item items same = ap (λ b. if b then item ∷ filter (level x) items else filter (level x) items) (level_same x item same)

  -- all items after a first one of a greater number have greater numbers
  above_all : (x item : A) (items : List A) → number x < number item → Rises (item ∷ items) → filter (level x) (item ∷ items) ≡ []
  above_all x item items below rises =
      none_level x (item ∷ items) (All-cons (λ r. number x < number r) item items below (λ k d within. omega (arith, rises.0 k d within)))

  first_same : (x y : A) (xs ys : List A) → x ∷ xs ≡ y ∷ ys → x ≡ y
  first_same x y xs ys same = ap (first_of x) same

  others_same : (x y : A) (xs ys : List A) → x ∷ xs ≡ y ∷ ys → xs ≡ ys
  others_same x y xs ys same = ap others_of same

  -- Items that rise are told by the items of each number: of two such lists with the same items of each number, in one order, the
  -- first items have one number, since a smaller one would stand in one list alone, and are then equal; without them both
  -- conditions hold again.
  one_order : (xs ys : List A) → Rises xs → Rises ys → ((item : A) → filter (level item) xs ≡ filter (level item) ys) → xs ≡ ys
  one_order [] [] rises others same = refl
  one_order [] (y ∷ ys) rises others same = absurd (empty (same y ∙ kept y y ys refl))
    where
      empty : [] ≡ y ∷ filter (level y) ys → ⊥
      empty e = cc
  one_order (x ∷ xs) [] rises others same = absurd (empty (sym (same x) ∙ kept x x xs refl))
    where
      empty : [] ≡ x ∷ filter (level x) xs → ⊥
      empty e = cc
  one_order (x ∷ xs) (y ∷ ys) rises others same = λ i. first i ∷ one_order xs ys rises.1 others.1 later i
    where
      not_below : number x < number y → ⊥
      not_below below = empty (sym (above_all x y ys below others) ∙ sym (same x) ∙ kept x x xs refl)
        where
          empty : [] ≡ x ∷ filter (level x) xs → ⊥
          empty e = cc

      not_above : number y < number x → ⊥
      not_above above = empty (sym (above_all y x xs above rises) ∙ same y ∙ kept y y ys refl)
        where
          empty : [] ≡ y ∷ filter (level y) ys → ⊥
          empty e = cc

      level_numbers : number x ≡ number y
      level_numbers = omega (arith, not_below, not_above)

      first : x ≡ y
      first = first_same x y _ _ (sym (kept x x xs refl) ∙ same x ∙ kept x y ys level_numbers)

      later : (item : A) → filter (level item) xs ≡ filter (level item) ys
      later item = by (level item x) refl
        where
          by : (b : Bool) → level item x ≡ b → filter (level item) xs ≡ filter (level item) ys
          by true e = others_same x y _ _ (sym (ap (λ c. if c then x ∷ filter (level item) xs else filter (level item) xs) e) ∙ same item
              ∙ ap (λ c. if c then y ∷ filter (level item) ys else filter (level item) ys) (ap (level item) (sym first) ∙ e))
          by false e = sym (ap (λ c. if c then x ∷ filter (level item) xs else filter (level item) xs) e) ∙ same item
              ∙ ap (λ c. if c then y ∷ filter (level item) ys else filter (level item) ys) (ap (level item) (sym first) ∙ e)

  rises_from : (items : List A) → IsNonDecreasingBy number items → Rises items
  rises_from [] sorted = tt
  rises_from (item ∷ items) sorted = (
    λ k d within. sorted 0 (suc k) d (omega arith) (omega arith),
    rises_from items (λ i j d below within. sorted (suc i) (suc j) d (omega arith) (omega arith)),
  )

  -- The library's stable sort gives the items in the order of the definition: both rise, both keep the items of each number as they
  -- stood, so they are one list (`one_order`). So the points of a stop sequence stand by LI_LFD_NR, and where a number stands twice
  -- in the order of the rows; and pools and groups have one numbering: the number of a class is a place in this order, and it is fixed
  -- by the tables alone, whatever the sort does inside.
  pub sorted_items : (items sorted : List A) → IsNonDecreasingBy number sorted → IsStableByKey number nat_cmp items sorted →
      sorted ≡ in_order number items
  sorted_items items sorted rises stable =
      one_order sorted (in_order number items) (rises_from sorted rises) (in_order_rises items)
      (λ item. stable item ∙ sym (in_order_level item items))
