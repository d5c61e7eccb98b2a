-- What is found where reading succeeds: prices of their numbers, and numbers within their ranges.
use Rattle.std.proofs.Common.{◌≡◌, ℕ, ℤ, pos, negsuc, neg_ℤ, zero, suc, ◌+◌, ◌-◌, ◌<◌, ◌≤◌, ◌≤ℤ◌, ◌&&◌, ◌==◌, Bool, true, false, nat_eq, nat_le, List, [], ◌∷◌, length, map, refl, sym, ◌∙◌, subst, arith}
use Rattle.std.proofs.lemmas.Bool.Decides.{nat_tests}
use Rattle.std.proofs.lemmas.Int.{ints}
use Rattle.std.proofs.lemmas.Iterator.Adapters.{position_from-zero}
use Rattle.std.specs.List.{cons_option, filter_map, list_all, position_from, range_with_len}
use Rattle.std.specs.Prelude.{Option, Some, None, is_some, int_le, if◌then◌else◌}
use Rattle.std.proofs.lemmas.Option.{same_Some}
use Rattle.vdv451_text.specs.declared.table.Field.{Field}
use Rattle.number_tables.specs.Outlines.{number_at, up_to}
use Rattle.plan_cert.specs.declared.cert.Pass.{Pass}
use Rattle.plan_cert.specs.declared.columns.PriceColumns.{PriceColumns}
use Rattle.plan_cert.specs.declared.shape.Shape.{Shape}
use Rattle.plan_cert.specs.declared.slots.Entry.{Entry}
use Rattle.plan_cert.specs.Numbers.{◌>>=◌, any_pass, class_among, counted, from_one, moderate, natural, place_in}
use Rattle.plan_cert.specs.Prices.{all_there, found_price, is_of, item_entry}
use Rattle.plan_cert.specs.Shapes.{items_of}

-- what was made of a value that is there
pub record IsBound {A B : Type 0} (o : Option A) (f : A → Option B) (y : B) : Type 0 where
  pub value : A
  pub is : o ≡ Some value
  pub made : f value ≡ Some y

pub bound : {A B : Type 0} (o : Option A) (f : A → Option B) (y : B) → (o >>= f) ≡ Some y → IsBound o f y
bound None f y e = absurd (cc)
bound (Some x) f y e = record { value = x; is = refl; made = e }

-- numbers within their ranges
pub up_to-most : (most n : ℕ) (number : Option ℤ) → up_to most number ≡ Some n → n ≤ most
up_to-most most n None e = absurd (cc)
up_to-most most n (Some (pos m)) e = elim (nat_le m most) as (λ t. nat_le m most ≡ t → (if t then Some m else None) ≡ Some n → n ≤ most) [
  | true ↦ λ is f. let same : m ≡ n = same_Some m n f in grind (arith, nat_tests)
  | false ↦ λ is f. absurd (cc)
] refl e
up_to-most most n (Some (negsuc m)) e = absurd (cc)

pub counted-below : (most n : ℕ) (number : Option ℤ) → counted most number ≡ Some n → n < most
counted-below most n number e =
    let x = bound (up_to most number) from_one n e in
    one x.value (up_to-most most x.value number x.is) x.made
  where
    one : (m : ℕ) → m ≤ most → from_one m ≡ Some n → n < most
    one m low f = elim (nat_eq m 0) as (λ t. nat_eq m 0 ≡ t → (if t then None else Some (m - 1)) ≡ Some n → n < most) [
      | true ↦ λ is g. absurd (cc)
      | false ↦ λ is g. let same : m - 1 ≡ n = same_Some (m - 1) n g in let some : 0 < m = grind (arith, nat_tests) in omega arith
    ] refl f

position-below : {A : Type 0} (test : A → Bool) (from k : ℕ) (xs : List A) → position_from test from xs ≡ Some k → k < from + length xs
position-below test from k [] e = absurd (cc)
position-below test from k (x ∷ xs) e =
    elim (test x) as (λ t. (if t then Some from else position_from test (from + 1) xs) ≡ Some k → k < from + length (x ∷ xs)) [
      | true ↦ λ f. let same : from ≡ k = same_Some from k f in omega arith
      | false ↦ λ f. let later = position-below test (from + 1) k xs f in omega arith
    ] e

pub class-below : (numbers : List ℕ) (class : ℕ) (number : Option ℤ) → class_among numbers number ≡ Some class → class < length numbers
class-below numbers class number e =
    let x = bound number (λ z. natural z >>= λ n. place_in numbers n) class e in
    let y = bound (natural x.value) (place_in numbers) class x.made in
    let low = position-below (λ m. m == y.value) 0 class numbers (sym (position_from-zero (λ m. m == y.value) numbers) ∙ y.made) in
    omega arith

pub record IsModerateNumber (z : ℤ) : Type 0 where
  pub least : neg_ℤ (pos 3000000000000000) ≤ℤ z
  pub most : z ≤ℤ pos 3000000000000000

pub moderate-is : (number : Option ℤ) (z : ℤ) → moderate number ≡ Some z → IsModerateNumber z
moderate-is None z e = absurd (cc)
moderate-is (Some y) z e =
    elim (int_le (neg_ℤ (pos 3000000000000000)) y) as (λ t. int_le (neg_ℤ (pos 3000000000000000)) y ≡ t →
    (if t && int_le y (pos 3000000000000000) then Some y else None) ≡ Some z → IsModerateNumber z) [
      | true ↦ λ low. elim (int_le y (pos 3000000000000000)) as (λ t. int_le y (pos 3000000000000000) ≡ t →
          (if true && t then Some y else None) ≡ Some z → IsModerateNumber z) [
            | true ↦ λ high f. let P : ℤ → Type 0 = IsModerateNumber in
                subst P (same_Some y z f) (record { least = grind (arith, ints); most = grind (arith, ints) })
            | false ↦ λ high f. absurd (cc)
          ] refl
      | false ↦ λ low f. absurd (cc)
    ] refl e

-- a fact of each value that is there
abbrev pub AllSome : {A : Type 0} → (A → Type 0) → List (Option A) → Type 0
AllSome P [] = Unit {0}
AllSome P (None ∷ os) = AllSome P os
AllSome P (Some x ∷ os) = P x × AllSome P os

-- a fact of each item
abbrev pub Each : {A : Type 0} → (A → Type 0) → List A → Type 0
Each P [] = Unit {0}
Each P (x ∷ xs) = P x × Each P xs

-- all values that are there
pub record AreThere {A : Type 0} (P : A → Type 0) (os : List (Option A)) (xs : List A) : Type 0 where
  pub long : length xs ≡ length os
  pub each : Each P xs

kept-there : {A : Type 0} (P : A → Type 0) (os : List (Option A)) → list_all is_some os ≡ true → AllSome P os →
    AreThere P os (filter_map (λ o. o) os)
kept-there P [] all each = record { long = refl; each = tt }
kept-there P (None ∷ os) all each = absurd (cc)
kept-there P (Some x ∷ os) all each =
    let rest = kept-there P os all each.1 in let long = rest.long in record { long = omega arith; each = (each.0, rest.each) }

-- Prices are kept in slots, one for each number; where all slots are filled, their values are the list of prices, as long as the slots
-- are many. What holds of each value that is there holds of each price (`kept-there`).
pub there-all : {A : Type 0} (P : A → Type 0) (os : List (Option A)) (xs : List A) → all_there os ≡ Some xs →
    AllSome P os → AreThere P os xs
there-all {A} P os xs e each =
    elim (list_all is_some os) as (λ t. list_all is_some os ≡ t → (if t then Some (filter_map (λ (o : Option A). o) os) else None)
    ≡ Some xs → AreThere P os xs) [
      | true ↦ λ all f. let Q : List A → Type 0 = λ l. AreThere P os l in
          subst Q (same_Some (filter_map (λ (o : Option A). o) os) xs f) (kept-there P os all each)
      | false ↦ λ all f. absurd (cc)
    ] refl e

-- what each row says has what each said entry has
pub said-each : {A : Type 0} (Q : A → Type 0) (say : List Field → Option A) (rows : List (List Field)) →
    ((row : List Field) (e : A) → say row ≡ Some e → Q e) → Each Q (filter_map say rows)
said-each Q say [] has = tt
said-each {A} Q say (row ∷ rows) has = one (say row) refl (said-each Q say rows has)
  where
    one : (o : Option A) → say row ≡ o → Each Q (filter_map say rows) → Each Q (cons_option o (filter_map say rows))
    one None e rest = rest
    one (Some x) e rest = (has row x e, rest)

-- a price that is found is that of an entry
found-each : (P : ℤ → Type 0) (pass : Pass) (n : ℕ) (es : List Entry) → Each (λ (e : Entry). P e.price) es → (z : ℤ) →
    found_price pass n es ≡ Some z → P z
found-each P pass n [] each z e = absurd (cc)
found-each P pass n (x ∷ xs) each z e = elim (is_of pass n x) as (λ t. (if t then Some x.price else found_price pass n xs) ≡ Some z → P z) [
  | true ↦ λ f. subst P (same_Some x.price z f) each.0
  | false ↦ λ f. found-each P pass n xs each.1 z f
] e

-- A price that is found in a slot is that of some entry (`found-each`), and an entry is what a row says; so what each row's price must
-- keep holds of all prices, whichever rows gave them.
pub found-all : (P : ℤ → Type 0) (pass : Pass) (from count : ℕ) (es : List Entry) → Each (λ (e : Entry). P e.price) es →
    AllSome P (map (λ n. found_price pass n es) (range_with_len from count))
found-all P pass from zero es each = tt
found-all P pass from (suc count) es each = one (found_price pass from es) refl (found-all P pass (from + 1) count es each)
  where
    one : (o : Option ℤ) → found_price pass from es ≡ o → AllSome P (map (λ n. found_price pass n es) (range_with_len (from + 1) count)) →
        AllSome P (o ∷ map (λ n. found_price pass n es) (range_with_len (from + 1) count))
    one None e rest = rest
    one (Some z) e rest = (found-each P pass from es each z e, rest)

-- the price of an item is moderate
pub item-moderate : (s : Shape) (columns : PriceColumns) (row : List Field) (e : Entry) → item_entry s columns row ≡ Some e →
    IsModerateNumber e.price
item-moderate s columns row e is =
    let x = bound (any_pass (number_at row columns.pass)) _ e is in
    let y = bound (counted (items_of s x.value) (number_at row columns.number)) _ e x.made in
    let z = bound (moderate (number_at row columns.price)) _ e y.made in
    let P : Entry → Type 0 = λ (e : Entry). IsModerateNumber e.price in
    subst P (same_Some _ e z.made) (moderate-is (number_at row columns.price) z.value z.is)
