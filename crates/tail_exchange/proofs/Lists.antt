-- Lists of a plan's columns: their initial parts and tails, and two lists as one.
use Rattle.std.proofs.Common.{◌≡◌, ℕ, ◌+◌, ◌-◌, ◌<◌, ◌≤◌, Bool, true, false, zero, suc, List, [], ◌∷◌, ◌++◌, length, get_or, take, drop, Option, Some, None, refl, sym, ap, ◌∙◌, subst, arith, length-append}
use Rattle.std.specs.Prelude.{nat_lt}
use Rattle.std.specs.Bool.{OnTrue, OnFalse}
use Rattle.std.proofs.lemmas.Bool.Decides.{nat_tests}
use Rattle.cover_core.specs.declared.Column.{Column}
use Rattle.cover_core.specs.Cover.{Problem, Rises, AllBelow}
use Rattle.cover_core.specs.Plans.{HasListedColumns, IsColumn, AreColumns}
use Rattle.cover_core.specs.Parts.{no_column, column_at}
use Rattle.cover_core.proofs.Parts.{AreColumns-get, Rises-tail}
use Rattle.cover_core.proofs.Values.{Rises-length}
use Rattle.cover_core.proofs.Duality.{AllBelow-append}
use Rattle.tail_exchange.specs.Exchange.{worth_of}

-- what a plan says of each of its columns
pub record IsSound (p : Problem) (c : Column) : Type 0 where
  pub class : c.class < length p.caps
  pub rises : Rises c.items
  pub items : AllBelow p.items c.items
  pub few : length c.items ≤ p.items

pub sound-at : (p : Problem) (plan : List Column) (place : ℕ) → HasListedColumns p → AreColumns p plan → place < length plan →
    IsSound p (column_at plan place)
sound-at p plan place listed are h =
    let c : Column = column_at plan place in
    let is : IsColumn p c = AreColumns-get p plan place no_column h are in
    let facts = listed c.class c.items c.worth is.1 in
    record { class = is.0; rises = facts.1; items = facts.2; few = Rises-length p.items c.items facts.1 facts.2 }

pub AllBelow-drop : (n k : ℕ) (xs : List ℕ) → AllBelow n xs → AllBelow n (drop k xs)
AllBelow-drop n zero xs h = h
AllBelow-drop n (suc k) [] h = tt
AllBelow-drop n (suc k) (x ∷ xs) h = AllBelow-drop n k xs h.1

pub Rises-take : (k : ℕ) (xs : List ℕ) → Rises xs → Rises (take k xs)
Rises-take zero xs r = tt
Rises-take (suc k) [] r = tt
Rises-take (suc zero) (x ∷ xs) r = tt
Rises-take (suc (suc k)) (x ∷ []) r = tt
Rises-take (suc (suc k)) (x ∷ y ∷ ys) r = (r.0, Rises-take (suc k) (y ∷ ys) r.1)

pub Rises-drop : (k : ℕ) (xs : List ℕ) → Rises xs → Rises (drop k xs)
Rises-drop zero xs r = r
Rises-drop (suc k) [] r = tt
Rises-drop (suc k) (x ∷ xs) r = Rises-drop k xs (Rises-tail x xs r)

pub Rises-nothing : (xs ys : List ℕ) → Rises xs → length ys ≡ 0 → Rises (xs ++ ys)
Rises-nothing [] [] r e = tt
Rises-nothing [] (y ∷ ys) r e = absurd (omega arith)
Rises-nothing (x ∷ []) [] r e = tt
Rises-nothing (x ∷ []) (y ∷ ys) r e = absurd (omega arith)
Rises-nothing (x ∷ z ∷ zs) ys r e = (r.0, Rises-nothing (z ∷ zs) ys r.1 e)

-- the last item of a list with two items or more
last-more : (x z : ℕ) (zs : List ℕ) → get_or (x ∷ z ∷ zs) (length (x ∷ z ∷ zs) - 1) 0 ≡ get_or (z ∷ zs) (length (z ∷ zs) - 1) 0
last-more x z zs = let e : length (x ∷ z ∷ zs) - 1 ≡ suc (length (z ∷ zs) - 1) = omega arith in ap (λ k. get_or (x ∷ z ∷ zs) k 0) e

pub Rises-both : (xs ys : List ℕ) → Rises xs → Rises ys → 0 < length xs → 0 < length ys →
    get_or xs (length xs - 1) 0 < get_or ys 0 0 → Rises (xs ++ ys)
Rises-both [] ys r s some more less = absurd (omega arith)
Rises-both (x ∷ []) [] r s some more less = absurd (omega arith)
Rises-both (x ∷ []) (y ∷ ys) r s some more less = (less, s)
Rises-both (x ∷ z ∷ zs) ys r s some more less =
    let P : ℕ → Type 0 = λ n. n < get_or ys 0 0 in
    (r.0, Rises-both (z ∷ zs) ys r.1 s (omega arith) more (subst P (last-more x z zs) less))

pub Rises-meet : (xs ys : List ℕ) → 0 < length xs → 0 < length ys → Rises (xs ++ ys) → get_or xs (length xs - 1) 0 < get_or ys 0 0
Rises-meet [] ys some more r = absurd (omega arith)
Rises-meet (x ∷ []) [] some more r = absurd (omega arith)
Rises-meet (x ∷ []) (y ∷ ys) some more r = r.0
Rises-meet (x ∷ z ∷ zs) ys some more r =
    let P : ℕ → Type 0 = λ n. n < get_or ys 0 0 in
    subst P (sym (last-more x z zs)) (Rises-meet (z ∷ zs) ys (omega arith) more r.1)

-- a list that doesn't rise has no worth
pub no_worth : (p : Problem) (class : ℕ) (list : List ℕ) → HasListedColumns p → (Rises list → ⊥) → worth_of p class list ≡ None
no_worth p class [] listed flat = absurd (flat tt)
no_worth p class (x ∷ xs) listed flat = none (p.worth class (x ∷ xs)) refl
  where
    none : (o : Option ℕ) → p.worth class (x ∷ xs) ≡ o → o ≡ None
    none None e = refl
    none (Some worth) e = absurd (flat (listed class (x ∷ xs) worth e).1)

-- two lists of a problem's items that rise as one are no longer than there are items
pub both-few : (n : ℕ) (xs ys : List ℕ) → AllBelow n xs → AllBelow n ys → Rises (xs ++ ys) → length xs + length ys ≤ n
both-few n xs ys h k r =
    let most : length (xs ++ ys) ≤ n = Rises-length n (xs ++ ys) r (AllBelow-append n xs ys h k) in
    omega (arith, length-append xs ys)

-- the test of neighbours says whether two lists rise as one
pub meets : (xs ys : List ℕ) (t : Bool) → Rises xs → Rises ys → 0 < length xs → 0 < length ys →
    nat_lt (get_or xs (length xs - 1) 0) (get_or ys 0 0) ≡ t → OnTrue t (Rises (xs ++ ys))
meets xs ys true r s some more test =
    Rises-both xs ys r s some more (let less : get_or xs (length xs - 1) 0 < get_or ys 0 0 = grind (arith, nat_tests) in less)
meets xs ys false r s some more test = tt

pub parts : (xs ys : List ℕ) (t : Bool) → 0 < length xs → 0 < length ys → nat_lt (get_or xs (length xs - 1) 0) (get_or ys 0 0) ≡ t →
    OnFalse t (Rises (xs ++ ys) → ⊥)
parts xs ys true some more test = tt
parts xs ys false some more test = λ r. (
    let less : get_or xs (length xs - 1) 0 < get_or ys 0 0 = Rises-meet xs ys some more r in
    let not_less : get_or ys 0 0 ≤ get_or xs (length xs - 1) 0 = grind (arith, nat_tests) in
    omega arith
    )

-- lists that are equal to two that don't rise as one have no worth together
pub no_worth-of : (p : Problem) (class : ℕ) (front tail xs ys : List ℕ) (t : Bool) → HasListedColumns p → t ≡ false →
    OnFalse t (Rises (front ++ tail) → ⊥) → front ≡ xs → tail ≡ ys → worth_of p class (xs ++ ys) ≡ None
no_worth-of p class front tail xs ys true listed test flat e f = cc
no_worth-of p class front tail xs ys false listed test flat e f =
    let whole : front ++ tail ≡ xs ++ ys = ap (λ l. l ++ tail) e ∙ ap (λ l. xs ++ l) f in
    let Apart : List ℕ → Type 0 = λ l. Rises l → ⊥ in
    no_worth p class (xs ++ ys) listed (subst Apart whole flat)
