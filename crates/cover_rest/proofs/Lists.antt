-- Lists of a rest.
use Rattle.std.proofs.Common.{◌≡◌, ◌≢◌, ℕ, ◌<◌, ◌≤◌, ◌&&◌, Bool, true, false, cond, nat_lt, List, [], ◌∷◌, length, Option, Some, None, refl, subst, ◌∙◌, arith}
use Rattle.std.specs.Prelude.{IfSome}
pub use Rattle.std.proofs.lemmas.Bool.{and_from as true-both, and_parts as both-true}
use Rattle.std.proofs.lemmas.Bool.Decides.{nat_tests}
pub use Rattle.std.proofs.lemmas.Option.{same_Some as some-same}
pub use Rattle.plan_core.proofs.Options.{given_some as from-cond}
use Rattle.cover_core.specs.declared.Column.{Column}
use Rattle.cover_core.specs.Cover.{Problem, AllBelow, Rises}
use Rattle.cover_core.specs.Plans.{HasListedColumns, AreColumns}
use Rattle.cover_core.specs.Ranges.{HasModestWorths}
use Rattle.cover_rest.specs.declared.begun.Begun.{Begun}
use Rattle.cover_rest.specs.Rest.{all_below, bodies, is_rest_list, keeps_heads, rest_of, rest_worth, rises, written, written_plan}

pub onto-cond : {A : Type 0} (b : Bool) (o : Option A) → b ≡ true → cond b o None ≡ o
onto-cond true o e = refl
onto-cond false o e = absurd (cc)

pub rises-rise : (list : List ℕ) → rises list ≡ true → Rises list
rises-rise [] e = tt
rises-rise (x ∷ []) e = tt
rises-rise (x ∷ y ∷ rest) e =
    let parts = both-true (nat_lt x y) (rises (y ∷ rest)) e in
    let test : nat_lt x y ≡ true = parts.0 in
    let below : x < y = grind (arith, nat_tests) in
    (below, rises-rise (y ∷ rest) parts.1)

pub below-below : (n : ℕ) (list : List ℕ) → all_below n list ≡ true → AllBelow n list
below-below n [] e = tt
below-below n (x ∷ xs) e =
    let parts = both-true (nat_lt x n) (all_below n xs) e in
    let test : nat_lt x n ≡ true = parts.0 in
    let below : x < n = grind (arith, nat_tests) in
    (below, below-below n xs parts.1)

-- what a list of the rest with a worth is
pub record IsRestList (p : Problem) (heads : List Begun) (bs : List (List ℕ)) (may : ℕ → List ℕ → Bool) (class : ℕ)
    (list : List ℕ) (worth : ℕ) : Type 0 where
  pub rises : rises list ≡ true
  pub below : all_below (length bs) list ≡ true
  pub keeps : keeps_heads heads bs may class list ≡ true
  pub same : p.worth class (written bs list) ≡ Some worth

pub rest-parts : (p : Problem) (heads : List Begun) (bs : List (List ℕ)) (may : ℕ → List ℕ → Bool) (class : ℕ) (list : List ℕ) (worth : ℕ) →
    rest_worth p heads bs may class list ≡ Some worth → IsRestList p heads bs may class list worth
rest-parts p heads bs may class list worth e =
    let (test, is) = from-cond ((rises list && all_below (length bs) list) && keeps_heads heads bs may class list)
    (p.worth class (written bs list)) worth e in
    let (front, keeps) = both-true (rises list && all_below (length bs) list) (keeps_heads heads bs may class list) test in
    let (up, below) = both-true (rises list) (all_below (length bs) list) front in
    record { rises = up; below = below; keeps = keeps; same = is }

pub parts-rest : (p : Problem) (heads : List Begun) (bs : List (List ℕ)) (may : ℕ → List ℕ → Bool) (class : ℕ) (list : List ℕ) (worth : ℕ) →
    IsRestList p heads bs may class list worth → rest_worth p heads bs may class list ≡ Some worth
parts-rest p heads bs may class list worth h =
    onto-cond ((rises list && all_below (length bs) list) && keeps_heads heads bs may class list) (p.worth class (written bs list))
    (true-both (rises list && all_below (length bs) list) (keeps_heads heads bs may class list)
    (true-both (rises list) (all_below (length bs) list) h.rises h.below) h.keeps) ∙ h.same

not-empty : (heads : List Begun) (bs : List (List ℕ)) (may : ℕ → List ℕ → Bool) (class : ℕ) (list : List ℕ) →
    keeps_heads heads bs may class list ≡ true → list ≢ []
not-empty heads bs may class list keeps = λ e.
    let P : List ℕ → Type 0 = λ l. keeps_heads heads bs may class l ≡ true in
    let bad : false ≡ true = subst P e keeps in
    cc

-- a rest is a problem
pub rest-listed : (p : Problem) (heads : List Begun) (may : ℕ → List ℕ → Bool) → HasListedColumns (rest_of p heads may)
rest-listed p heads may class list worth e =
    let h = rest-parts p heads (bodies heads p.items) may class list worth e in (
      not-empty heads (bodies heads p.items) may class list h.keeps,
      rises-rise list h.rises,
      below-below (length (bodies heads p.items)) list h.below,
    )

-- a list of a rest is worth what the written-out list is, so worths stay modest
pub rest-modest : (p : Problem) (heads : List Begun) (may : ℕ → List ℕ → Bool) → HasModestWorths p → HasModestWorths (rest_of p heads may)
rest-modest p heads may modest class list there =
    let bs = bodies heads p.items in
    elim (is_rest_list heads bs may class list) as
    (λ b. IfSome (cond b (p.worth class (written bs list)) None) (λ worth. worth ≤ 4000000000)) [
      | true ↦ modest class (written bs list) there
      | false ↦ tt
    ]

-- the columns of a rest, written out, are columns of the problem
pub written-columns : (p : Problem) (heads : List Begun) (may : ℕ → List ℕ → Bool) (cs : List Column) →
    AreColumns (rest_of p heads may) cs →
    AreColumns p (written_plan (bodies heads p.items) cs)
written-columns p heads may [] h = tt
written-columns p heads may (c ∷ cs) h =
    let is = rest-parts p heads (bodies heads p.items) may c.class c.items c.worth h.0.1 in
    ((h.0.0, is.same), written-columns p heads may cs h.1)
