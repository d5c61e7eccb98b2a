-- Rows that all say something.
use Rattle.std.proofs.Common.{◌≡◌, ℕ, ◌+◌, List, [], ◌∷◌, map, cond, Option, Some, None, is_none, refl, ap, sym, ◌∙◌}
use Rattle.std.specs.List.{cons_option, filter_map, position, position_from}
use Rattle.std.proofs.lemmas.Iterator.Adapters.{position_from-zero}

-- a row that is not the first to say nothing says something
said_step : {A : Type 0} (n : ℕ) (o : Option A) (further : Option ℕ) (said : List A) (rows : List (Option A)) →
    cond (is_none o) (Some n) further ≡ None
    → (further ≡ None → map (λ (a : A). Some a) said ≡ rows) → map (λ (a : A). Some a) (cons_option o said) ≡ o ∷ rows
said_step n None further said rows none rest = cc
said_step {A} n (Some a) further said rows none rest = ap (λ (t : List (Option A)). Some a ∷ t) (rest none)

said_from : {X A : Type 0} (entry : X → Option A) (n : ℕ) (xs : List X) → position_from (λ x. is_none (entry x)) n xs ≡ None →
    map (λ (a : A). Some a) (filter_map entry xs) ≡ map entry xs
said_from entry n [] none = refl
said_from entry n (x ∷ xs) none =
    said_step n (entry x) (position_from (λ y. is_none (entry y)) (n + 1) xs) (filter_map entry xs) (map entry xs)
    none (said_from entry (n + 1) xs)

-- Where no row is the first that says nothing, each row says something: the first row since it is not that row, and so on. So what is
-- kept of the rows, one by one, are all of them in their order: none is left out. By it `rows_are_said` says that each leg, duty and
-- piece of the page comes from its row.
pub all_said : {X A : Type 0} (entry : X → Option A) (xs : List X) → position (λ x. is_none (entry x)) xs ≡ None →
    map (λ (a : A). Some a) (filter_map entry xs) ≡ map entry xs
all_said entry xs none = said_from entry 0 xs (sym (position_from-zero (λ x. is_none (entry x)) xs) ∙ none)
