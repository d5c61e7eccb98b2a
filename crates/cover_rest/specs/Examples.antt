-- Promise: a rest of six items, of which two columns have begun, computed.
use Rattle.std.specs.Prelude.{◌≡◌, ◌+◌, ℕ, Bool, true, false, cond, not, nat_eq, List, [], ◌∷◌, Option, Some, None, length, refl}
use Rattle.cover_core.specs.declared.Column.{Column}
use Rattle.cover_core.specs.Cover.{Problem}
use Rattle.cover_rest.specs.declared.begun.Begun.{Begun}
use Rattle.cover_rest.specs.Rest.{bodies, is_rest_list, rest_of, rises, written_plan}

-- a column of class 1 has begun with the items 1 and 3 and may go on; one of class 0 has begun with the item 2 and is finished
abbrev heads : List Begun
heads = record { class = 1; items = 1 ∷ 3 ∷ []; finished = false } ∷ record { class = 0; items = 2 ∷ []; finished = true } ∷ []

-- first the heads, then the items in no head, by number
stands_for : bodies heads 6 ≡ (1 ∷ 3 ∷ []) ∷ (2 ∷ []) ∷ (0 ∷ []) ∷ (4 ∷ []) ∷ (5 ∷ []) ∷ []
stands_for = refl

-- no column has begun
all_free : bodies [] 3 ≡ (0 ∷ []) ∷ (1 ∷ []) ∷ (2 ∷ []) ∷ []
all_free = refl

-- a list that rises is worth 10 and one more for each item, in either class; one that begins with item 0 began too early
abbrev worth : List ℕ → Option ℕ
worth [] = None
worth (x ∷ xs) = cond (rises (x ∷ xs)) (Some (10 + length (x ∷ xs))) None

abbrev whole : Problem
whole = record { items = 6; caps = 2 ∷ 2 ∷ []; worth = λ class list. worth list }

abbrev may_begin : ℕ → List ℕ → Bool
may_begin class [] = false
may_begin class (x ∷ xs) = not (nat_eq x 0)

abbrev rest : Problem
rest = rest_of whole heads may_begin

five_items : rest.items ≡ 5
five_items = refl

same_caps : rest.caps ≡ 2 ∷ 2 ∷ []
same_caps = refl

-- a head goes on with items behind it: the list is 1, 3, 4, 5
head_goes_on : rest.worth 1 (0 ∷ 3 ∷ 4 ∷ []) ≡ Some 14
head_goes_on = refl

-- a finished head stands alone
finished_alone : rest.worth 0 (1 ∷ []) ≡ Some 11
finished_alone = refl

-- items in no head: 4, 5
free_items : rest.worth 0 (3 ∷ 4 ∷ []) ≡ Some 12
free_items = refl

-- a finished head that goes on, a head in a wrong class, a head as second item, a second head
finished_goes_on : rest.worth 0 (1 ∷ 3 ∷ []) ≡ None
finished_goes_on = refl

wrong_class : rest.worth 0 (0 ∷ 3 ∷ []) ≡ None
wrong_class = refl

head_second : rest.worth 1 (3 ∷ 0 ∷ []) ≡ None
head_second = refl

second_head : rest.worth 1 (0 ∷ 1 ∷ []) ≡ None
second_head = refl

-- a list that begins too early, one that is worth nothing written out, an item that is not there, and no items
too_early : rest.worth 0 (2 ∷ 3 ∷ []) ≡ None
too_early = refl

not_worth : rest.worth 1 (0 ∷ 2 ∷ []) ≡ None
not_worth = refl

not_there : rest.worth 0 (3 ∷ 5 ∷ []) ≡ None
not_there = refl

no_items : rest.worth 0 [] ≡ None
no_items = refl

-- a list with a head in its class is one of the rest whether or not it may begin now; without one it is where it may
begun_before : is_rest_list heads (bodies heads 6) (λ class list. false) 1 (0 ∷ 4 ∷ []) ≡ true
begun_before = refl

not_begun : is_rest_list heads (bodies heads 6) (λ class list. false) 1 (3 ∷ 4 ∷ []) ≡ false
not_begun = refl

abbrev column : ℕ → ℕ → List ℕ → Column
column class worth items = record { class = class; worth = worth; items = items }

-- a plan of the rest, written out: class and worth stay
plan_out : written_plan (bodies heads 6) (column 1 13 (0 ∷ 3 ∷ []) ∷ column 0 11 (1 ∷ []) ∷ column 0 12 (2 ∷ 4 ∷ []) ∷ [])
    ≡ column 1 13 (1 ∷ 3 ∷ 4 ∷ []) ∷ column 0 11 (2 ∷ []) ∷ column 0 12 (0 ∷ 5 ∷ []) ∷ []
plan_out = refl
