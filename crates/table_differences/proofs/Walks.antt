-- Tables gone over one by one.
use Rattle.std.proofs.Common.{◌≡◌, ℕ, suc, ◌+◌, ◌<◌, List, ◌∷◌, length, get_or, drop, sym, ap, ◌∙◌, add-one, drop-cons}
use Rattle.std.specs.Prelude.{Option}
use Rattle.vdv451_text.specs.declared.table.Table.{Table}
use Rattle.table_differences.specs.Differences.{difference_among, difference_on, found_or}

-- What is found of the tables from a place on is what is found of the first of them, or else of those behind it. This is the step of
-- the loop in `first_difference`, which carries that what is found of all tables is what is found of those that are left.
pub one-more : (table column : List ℕ) (given made : List Table) (place : ℕ) (wanted : Table) (found : Option ℕ) → place < length made →
    wanted ≡ get_or made place wanted →
    found ≡ difference_among table column given wanted →
    difference_on table column given place (drop place made)
    ≡ found_or place found (difference_on table column given (place + 1) (drop (place + 1) made))
one-more table column given made place wanted found within is same =
    let here : drop place made ≡ wanted ∷ drop (place + 1) made =
    rw add-one (drop-cons made place wanted within ∙ ap (λ t. t ∷ drop (suc place) made) (sym is)) in
    ap (difference_on table column given place) here
    ∙ ap (λ o. found_or place o (difference_on table column given (place + 1) (drop (place + 1) made))) (sym same)
