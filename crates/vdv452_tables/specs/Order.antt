-- Promise: items in the order of their numbers.
use Rattle.std.specs.Prelude.{ℕ, nat_lt, List, [], ◌∷◌, if◌then◌else◌}

-- an item before the first one whose number is not below its own
abbrev pub put_in_order : {A : Type 0} → (A → ℕ) → A → List A → List A
put_in_order number item [] = item ∷ []
put_in_order number item (next ∷ items) =
    if nat_lt (number next) (number item) then next ∷ put_in_order number item items else item ∷ next ∷ items

-- the items by their numbers; of two with one number the earlier item first
abbrev pub in_order : {A : Type 0} → (A → ℕ) → List A → List A
in_order number [] = []
in_order number (item ∷ items) = put_in_order number item (in_order number items)
