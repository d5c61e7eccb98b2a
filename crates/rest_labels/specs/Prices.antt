-- Promise: prices of items, from prices of the items of a rest.
use Rattle.std.specs.Prelude.{◌≡◌, ℕ, pos, true, List, [], ◌∷◌, length, slice_set}
use Rattle.plan_core.specs.declared.Price.{Price}
use Rattle.cover_core.specs.Plans.{price_of}
use Rattle.cover_rest.specs.Rest.{all_below, written}

-- no price
abbrev pub nothing : Price
nothing = record { 0 = pos 0 }

-- a price put on the first of some items
abbrev pub placed : List ℕ → Price → List Price → List Price
placed [] price spread = spread
placed (t ∷ ts) price spread = slice_set spread t price

-- the prices of the items of the rest, each put on the first item of what it stands for
abbrev pub placed_all : List (List ℕ) → List Price → List Price → List Price
placed_all [] prices spread = spread
placed_all (b ∷ bs) [] spread = spread
placed_all (b ∷ bs) (p ∷ ps) spread = placed_all bs ps (placed b p spread)

-- lists of the rest have the same prices as what they are written out to
abbrev pub AreAlike : List (List ℕ) → List Price → List Price → Type 0
AreAlike bs prices spread = (list : List ℕ) → all_below (length bs) list ≡ true → price_of spread (written bs list) ≡ price_of prices list
