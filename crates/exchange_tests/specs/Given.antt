-- Inner: plans of five items, on which exchanges are worked by hand.
use Rattle.std.specs.Prelude.{ℕ, List, [], ◌∷◌}
use Rattle.cover_core.specs.declared.Column.{Column}

abbrev pub column : ℕ → ℕ → List ℕ → Column
column class worth items = record { class = class; worth = worth; items = items }

-- no step lowers the cost of this plan
abbrev pub settled : List Column
settled = column 0 11 (0 ∷ 1 ∷ []) ∷ column 0 6 (2 ∷ 3 ∷ 4 ∷ []) ∷ []

-- two swaps and a cut lower the cost of this one by 1
abbrev pub tied : List Column
tied = column 0 10 (0 ∷ []) ∷ column 1 7 (1 ∷ 2 ∷ 3 ∷ []) ∷ column 0 10 (4 ∷ []) ∷ []

-- five swaps may be made of this one
abbrev pub loose : List Column
loose = column 0 10 (0 ∷ []) ∷ column 1 10 (1 ∷ []) ∷ column 0 14 (2 ∷ 4 ∷ []) ∷ column 0 10 (3 ∷ []) ∷ []

-- of this one a swap may be made after which its first column is empty, then one after which the second of two is, then two after which
-- both have items, and then a cut
abbrev pub mixed : List Column
mixed = column 0 10 (0 ∷ []) ∷ column 0 14 (2 ∷ 4 ∷ []) ∷ column 1 10 (1 ∷ []) ∷ column 0 10 (3 ∷ []) ∷ []

-- of this one three swaps may be made, the second while a third column stands by
abbrev pub spread : List Column
spread = column 1 10 (1 ∷ []) ∷ column 0 10 (0 ∷ []) ∷ column 0 14 (2 ∷ 4 ∷ []) ∷ column 0 10 (3 ∷ []) ∷ []

-- where class 0 has a place left a cut lowers the cost of this one
abbrev pub dear : List Column
dear = column 0 11 (0 ∷ 1 ∷ []) ∷ column 1 7 (2 ∷ 3 ∷ 4 ∷ []) ∷ []

-- two swaps of the same columns lower the cost of this one by 3
abbrev pub crossed : List Column
crossed = column 0 12 (0 ∷ 2 ∷ 4 ∷ []) ∷ column 1 15 (1 ∷ 3 ∷ []) ∷ []
