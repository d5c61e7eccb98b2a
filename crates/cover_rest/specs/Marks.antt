-- Inner: marks of the items that have begun.
use Rattle.std.specs.Prelude.{ℕ, Bool, true, cond, suc, List, [], ◌∷◌, slice_set}
use Rattle.cover_rest.specs.declared.begun.Begun.{Begun}

-- marks after those of a list's items
abbrev pub marked : List ℕ → List Bool → List Bool
marked [] marks = marks
marked (x ∷ xs) marks = marked xs (slice_set marks x true)

-- marks after those of all heads' items
abbrev pub all_marked : List Begun → List Bool → List Bool
all_marked [] marks = marks
all_marked (h ∷ hs) marks = all_marked hs (marked h.items marks)

-- the items that are not marked, each as a list, where marks are those of items from one on
abbrev pub free_of : ℕ → List Bool → List (List ℕ)
free_of item [] = []
free_of item (b ∷ bs) = cond b (free_of (suc item) bs) ((item ∷ []) ∷ free_of (suc item) bs)
