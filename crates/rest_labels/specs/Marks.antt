-- Inner: marks of the items of a rest.
use Rattle.std.specs.Prelude.{ℕ, nat_eq, Bool, List, [], ◌∷◌}
use Rattle.cover_rest.specs.declared.begun.Begun.{Begun}

-- for each head whether it is finished
abbrev pub ends : List Begun → List Bool
ends [] = []
ends (h ∷ hs) = h.finished ∷ ends hs

-- for each item of the rest whether a list of a class may begin with it: heads of the class may, the others where a mark says so
abbrev pub starts_of : ℕ → List Begun → List Bool → List Bool
starts_of class [] free = free
starts_of class (h ∷ hs) [] = []
starts_of class (h ∷ hs) (f ∷ fs) = nat_eq h.class class ∷ starts_of class hs fs
