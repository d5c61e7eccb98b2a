-- Promise: facts with one proof, as ghost fields ask for.
use Rattle.std.specs.Prelude.{ℕ, List, [], ◌∷◌}
use Rattle.std.specs.Coded.{Unit-prop}
use Rattle.std.proofs.Props.{props}
use Rattle.cover_core.specs.Cover.{AllBelow}

pub AllBelow-prop : (n : ℕ) (xs : List ℕ) → IsProp (AllBelow n xs)
AllBelow-prop n [] = Unit-prop
AllBelow-prop n (x ∷ xs) = hlevel (props, AllBelow-prop n xs)
