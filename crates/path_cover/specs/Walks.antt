-- Promise: paths that follow a matching.
use Rattle.std.specs.Prelude.{◌≡◌, ◌==◌, ℕ, ◌<◌, cond, zero, suc, List, [], ◌∷◌, ◌++◌}

-- each node is followed by its column, and the last one by the end
abbrev pub FollowsFrom : ℕ → (ℕ → ℕ) → ℕ → List ℕ → Type 0
FollowsFrom n to t [] = to t ≡ n
FollowsFrom n to t (u ∷ us) = (u < n) × (to t ≡ u) × FollowsFrom n to u us

abbrev pub Follows : ℕ → (ℕ → ℕ) → List ℕ → Type 0
Follows n to [] = ⊥
Follows n to (t ∷ ts) = (t < n) × FollowsFrom n to t ts

abbrev pub AllFollow : ℕ → (ℕ → ℕ) → List (List ℕ) → Type 0
AllFollow n to [] = Unit {0}
AllFollow n to (list ∷ lists) = Follows n to list × AllFollow n to lists

-- the nodes below k that come from the store, in their order
abbrev pub starts : ℕ → (ℕ → ℕ) → ℕ → List ℕ
starts n from zero = []
starts n from (suc k) = starts n from k ++ cond (from k == n) (k ∷ []) []
