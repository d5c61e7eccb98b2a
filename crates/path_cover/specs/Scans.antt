-- Promise: what a row offers the columns, and what they keep of it. Potentials are kept as how far they are below 0.
use Rattle.std.specs.Prelude.{◌≡◌, ◌⊎◌, ℕ, ◌+◌, ◌-◌, ◌<◌, ◌≤◌, Bool, true, false, cond, nat_lt, List, Option, Some, None, length, slice_index, slice_index_or}
use Rattle.std.specs.Option.{option_map}

-- the reduced cost of an arc to a column that is not seen
abbrev pub offer_of : Bool → Option ℕ → ℕ → ℕ → Option ℕ
offer_of seen arc head tail = cond seen None (option_map (λ c. c + head - tail) arc)

-- whether an offer is less than what is kept
abbrev pub takes : Option ℕ → Option ℕ → Bool
takes old None = false
takes None (Some d) = true
takes (Some o) (Some d) = nat_lt d o

-- what is kept of two offers
abbrev pub kept_of : Option ℕ → Option ℕ → Option ℕ
kept_of old offer = cond (takes old offer) offer old

abbrev pub via_of : Option ℕ → Option ℕ → ℕ → ℕ → ℕ
via_of old offer x via = cond (takes old offer) x via

-- what the columns keep after a row made its offers to those below a limit
pub record IsScanned (limit x : ℕ) (offer : ℕ → Option ℕ) (old_least least : List (Option ℕ)) (old_via via : List ℕ) : Type 0 where
  pub least_count : length least ≡ length old_least
  pub via_count : length via ≡ length old_via
  pub least_below : (v : ℕ) → v < limit → slice_index_or least v None ≡ kept_of (slice_index_or old_least v None) (offer v)
  pub via_below : (v : ℕ) → v < limit → slice_index via v ≡ via_of (slice_index_or old_least v None) (offer v) x (slice_index old_via v)
  pub least_past : (v : ℕ) → limit ≤ v → slice_index_or least v None ≡ slice_index_or old_least v None
  pub via_past : (v : ℕ) → limit ≤ v → slice_index via v ≡ slice_index old_via v

-- a column that is not seen, with what it keeps: none below the limit keeps less
pub record IsNearest (columns : List Bool) (least : List (Option ℕ)) (limit v cost : ℕ) : Type 0 where
  pub within : v < limit
  pub unseen : slice_index_or columns v false ≡ false
  pub is : slice_index_or least v None ≡ Some cost
  pub nearest : (w d : ℕ) → w < limit → slice_index_or columns w false ≡ false → slice_index_or least w None ≡ Some d → cost ≤ d

abbrev pub NothingKept : List Bool → List (Option ℕ) → ℕ → Type 0
NothingKept columns least limit = (w : ℕ) → w < limit → slice_index_or columns w false ≡ false → slice_index_or least w None ≡ None

-- the nearest of the columns below a limit, where one keeps something
abbrev pub IsBest : List Bool → List (Option ℕ) → ℕ → Option (ℕ × ℕ) → Type 0
IsBest columns least limit None = NothingKept columns least limit
IsBest columns least limit (Some best) = IsNearest columns least limit best.0 best.1

-- the nearer of two: which one, where both are equally near, is left open
abbrev pub IsNearer : Option (ℕ × ℕ) → ℕ × ℕ → Option (ℕ × ℕ) → Type 0
IsNearer None new result = result ≡ Some new
IsNearer (Some old) new result = ((result ≡ Some new) × (new.1 ≤ old.1)) ⊎ ((result ≡ Some old) × (old.1 ≤ new.1))
