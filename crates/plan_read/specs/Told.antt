-- Inner: the trips of a day by FRT_FID.
use Rattle.std.specs.Prelude.{ℕ, ◌+◌, nat_eq, List, [], ◌∷◌, Option, Some, None, if◌then◌else◌, slice_get}
use Rattle.std.specs.List.{find}
use Rattle.std.specs.List.Sorted.{IsNonDecreasingBy}
use Rattle.std.specs.Option.{option_map}
use Rattle.trip_times.specs.declared.trip.Trip.{Trip}
use Rattle.plan_params.specs.Settings.{in_order}
use Rattle.plan_read.specs.declared.told.Told.{Told}

-- what is made of a value that is there
infixl 10 ◌>>=◌
abbrev pub ◌>>=◌ : {A B : Type 0} → Option A → (A → Option B) → Option B
None >>= f = None
(Some x) >>= f = f x

abbrev pub fid_of : Told → ℕ
fid_of told = told.fid

-- each trip with its number, which is counted on from this one
abbrev pub all_told : ℕ → List Trip → List Told
all_told number [] = []
all_told number (trip ∷ trips) = record { fid = trip.fid; trip = number } ∷ all_told (number + 1) trips

-- the trips by FRT_FID
abbrev pub by_fid : List Trip → List Told
by_fid trips = in_order fid_of (all_told 0 trips)

abbrev pub DoesNotFall : List Told → Type 0
DoesNotFall told = IsNonDecreasingBy fid_of told

-- the first trip of a FRT_FID
abbrev pub trip_in : List Told → ℕ → Option ℕ
trip_in told fid = option_map (λ (t : Told). t.trip) (find (λ (t : Told). nat_eq t.fid fid) told)

-- the trip at a place, if it has the FRT_FID
abbrev pub trip_at : List Told → ℕ → ℕ → Option ℕ
trip_at told place fid = do
  t ← slice_get told place
  if nat_eq t.fid fid then Some t.trip else None
