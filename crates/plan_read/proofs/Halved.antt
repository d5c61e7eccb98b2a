-- A trip by its FRT_FID, found by halving. The trips stand in the order of their FRT_FID and those of one FRT_FID in the order of their
-- numbers, since the sort is stable. So the first trip of a FRT_FID stays the first of it, and stands where the trips with smaller ones
-- end.
use Rattle.std.proofs.Common.{◌≡◌, ℕ, zero, suc, ◌+◌, ◌<◌, ◌≤◌, Bool, true, false, if◌then◌else◌, nat_eq, nat_lt, List, [], ◌∷◌, length, map, get_or, refl, ap, ◌∙◌, arith}
use Rattle.std.proofs.lemmas.Bool.Decides.{nat_tests}
use Rattle.std.specs.List.{find}
use Rattle.std.specs.List.Sorted.{IsNonDecreasingBy, IsPartitionPoint}
use Rattle.std.specs.Option.{option_map}
use Rattle.std.specs.Prelude.{Option, Some, None, slice_get}
use Rattle.trip_times.specs.declared.trip.Trip.{Trip}
use Rattle.plan_params.specs.Settings.{in_order, put_in_order}
use Rattle.number_tables.specs.Outlines.{place_in}
use Rattle.plan_read.specs.declared.told.Told.{Told}
use Rattle.plan_read.specs.Told.{◌>>=◌, all_told, by_fid, fid_of, trip_at, trip_in}

-- whether a trip has a FRT_FID
abbrev has : ℕ → Told → Bool
has fid t = nat_eq t.fid fid

-- a trip that is put in order is found before those that stood
put-found : (fid : ℕ) (t : Told) (ts : List Told) → find (has fid) (put_in_order fid_of t ts) ≡ find (has fid) (t ∷ ts)
put-found fid t [] = refl
put-found fid t (next ∷ ts) =
    elim (nat_lt next.fid t.fid) as (λ b. nat_lt next.fid t.fid ≡ b →
    find (has fid) (if b then next ∷ put_in_order fid_of t ts else t ∷ next ∷ ts) ≡ find (has fid) (t ∷ next ∷ ts)) [
      | true ↦ λ less. swap fid t next ts less (put-found fid t ts)
      | false ↦ λ not. refl
    ] refl
  where
    apart : (a b c : ℕ) → nat_lt a b ≡ true → nat_eq b c ≡ true → nat_eq a c ≡ false
    apart a b c less same = grind (arith, nat_tests)

    swap : (fid : ℕ) (t next : Told) (ts : List Told) → nat_lt next.fid t.fid ≡ true →
        find (has fid) (put_in_order fid_of t ts) ≡ find (has fid) (t ∷ ts) →
        find (has fid) (next ∷ put_in_order fid_of t ts) ≡ find (has fid) (t ∷ next ∷ ts)
    swap fid t next ts less rest =
        ap (λ (o : Option Told). if nat_eq next.fid fid then Some next else o) rest
        ∙ elim (nat_eq t.fid fid) as (λ b. nat_eq t.fid fid ≡ b →
        (if nat_eq next.fid fid then Some next else if b then Some t else find (has fid) ts)
        ≡ (if b then Some t else if nat_eq next.fid fid then Some next else find (has fid) ts)) [
          | true ↦ λ e. ap (λ (c : Bool). if c then Some next else Some t) (apart next.fid t.fid fid less e)
          | false ↦ λ e. refl
        ] refl

-- A FRT_FID may stand at several trips, of which the first counts: the order by FRT_FID keeps those of one FRT_FID as they stood,
-- because each is put in front of all that are not smaller, so the first of a FRT_FID in the order is its first of all.
order-found : (fid : ℕ) (ts : List Told) → find (has fid) (in_order fid_of ts) ≡ find (has fid) ts
order-found fid [] = refl
order-found fid (t ∷ ts) =
    put-found fid t (in_order fid_of ts) ∙ ap (λ (o : Option Told). if nat_eq t.fid fid then Some t else o) (order-found fid ts)

-- the number of a trip that is found among all
all-found : (fid from : ℕ) (trips : List Trip) →
    trip_in (all_told from trips) fid ≡ option_map (λ k. from + k) (place_in (map (λ (trip : Trip). trip.fid) trips) fid)
all-found fid from [] = refl
all-found fid from (trip ∷ trips) =
    elim (nat_eq trip.fid fid) as
    (λ b. option_map (λ (t : Told). t.trip)
    (if b then Some (record { fid = trip.fid; trip = from }) else find (has fid) (all_told (from + 1) trips))
    ≡ option_map (λ k. from + k) (if b then Some 0 else option_map (λ k. k + 1) (place_in (map (λ (trip : Trip). trip.fid) trips) fid))) [
      | true ↦ ap (λ (n : ℕ). Some n) (plus-zero from)
      | false ↦ all-found fid (from + 1) trips ∙ one-more (place_in (map (λ (trip : Trip). trip.fid) trips) fid)
    ]
  where
    plus-zero : (n : ℕ) → n ≡ n + 0
    plus-zero n = omega arith

    moved : (a b : ℕ) → a + 1 + b ≡ a + (b + 1)
    moved a b = omega arith

    one-more : (o : Option ℕ) → option_map (λ k. from + 1 + k) o ≡ option_map (λ k. from + k) (option_map (λ k. k + 1) o)
    one-more None = refl
    one-more (Some k) = ap (λ (n : ℕ). Some n) (moved from k)

-- the first trip of a FRT_FID is found in their order
pub told-found : (trips : List Trip) (fid : ℕ) → trip_in (by_fid trips) fid ≡ place_in (map (λ (trip : Trip). trip.fid) trips) fid
told-found trips fid =
    ap (λ (o : Option Told). option_map (λ (t : Told). t.trip) o) (order-found fid (all_told 0 trips))
    ∙ (all-found fid 0 trips ∙ none-more (place_in (map (λ (trip : Trip). trip.fid) trips) fid))
  where
    none-more : (o : Option ℕ) → option_map (λ k. 0 + k) o ≡ o
    none-more None = refl
    none-more (Some k) = ap (λ (n : ℕ). Some n) (omega arith)

-- what stands at a place
abbrev here : ℕ → Option Told → Option Told
here fid None = None
here fid (Some t) = if nat_eq t.fid fid then Some t else None

-- In the order of FRT_FID the first trip of one stands where the smaller ones end, or nowhere. Before the place all are smaller, so
-- the search of the definition passes over them; at the place stands the least that is not smaller. If it has the FRT_FID it is found,
-- and if not all behind it are greater. So halving, which ends at this place, finds what the definition finds trip by trip, and
-- `place_of` and `by_fid` may stand in for the look-up in `read_of`.
pub halved : (fid : ℕ) (ts : List Told) (place : ℕ) → IsNonDecreasingBy fid_of ts → place ≤ length ts →
    ((k : ℕ) (d : Told) → k < place → fid_of (get_or ts k d) < fid) →
    ((k : ℕ) (d : Told) → place ≤ k → k < length ts → fid ≤ fid_of (get_or ts k d)) → find (has fid) ts ≡ here fid (slice_get ts place)
halved fid [] place up within low high = refl
halved fid (t ∷ ts) (suc place) up within low high =
    let off : nat_eq t.fid fid ≡ false = below t.fid (low 0 t (omega arith)) in
    ap (λ (b : Bool). if b then Some t else find (has fid) ts) off
    ∙ halved fid ts place (λ i j d le lt. up (suc i) (suc j) d (omega arith) (omega arith)) (omega arith)
    (λ k d lt. low (suc k) d (omega arith)) (λ k d le lt. high (suc k) d (omega arith) (omega arith))
  where
    below : (a : ℕ) → a < fid → nat_eq a fid ≡ false
    below a less = grind (arith, nat_tests)
halved fid (t ∷ ts) zero up within low high =
    elim (nat_eq t.fid fid) as (λ b. nat_eq t.fid fid ≡ b → (if b then Some t else find (has fid) ts) ≡ (if b then Some t else None)) [
      | true ↦ λ e. refl
      | false ↦ λ e. above fid ts
          (λ k d lt. later t.fid (fid_of (get_or ts k d)) (up 0 (suc k) d (omega arith) (omega arith))
          (high 0 t (omega arith) (omega arith)) e)
    ] refl
  where
    later : (a b : ℕ) → a ≤ b → fid ≤ a → nat_eq a fid ≡ false → fid < b
    later a b up least other = grind (arith, nat_tests)

    not-it : (a fid : ℕ) → fid < a → nat_eq a fid ≡ false
    not-it a fid less = grind (arith, nat_tests)

    above : (fid : ℕ) (ts : List Told) → ((k : ℕ) (d : Told) → k < length ts → fid < fid_of (get_or ts k d)) → find (has fid) ts ≡ None
    above fid [] more = refl
    above fid (t ∷ ts) more =
        ap (λ (b : Bool). if b then Some t else find (has fid) ts) (not-it t.fid fid (more 0 t (omega arith)))
        ∙ above fid ts (λ k d lt. more (suc k) d (omega arith))

-- the trip that is found there
pub trip-halved : (fid : ℕ) (ts : List Told) (place : ℕ) → IsNonDecreasingBy fid_of ts →
    IsPartitionPoint (λ t. nat_lt (fid_of t) fid ≡ true) (λ t. nat_lt (fid_of t) fid ≡ false) ts place → place ≤ length ts →
    trip_in ts fid ≡ trip_at ts place fid
trip-halved fid ts place up point within =
    ap (λ (o : Option Told). option_map (λ (t : Told). t.trip) o)
    (halved fid ts place up within (λ k d low. less (fid_of (get_or ts k d)) (point.0 k d (omega arith) low))
    (λ k d late there. more (fid_of (get_or ts k d)) (point.1 k d late there)))
    ∙ moved (slice_get ts place)
  where
    less : (a : ℕ) → nat_lt a fid ≡ true → a < fid
    less a e = grind (arith, nat_tests)

    more : (a : ℕ) → nat_lt a fid ≡ false → fid ≤ a
    more a e = grind (arith, nat_tests)

    tested : (b : Bool) (t : Told) → option_map (λ (t : Told). t.trip) (if b then Some t else None) ≡ (if b then Some t.trip else None)
    tested true t = refl
    tested false t = refl

    moved : (o : Option Told) → option_map (λ (t : Told). t.trip) (here fid o) ≡ (o >>= λ t. if nat_eq t.fid fid then Some t.trip else None)
    moved None = refl
    moved (Some t) = tested (nat_eq t.fid fid) t
