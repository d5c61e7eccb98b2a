-- Numbers in their ranges: what the code tests is what the definitions say.
use Rattle.std.proofs.Common.{◌≡◌, ℕ, ℤ, pos, negsuc, zero, suc, ◌+◌, ◌-◌, ◌<◌, ◌≤◌, ◌==◌, ◌||◌, Bool, true, false, if◌then◌else◌, nat_eq, nat_le, nat_lt, List, [], ◌∷◌, map, refl, sym, ap, ◌∙◌, arith}
use Rattle.std.proofs.lemmas.Bool.Decides.{nat_tests}
use Rattle.std.proofs.lemmas.Iterator.Adapters.{position_from-zero}
use Rattle.std.specs.List.{list_any, position_from}
use Rattle.std.specs.Option.{option_map}
use Rattle.std.specs.Prelude.{Option, Some, None, is_some, option_and_then}
use Rattle.trip_times.specs.declared.trip.Trip.{Trip}
use Rattle.plan_params.specs.declared.rows.group.Group.{Group}
use Rattle.plan_params.specs.declared.rows.pool.Pool.{Pool}
use Rattle.number_tables.specs.Outlines.{class_among, counted, place_in, word}
use Rattle.umlauf_write.specs.Reading.{not_below, number_among, own_number}
use Rattle.plan_read.specs.Entries.{group_number, pool_class, trip_among}
use Rattle.plan_read.specs.Numbers.{is_own}
use Rattle.plan_read.specs.Told.{◌>>=◌, by_fid}
use Rattle.plan_read.proofs.Halved.{told-found}

-- a number is counted from 1
pub counted-some : (most : ℕ) (z : Option ℤ) (n : ℕ) → not_below z ≡ Some n → 0 < n → n ≤ most → counted most z ≡ Some (n - 1)
counted-some most None n is some low = absurd (cc)
counted-some most (Some (pos zero)) n is some low = let e : zero ≡ n = cc in absurd (omega (arith, e))
counted-some most (Some (pos (suc m))) n is some low =
    let e : suc m ≡ n = cc in
    let test : nat_lt m most ≡ true = within m n e low in
    let back : m ≡ n - 1 = omega arith in
    ap (λ (t : Bool). if t then Some m else None) test ∙ ap (λ (k : ℕ). Some k) back
  where
    within : (m n : ℕ) → suc m ≡ n → n ≤ most → nat_lt m most ≡ true
    within m n e low = grind (arith, nat_tests)
counted-some most (Some (negsuc m)) n is some low = absurd (cc)

pub counted-none : (most : ℕ) (z : Option ℤ) (n : ℕ) → not_below z ≡ Some n → most < n → counted most z ≡ None
counted-none most None n is high = refl
counted-none most (Some (pos zero)) n is high = refl
counted-none most (Some (pos (suc m))) n is high =
    let e : suc m ≡ n = cc in ap (λ (t : Bool). if t then Some m else None) (beyond m n e high)
  where
    beyond : (m n : ℕ) → suc m ≡ n → most < n → nat_lt m most ≡ false
    beyond m n e high = grind (arith, nat_tests)
counted-none most (Some (negsuc m)) n is high = refl

pub counted-zero : (most : ℕ) (z : Option ℤ) (n : ℕ) → not_below z ≡ Some n → n ≡ 0 → counted most z ≡ None
counted-zero most None n is none = refl
counted-zero most (Some (pos zero)) n is none = refl
counted-zero most (Some (pos (suc m))) n is none = let e : suc m ≡ n = cc in absurd (omega (arith, e, none))
counted-zero most (Some (negsuc m)) n is none = refl

pub counted-below : (most : ℕ) (z : Option ℤ) → not_below z ≡ None → counted most z ≡ None
counted-below most None none = refl
counted-below most (Some (pos zero)) none = refl
counted-below most (Some (pos (suc m))) none = absurd (cc)
counted-below most (Some (negsuc m)) none = refl

pub word-some : (z : Option ℤ) (n : ℕ) → not_below z ≡ Some n → n ≤ 4294967295 → word z ≡ Some n
word-some None n is low = absurd (cc)
word-some (Some (pos m)) n is low =
    let e : m ≡ n = cc in ap (λ (t : Bool). if t then Some m else None) (within m n e low) ∙ ap (λ (k : ℕ). Some k) e
  where
    within : (m n : ℕ) → m ≡ n → n ≤ 4294967295 → nat_le m 4294967295 ≡ true
    within m n e low = grind (arith, nat_tests)
word-some (Some (negsuc m)) n is low = absurd (cc)

pub word-none : (z : Option ℤ) (n : ℕ) → not_below z ≡ Some n → 4294967295 < n → word z ≡ None
word-none None n is high = refl
word-none (Some (pos m)) n is high = let e : m ≡ n = cc in ap (λ (t : Bool). if t then Some m else None) (beyond m n e high)
  where
    beyond : (m n : ℕ) → m ≡ n → 4294967295 < n → nat_le m 4294967295 ≡ false
    beyond m n e high = grind (arith, nat_tests)
word-none (Some (negsuc m)) n is high = refl

pub word-below : (z : Option ℤ) → not_below z ≡ None → word z ≡ None
word-below None none = refl
word-below (Some (pos m)) none = absurd (cc)
word-below (Some (negsuc m)) none = refl

-- the number of a row is one more than its place
if-some : (t : Bool) (m : ℕ) → is_some (if t then Some m else None) ≡ t
if-some true m = refl
if-some false m = refl

own-at : (row m : ℕ) → is_some (option_and_then (λ k. if nat_eq k row then Some k else None) (if nat_lt m (row + 1) then Some m else None))
    ≡ (suc m == row + 1)
own-at row m =
    elim (nat_lt m (row + 1)) as (λ t. nat_lt m (row + 1) ≡ t →
    is_some (option_and_then (λ k. if nat_eq k row then Some k else None) (if t then Some m else None)) ≡ (suc m == row + 1)) [
      | true ↦ λ e. if-some (nat_eq m row) m ∙ same m row
      | false ↦ λ e. other m row e
    ] refl
  where
    same : (m row : ℕ) → nat_eq m row ≡ (suc m == row + 1)
    same m row = grind (arith, nat_tests)

    other : (m row : ℕ) → nat_lt m (row + 1) ≡ false → false ≡ (suc m == row + 1)
    other m row e = grind (arith, nat_tests)

pub own-some : (row : ℕ) (z : Option ℤ) (n : ℕ) → not_below z ≡ Some n → is_own row z ≡ (n == row + 1)
own-some row None n is = absurd (cc)
own-some row (Some (pos zero)) n is = let e : zero ≡ n = cc in zero-not row ∙ ap (λ (k : ℕ). k == row + 1) e
  where
    zero-not : (row : ℕ) → false ≡ (zero == row + 1)
    zero-not row = grind (arith, nat_tests)
own-some row (Some (pos (suc m))) n is = let e : suc m ≡ n = cc in own-at row m ∙ ap (λ (k : ℕ). k == row + 1) e
own-some row (Some (negsuc m)) n is = absurd (cc)

pub own-none : (row : ℕ) (z : Option ℤ) → not_below z ≡ None → is_own row z ≡ false
own-none row None none = refl
own-none row (Some (pos m)) none = absurd (cc)
own-none row (Some (negsuc m)) none = refl

-- an own number lets a row say what the rest of it says
pub own-then : {A : Type 0} (row : ℕ) (z : Option ℤ) (o : Option A) →
    option_and_then (λ own. o) (own_number row z) ≡ (if is_own row z then o else None)
own-then row z o = by (own_number row z)
  where
    by : (own : Option ℕ) → option_and_then (λ own. o) own ≡ (if is_some own then o else None)
    by None = refl
    by (Some n) = refl

-- the first trip of a FRT_FID
pub trip-same : (trips : List Trip) (z : Option ℤ) → trip_among (by_fid trips) z ≡ class_among (map (λ (trip : Trip). trip.fid) trips) z
trip-same trips None = refl
trip-same trips (Some (pos n)) = told-found trips n
trip-same trips (Some (negsuc n)) = refl

-- the first pool of a number
pool-from : (from n : ℕ) (pools : List Pool) →
    position_from (λ (pool : Pool). pool.number == n) from pools
    ≡ option_map (λ k. from + k) (place_in (map (λ (pool : Pool). pool.number) pools) n)
pool-from from n [] = refl
pool-from from n (pool ∷ pools) =
    elim (nat_eq pool.number n) as (λ b. (if b then Some from else position_from (λ (pool : Pool). pool.number == n) (from + 1) pools)
    ≡ option_map (λ k. from + k) (if b then Some 0 else option_map (λ k. k + 1) (place_in (map (λ (pool : Pool). pool.number) pools) n))) [
      | true ↦ ap (λ (n : ℕ). Some n) (plus-zero from)
      | false ↦ pool-from (from + 1) n pools ∙ one-more (place_in (map (λ (pool : Pool). pool.number) pools) n)
    ]
  where
    plus-zero : (n : ℕ) → n ≡ n + 0
    plus-zero n = omega arith

    moved : (a b : ℕ) → a + 1 + b ≡ a + (b + 1)
    moved a b = omega arith

    one-more : (o : Option ℕ) → option_map (λ k. from + 1 + k) o ≡ option_map (λ k. from + k) (option_map (λ k. k + 1) o)
    one-more None = refl
    one-more (Some k) = ap (λ (n : ℕ). Some n) (moved from k)

pub pool-same : (pools : List Pool) (z : Option ℤ) → pool_class pools z ≡ class_among (map (λ (pool : Pool). pool.number) pools) z
pool-same pools None = refl
pool-same pools (Some (pos n)) = position_from-zero (λ (pool : Pool). pool.number == n) pools
    ∙ (pool-from 0 n pools ∙ none-more (place_in (map (λ (pool : Pool). pool.number) pools) n))
  where
    none-more : (o : Option ℕ) → option_map (λ k. 0 + k) o ≡ o
    none-more None = refl
    none-more (Some k) = ap (λ (n : ℕ). Some n) (omega arith)
pool-same pools (Some (negsuc n)) = refl

-- a number that is one of a group
is-there : (groups : List Group) (n : ℕ) →
    is_some (place_in (map (λ (group : Group). group.number) groups) n) ≡ list_any (λ (group : Group). group.number == n) groups
is-there [] n = refl
is-there (group ∷ groups) n =
    elim (nat_eq group.number n) as
    (λ b. is_some (if b then Some 0 else option_map (λ k. k + 1) (place_in (map (λ (group : Group). group.number) groups) n))
    ≡ (b || list_any (λ (group : Group). group.number == n) groups)) [
      | true ↦ refl
      | false ↦ still (place_in (map (λ (group : Group). group.number) groups) n) ∙ is-there groups n
    ]
  where
    still : (o : Option ℕ) → is_some (option_map (λ k. k + 1) o) ≡ is_some o
    still None = refl
    still (Some k) = refl

-- a number of a range that is there
there : (f : ℕ → Option ℕ) (n : ℕ) (low : Bool) (o : Option ℕ) → f n ≡ (if is_some o then Some n else None) →
    ((if low then Some n else None) >>= f) ≡ option_and_then (λ place. if low then Some n else None) o
there f n true None e = e
there f n true (Some k) e = e
there f n false None e = refl
there f n false (Some k) e = refl

pub group-same : (groups : List Group) (z : Option ℤ) →
    group_number groups z ≡ number_among (map (λ (group : Group). group.number) groups) z
group-same groups None = refl
group-same groups (Some (negsuc n)) = refl
group-same groups (Some (pos n)) =
    there (λ m. if list_any (λ (group : Group). group.number == m) groups then Some m else None) n (nat_le n 4294967295)
    (place_in (map (λ (group : Group). group.number) groups) n)
    (ap (λ (b : Bool). if b then Some n else None) (sym (is-there groups n)))
