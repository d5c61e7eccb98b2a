-- Sorted keys give places in the order of value and place.
use Rattle.std.proofs.Common.{◌≡◌, ℕ, pos, Result, Ok, Err, IfOk, ◌+◌, ◌<◌, zero, suc, List, [], ◌∷◌, length, map, get_or, refl, sym, ap, ◌∙◌, subst, arith, All, IsPermutation, IsSortedBy}
use Rattle.std.specs.Cmp.{IsTotalOrder, IsStrictWeakOrder}
use Rattle.std.specs.Ordering.{nat_cmp, int_cmp, is_lt, ordering_then}
use Rattle.std.proofs.lemmas.Cmp.{then_total, on_total, nat_cmp_total, int_cmp_total}
use Rattle.std.proofs.lemmas.List.Sorted.{ranks_by, IsPermutation-map, All-permutation}
use Rattle.std.proofs.lemmas.List.Elements.{All-get_or, All-nil, All-cons}
use Rattle.plan_core.specs.declared.Price.{Price}
use Rattle.plan_core.specs.declared.Memory.{Memory}
use Rattle.cover_core.specs.declared.Column.{Column}
use Rattle.cover_core.specs.Parts.{column_at}
use Rattle.cover_core.specs.FirstLeast.{value}
use Rattle.column_pool.specs.declared.key.Key.{Key}
use Rattle.column_pool.specs.Pools.{places_from, comes_before, IsByValue}
use Rattle.column_pool.specs.Keys.{keys_from, keys_of, place_of, key_cmp, is_before}

pub key_total : IsTotalOrder key_cmp
key_total = then_total (on_total (λ (k : Key). k.value) int_cmp_total) (on_total (λ (k : Key). k.place) nat_cmp_total)

pub before_order : IsStrictWeakOrder is_before
before_order = ranks_by key_total (λ (k : Key). k)

keys_from-places : (prices : List Price) (k : ℕ) (pool : List Column) → map place_of (keys_from prices k pool) ≡ places_from (length pool) k
keys_from-places prices k [] = refl
keys_from-places prices k (c ∷ cs) = ap (λ l. k ∷ l) (keys_from-places prices (suc k) cs)

-- a key shows the value of the column at its place
abbrev IsKeyOf : List Price → (ℕ → Column) → Key → Type 0
IsKeyOf prices at key = key.value ≡ value prices (at key.place)

keys_from-values : (prices : List Price) (at : ℕ → Column) (k : ℕ) (cs : List Column) →
    ((i : ℕ) → i < length cs → at (k + i) ≡ column_at cs i) →
    All (IsKeyOf prices at) (keys_from prices k cs)
keys_from-values prices at k [] h = All-nil (IsKeyOf prices at)
keys_from-values prices at k (c ∷ cs) h =
    let first : at k ≡ c = (let e : k ≡ k + 0 = omega arith in ap at e ∙ h 0 (omega arith)) in
    let later : (i : ℕ) → i < length cs → at (suc k + i) ≡ column_at cs i =
    λ i below. (let e : suc k + i ≡ k + suc i = omega arith in ap at e ∙ h (suc i) (omega arith)) in
    All-cons (IsKeyOf prices at) (record { value = value prices c; place = k }) (keys_from prices (suc k) cs)
    (ap (value prices) (sym first)) (keys_from-values prices at (suc k) cs later)

keys_of-values : (prices : List Price) (pool : List Column) → All (IsKeyOf prices (column_at pool)) (keys_of prices pool)
keys_of-values prices pool =
    keys_from-values prices (column_at pool) 0 pool (λ i below. (let e : 0 + i ≡ i = omega arith in ap (column_at pool) e))

abbrev no_key : Key
no_key = record { value = pos 0; place = 0 }

get_or-places : (keys : List Key) (i d : ℕ) → i < length keys → get_or (map place_of keys) i d ≡ (get_or keys i no_key).place
get_or-places [] i d h = absurd (omega arith)
get_or-places (k ∷ ks) zero d h = refl
get_or-places (k ∷ ks) (suc i) d h = get_or-places ks i d (omega arith)

length-places : (keys : List Key) → length (map place_of keys) ≡ length keys
length-places [] = refl
length-places (k ∷ ks) = ap suc (length-places ks)

pub by_value : (prices : List Price) (pool : List Column) (keys : List Key) (places : List ℕ) → IsPermutation (keys_of prices pool) keys →
    IsSortedBy is_before keys →
    places ≡ map place_of keys → IsByValue prices pool places
by_value prices pool keys places moved sorted is =
    let P : List ℕ → Type 0 = λ l. IsByValue prices pool l in
    let Q : List ℕ → Type 0 = λ l. IsPermutation l (map place_of keys) in
    let values = All-permutation (IsKeyOf prices (column_at pool)) (keys_of prices pool) keys moved (keys_of-values prices pool) in
    let at : (i : ℕ) → i < length keys → (get_or keys i no_key).value ≡ value prices (column_at pool (get_or keys i no_key).place) =
    λ i below. All-get_or (IsKeyOf prices (column_at pool)) keys i no_key below values in
    subst P (sym is) (record {
      each = subst Q (keys_from-places prices 0 pool) (IsPermutation-map place_of (keys_of prices pool) keys moved);
      sorted = λ k d low below.
          let long = length-places keys in
          let here : k < length keys = omega arith in
          let next : k + 1 < length keys = omega arith in
          let a = get_or keys (k + 1) no_key in
          let b = get_or keys k no_key in
          ap (λ i. comes_before prices pool i (get_or (map place_of keys) k d)) (get_or-places keys (k + 1) d next) ∙
          ap (λ i. comes_before prices pool a.place i) (get_or-places keys k d here) ∙
          ap (λ z. is_lt (ordering_then (int_cmp z (value prices (column_at pool b.place))) (nat_cmp a.place b.place)))
          (sym (at (k + 1) next)) ∙
          ap (λ z. is_lt (ordering_then (int_cmp a.value z) (nat_cmp a.place b.place))) (sym (at k here)) ∙
          sorted k no_key low (omega arith);
    })

pub by_value_if : (prices : List Price) (pool : List Column) (keys : List Key) (shown : List Key) (result : Result (List ℕ) Memory) →
    IsPermutation (keys_of prices pool) keys → IsSortedBy is_before keys →
    shown ≡ keys → IfOk result (λ places. places ≡ map place_of shown) → IfOk result (λ places. IsByValue prices pool places)
by_value_if prices pool keys shown (Ok places) moved sorted same is =
    by_value prices pool keys places moved sorted (is ∙ ap (map place_of) same)
by_value_if prices pool keys shown (Err e) moved sorted same is = is
