-- A pool's columns by value: they may be valued, and their places lie in the pool.
use Rattle.std.proofs.Common.{◌≡◌, ℕ, ◌+◌, ◌<◌, ◌≤◌, zero, suc, List, [], ◌∷◌, length, All, Result, Ok, Err, IfErr, refl, sym, subst, arith}
use Rattle.std.proofs.lemmas.List.Sorted.{All-permutation}
use Rattle.std.proofs.lemmas.List.Elements.{All-nil, All-cons, All-head, All-tail}
use Rattle.plan_core.specs.declared.Price.{Price}
use Rattle.cover_core.specs.declared.Column.{Column}
use Rattle.cover_core.specs.declared.Plan.{Plan}
use Rattle.cover_core.specs.Cover.{Problem, AllBelow}
use Rattle.cover_core.specs.Fitting.{AreFit}
use Rattle.cover_core.specs.FirstLeast.{AreCheap}
use Rattle.cover_core.specs.Plans.{HasListedColumns, AreColumns}
use Rattle.column_pool.specs.Pools.{places_from, IsByValue}
use Rattle.plan_round.specs.declared.fault.RoundFault.{RoundFault}
use Rattle.plan_round.specs.declared.fault.RoundFault.TheVariants.{NotPlaced, Memory}
use Rattle.plan_round.specs.Rounding.{Rounded, rounded, picked}
use Rattle.plan_round.specs.Laws.{HasRoomForEach}
use Rattle.plan_round.specs.Faults.{FaultIs, HasCause, IsMemory}
use Rattle.plan_round.proofs.Room.{not_stuck}

pub columns_fit : (p : Problem) (n : ℕ) (pool : List Column) → HasListedColumns p → n ≡ p.items → length p.caps ≤ 32 → AreColumns p pool →
    AreCheap pool → AreFit n 32 pool
columns_fit p n [] listed same few are cheap = tt
columns_fit p n (c ∷ cs) listed same few are cheap =
    let P : ℕ → Type 0 = λ m. AllBelow m c.items in
    let is = listed c.class c.items c.worth are.0.1 in
    let there = are.0.0 in
    let class : c.class < 32 = omega arith in
    ((is.1, subst P (sym same) is.2, cheap.0, class), columns_fit p n cs listed same few are.1 cheap.1)

AllBelow-from : (n : ℕ) (xs : List ℕ) → All (λ i. i < n) xs → AllBelow n xs
AllBelow-from n [] h = tt
AllBelow-from n (x ∷ xs) h = (All-head (λ i. i < n) x xs h, AllBelow-from n xs (All-tail (λ i. i < n) x xs h))

places_from-below : (n m k : ℕ) → k + m ≤ n → All (λ i. i < n) (places_from m k)
places_from-below n zero k h = All-nil (λ i. i < n)
places_from-below n (suc m) k h =
    let here : k < n = omega arith in
    All-cons (λ i. i < n) k (places_from m (suc k)) here (places_from-below n m (suc k) (omega arith))

pub places_below : (prices : List Price) (pool : List Column) (places : List ℕ) → IsByValue prices pool places →
    AllBelow (length pool) places
places_below prices pool places by =
    let all = places_from-below (length pool) (length pool) 0 (omega arith) in
    AllBelow-from (length pool) places (All-permutation (λ i. i < length pool) (places_from (length pool) 0) places by.each all)

-- a fault of a rounding is one of the pool whose columns are in that order
pub cause_of : (p : Problem) (prices : List Price) (pool : List Column) (places : List ℕ) (fault : RoundFault) →
    IsByValue prices pool places → FaultIs p (rounded p (picked pool places)) fault → HasCause p prices pool fault
cause_of p prices pool places (NotPlaced item partial) by is = (record { places = places; by_value = by; is = is.0 }, is.1)
cause_of p prices pool places Memory by is = tt

pub caused : (p : Problem) (prices : List Price) (pool : List Column) (places : List ℕ) (result : Result Plan RoundFault) →
    IsByValue prices pool places →
    IfErr result (FaultIs p (rounded p (picked pool places))) → IfErr result (HasCause p prices pool)
caused p prices pool places (Ok plan) by is = tt
caused p prices pool places (Err fault) by is = cause_of p prices pool places fault by is

-- where each item has room of its own only memory can be wanting
pub complete_fault : (p : Problem) (r : Rounded) (fault : RoundFault) → HasListedColumns p → HasRoomForEach p →
    FaultIs p r fault → IsMemory fault
complete_fault p r (NotPlaced item partial) listed room is = absurd (not_stuck p item partial.columns listed room is.1)
complete_fault p r Memory listed room is = refl

pub completes : (p : Problem) (r : Rounded) (result : Result Plan RoundFault) → HasListedColumns p → HasRoomForEach p →
    IfErr result (FaultIs p r) → IfErr result IsMemory
completes p r (Ok plan) listed room is = tt
completes p r (Err fault) listed room is = complete_fault p r fault listed room is
