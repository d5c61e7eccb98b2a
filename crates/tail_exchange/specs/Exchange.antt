-- Promise: exchange steps: swaps of tails and cuts, and what the plan is after some of them.
use Rattle.std.specs.Prelude.{◌≡◌, ◌==◌, ℕ, pos, ◌-ℤ◌, ◌+ℤ◌, ◌≤ℤ◌, ◌<ℤ◌, ◌+◌, ◌-◌, ◌≤◌, Bool, true, false, cond, ◌&&◌, not, zero, suc, List, [], ◌∷◌, ◌++◌, length, take, drop, flat_map, Option, Some, None, unwrap_or, slice_set}
use Rattle.std.specs.List.{range_with_len, Contains, filter}
use Rattle.rayon.specs.Lists.{IsLeast}
use Rattle.cover_core.specs.declared.Column.{Column}
use Rattle.cover_core.specs.Cover.{Problem}
use Rattle.cover_core.specs.Plans.{cost, IsPlan}
use Rattle.cover_core.specs.Parts.{has_place, column_at}
use Rattle.tail_exchange.specs.declared.candidate.Kind.{Kind}
use Rattle.tail_exchange.specs.declared.candidate.Kind.TheVariants.{Swap, Cut}
use Rattle.tail_exchange.specs.declared.candidate.Candidate.{Candidate}
use Rattle.tail_exchange.specs.Order.{candidate_cmp}

-- what a list is worth; an empty one costs nothing, since it vanishes
abbrev pub worth_of : Problem → ℕ → List ℕ → Option ℕ
worth_of p class [] = Some 0
worth_of p class (x ∷ xs) = p.worth class (x ∷ xs)

-- a column of a class with a list, and what that is worth
abbrev pub made : Problem → ℕ → List ℕ → Column
made p class list = record { class = class; worth = unwrap_or (worth_of p class list) 0; items = list }

-- whether a list has an item
abbrev pub has_any : List ℕ → Bool
has_any [] = false
has_any (x ∷ xs) = true

-- empty columns vanish
abbrev pub without_empty : List Column → List Column
without_empty = filter (λ c. has_any c.items)

-- the initial part of one list with the tail of another
abbrev pub joined : List ℕ → ℕ → List ℕ → ℕ → List ℕ
joined xs i ys j = take i xs ++ drop j ys

-- columns a and b with their tails from i and j on exchanged; classes stay
abbrev pub swapped : Problem → List Column → ℕ → ℕ → ℕ → ℕ → List Column
swapped p columns a b i j =
    let c : Column = column_at columns a in
    let d : Column = column_at columns b in
    without_empty (slice_set (slice_set columns a (made p c.class (joined c.items i d.items j))) b
    (made p d.class (joined d.items j c.items i)))

-- column a keeps its first i items, and the others become a new column of class k, put last
abbrev pub parted : Problem → List Column → ℕ → ℕ → ℕ → List Column
parted p columns a i k =
    let c : Column = column_at columns a in
    without_empty (slice_set columns a (made p c.class (take i c.items)) ++ made p k (drop i c.items) ∷ [])

-- what a step makes of the columns; the numbers of a cut are a, i and the class
abbrev pub moved : Problem → List Column → Kind → ℕ → ℕ → ℕ → ℕ → List Column
moved p columns Swap a b i j = swapped p columns a b i j
moved p columns Cut a b i j = parted p columns a i j

-- the columns after a step
abbrev pub applied : Problem → List Column → Candidate → List Column
applied p columns c = moved p columns c.kind c.a c.b c.i c.j

-- a step, where both lists have a worth, with what it changes the cost
abbrev pub step_for : ℕ → Kind → ℕ → ℕ → ℕ → ℕ → Option ℕ → Option ℕ → List Candidate
step_for before kind a b i j None right = []
step_for before kind a b i j (Some left) None = []
step_for before kind a b i j (Some left) (Some right) =
    record { change = pos (left + right) -ℤ pos before; kind = kind; a = a; b = b; i = i; j = j } ∷ []

-- the swap of columns a and b from i and j on
abbrev pub swap_at : Problem → List Column → ℕ → ℕ → ℕ → ℕ → List Candidate
swap_at p columns a b i j =
    let c : Column = column_at columns a in
    let d : Column = column_at columns b in
    step_for (c.worth + d.worth) Swap a b i j (worth_of p c.class (joined c.items i d.items j))
    (worth_of p d.class (joined d.items j c.items i))

-- the cut of column a from i on into a new column of class k: k has a place left, and it isn't the whole of a in its own class
abbrev pub cut_at : Problem → List Column → ℕ → ℕ → ℕ → List Candidate
cut_at p columns a i k =
    let c : Column = column_at columns a in
    cond (has_place p columns k && not ((i == 0) && (k == c.class)))
    (step_for c.worth Cut a 0 i k (worth_of p c.class (take i c.items)) (worth_of p k (drop i c.items)))
    []

-- the swaps of columns a and b
abbrev pub swaps_of : Problem → List Column → ℕ → ℕ → List Candidate
swaps_of p columns a b =
    flat_map (λ i. flat_map (λ j. swap_at p columns a b i j) (range_with_len 0 (length (column_at columns b).items + 1)))
    (range_with_len 0 (length (column_at columns a).items + 1))

-- the swaps of column a with those behind it
abbrev pub all_swaps_of : Problem → List Column → ℕ → List Candidate
all_swaps_of p columns a = flat_map (λ b. swaps_of p columns a b) (range_with_len (a + 1) (length columns - (a + 1)))

-- the cuts of column a
abbrev pub cuts_of : Problem → List Column → ℕ → List Candidate
cuts_of p columns a = flat_map (λ i. flat_map (λ k. cut_at p columns a i k) (range_with_len 0 (length p.caps)))
    (range_with_len 0 (length (column_at columns a).items))

-- the steps whose first column is a
abbrev pub steps_of : Problem → List Column → ℕ → List Candidate
steps_of p columns a = all_swaps_of p columns a ++ cuts_of p columns a

-- all steps
abbrev pub all_steps : Problem → List Column → List Candidate
all_steps p columns = flat_map (steps_of p columns) (range_with_len 0 (length columns))

-- the step that changes the cost least, by numbers on ties, where that is below 0
abbrev pub IsStep : Problem → List Column → List Column → Type 0
IsStep p old new = (c : Candidate) × IsLeast candidate_cmp (all_steps p old) (Some c) × (c.change <ℤ pos 0) × (new ≡ applied p old c)

-- no step lowers the cost
abbrev pub NoneLowers : Problem → List Column → Type 0
NoneLowers p columns = (c : Candidate) → Contains (all_steps p columns) c → pos 0 ≤ℤ c.change

-- n steps lead from the old columns to the new ones
abbrev pub Leads : Problem → ℕ → List Column → List Column → Type 0
Leads p zero old new = new ≡ old
Leads p (suc n) old new = (mid : List Column) × Leads p n old mid × IsStep p mid new

-- at most so many steps lead from the old columns to the new ones
abbrev pub LeadsSome : Problem → ℕ → List Column → List Column → Type 0
LeadsSome p steps old new = (made : ℕ) × (made ≤ steps) × Leads p made old new

-- an exchange step of a plan is a plan, and its cost changes by what the step says
abbrev pub StepsKeepPlans : Problem → Type 0
StepsKeepPlans p =
    (columns : List Column) → IsPlan p columns → (c : Candidate) → Contains (all_steps p columns) c →
    IsPlan p (applied p columns c) × (pos (cost (applied p columns c)) ≡ pos (cost columns) +ℤ c.change)

-- steps lead from plans to plans, and each lowers the cost
abbrev pub StepsImprove : Problem → Type 0
StepsImprove p = (n : ℕ) (old new : List Column) → IsPlan p old → Leads p n old new → IsPlan p new × (cost new + n ≤ cost old)
