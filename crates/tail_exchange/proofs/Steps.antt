-- Every step that is looked at keeps plans, and steps lead from plans to cheaper plans.
use Rattle.std.proofs.Common.{◌≡◌, ◌≢◌, ◌==◌, ℕ, ℤ, pos, ◌-ℤ◌, ◌+ℤ◌, ◌≤ℤ◌, ◌<ℤ◌, ◌+◌, ◌-◌, ◌<◌, ◌≤◌, true, false, cond, ◌&&◌, not, zero, suc, List, [], ◌∷◌, length, take, drop, Option, Some, None, Less, refl, sym, ap, subst, ⊎_elim, arith}
use Rattle.std.specs.Prelude.{flat_map}
use Rattle.std.specs.List.{range_with_len, Contains}
use Rattle.std.specs.Ordering.{int_cmp, nat_cmp, ordering_then}
use Rattle.std.specs.Cmp.{int_cmp_is}
use Rattle.std.proofs.lemmas.Int.{ints, by_lt_z}
use Rattle.rayon.specs.Lists.{IsLeast}
use Rattle.tail_exchange.specs.Order.{candidate_cmp, rank}
use Rattle.std.proofs.lemmas.List.Elements.{Contains-append_cases}
use Rattle.std.proofs.lemmas.Bool.{and_parts}
use Rattle.cover_core.specs.declared.Column.{Column}
use Rattle.cover_core.specs.Cover.{Problem}
use Rattle.cover_core.specs.Plans.{HasListedColumns, cost, IsPlan}
use Rattle.cover_core.specs.Parts.{has_place, column_at}
use Rattle.tail_exchange.specs.declared.candidate.Kind.{Kind}
use Rattle.tail_exchange.specs.declared.candidate.Kind.TheVariants.{Swap, Cut}
use Rattle.tail_exchange.specs.declared.candidate.Candidate.{Candidate}
use Rattle.tail_exchange.specs.Exchange.{worth_of, joined, applied, step_for, swap_at, cut_at, swaps_of, all_swaps_of, cuts_of, steps_of, all_steps, IsStep, NoneLowers, Leads, LeadsSome, StepsKeepPlans, StepsImprove}
use Rattle.tail_exchange.specs.Searches.{IsThere}
use Rattle.tail_exchange.proofs.Leasts.{Contains-cons_cases}
use Rattle.tail_exchange.proofs.Goods.{NoneOfNothing, swap-good, cut-good}

pub nothing_in : {X : Type 0} (x : X) → Contains [] x → ⊥
nothing_in x h = let l = h.1 in omega arith

pub one_in : {X : Type 0} (y x : X) → Contains (y ∷ []) x → y ≡ x
one_in y x h = ⊎_elim (λ (e : y ≡ x). e) (λ (n : Contains [] x). absurd (nothing_in x n)) (Contains-cons_cases y [] x h)

-- an element of lists that are joined is in one of them
pub flat_map-in : {X Y : Type 0} (f : X → List Y) (xs : List X) (y : Y) → Contains (flat_map f xs) y →
    (x : X) × Contains xs x × Contains (f x) y
flat_map-in f [] y h = absurd (nothing_in y h)
flat_map-in f (x ∷ xs) y h =
    ⊎_elim (λ (here : Contains (f x) y). (x, (0, omega arith, refl), here))
    (λ (there : Contains (flat_map f xs) y). let (z, at, found) =
    flat_map-in f xs y there in (z, (suc at.0, (let l = at.1 in omega arith), at.2), found))
    (Contains-append_cases (f x) (flat_map f xs) y h)

pub range-in : (a n x : ℕ) → Contains (range_with_len a n) x → (a ≤ x) × (x < a + n)
range-in a zero x h = absurd (nothing_in x h)
range-in a (suc n) x h =
    ⊎_elim (λ (e : a ≡ x). let low : a ≤ x = omega arith in let high : x < a + suc n = omega arith in (low, high))
    (λ (there : Contains (range_with_len (a + 1) n) x). let r = range-in (a + 1) n x there in let l = r.0 in let u =
    r.1 in let low : a ≤ x = omega arith in let high : x < a + suc n = omega arith in (low, high))
    (Contains-cons_cases a (range_with_len (a + 1) n) x h)

-- of a step that stands where both lists have a worth
pub step_for-in : (P : Candidate → Type 0) (before : ℕ) (kind : Kind) (a b i j : ℕ) (o q : Option ℕ) (c : Candidate) →
    ((change : ℤ) → P (record { change = change; kind = kind; a = a; b = b; i = i; j = j })) →
    Contains (step_for before kind a b i j o q) c → P c
step_for-in P before kind a b i j None q c each h = absurd (nothing_in c h)
step_for-in P before kind a b i j (Some left) None c each h = absurd (nothing_in c h)
step_for-in P before kind a b i j (Some left) (Some right) c each h = subst P (one_in _ c h) (each (pos (left + right) -ℤ pos before))

-- the columns, places and class of each step are there
module _ (p : Problem) (columns : List Column) where
  swap_at-there : (a b i j : ℕ) (c : Candidate) → a < b → b < length columns → i ≤ length (column_at columns a).items →
      j ≤ length (column_at columns b).items → Contains (swap_at p columns a b i j) c → IsThere p columns c
  swap_at-there a b i j c order below front tail h =
      step_for-in (IsThere p columns) ((column_at columns a).worth + (column_at columns b).worth) Swap a b i j
      (worth_of p (column_at columns a).class (joined (column_at columns a).items i (column_at columns b).items j))
      (worth_of p (column_at columns b).class (joined (column_at columns b).items j (column_at columns a).items i)) c
      (λ change. (order, below, front, tail)) h

  cut_at-there : (a i k : ℕ) (c : Candidate) → a < length columns → i < length (column_at columns a).items → k < length p.caps →
      Contains (cut_at p columns a i k) c → IsThere p columns c
  cut_at-there a i k c below front there =
      elim (has_place p columns k && not ((i == 0) && (k == (column_at columns a).class))) as (λ t.
      Contains (cond t (step_for (column_at columns a).worth Cut a 0 i k
      (worth_of p (column_at columns a).class (take i (column_at columns a).items)) (worth_of p k (drop i (column_at columns a).items))) [])
      c → IsThere p columns c) [
        | true ↦ λ h. step_for-in (IsThere p columns) (column_at columns a).worth Cut a 0 i k
            (worth_of p (column_at columns a).class (take i (column_at columns a).items))
            (worth_of p k (drop i (column_at columns a).items)) c
            (λ change. (below, front, there)) h
        | false ↦ λ h. absurd (nothing_in c h)
      ]

  pub steps-there : (c : Candidate) → Contains (all_steps p columns) c → IsThere p columns c
  steps-there c h =
      let (a, at_a, in_a) = flat_map-in (steps_of p columns) (range_with_len 0 (length columns)) c h in
      let a_low = (range-in 0 (length columns) a at_a).1 in
      let a_below : a < length columns = omega arith in
      ⊎_elim (λ (swaps : Contains (all_swaps_of p columns a) c).
      let (b, at_b, in_b) = flat_map-in (λ b. swaps_of p columns a b) (range_with_len (a + 1) (length columns - (a + 1))) c swaps in
      let b_range = range-in (a + 1) (length columns - (a + 1)) b at_b in
      let b_first = b_range.0 in
      let b_last = b_range.1 in
      let order : a < b = omega arith in
      let b_below : b < length columns = omega arith in
      let (i, at_i, in_i) = flat_map-in
      (λ i. flat_map (λ j. swap_at p columns a b i j) (range_with_len 0 (length (column_at columns b).items + 1)))
      (range_with_len 0 (length (column_at columns a).items + 1)) c in_b in
      let (j, at_j, in_j) = flat_map-in (λ j. swap_at p columns a b i j)
      (range_with_len 0 (length (column_at columns b).items + 1)) c in_i in
      let i_high = (range-in 0 (length (column_at columns a).items + 1) i at_i).1 in
      let j_high = (range-in 0 (length (column_at columns b).items + 1) j at_j).1 in
      let front : i ≤ length (column_at columns a).items = omega arith in
      let tail : j ≤ length (column_at columns b).items = omega arith in
      swap_at-there a b i j c order b_below front tail in_j)
      (λ (cuts : Contains (cuts_of p columns a) c).
      let (i, at_i, in_i) = flat_map-in (λ i. flat_map (λ k. cut_at p columns a i k) (range_with_len 0 (length p.caps)))
      (range_with_len 0 (length (column_at columns a).items)) c cuts in
      let (k, at_k, in_k) = flat_map-in (λ k. cut_at p columns a i k) (range_with_len 0 (length p.caps)) c in_i in
      let i_high = (range-in 0 (length (column_at columns a).items) i at_i).1 in
      let k_high = (range-in 0 (length p.caps) k at_k).1 in
      let front : i < length (column_at columns a).items = omega arith in
      let k_below : k < length p.caps = omega arith in
      cut_at-there a i k c a_below front k_below in_k)
      (Contains-append_cases (all_swaps_of p columns a) (cuts_of p columns a) c in_a)

module _ (p : Problem) (none : NoneOfNothing p) (columns : List Column) (plan : IsPlan p columns) where
  abbrev Good : Candidate → Type 0
  Good c = IsPlan p (applied p columns c) × (pos (cost (applied p columns c)) ≡ pos (cost columns) +ℤ c.change)

  -- of each step that stands where both lists have a worth
  step_for-good : (before : ℕ) (kind : Kind) (a b i j : ℕ) (o q : Option ℕ) (c : Candidate) →
      ((left right : ℕ) → o ≡ Some left → q ≡ Some right →
      Good (record { change = pos (left + right) -ℤ pos before; kind = kind; a = a; b = b; i = i; j = j })) →
      Contains (step_for before kind a b i j o q) c → Good c
  step_for-good before kind a b i j None q c good h = absurd (nothing_in c h)
  step_for-good before kind a b i j (Some left) None c good h = absurd (nothing_in c h)
  step_for-good before kind a b i j (Some left) (Some right) c good h = subst Good (one_in _ c h) (good left right refl refl)

  swap_at-good : (a b i j : ℕ) (c : Candidate) → a < b → b < length columns → Contains (swap_at p columns a b i j) c → Good c
  swap_at-good a b i j c order below h =
      step_for-good ((column_at columns a).worth + (column_at columns b).worth) Swap a b i j
      (worth_of p (column_at columns a).class (joined (column_at columns a).items i (column_at columns b).items j))
      (worth_of p (column_at columns b).class (joined (column_at columns b).items j (column_at columns a).items i)) c
      (λ left right has_left has_right. swap-good p none columns plan a b i j left right order below has_left has_right) h

  cut_at-good : (a i k : ℕ) (c : Candidate) → a < length columns → k < length p.caps → Contains (cut_at p columns a i k) c → Good c
  cut_at-good a i k c below there =
      elim (has_place p columns k && not ((i == 0) && (k == (column_at columns a).class))) as
      (λ t. (has_place p columns k && not ((i == 0) && (k == (column_at columns a).class))) ≡ t →
      Contains (cond t (step_for (column_at columns a).worth Cut a 0 i k
      (worth_of p (column_at columns a).class (take i (column_at columns a).items)) (worth_of p k (drop i (column_at columns a).items))) [])
      c → Good c) [
        | true ↦ λ test h.
            let room = (and_parts (has_place p columns k) (not ((i == 0) && (k == (column_at columns a).class))) test).0 in
            step_for-good (column_at columns a).worth Cut a 0 i k
            (worth_of p (column_at columns a).class (take i (column_at columns a).items))
            (worth_of p k (drop i (column_at columns a).items)) c
            (λ left right has_left has_right. cut-good p none columns plan a i k left right below there room has_left has_right) h
        | false ↦ λ test h. absurd (nothing_in c h)
      ] refl

  all_steps-good : (c : Candidate) → Contains (all_steps p columns) c → Good c
  all_steps-good c h =
      let (a, at_a, in_a) = flat_map-in (steps_of p columns) (range_with_len 0 (length columns)) c h in
      let a_low = (range-in 0 (length columns) a at_a).1 in
      let a_below : a < length columns = omega arith in
      ⊎_elim (λ (swaps : Contains (all_swaps_of p columns a) c).
      let (b, at_b, in_b) = flat_map-in (λ b. swaps_of p columns a b) (range_with_len (a + 1) (length columns - (a + 1))) c swaps in
      let b_range = range-in (a + 1) (length columns - (a + 1)) b at_b in
      let b_first = b_range.0 in
      let b_last = b_range.1 in
      let order : a < b = omega arith in
      let b_below : b < length columns = omega arith in
      let (i, at_i, in_i) = flat_map-in
      (λ i. flat_map (λ j. swap_at p columns a b i j) (range_with_len 0 (length (column_at columns b).items + 1)))
      (range_with_len 0 (length (column_at columns a).items + 1)) c in_b in
      let (j, at_j, in_j) = flat_map-in (λ j. swap_at p columns a b i j)
      (range_with_len 0 (length (column_at columns b).items + 1)) c in_i in
      swap_at-good a b i j c order b_below in_j)
      (λ (cuts : Contains (cuts_of p columns a) c).
      let (i, at_i, in_i) = flat_map-in (λ i. flat_map (λ k. cut_at p columns a i k) (range_with_len 0 (length p.caps)))
      (range_with_len 0 (length (column_at columns a).items)) c cuts in
      let (k, at_k, in_k) = flat_map-in (λ k. cut_at p columns a i k) (range_with_len 0 (length p.caps)) c in_i in
      let k_high = (range-in 0 (length p.caps) k at_k).1 in
      let k_below : k < length p.caps = omega arith in
      cut_at-good a i k c a_below k_below in_k)
      (Contains-append_cases (all_swaps_of p columns a) (cuts_of p columns a) c in_a)

listed-none : (p : Problem) → HasListedColumns p → NoneOfNothing p
listed-none p listed class worth e = (listed class [] worth e).0 refl

-- Each step that is looked at keeps plans: every one is a swap or a cut whose lists have a worth, and those are good by `Goods`.
-- The rest of the proof only takes apart the lists in which steps are enumerated.
pub steps_keep_plans : (p : Problem) → HasListedColumns p → StepsKeepPlans p
steps_keep_plans p listed columns plan c h = all_steps-good p (listed-none p listed) columns plan c h

step-improves : (p : Problem) → HasListedColumns p → (old new : List Column) → IsPlan p old → IsStep p old new →
    IsPlan p new × (cost new < cost old)
step-improves p listed old new plan h =
    let good = steps_keep_plans p listed old plan h.0 h.1.0 in
    let lower = h.2 in
    let change = good.1 in
    let less : cost (applied p old h.0) < cost old = omega (arith, ints) in
    let Keeps : List Column → Type 0 = λ l. IsPlan p l × (cost l < cost old) in
    subst Keeps (sym h.3) (good.0, less)

-- By induction over the steps: each lowers the cost, a whole number, by at least 1. So after n steps a plan costs at least n less,
-- and `improve` never makes a plan dearer.
pub steps_improve : (p : Problem) → HasListedColumns p → StepsImprove p
steps_improve p listed zero old new plan h =
    let Keeps : List Column → Type 0 = λ l. IsPlan p l × (cost l + 0 ≤ cost old) in
    let same : cost old + 0 ≤ cost old = omega arith in
    subst Keeps (sym h) (plan, same)
steps_improve p listed (suc n) old new plan h =
    let so_far = steps_improve p listed n old h.0 plan h.1 in
    let next = step-improves p listed h.0 new so_far.0 h.2 in
    let before = so_far.1 in
    let now = next.1 in
    let less : cost new + suc n ≤ cost old = omega arith in
    (next.0, less)

first-less : (x c : Candidate) → x.change <ℤ c.change → candidate_cmp x c ≡ Less
first-less x c less =
    let test : int_cmp x.change c.change ≡ Less = sym (int_cmp_is x.change c.change Less less) in
    ap (λ o. ordering_then o
    (ordering_then (nat_cmp (rank x.kind) (rank c.kind))
    (ordering_then (nat_cmp x.a c.a) (ordering_then (nat_cmp x.b c.b) (ordering_then (nat_cmp x.i c.i) (nat_cmp x.j c.j)))))) test

-- a candidate that isn't before another changes the cost no less
change-at_least : (x c : Candidate) → candidate_cmp x c ≢ Less → c.change ≤ℤ x.change
change-at_least x c h =
    by_lt_z x.change c.change (λ less. absurd (h (first-less x c less))) (λ at_least. at_least)

-- where the least step doesn't lower the cost none does
pub none-lowers : (p : Problem) (columns : List Column) (c : Candidate) → IsLeast candidate_cmp (all_steps p columns) (Some c) →
    (c.change <ℤ pos 0 → ⊥) → NoneLowers p columns
none-lowers p columns c least high x h =
    let step : c.change ≤ℤ x.change = change-at_least x c (least.1 x h) in
    let above : pos 0 ≤ℤ c.change = by_lt_z c.change (pos 0) (λ less. absurd (high less)) (λ at_least. at_least) in
    omega (arith, ints)

pub nothing-lowers : (p : Problem) (columns : List Column) → all_steps p columns ≡ [] → NoneLowers p columns
nothing-lowers p columns none x h = let P : List Candidate → Type 0 = λ l. Contains l x in absurd (nothing_in x (subst P none h))

-- some steps, and then one or none
pub leads-more : (p : Problem) (made steps : ℕ) (old mid new : List Column) → made < steps → Leads p made old mid → LeadsSome p 1 mid new →
    LeadsSome p steps old new
leads-more p made steps old mid new room leads (zero, few, same) =
    let some : made ≤ steps = omega arith in (made, some, subst (Leads p made old) (sym same) leads)
leads-more p made steps old mid new room leads (suc zero, few, (start, same, step)) =
    let some : suc made ≤ steps = omega arith in (suc made, some, (start, subst (Leads p made old) (sym same) leads, step))
leads-more p made steps old mid new room leads (suc (suc more), few, rest) = absurd (omega arith)

-- steps cost no more
pub leads-cheaper : (p : Problem) (steps : ℕ) (old new : List Column) → StepsImprove p → IsPlan p old →
    LeadsSome p steps old new → cost new ≤ cost old
leads-cheaper p steps old new improve plan (made, few, leads) = let less = (improve made old new plan leads).1 in omega arith
