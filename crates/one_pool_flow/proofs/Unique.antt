-- A day has one flow plan, and a plan has one list of flow prices.
use Rattle.std.proofs.Common.{◌≡◌, ◌≢◌, ◌==◌, ℕ, ℤ, pos, ◌-ℤ◌, ◌*ℤ◌, ◌+◌, ◌<◌, ◌≤◌, Bool, true, false, zero, suc, List, [], ◌∷◌, ◌++◌, length, Option, Some, inl, inr, refl, sym, ap, subst, ◌∙◌, arith}
use Rattle.std.specs.Prelude.{unwrap_or}
use Rattle.std.proofs.lemmas.Int.{ints}
use Rattle.std.proofs.lemmas.Bool.{cases_lt}
use Rattle.std.proofs.lemmas.Bool.Decides.{nat_tests}
use Rattle.std.proofs.lemmas.Option.{same_Some}
use Rattle.plan_core.specs.declared.Price.{Price}
use Rattle.plan_params.specs.declared.rows.pool.Pool.{Pool}
use Rattle.cover_core.specs.Cover.{AllBelow, Rises}
use Rattle.cover_core.specs.Plans.{AreColumns, all_items, price_at, times}
use Rattle.cover_core.proofs.Parts.{Rises-tail}
use Rattle.day_model.specs.Facts.{DayFacts}
use Rattle.path_cover.specs.Greatest.{AreGreatest}
use Rattle.path_cover.specs.Nets.{IsNotAfter, behind, first_nodes, successor}
use Rattle.path_cover.specs.Potentials.{Potentials, ArePricesOf}
use Rattle.path_cover.proofs.Successors.{above_first, behind-none, times-above, times-append, times-here}
use Rattle.one_pool_flow.specs.DayNets.{net_of}
use Rattle.one_pool_flow.specs.Flows.{FlowPlanIsOne, FlowPricesAreOne}
use Rattle.one_pool_flow.specs.Paths.{IsPathPlan, columns_of, path_column, paths_of, plan_cost}
use Rattle.one_pool_flow.proofs.Listed.{path_listed}

-- the numbers of all lists, one list after another
abbrev joined : List (List ℕ) → List ℕ
joined [] = []
joined (list ∷ lists) = list ++ joined lists

-- lists that are not empty, rise, and have numbers below n
abbrev AllListed : ℕ → List (List ℕ) → Type 0
AllListed n [] = Unit {0}
AllListed n (list ∷ lists) = ((list ≢ []) × Rises list × AllBelow n list) × AllListed n lists

-- the number behind the first one of a list
abbrev next_of : ℕ → List ℕ → ℕ
next_of n [] = n
next_of n (x ∷ xs) = x

behind_first : (n x : ℕ) (xs : List ℕ) → behind n x (x ∷ xs) ≡ Some (next_of n xs)
behind_first n x [] = let test : (x == x) ≡ true = grind (arith, nat_tests) in rw test refl
behind_first n x (y ∷ ys) = let test : (x == x) ≡ true = grind (arith, nat_tests) in rw test refl

behind_later : (n x s : ℕ) (xs : List ℕ) → x < s → 1 ≤ times s xs → behind n s (x ∷ xs) ≡ behind n s xs
behind_later n x s [] above member = absurd (omega arith)
behind_later n x s (y ∷ ys) above member = let test : (x == s) ≡ false = grind (arith, nat_tests) in rw test refl

-- A list is read through what stands behind each of its members: the next one, or behind the last one the end n. Each member has
-- something behind it, so this reading is a function on the members. The section shows that it loses nothing.
behind_some : (n s : ℕ) (list : List ℕ) → 1 ≤ times s list → (v : ℕ) × (behind n s list ≡ Some v)
behind_some n s [] member = absurd (omega arith)
behind_some n s (x ∷ []) member = go (s == x) refl
  where
    go : (b : Bool) → (s == x) ≡ b → (v : ℕ) × (behind n s (x ∷ []) ≡ Some v)
    go true e = let test : (x == s) ≡ true = grind (arith, nat_tests) in (n, rw test refl)
    go false e = let counted : times s (x ∷ []) ≡ 0 = rw e refl in absurd (omega arith)
behind_some n s (x ∷ y ∷ ys) member = go (s == x) refl (behind_some n s (y ∷ ys))
  where
    go : (b : Bool) → (s == x) ≡ b → (1 ≤ times s (y ∷ ys) → (v : ℕ) × (behind n s (y ∷ ys) ≡ Some v)) →
        (v : ℕ) × (behind n s (x ∷ y ∷ ys) ≡ Some v)
    go true e later = let test : (x == s) ≡ true = grind (arith, nat_tests) in (y, rw test refl)
    go false e later =
        let counted : times s (x ∷ y ∷ ys) ≡ times s (y ∷ ys) = rw e (omega arith) in
        let rest = later (omega arith) in
        let test : (x == s) ≡ false = grind (arith, nat_tests) in
        (rest.0, rw test rest.1)

next_same : (n x y : ℕ) (xs ys : List ℕ) → x ≡ y →
    ((s : ℕ) → 1 ≤ times s (x ∷ xs) → 1 ≤ times s (y ∷ ys) → behind n s (x ∷ xs) ≡ behind n s (y ∷ ys)) → next_of n xs ≡ next_of n ys
next_same n x y xs ys same equal =
    let test : (x == y) ≡ true = grind (arith, nat_tests) in
    let here : 1 ≤ times x (x ∷ xs) = omega (arith, times-here x xs) in
    let there : 1 ≤ times x (y ∷ ys) = rw test (omega arith) in
    let P : ℕ → Type 0 = λ k. behind n k (y ∷ ys) ≡ Some (next_of n ys) in
    let last : behind n x (y ∷ ys) ≡ Some (next_of n ys) = subst P (sym same) (behind_first n y ys) in
    same_Some (next_of n xs) (next_of n ys) (sym (behind_first n x xs) ∙ (equal x here there ∙ last))

-- Two rising lists with the same first number, and the same behind each number that stands in both, are the same. Their second
-- numbers are what is behind the first, so they are equal or both lists end, as the end n is no number of a list; and the claim goes
-- on to the lists without their first numbers, where the members' followers are still what they were (`behind_later`).
same_rest : (n x y : ℕ) (xs ys : List ℕ) → x ≡ y → Rises (x ∷ xs) → Rises (y ∷ ys) → AllBelow n xs → AllBelow n ys →
    ((s : ℕ) → 1 ≤ times s (x ∷ xs) → 1 ≤ times s (y ∷ ys) → behind n s (x ∷ xs) ≡ behind n s (y ∷ ys)) → xs ≡ ys
same_rest n x y [] [] same xs_rise ys_rise xs_below ys_below equal = refl
same_rest n x y [] (v ∷ vs) same xs_rise ys_rise xs_below ys_below equal =
    let next : n ≡ v = next_same n x y [] (v ∷ vs) same equal in
    let low : v < n = ys_below.0 in
    absurd (omega arith)
same_rest n x y (u ∷ us) [] same xs_rise ys_rise xs_below ys_below equal =
    let next : u ≡ n = next_same n x y (u ∷ us) [] same equal in
    let low : u < n = xs_below.0 in
    absurd (omega arith)
same_rest n x y (u ∷ us) (v ∷ vs) same xs_rise ys_rise xs_below ys_below equal =
    let next : u ≡ v = next_same n x y (u ∷ us) (v ∷ vs) same equal in
    let rest : us ≡ vs = same_rest n u v us vs next xs_rise.1 ys_rise.1 xs_below.1 ys_below.1 (λ s here there.
    let above = above_first x (u ∷ us) s xs_rise here in
    let above' = above_first y (v ∷ vs) s ys_rise there in
    sym (behind_later n x s (u ∷ us) above here) ∙ (equal s (omega arith) (omega arith) ∙ behind_later n y s (v ∷ vs) above' there)) in
    cc

above_or_at : (x : ℕ) (xs : List ℕ) (s : ℕ) → Rises (x ∷ xs) → 1 ≤ times s (x ∷ xs) → x ≤ s
above_or_at x xs s rise member = go (s == x) refl
  where
    go : (b : Bool) → (s == x) ≡ b → x ≤ s
    go true e = let same : s ≡ x = grind (arith, nat_tests) in omega arith
    go false e =
        let counted : times s (x ∷ xs) ≡ times s xs = rw e (omega arith) in
        let above = above_first x xs s rise (omega arith) in
        omega arith

-- In lists that are ordered by their first numbers, and each of which rises, the first number of the first list is the least of all:
-- the numbers of one list are above its first one, and the first ones rise. So sets of equal numbers have equal first numbers.
least_first : (n x : ℕ) (xs : List ℕ) (lists : List (List ℕ)) → AllListed n ((x ∷ xs) ∷ lists) → Rises (first_nodes ((x ∷ xs) ∷ lists)) →
    (s : ℕ) → 1 ≤ times s (joined ((x ∷ xs) ∷ lists)) → x ≤ s
least_first n x xs [] listed rise s member = above_or_at x xs s listed.0.1 (omega (arith, member, times-append s (x ∷ xs) []))
least_first n x xs ([] ∷ lists) listed rise s member = absurd (listed.1.0.0 refl)
least_first n x xs ((y ∷ ys) ∷ lists) listed rise s member =
    let counted : times s (joined ((x ∷ xs) ∷ (y ∷ ys) ∷ lists)) ≡ times s (x ∷ xs) + times s (joined ((y ∷ ys) ∷ lists)) =
    times-append s (x ∷ xs) (joined ((y ∷ ys) ∷ lists)) in
    elim (cases_lt 0 (times s (x ∷ xs))) [
      | inl inside ↦ above_or_at x xs s listed.0.1 (omega arith)
      | inr outside ↦
          let step : x < y = rise.0 in
          let rest = least_first n y ys lists listed.1 rise.1 s (omega (arith, member, counted, outside)) in
          omega arith
    ]

member_first : (x : ℕ) (xs : List ℕ) (lists : List (List ℕ)) → 1 ≤ times x (joined ((x ∷ xs) ∷ lists))
member_first x xs lists = omega (arith, times-append x (x ∷ xs) (joined lists), times-here x xs)

-- what is behind a member of the first list
successor_first : (n s v : ℕ) (list : List ℕ) (lists : List (List ℕ)) → behind n s list ≡ Some v → successor n (list ∷ lists) s ≡ v
successor_first n s v list lists e = ap (λ (o : Option ℕ). unwrap_or o (successor n lists s)) e

successor_later : (n s : ℕ) (list : List ℕ) (lists : List (List ℕ)) → times s list ≡ 0 → successor n (list ∷ lists) s ≡ successor n lists s
successor_later n s list lists none = ap (λ (o : Option ℕ). unwrap_or o (successor n lists s)) (behind-none n s list none)

-- Lists that rise, in the order of their first numbers, none of which stands twice, are determined by which numbers stand in them and by
-- what is behind each.
-- The proof takes off the first lists of both: their first numbers are equal, as each is the least of all (`least_first`), hence the
-- lists are equal (`same_rest`), and so the remaining ones have the same numbers, for which what is behind is unchanged. So flow
-- plans may be compared by their successors alone.
same_lists : (n : ℕ) (ones others : List (List ℕ)) → AllListed n ones → AllListed n others → Rises (first_nodes ones) →
    Rises (first_nodes others) →
    ((s : ℕ) → times s (joined ones) ≤ 1) → ((s : ℕ) → times s (joined ones) ≡ times s (joined others)) →
    ((s : ℕ) → 1 ≤ times s (joined ones) → successor n ones s ≡ successor n others s) → ones ≡ others
same_lists n [] [] one_listed other_listed one_rise other_rise once same after = refl
same_lists n [] ([] ∷ others) one_listed other_listed one_rise other_rise once same after = absurd (other_listed.0.0 refl)
same_lists n [] ((y ∷ ys) ∷ others) one_listed other_listed one_rise other_rise once same after =
    let member = member_first y ys others in
    let none = same y in
    absurd (omega arith)
same_lists n ([] ∷ ones) others one_listed other_listed one_rise other_rise once same after = absurd (one_listed.0.0 refl)
same_lists n ((x ∷ xs) ∷ ones) [] one_listed other_listed one_rise other_rise once same after =
    let member = member_first x xs ones in
    let none = same x in
    absurd (omega arith)
same_lists n ((x ∷ xs) ∷ ones) ([] ∷ others) one_listed other_listed one_rise other_rise once same after = absurd (other_listed.0.0 refl)
same_lists n ((x ∷ xs) ∷ ones) ((y ∷ ys) ∷ others) one_listed other_listed one_rise other_rise once same after =
    let first : x ≡ y = firsts in
    let rest : xs ≡ ys = rests first in
    let list : (x ∷ xs) ≡ (y ∷ ys) = cc in
    let counts : (s : ℕ) → times s (x ∷ xs) ≡ times s (y ∷ ys) = λ s. ap (times s) list in
    let lists : ones ≡ others =
    same_lists n ones others one_listed.1 other_listed.1 (Rises-tail x (first_nodes ones) one_rise)
    (Rises-tail y (first_nodes others) other_rise)
    (λ s. omega (arith, once s, times-append s (x ∷ xs) (joined ones)))
    (λ s. omega (arith, same s, counts s, times-append s (x ∷ xs) (joined ones), times-append s (y ∷ ys) (joined others)))
    (λ s member.
    let gone : times s (x ∷ xs) ≡ 0 = omega (arith, once s, times-append s (x ∷ xs) (joined ones)) in
    let gone' : times s (y ∷ ys) ≡ 0 = omega (arith, counts s) in
    sym (successor_later n s (x ∷ xs) ones gone)
    ∙ (after s (omega (arith, times-append s (x ∷ xs) (joined ones))) ∙ successor_later n s (y ∷ ys) others gone')) in
    cc
  where
    firsts : x ≡ y
    firsts =
        let mine = member_first x xs ones in
        let theirs = member_first y ys others in
        let low = least_first n x xs ones one_listed one_rise y (omega (arith, same y)) in
        let low' = least_first n y ys others other_listed other_rise x (omega (arith, same x)) in
        omega arith

    rests : x ≡ y → xs ≡ ys
    rests first = same_rest n x y xs ys first one_listed.0.1 other_listed.0.1 one_listed.0.2.1 other_listed.0.2.1 (λ s here there.
        let mine = behind_some n s (x ∷ xs) here in
        let theirs = behind_some n s (y ∷ ys) there in
        let v : mine.0 ≡ theirs.0 = sym (successor_first n s mine.0 (x ∷ xs) ones mine.1)
        ∙ (after s (omega (arith, times-append s (x ∷ xs) (joined ones))) ∙ successor_first n s theirs.0 (y ∷ ys) others theirs.1) in
        mine.1 ∙ (ap (λ (k : ℕ). Some k) v ∙ sym theirs.1))

-- Of two functions neither of which comes after the other in the order by first difference, all values below n are the same: where
-- all earlier values are the same, "not after" says of this value that it is at most the other's, both ways. The induction is over a
-- bound above the place, as all earlier places are needed at once.
agree : (n : ℕ) (f g : ℕ → ℕ) → IsNotAfter n f g → IsNotAfter n g f → (k s : ℕ) → s < k → s < n → f s ≡ g s
agree n f g one other zero s below within = absurd (omega arith)
agree n f g one other (suc k) s below within =
    let before : (r : ℕ) → r < s → f r ≡ g r =
    λ r less. agree n f g one other k r (omega (arith, less, below)) (omega (arith, less, within)) in
    let low = one s within before in
    let high = other s within (λ r less. sym (before r less)) in
    omega arith

items_joined : (day : DayFacts) (lists : List (List ℕ)) → all_items (columns_of day lists) ≡ joined lists
items_joined day [] = refl
items_joined day (list ∷ lists) = ap (λ (rest : List ℕ). list ++ rest) (items_joined day lists)

plan_listed : (day : DayFacts) (lists : List (List ℕ)) → AreColumns (paths_of day) (columns_of day lists) →
    AllListed (length day.trips) lists
plan_listed day [] are = tt
plan_listed day (list ∷ lists) are = (path_listed day 0 list (path_column day list).worth are.0.1, plan_listed day lists are.1)

below_joined : (n s : ℕ) (lists : List (List ℕ)) → AllListed n lists → n ≤ s → times s (joined lists) ≡ 0
below_joined n s [] listed past = refl
below_joined n s (list ∷ lists) listed past =
    omega (arith, times-append s list (joined lists), times-above n s list listed.0.2 past, below_joined n s lists listed.1 past)

once_joined : (day : DayFacts) (lists : List (List ℕ)) → IsPathPlan day lists → (s : ℕ) → s < length day.trips → times s (joined lists) ≡ 1
once_joined day lists plan s within = sym (ap (times s) (items_joined day lists)) ∙ plan.once s within

-- A day has one flow plan. Two flow plans cost the same, as each is of least cost; so each says of the other that its successors do
-- not come later, and they agree on all trips (`agree`). Each trip stands in both exactly once and the paths are in order; so the
-- successors determine the plans (`same_lists`). It is the first half of the contract of `flow_is_one`: what is found may be called
-- the flow plan.
pub flow_plan_is_one : (day : DayFacts) → FlowPlanIsOne day
flow_plan_is_one day one other is are = same_lists n one other one_listed other_listed is.ordered are.ordered
    (λ s. elim (cases_lt s n) [
      | inl within ↦ omega (arith, once_joined day one is.plan s within)
      | inr past ↦ omega (arith, below_joined n s one one_listed past)
    ])
    (λ s. elim (cases_lt s n) [
      | inl within ↦ omega (arith, once_joined day one is.plan s within, once_joined day other are.plan s within)
      | inr past ↦ omega (arith, below_joined n s one one_listed past, below_joined n s other other_listed past)
    ])
    (λ s member. elim (cases_lt s n) [
      | inl within ↦ agree n (successor n one) (successor n other) (is.first other are.plan (sym costs)) (are.first one is.plan costs)
          (suc s) s (omega arith) within
      | inr past ↦ absurd (omega (arith, member, below_joined n s one one_listed past))
    ])
  where
    n : ℕ
    n = length day.trips

    one_listed : AllListed (length day.trips) one
    one_listed = plan_listed day one is.plan.worths

    other_listed : AllListed (length day.trips) other
    other_listed = plan_listed day other are.plan.worths

    costs : plan_cost day one ≡ plan_cost day other
    costs = let low = is.least other are.plan in let high = are.least one is.plan in omega arith

abbrev first_pool : Pool → List Pool → Pool
first_pool pool [] = pool
first_pool pool (first ∷ rest) = first

same_prices : (ones others : List Price) → length ones ≡ length others →
    ((t : ℕ) → t < length ones → price_at ones t ≡ price_at others t) → ones ≡ others
same_prices [] [] count each = refl
same_prices [] (y ∷ ys) count each = absurd (omega arith)
same_prices (x ∷ xs) [] count each = absurd (omega arith)
same_prices (x ∷ xs) (y ∷ ys) count each =
    let number : x.0 ≡ y.0 = each 0 (omega arith) in
    let priced : ℤ → Price = λ z. record { 0 = z } in
    let first : x ≡ y = ap priced number in
    let rest : xs ≡ ys = same_prices xs ys (omega arith) (λ t below. each (suc t) (omega (arith, below))) in
    cc

-- A plan has one list of flow prices: the greatest potentials are at least as great as all others that go with the plan, hence as
-- each other, both ways; so they are equal at each trip, at the store and at the end, and prices are a thousand times their
-- differences. A day has one pool, so both lists speak of one network. It is the second half of the contract of `flow_is_one`.
pub flow_prices_are_one : (day : DayFacts) → FlowPricesAreOne day
flow_prices_are_one day lists prices others class_price other one_of other_of =
    go one_of.0 one_of.1 one_of.2 one_of.3 one_of.4 other_of.0 other_of.1 other_of.2 other_of.3 other_of.4
  where
    go : (pool : Pool) → day.params.pools ≡ pool ∷ [] → (p : Potentials) → AreGreatest (net_of day pool) lists p →
        ArePricesOf (net_of day pool) p prices class_price →
        (pool' : Pool) → day.params.pools ≡ pool' ∷ [] → (q : Potentials) → AreGreatest (net_of day pool') lists q →
        ArePricesOf (net_of day pool') q others other →
        (prices ≡ others) × (class_price ≡ other)
    go pool one p p_greatest p_prices pool' one' q q_greatest' q_prices' =
        let same : pool' ≡ pool = ap (first_pool pool) (sym one' ∙ one) in
        let q_greatest = subst (λ (r : Pool). AreGreatest (net_of day r) lists q) same q_greatest' in
        let q_prices = subst (λ (r : Pool). ArePricesOf (net_of day r) q others other) same q_prices' in
        let n = length day.trips in
        let tails : (x : ℕ) → x ≤ n → p.tail x ≡ q.tail x =
        λ x within. omega (arith, ints, p_greatest.tails q q_greatest.numbers x within, q_greatest.tails p p_greatest.numbers x within) in
        let heads : (v : ℕ) → v ≤ n → p.head v ≡ q.head v =
        λ v within. omega (arith, ints, p_greatest.heads q q_greatest.numbers v within, q_greatest.heads p p_greatest.numbers v within) in
        let count = p_prices.count in
        let other_count = q_prices.count in (
          same_prices prices others (count ∙ sym other_count) (λ t below.
              let within : t < n = omega (arith, below, count) in
              let above : t ≤ n = omega (arith, within) in
              let e : (p.head t -ℤ p.tail t) ≡ (q.head t -ℤ q.tail t) = omega (arith, ints, tails t above, heads t above) in
              p_prices.each t within ∙ (ap (λ (z : ℤ). pos 1000 *ℤ z) e ∙ sym (q_prices.each t within))),
          let e : (p.tail n -ℤ p.head n) ≡ (q.tail n -ℤ q.head n) = omega (arith, ints, tails n (omega arith), heads n (omega arith)) in
              p_prices.of_class ∙ (ap (λ (z : ℤ). pos 1000 *ℤ z) e ∙ sym q_prices.of_class),
        )
