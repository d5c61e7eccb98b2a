-- Planning ends in one way alone.
use Rattle.std.proofs.Common.{◌≡◌, ◌≢◌, ℕ, ℤ, ◌<◌, ◌≤◌, nat_lt, Bool, true, false, zero, suc, List, [], ◌∷◌, ◌++◌, All, Option, Some, None, refl, sym, ap, ◌∙◌, subst, arith}
use Rattle.std.specs.FinMap.{nat_cmp-IsAntisymmetric, int_cmp-IsAntisymmetric}
use Rattle.std.specs.Ordering.{nat_cmp, int_cmp, ordering_then}
use Rattle.std.specs.declared.cmp.Ordering.{Ordering}
use Rattle.std.specs.declared.cmp.Ordering.TheVariants.{Less, Equal, Greater}
use Rattle.std.proofs.lemmas.Int.{ints}
use Rattle.std.proofs.lemmas.Bool.Decides.{nat_tests}
use Rattle.std.proofs.lemmas.List.Elements.{All-head, All-tail}
use Rattle.plan_core.specs.declared.Price.{Price}
use Rattle.cover_core.specs.declared.Column.{Column}
use Rattle.cover_core.specs.Cover.{Problem}
use Rattle.dual_bound.specs.declared.kept.Kept.{Kept}
use Rattle.plan_round.specs.Rounding.{Rounded, whole, left, rounded, picked}
use Rattle.plan_round.specs.Faults.{RoundsTo}
use Rattle.tail_exchange.specs.declared.candidate.Kind.{Kind}
use Rattle.tail_exchange.specs.declared.candidate.Kind.TheVariants.{Swap, Cut}
use Rattle.tail_exchange.specs.declared.candidate.Candidate.{Candidate}
use Rattle.tail_exchange.specs.Order.{rank, candidate_cmp}
use Rattle.tail_exchange.specs.Exchange.{applied, IsStep, NoneLowers, Leads}
use Rattle.tail_exchange.proofs.Leasts.{candidate_total}
use Rattle.price_rounds.specs.Rounds.{after_rounds, all_offers, IsFirstGreatest}
use Rattle.cover_plan.specs.Endings.{Numbers, IsFirstKept, IsKept, IsImproved, HasPlaces, IsMade, IsRounded, HasNoPlan, LeavesBy, RoundingLeaves, Ending, planned, no_plan, not_placed, EndsAs, EndsBy, EndsKnown}
use Rattle.cover_plan.specs.declared.known.KnownPlan.{KnownPlan}
use Rattle.cover_plan.proofs.Methods.{first_kept, rounded_made, rounding_leaves}
use Rattle.cover_plan.proofs.Orders.{one_by_value, then_equal, reversed_greater}

-- the kept offer
head_or : Kept → List Kept → Kept
head_or d [] = d
head_or d (k ∷ ks) = k

tail_of : List Kept → List Kept
tail_of [] = []
tail_of (k ∷ ks) = ks

same_head : (k l : Kept) (ks ls : List Kept) → k ∷ ks ≡ l ∷ ls → k ≡ l
unfolding head_or
same_head k l ks ls h = ap (λ (o : List Kept). head_or k o) h

same_tail : (k l : Kept) (ks ls : List Kept) → k ∷ ks ≡ l ∷ ls → ks ≡ ls
unfolding tail_of
same_tail k l ks ls h = ap tail_of h

all_at : (P : Kept → Type 0) (front : List Kept) (k : Kept) (rest : List Kept) → All P (front ++ k ∷ rest) → P k
all_at P [] k rest h = All-head P k rest h
all_at P (x ∷ xs) k rest h = all_at P xs k rest (All-tail P x (xs ++ k ∷ rest) h)

-- The first offer of the greatest bound is one offer alone. By induction over both splits of the list of offers: where one split
-- puts its offer at the front and the other does not, the front has a bound that is less by the one and no less by the other.
one_split : (b c : List Kept) (k l : Kept) (a d : List Kept) → b ++ k ∷ a ≡ c ++ l ∷ d →
    All (λ (o : Kept). o.bound < k.bound) b → All (λ (o : Kept). o.bound ≤ k.bound) a → All (λ (o : Kept). o.bound < l.bound) c →
    All (λ (o : Kept). o.bound ≤ l.bound) d → k ≡ l
one_split [] [] k l a d h less more less' more' = same_head k l a d h
one_split [] (y ∷ ys) k l a d h less more less' more' =
    let first : k ≡ y = same_head k y a (ys ++ l ∷ d) h in
    let below : y.bound < l.bound = All-head (λ (o : Kept). o.bound < l.bound) y ys less' in
    let P : List Kept → Type 0 = λ s. All (λ (o : Kept). o.bound ≤ k.bound) s in
    let above : l.bound ≤ k.bound = all_at (λ (o : Kept). o.bound ≤ k.bound) ys l d (subst P (same_tail k y a (ys ++ l ∷ d) h) more) in
    let same : k.bound ≡ y.bound = ap (λ (o : Kept). o.bound) first in
    absurd (omega arith)
one_split (x ∷ xs) [] k l a d h less more less' more' =
    let first : x ≡ l = same_head x l (xs ++ k ∷ a) d h in
    let below : x.bound < k.bound = All-head (λ (o : Kept). o.bound < k.bound) x xs less in
    let P : List Kept → Type 0 = λ s. All (λ (o : Kept). o.bound ≤ l.bound) s in
    let above : k.bound ≤ l.bound =
    all_at (λ (o : Kept). o.bound ≤ l.bound) xs k a (subst P (sym (same_tail x l (xs ++ k ∷ a) d h)) more') in
    let same : x.bound ≡ l.bound = ap (λ (o : Kept). o.bound) first in
    absurd (omega arith)
one_split (x ∷ xs) (y ∷ ys) k l a d h less more less' more' =
    one_split xs ys k l a d (same_tail x y (xs ++ k ∷ a) (ys ++ l ∷ d) h) (All-tail (λ (o : Kept). o.bound < k.bound) x xs less) more
    (All-tail (λ (o : Kept). o.bound < l.bound) y ys less') more'

pub one_kept : (offers : List Kept) (one other : Kept) → IsFirstGreatest offers one → IsFirstGreatest offers other → one ≡ other
one_kept offers one other h k = one_split h.before k.before one other h.after k.after (sym h.all ∙ k.all) h.less h.no_more k.less k.no_more

-- a kept offer, with the columns of a plan
record KeptPlan : Type 0 where
  pub cost : Kept
  pub columns : List Column

abbrev planned_as : Kept → List Column → KeptPlan
planned_as cost columns = record { cost = cost; columns = columns }

-- Rounding goes through a pool in the order of value and place, which is one order (`one_by_value`), and from there it is a
-- function.
pub one_rounding : (p : Problem) (prices : List Price) (pool : List Column) (one other : Rounded) → RoundsTo p prices pool one →
    RoundsTo p prices pool other → one ≡ other
one_rounding p prices pool one other h k =
    sym h.is ∙ (ap (λ (l : List ℕ). rounded p (picked pool l)) (one_by_value prices pool h.places k.places h.by_value k.by_value) ∙ k.is)

-- exchange steps
same_kind : (k l : Kind) → rank k ≡ rank l → k ≡ l
same_kind Swap Swap h = refl
same_kind Swap Cut h = absurd (omega (arith, h))
same_kind Cut Swap h = absurd (omega (arith, h))
same_kind Cut Cut h = refl

candidate : ℤ → Kind → ℕ → ℕ → ℕ → ℕ → Candidate
candidate change kind a b i j = record { change = change; kind = kind; a = a; b = b; i = i; j = j }

same_fields : (c d : Candidate) → c.change ≡ d.change → c.kind ≡ d.kind → c.a ≡ d.a → c.b ≡ d.b → c.i ≡ d.i → c.j ≡ d.j → c ≡ d
unfolding candidate
same_fields c d change kind a b i j =
    ap (λ (x : ℤ). candidate x c.kind c.a c.b c.i c.j) change ∙ (ap (λ (x : Kind). candidate d.change x c.a c.b c.i c.j) kind
    ∙ (ap (λ (x : ℕ). candidate d.change d.kind x c.b c.i c.j) a ∙ (ap (λ (x : ℕ). candidate d.change d.kind d.a x c.i c.j) b
    ∙ (ap (λ (x : ℕ). candidate d.change d.kind d.a d.b x c.j) i ∙ ap (λ (x : ℕ). candidate d.change d.kind d.a d.b d.i x) j))))

-- Steps that compare as equal are one step: the order of candidates ends with their numbers, and what it compares is all that a
-- candidate has. So of equally good steps the least is still one, and the threads that look for it cannot disagree.
level : (c d : Candidate) → candidate_cmp c d ≡ Equal → c ≡ d
level c d h =
    let j = nat_cmp c.j d.j in
    let e0 = then_equal (int_cmp c.change d.change)
    (ordering_then (nat_cmp (rank c.kind) (rank d.kind))
    (ordering_then (nat_cmp c.a d.a) (ordering_then (nat_cmp c.b d.b) (ordering_then (nat_cmp c.i d.i) (nat_cmp c.j d.j))))) h in
    let e1 = then_equal (nat_cmp (rank c.kind) (rank d.kind))
    (ordering_then (nat_cmp c.a d.a) (ordering_then (nat_cmp c.b d.b) (ordering_then (nat_cmp c.i d.i) (nat_cmp c.j d.j)))) e0.1 in
    let e2 = then_equal (nat_cmp c.a d.a) (ordering_then (nat_cmp c.b d.b) (ordering_then (nat_cmp c.i d.i) (nat_cmp c.j d.j))) e1.1 in
    let e3 = then_equal (nat_cmp c.b d.b) (ordering_then (nat_cmp c.i d.i) (nat_cmp c.j d.j)) e2.1 in
    let e4 = then_equal (nat_cmp c.i d.i) (nat_cmp c.j d.j) e3.1 in
    same_fields c d (int_cmp-IsAntisymmetric c.change d.change e0.0)
    (same_kind c.kind d.kind (nat_cmp-IsAntisymmetric (rank c.kind) (rank d.kind) e1.0))
    (nat_cmp-IsAntisymmetric c.a d.a e2.0) (nat_cmp-IsAntisymmetric c.b d.b e3.0) (nat_cmp-IsAntisymmetric c.i d.i e4.0)
    (nat_cmp-IsAntisymmetric c.j d.j e4.1)

one_candidate : (c d : Candidate) → candidate_cmp c d ≢ Less → candidate_cmp d c ≢ Less → c ≡ d
one_candidate c d h k = go (candidate_cmp c d) refl
  where
    go : (o : Ordering) → candidate_cmp c d ≡ o → c ≡ d
    go Less e = absurd (h e)
    go Equal e = level c d e
    go Greater e = absurd (k (reversed_greater (candidate_cmp d c) (candidate_cmp c d) (candidate_total.antisymm d c) e))

one_step : (p : Problem) (old a b : List Column) → IsStep p old a → IsStep p old b → a ≡ b
one_step p old a b h k =
    let same : h.0 ≡ k.0 = one_candidate h.0 k.0 (k.1.1 h.0 h.1.0) (h.1.1 k.0 k.1.0) in
    h.3 ∙ (ap (λ (c : Candidate). applied p old c) same ∙ sym k.3)

no_step : (p : Problem) (old new : List Column) → NoneLowers p old → IsStep p old new → ⊥
no_step p old new none step =
    let at_least = none step.0 step.1.0 in
    let below = step.2 in
    omega (arith, ints)

-- By induction over the steps: the same number of steps leads to the same columns, as each step is the least of all.
one_lead : (p : Problem) (n : ℕ) (old a b : List Column) → Leads p n old a → Leads p n old b → a ≡ b
one_lead p zero old a b h k = h ∙ sym k
one_lead p (suc n) old a b h k =
    let same : h.0 ≡ k.0 = one_lead p n old h.0 k.0 h.1 k.1 in
    let P : List Column → Type 0 = λ mid. IsStep p mid a in
    one_step p k.0 a b (subst P same h.2) k.2

-- fewer steps lead to where a further one begins
front : (p : Problem) (n m : ℕ) (old new : List Column) → n < m → Leads p m old new →
    (mid : List Column) × (next : List Column) × Leads p n old mid × IsStep p mid next
front p n zero old new less h = absurd (omega arith)
front p n (suc m) old new less h =
    elim (nat_lt n m) as (λ b. nat_lt n m ≡ b → (mid : List Column) × (next : List Column) × Leads p n old mid × IsStep p mid next) [
      | true ↦ λ e. (let below : n < m = grind (arith, nat_tests) in front p n m old h.0 below h.1)
      | false ↦ λ e.
          let above : m ≤ n = grind (arith, nat_tests) in
          let same : m ≡ n = omega arith in
          let P : ℕ → Type 0 = λ k. Leads p k old h.0 in
          (h.0, new, subst P same h.1, h.2)
    ] refl

-- Exchange steps end after the number allowed, or where no step lowers the cost. Had one run ended before the other, its columns
-- would be those that the other reached by then, and there the other made one more step that lowers the cost.
not_fewer : (p : Problem) (steps : ℕ) (old a b : List Column) (h : IsImproved p steps old a) (k : IsImproved p steps old b) →
    h.made < k.made → ⊥
not_fewer p steps old a b h k less =
    let few = k.few in
    let some : h.made < steps = omega arith in
    let f = front p h.made k.made old b less k.leads in
    let same : f.0 ≡ a = one_lead p h.made old f.0 a f.2 h.leads in
    let P : List Column → Type 0 = λ mid. IsStep p mid f.1 in
    no_step p a f.1 (h.end some) (subst P same f.3)

-- Improving a plan ends in one way: neither run makes fewer steps than the other, so both make as many, and as many lead to one
-- plan.
pub one_improved : (p : Problem) (steps : ℕ) (old a b : List Column) → IsImproved p steps old a → IsImproved p steps old b → a ≡ b
one_improved p steps old a b h k =
    let not_less : h.made < k.made → ⊥ = not_fewer p steps old a b h k in
    let not_more : k.made < h.made → ⊥ = not_fewer p steps old b a k h in
    let same : h.made ≡ k.made = even h.made k.made not_less not_more in
    let P : ℕ → Type 0 = λ n. Leads p n old a in
    one_lead p k.made old a b (subst P same h.leads) k.leads
  where
    even : (m n : ℕ) → (m < n → ⊥) → (n < m → ⊥) → m ≡ n
    even m n x y = grind arith

-- the whole
whole_of : List Column → Rounded → List Column
whole_of d (whole columns) = columns
whole_of d (left item columns) = d

same_whole : (a b : List Column) → whole a ≡ whole b → a ≡ b
unfolding whole_of
same_whole a b h = ap (λ (r : Rounded). whole_of a r) h

is_whole : Rounded → Bool
is_whole (whole columns) = true
is_whole (left item columns) = false

not_both : (a b : List Column) (item : ℕ) → whole a ≡ left item b → ⊥
unfolding is_whole
not_both a b item h = let t : true ≡ false = ap is_whole h in cc

item_of : Rounded → ℕ
item_of (whole columns) = 0
item_of (left item columns) = item

part_of : Rounded → List Column
part_of (whole columns) = columns
part_of (left item columns) = columns

same_item : (i j : ℕ) (a b : List Column) → left i a ≡ left j b → i ≡ j
unfolding item_of
same_item i j a b h = ap item_of h

same_part : (i j : ℕ) (a b : List Column) → left i a ≡ left j b → a ≡ b
unfolding part_of
same_part i j a b h = ap part_of h

module _ (counted costed : Problem) (numbers : Numbers) (fixed : numbers.climb ≡ false) where
  -- two kept offers of a pass are one
  same_kept : (p : Problem) (one other : Kept) → IsKept p numbers one → IsKept p numbers other → one ≡ other
  same_kept p one other h k =
      one_kept (all_offers p numbers.rounds numbers.lower) one other (first_kept p numbers one fixed h) (first_kept p numbers other fixed k)

  -- a rounding at either kept offer is one at the other
  at_other : (cost other : Kept) (r : Rounded) → IsFirstKept costed numbers cost → IsFirstKept costed numbers other →
      RoundsTo costed cost.prices.items (after_rounds costed numbers.rounds).pool r →
      RoundsTo costed other.prices.items (after_rounds costed numbers.rounds).pool r
  at_other cost other r h k rounds =
      let P : Kept → Type 0 = λ kept. RoundsTo costed kept.prices.items (after_rounds costed numbers.rounds).pool r in
      subst P (one_kept (all_offers costed numbers.rounds numbers.lower) cost other h k) rounds

  -- By fixed rounds a pass ends in one plan: the kept offers are one, so are the pools, being functions of the problem, so are the
  -- roundings, and so what the exchange makes of them.
  one_plan : (cost other : Kept) (a b : List Column) → IsRounded costed numbers cost a → IsRounded costed numbers other b → a ≡ b
  one_plan cost other a b h k =
      let first : h.first ≡ k.first =
      same_whole h.first k.first
      (one_rounding costed other.prices.items (after_rounds costed numbers.rounds).pool (whole h.first) (whole k.first)
      (at_other cost other (whole h.first) h.kept k.kept h.rounds) k.rounds) in
      let P : List Column → Type 0 = λ l. IsImproved costed numbers.exchange l a in
      one_improved costed numbers.exchange k.first a b (subst P first h.improved) k.improved

  same_plan : (k l : Kept) (a b : List Column) → IsMade costed numbers k a → IsMade costed numbers l b → planned_as k a ≡ planned_as l b
  same_plan k l a b h m =
      let one : IsRounded costed numbers k a = rounded_made costed numbers k a fixed h in
      let other : IsRounded costed numbers l b = rounded_made costed numbers l b fixed m in
      ap (λ (x : Kept). planned_as x a) (one_kept (all_offers costed numbers.rounds numbers.lower) k l one.kept other.kept)
      ∙ ap (λ (x : List Column). planned_as l x) (one_plan k l a b one other)

  no_left : (cost : Kept) (item : ℕ) (a b : List Column) → IsMade costed numbers cost a → LeavesBy numbers.climb costed numbers item b → ⊥
  no_left cost item a b made left_is =
      let h : IsRounded costed numbers cost a = rounded_made costed numbers cost a fixed made in
      let l : RoundingLeaves costed numbers item b = rounding_leaves costed numbers item b fixed left_is in
      not_both h.first b item
      (one_rounding costed l.cost.prices.items (after_rounds costed numbers.rounds).pool (whole h.first) (left item b)
      (at_other cost l.cost (whole h.first) h.kept l.kept h.rounds) l.rounds)

  no_places : (bound places : ℕ) (count : Kept) → HasNoPlan counted numbers bound places → HasPlaces counted numbers count → ⊥
  no_places bound places count none has =
      let same : none.count.bound ≡ count.bound = ap (λ (k : Kept). k.bound) (same_kept counted none.count count none.kept has.kept) in
      let above = none.above in
      let bound_is = none.bound_is in
      let places_are = none.places_are in
      let enough = has.places in
      omega arith

  -- The main theorem of this file: planning by fixed rounds ends in one way alone. Each stage has one answer, and the kinds of
  -- endings exclude each other: one bound is above the places or is not, and one rounding is whole or leaves an item. So nothing in
  -- the result depends on the number of workers or on their timing, though none of them is mentioned: what the parts promise leaves
  -- them no choice.
  pub one_ending : (one other : Ending) → EndsAs counted costed numbers one → EndsAs counted costed numbers other → one ≡ other
  one_ending (planned c k a) (planned d l b) h m =
      ap (λ (x : Kept). planned x k a) (same_kept counted c d h.counts.kept m.counts.kept)
      ∙ ap (λ (x : KeptPlan). planned d x.cost x.columns) (same_plan k l a b h.made m.made)
  one_ending (planned c k a) (no_plan bound places) h m = absurd (no_places bound places c m h.counts)
  one_ending (planned c k a) (not_placed item b) h m = absurd (no_left k item a b h.made m.leaves)
  one_ending (no_plan bound places) (planned d l b) h m = absurd (no_places bound places d h m.counts)
  one_ending (no_plan bound places) (no_plan bound' places') h m =
      let bounds : bound ≡ bound' =
      h.bound_is ∙ (ap (λ (k : Kept). k.bound) (same_kept counted h.count m.count h.kept m.kept) ∙ sym m.bound_is) in
      ap (λ (n : ℕ). no_plan n places) bounds ∙ ap (λ (n : ℕ). no_plan bound' n) (h.places_are ∙ sym m.places_are)
  one_ending (no_plan bound places) (not_placed item b) h m = absurd (no_places bound places m.count h m.counts)
  one_ending (not_placed item a) (planned d l b) h m = absurd (no_left l item b a m.made h.leaves)
  one_ending (not_placed item a) (no_plan bound places) h m = absurd (no_places bound places h.count m h.counts)
  one_ending (not_placed i a) (not_placed j b) h m =
      let one : RoundingLeaves costed numbers i a = rounding_leaves costed numbers i a fixed h.leaves in
      let other : RoundingLeaves costed numbers j b = rounding_leaves costed numbers j b fixed m.leaves in
      let same : left i a ≡ left j b =
      one_rounding costed other.cost.prices.items (after_rounds costed numbers.rounds).pool (left i a) (left j b)
      (at_other one.cost other.cost (left i a) one.kept other.kept one.rounds) other.rounds in
      ap (λ (n : ℕ). not_placed n a) (same_item i j a b same) ∙ ap (λ (l : List Column). not_placed j l) (same_part i j a b same)

  -- where a plan is known, all but the first pass is given
  known_ending : (known : KnownPlan) (one other : Ending) → EndsKnown counted numbers known one →
      EndsKnown counted numbers known other → one ≡ other
  known_ending known (planned c k a) (planned d l b) h m =
      ap (λ (x : Kept). planned x k a) (same_kept counted c d h.0.kept m.0.kept)
      ∙ ap (λ (x : Kept). planned d x a) (h.1 ∙ sym m.1)
      ∙ ap (λ (x : List Column). planned d l x) (h.2 ∙ sym m.2)
  known_ending known (planned c k a) (no_plan bound places) h m = absurd (no_places bound places c m h.0)
  known_ending known (planned c k a) (not_placed item b) h m = absurd m
  known_ending known (no_plan bound places) (planned d l b) h m = absurd (no_places bound places d h m.0)
  known_ending known (no_plan bound places) (no_plan bound' places') h m = one_ending (no_plan bound places) (no_plan bound' places') h m
  known_ending known (no_plan bound places) (not_placed item b) h m = absurd m
  known_ending known (not_placed item a) other h m = absurd h

  pub one_ending_by : (known : Option KnownPlan) (one other : Ending) → EndsBy counted costed numbers known one →
      EndsBy counted costed numbers known other → one ≡ other
  one_ending_by None one other h m = one_ending one other h m
  one_ending_by (Some known) one other h m = known_ending known one other h m
