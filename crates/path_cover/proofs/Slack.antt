-- Complementary slackness of path covers.
use Rattle.std.proofs.Common.{◌≡◌, ℕ, ℤ, pos, negsuc, ◌+ℤ◌, ◌-ℤ◌, ◌*ℤ◌, ◌≤ℤ◌, ◌+◌, ◌*◌, ◌<◌, ◌≤◌, zero, suc, List, [], ◌∷◌, length, inl, inr, refl, ap, ◌∙◌, arith}
use Rattle.std.proofs.lemmas.Int.{ints}
use Rattle.std.proofs.lemmas.Bool.{cases_lt}
use Rattle.plan_core.specs.declared.Price.{Price}
use Rattle.cover_core.specs.Cover.{AllBelow}
use Rattle.cover_core.specs.Plans.{number_at, AreColumns, all_classes, all_items, all_prices, price_at, price_of, rent, thousandth, times}
use Rattle.cover_core.proofs.Duality.{all_items-below, all_prices-is}
use Rattle.cover_core.proofs.Sums.{product-mono, sum_each, sum_each-append, sum_each-times, sum_first, sum_first-same}
use Rattle.path_cover.specs.Laws.{FeasibleIsPaid, LeastIsSlack, SlackIsBound, SlackIsLeast}
use Rattle.path_cover.specs.Nets.{Net, IsRising, IsCover, columns_of, cover_cost, path_column, paths}
use Rattle.path_cover.specs.Potentials.{Potentials, AreFeasible, ArePricesOf, AreTightPaths, IsSlack}
use Rattle.path_cover.proofs.Telescope.{gain, path_gain, path_tight, paths_listed, tight_path}

-- what a path pays
abbrev toll : Net → Potentials → ℤ
toll net p = p.tail net.nodes -ℤ p.head net.nodes

toll_charged : (net : Net) → IsRising net → (p : Potentials) → AreFeasible net p → pos 0 ≤ℤ toll net p
toll_charged net rising p feasible =
    let stays = feasible net.nodes net.nodes 0 (omega arith) (omega arith) rising.stays in omega (arith, ints)

-- the prices of a list
list_price : (net : Net) (p : Potentials) (prices : List Price) (z : ℤ) → ArePricesOf net p prices z →
    (list : List ℕ) → AllBelow net.nodes list →
    price_of prices list ≡ pos 1000 *ℤ sum_each (gain p) list
list_price net p prices z are [] below = refl
list_price net p prices z are (t ∷ ts) below =
    let one : price_at prices t ≡ pos 1000 *ℤ (p.head t -ℤ p.tail t) = are.each t below.0 in
    let rest = list_price net p prices z are ts below.1 in
    omega (arith, ints)

-- Feasible potentials pay: with gains as prices, and as class price what the store lies above the end, no path costs less than it
-- is paid. The arc from store to end, which costs nothing, makes the class price at least 0; the rest is the telescope along a
-- path.
pub feasible_is_paid : (net : Net) → FeasibleIsPaid net
feasible_is_paid net rising p feasible prices z are = record {
  charged = charged;
  covered = λ class list worth below has.
      let price = list_price net p prices z are list (paths_listed net rising class list worth has).2 in
      let gained = path_gain net p feasible list worth has in
      let zero_class : class ≡ 0 = omega arith in
      at_class class list worth zero_class (omega (arith, ints, are.of_class));
}
  where
    charged : (class : ℕ) → class < 1 → pos 0 ≤ℤ number_at (z ∷ []) class
    charged zero below = omega (arith, ints, toll_charged net rising p feasible, are.of_class)
    charged (suc class) below = absurd (omega arith)

    at_class : (class : ℕ) (list : List ℕ) (worth : ℕ) → class ≡ 0 → price_of prices list ≤ℤ (pos (1000 * worth) +ℤ z) →
        price_of prices list ≤ℤ (pos (1000 * worth) +ℤ number_at (z ∷ []) class)
    at_class zero list worth e h = h
    at_class (suc class) list worth e h = absurd (omega arith)

-- the gains of all nodes of paths are at most their costs and what they pay
lists_gain : (net : Net) (p : Potentials) → AreFeasible net p → (lists : List (List ℕ)) → AreColumns (paths net) (columns_of net lists) →
    sum_each (gain p) (all_items (columns_of net lists)) ≤ℤ (pos (cover_cost net lists) +ℤ (pos (length lists) *ℤ toll net p))
lists_gain net p feasible [] are = omega (arith, ints)
lists_gain net p feasible (list ∷ lists) are =
    let one = path_gain net p feasible list (path_column net list).worth are.0.1 in
    let rest = lists_gain net p feasible lists are.1 in
    omega (arith, ints, sum_each-append (gain p) list (all_items (columns_of net lists)))

lists_tight : (net : Net) (p : Potentials) → (lists : List (List ℕ)) → AreColumns (paths net) (columns_of net lists) →
    AreTightPaths net p lists →
    sum_each (gain p) (all_items (columns_of net lists)) ≡ pos (cover_cost net lists) +ℤ (pos (length lists) *ℤ toll net p)
lists_tight net p [] are tight = omega (arith, ints)
lists_tight net p (list ∷ lists) are tight =
    let one = path_tight net p list (path_column net list).worth are.0.1 tight.0 in
    let rest = lists_tight net p lists are.1 tight.1 in
    omega (arith, ints, sum_each-append (gain p) list (all_items (columns_of net lists)))

tight_lists : (net : Net) (p : Potentials) → AreFeasible net p → (lists : List (List ℕ)) → AreColumns (paths net) (columns_of net lists) →
    sum_each (gain p) (all_items (columns_of net lists)) ≡ pos (cover_cost net lists) +ℤ (pos (length lists) *ℤ toll net p) →
    AreTightPaths net p lists
tight_lists net p feasible [] are equal = tt
tight_lists net p feasible (list ∷ lists) are equal =
    let one = path_gain net p feasible list (path_column net list).worth are.0.1 in
    let rest = lists_gain net p feasible lists are.1 in
    let apart = sum_each-append (gain p) list (all_items (columns_of net lists)) in (
      tight_path net p feasible list (path_column net list).worth are.0.1 (omega (arith, ints)),
      tight_lists net p feasible lists are.1 (omega (arith, ints)),
    )

-- a cover has no more paths than there may be
pub in_class : (net : Net) (lists : List (List ℕ)) → times 0 (all_classes (columns_of net lists)) ≡ length lists
in_class net [] = refl
in_class net (list ∷ lists) = omega (arith, in_class net lists)

pub few_paths : (net : Net) (lists : List (List ℕ)) → IsCover net lists → length lists ≤ net.most
few_paths net lists cover = let most = cover.caps 0 (omega arith) in omega (arith, in_class net lists)

-- the gains of all nodes
all_gains : (net : Net) → IsRising net → (p : Potentials) (lists : List (List ℕ)) → IsCover net lists →
    sum_each (gain p) (all_items (columns_of net lists)) ≡ sum_first (gain p) net.nodes
all_gains net rising p lists cover =
    let below = all_items-below (paths net) (columns_of net lists) (paths_listed net rising) cover.worths in
    sum_each-times (gain p) net.nodes (all_items (columns_of net lists)) below ∙
    sum_first-same _ _ _ (λ i h. let one : times i (all_items (columns_of net lists)) ≡ 1 = cover.once i h in rw one (omega (arith, ints)))

-- where store and end are equal or all paths are used, all places pay the same as the paths
paid_all : (k most : ℕ) (z : ℤ) → k ≤ most → (k < most → z ≡ pos 0) → pos k *ℤ z ≡ pos most *ℤ z
paid_all k most z few free =
    elim (cases_lt k most) [
      | inl below ↦ let zero_toll : z ≡ pos 0 = free below in rw zero_toll (omega (arith, ints))
      | inr past ↦ let same : k ≡ most = omega arith in ap (λ (n : ℕ). pos n *ℤ z) same
    ]

-- The gains of all nodes are what a cover costs and what it pays for places, where it goes over tight arcs, and where either all
-- places are used or a place costs nothing. For any other cover they are at most that (`cover_total`): so none costs less, and the
-- bound of the prices is the cost itself.
slack_total : (net : Net) → IsRising net → (p : Potentials) (lists : List (List ℕ)) → IsCover net lists → IsSlack net p lists →
    sum_first (gain p) net.nodes ≡ pos (cover_cost net lists) +ℤ (pos net.most *ℤ toll net p)
slack_total net rising p lists cover slack =
    let total = lists_tight net p lists cover.worths slack.paths in
    let all = all_gains net rising p lists cover in
    let paid = paid_all (length lists) net.most (toll net p) (few_paths net lists cover) (λ below. let equal =
    slack.stays below in omega (arith, ints)) in
    omega (arith, ints)

cover_total : (net : Net) → IsRising net → (p : Potentials) → AreFeasible net p → (lists : List (List ℕ)) → IsCover net lists →
    sum_first (gain p) net.nodes ≤ℤ (pos (cover_cost net lists) +ℤ (pos net.most *ℤ toll net p))
cover_total net rising p feasible lists cover =
    let total = lists_gain net p feasible lists cover.worths in
    let all = all_gains net rising p lists cover in
    let paid = product-mono (length lists) net.most (toll net p) (few_paths net lists cover) (toll_charged net rising p feasible) in
    omega (arith, ints)

pub slack_is_least : (net : Net) → SlackIsLeast net
slack_is_least net rising p feasible lists others cover slack other =
    let here = slack_total net rising p lists cover slack in
    let there = cover_total net rising p feasible others other in
    omega (arith, ints)

-- a product that is the same with fewer is one with 0
no_toll : (k most : ℕ) (z : ℤ) → pos 0 ≤ℤ z → pos k *ℤ z ≡ pos most *ℤ z → k < most → z ≡ pos 0
no_toll k most (pos zero) charged equal below = refl
no_toll k most (pos (suc m)) charged equal below =
    let rest : pos (k + 1) *ℤ pos (suc m) ≡ (pos k *ℤ pos (suc m)) +ℤ pos (suc m) = omega (arith, ints) in
    let more = product-mono (k + 1) most (pos (suc m)) (omega arith) charged in
    absurd (omega (arith, ints))
no_toll k most (negsuc m) charged equal below = absurd (omega (arith, ints))

-- The converse, on which the first of the least covers rests: a cover that costs no more leaves no room between the two sides, so
-- each of its arcs is tight, and if it uses fewer places then these are free. So least covers are those that go over tight arcs,
-- under any one choice of potentials.
pub least_is_slack : (net : Net) → LeastIsSlack net
least_is_slack net rising p feasible lists others cover slack other same =
    let here = slack_total net rising p lists cover slack in
    let most = lists_gain net p feasible others other.worths in
    let all = all_gains net rising p others other in
    let charged = toll_charged net rising p feasible in
    let paid = product-mono (length others) net.most (toll net p) (few_paths net others other) charged in
    let equal : pos (length others) *ℤ toll net p ≡ pos net.most *ℤ toll net p = omega (arith, ints) in
    record {
      paths = tight_lists net p feasible others other.worths (omega (arith, ints));
      stays = λ below. let none = no_toll (length others) net.most (toll net p) charged equal below in omega (arith, ints);
    }

-- the prices of all nodes
all_price : (net : Net) (p : Potentials) (prices : List Price) (z : ℤ) → ArePricesOf net p prices z → (n : ℕ) → n ≤ net.nodes →
    sum_first (price_at prices) n ≡ pos 1000 *ℤ sum_first (gain p) n
all_price net p prices z are zero few = refl
all_price net p prices z are (suc n) few =
    let one : price_at prices n ≡ pos 1000 *ℤ (p.head n -ℤ p.tail n) = are.each n (omega arith) in
    let rest = all_price net p prices z are n (omega arith) in
    omega (arith, ints)

thousands : (m : ℕ) (z : ℤ) → pos m *ℤ (pos 1000 *ℤ z) ≡ pos 1000 *ℤ (pos m *ℤ z)
thousands zero z = omega (arith, ints)
thousands (suc m) z = omega (arith, ints, thousands m z)

thousandth-is : (z : ℤ) (n : ℕ) → z ≡ pos (1000 * n) → thousandth z ≡ n
thousandth-is z n e = rw e (omega arith)

pub slack_is_bound : (net : Net) → SlackIsBound net
slack_is_bound net rising p feasible prices z are lists cover slack =
    let total = slack_total net rising p lists cover slack in
    let all : all_prices prices ≡ sum_first (price_at prices) net.nodes =
    all_prices-is prices ∙ ap (sum_first (price_at prices)) are.count in
    let priced = all_price net p prices z are net.nodes (omega arith) in
    let rented : rent (net.most ∷ []) (z ∷ []) ≡ pos 1000 *ℤ (pos net.most *ℤ toll net p) =
    let e = are.of_class in rw e (omega (arith, ints, thousands net.most (toll net p))) in
    thousandth-is (all_prices prices -ℤ rent (net.most ∷ []) (z ∷ [])) (cover_cost net lists) (omega (arith, ints))
