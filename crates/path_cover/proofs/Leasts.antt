-- From the state of the search to a cover, and back.
use Rattle.std.proofs.Common.{ap, ◌≡◌, ◌==◌, ℕ, ℤ, pos, negsuc, ◌-ℤ◌, ◌≤ℤ◌, ◌+◌, ◌*◌, ◌<◌, ◌≤◌, false, zero, suc, List, length, get_or, inl, inr, refl, sym, subst, ◌∙◌, arith}
use Rattle.std.specs.Prelude.{replicate}
use Rattle.std.proofs.lemmas.Int.{ints}
use Rattle.std.proofs.lemmas.Bool.{cases_lt}
use Rattle.std.proofs.lemmas.Bool.Decides.{nat_tests}
use Rattle.std.proofs.lemmas.List.{get_or-replicate, get_or_past, length-replicate}
use Rattle.cover_core.specs.Plans.{times}
use Rattle.cover_core.proofs.Sums.{sum_first}
use Rattle.path_cover.specs.declared.growth.Falls.{Falls}
use Rattle.path_cover.specs.declared.placing.Placing.{Placing}
use Rattle.path_cover.specs.Augmenting.{potentials_of}
use Rattle.path_cover.specs.Firsts.{AllPlaced, IsEarliest}
use Rattle.path_cover.specs.Greatest.{AreGreatest, AreNumbers, depth}
use Rattle.path_cover.specs.Matchings.{AreCoverOf, IsHeld, IsTightArc, IsTightMatching, one}
use Rattle.path_cover.specs.Nets.{Net, IsCheap, IsCover, IsFirstLeastCover, IsRising, first_nodes}
use Rattle.path_cover.specs.Potentials.{Potentials, IsSlack}
use Rattle.path_cover.specs.Searching.{AreLow, HasPlaces, IsSeated}
use Rattle.path_cover.specs.Sweeps.{AreHigh, AreNumbersOf, IsFloored}
use Rattle.path_cover.specs.Trees.{Matching}
use Rattle.path_cover.specs.Walks.{AllFollow, starts}
use Rattle.path_cover.proofs.CoverArcs.{HoldsOnAll, cover_member, firsts_hold, lists_tight_arcs, members_hold}
use Rattle.path_cover.proofs.Covers.{follow_count, starts_length, times_starts-in}
use Rattle.path_cover.proofs.Firsts.{matching_is_first}
use Rattle.path_cover.proofs.Freed.{seat_plain}
use Rattle.path_cover.proofs.Fullness.{all_held}
use Rattle.path_cover.proofs.Levels.{greatest_high}

-- a list of one value, at each place
pub at_each : (n i a : ℕ) → i < n → get_or (replicate n a) i 0 ≡ a
at_each n i a within = get_or-replicate n i a 0 within

pub each_same : (n i a : ℕ) → get_or (replicate n a) i a ≡ a
each_same n i a = elim (cases_lt i n) [
  | inl below ↦ get_or-replicate n i a a below
  | inr past ↦ (let count : length (replicate n a) ≡ n = length-replicate n a in get_or_past (replicate n a) i a (omega arith))
]

no_ones : (n free k : ℕ) → n < free → sum_first (λ t. one (free == n)) k ≡ pos 0
no_ones n free zero outside = refl
no_ones n free (suc k) outside =
    let rest = no_ones n free k outside in
    let test : (free == n) ≡ false = grind (arith, nat_tests) in
    let last : one (free == n) ≡ pos 0 = rw test refl in
    omega (arith, ints)

-- potentials at 0, as they are kept
pub zero_tail : (n : ℕ) (falls : Falls) → falls.tails.items ≡ replicate (n + 1) 0 → (i : ℕ) → get_or falls.tails.items i 0 ≡ 0
zero_tail n falls e i = ap (λ (l : List ℕ). get_or l i 0) e ∙ each_same (n + 1) i 0

pub zero_head : (n : ℕ) (falls : Falls) → falls.heads.items ≡ replicate (n + 1) 0 → (i : ℕ) → get_or falls.heads.items i 0 ≡ 0
zero_head n falls e i = ap (λ (l : List ℕ). get_or l i 0) e ∙ each_same (n + 1) i 0

pub zero_low : (n : ℕ) (falls : Falls) → falls.tails.items ≡ replicate (n + 1) 0 → falls.heads.items ≡ replicate (n + 1) 0 → AreLow falls 0
zero_low n falls tails heads i = (let t = zero_tail n falls tails i in omega arith, let h = zero_head n falls heads i in omega arith)

pub zero_places : (n : ℕ) (falls : Falls) → falls.tails.items ≡ replicate (n + 1) 0 →
    falls.heads.items ≡ replicate (n + 1) 0 → HasPlaces n falls
zero_places n falls tails heads =
    record { tails = ap length tails ∙ length-replicate (n + 1) 0; heads = ap length heads ∙ length-replicate (n + 1) 0 }

-- before the search no row has a column
pub start_seated : (net : Net) (falls : Falls) (placing : Placing) (most : ℕ) → net.nodes ≤ 3000 → most ≡ net.most → most ≤ 10000 →
    falls.tails.items ≡ replicate (net.nodes + 1) 0 → falls.heads.items ≡ replicate (net.nodes + 1) 0 →
    placing.to.items ≡ replicate net.nodes 4294967295 → placing.from.items ≡ replicate net.nodes 4294967295 → placing.spare ≡ most →
    placing.room ≡ 0 → IsSeated net falls placing
start_seated net falls placing most few most_is low tails heads to from spare room = (
  m,
  record {
    kept = record {
      to_count = ap length to ∙ length-replicate net.nodes 4294967295;
      from_count = ap length from ∙ length-replicate net.nodes 4294967295;
      to = λ t t_in. ap (λ (l : List ℕ). get_or l t 0) to ∙ at_each net.nodes t 4294967295 t_in;
      from = λ u u_in. ap (λ (l : List ℕ). get_or l u 0) from ∙ at_each net.nodes u 4294967295 u_in;
      spare = spare ∙ most_is;
      room = room;
    };
    held = record {
      matched = record { onto = λ t u t_in u_in e. absurd (omega arith); back = λ t u t_in u_in e. absurd (omega arith) };
      ends = (let none = no_ones net.nodes 4294967295 net.nodes (omega arith) in omega (arith, ints));
      starts = (let none = no_ones net.nodes 4294967295 net.nodes (omega arith) in omega (arith, ints));
    };
    tight = record {
      rows = λ t t_in there. absurd (omega arith);
      store = λ u u_in e. absurd (omega arith);
      stays = λ some. (let t = zero_tail net.nodes falls tails net.nodes in let h =
          zero_head net.nodes falls heads net.nodes in omega (arith, ints));
    };
    places = zero_places net.nodes falls tails heads;
    feasible = λ x v c x_in v_in e. (let t = zero_tail net.nodes falls tails x in let h =
        zero_head net.nodes falls heads v in omega (arith, ints));
    few = omega arith;
  },
)
  where
    m : Matching
    m = record { to = λ t. 4294967295; from = λ u. 4294967295; spare = net.most; room = 0 }

-- each row's column comes after it, or is the end
pub columns_rise : (net : Net) → IsRising net → (falls : Falls) (placing : Placing) → IsSeated net falls placing →
    AllPlaced net.nodes placing → (t : ℕ) → t < net.nodes → t < get_or placing.to.items t 0
columns_rise net rising falls placing seated placed t t_in =
    let there = placed t t_in in
    let plain = seat_plain net falls placing seated.0 seated.1 in
    let arc : IsTightArc net (potentials_of falls) t (get_or placing.to.items t 0) = plain.1.rows t t_in there in
    elim (cases_lt (get_or placing.to.items t 0) net.nodes) [
      | inl below ↦ rising.rises t (get_or placing.to.items t 0) arc.0 t_in below arc.1
      | inr past ↦ omega arith
    ]

-- the paths that follow the matching
pub covers_first : (net : Net) → IsRising net → (falls : Falls) (placing : Placing) (lists : List (List ℕ)) → IsSeated net falls placing →
    AllPlaced net.nodes placing →
    ((t : ℕ) → t < net.nodes → IsEarliest net falls placing t) → AllFollow net.nodes (λ t. get_or placing.to.items t 0) lists →
    first_nodes lists ≡ starts net.nodes (λ u. get_or placing.from.items u 0) net.nodes →
    IsFirstLeastCover net lists
covers_first net rising falls placing lists seated placed earliest follow firsts =
    let plain = seat_plain net falls placing seated.0 seated.1 in
    let full = all_held net.nodes net.most (λ t. get_or placing.to.items t 0) (λ u. get_or placing.from.items u 0) placing.spare
    placing.room plain.0 placed in
    (matching_is_first net rising (potentials_of falls) (λ t. get_or placing.to.items t 0) (λ u. get_or placing.from.items u 0)
    placing.spare placing.room seated.1.feasible plain.0 plain.1 full lists follow firsts).1
    (λ others cover slack t t_in agree. earliest t t_in others cover slack agree)

-- The search's own potentials are numbers of the matching, and not far below 0: they are the floor that the sweep cannot pass. They
-- need not be the greatest ones, and may depend on how the search went; the sweep begins at 0 and takes nothing from them.
pub floor_of : (net : Net) (falls : Falls) (placing : Placing) → IsSeated net falls placing →
    AreLow falls 5000000000000000 → IsFloored net placing
floor_of net falls placing seated low = (
  potentials_of falls,
  record {
    numbers = record {
      tails = λ x x_in. below (get_or falls.tails.items x 0);
      heads = λ v v_in. below (get_or falls.heads.items v 0);
      feasible = seated.1.feasible;
      tight = (seat_plain net falls placing seated.0 seated.1).1;
    };
    tails = λ x x_in. above (get_or falls.tails.items x 0) (low x).0;
    heads = λ v v_in. above (get_or falls.heads.items v 0) (low v).1;
  },
)
  where
    below : (k : ℕ) → (pos 0 -ℤ pos k) ≤ℤ pos 0
    below k = omega (arith, ints)

    above : (k : ℕ) → k ≤ 5000000000000000 → (pos 0 -ℤ pos 5000000000000000) ≤ℤ (pos 0 -ℤ pos k)
    above k low = omega (arith, ints)

-- at 0 numbers are as high as any
pub zero_high : (net : Net) (placing : Placing) (numbers : Falls) → numbers.tails.items ≡ replicate (net.nodes + 1) 0 →
    numbers.heads.items ≡ replicate (net.nodes + 1) 0 → AreHigh net placing numbers
zero_high net placing numbers tails heads q is x x_in =
    let t = zero_tail net.nodes numbers tails x in
    let h = zero_head net.nodes numbers heads x in
    let tail = is.tails x x_in in
    let head = is.heads x x_in in
    (omega (arith, ints), omega (arith, ints))

-- potentials that meet complementary slackness with the paths are numbers of the matching
slack_tight : (net : Net) → IsRising net → (p q : Potentials) (to from : ℕ → ℕ) (spare room : ℕ) →
    IsHeld net.nodes net.most to from spare room → (lists : List (List ℕ)) → AreCoverOf net p to lists →
    AllFollow net.nodes to lists → first_nodes lists ≡ starts net.nodes from net.nodes → IsSlack net q lists →
    IsTightMatching net q to from spare
slack_tight net rising p q to from spare room held lists cover follow firsts slack = record {
  rows = λ t t_in there. subst (λ (w : ℕ). IsTightArc net q t w) (cover.successors t t_in)
      (members_hold net rising (IsTightArc net q) lists cover.cover.worths arcs t (cover_member net lists cover.cover t t_in));
  store = λ u u_in from_store.
      let one_start = times_starts-in net.nodes from net.nodes u u_in from_store in
      let counted : times u (first_nodes lists) ≡ 1 = ap (times u) firsts ∙ one_start in
      firsts_hold net rising (IsTightArc net q) lists cover.cover.worths arcs u (omega arith);
  stays = λ some.
      let count : length lists ≡ length (starts net.nodes from net.nodes) =
      sym (follow_count net.nodes to lists follow) ∙ ap length firsts in
      let number = starts_length net.nodes from net.nodes in
      let store = held.starts in
      slack.stays (omega (arith, ints));
}
  where
    arcs : HoldsOnAll (IsTightArc net q) net.nodes lists
    arcs = lists_tight_arcs net q lists cover.cover.worths slack.paths

-- The greatest numbers of the matching are the greatest potentials of its cover: complementary slackness with the paths asks of
-- potentials just what the matching does, as its arcs are the arcs of the paths. So the prices are told by the cover alone, and by
-- nothing of the search.
pub covers_greatest : (net : Net) → IsRising net → (falls numbers : Falls) (placing : Placing) (lists : List (List ℕ)) →
    IsSeated net falls placing → AllPlaced net.nodes placing →
    AllFollow net.nodes (λ t. get_or placing.to.items t 0) lists →
    first_nodes lists ≡ starts net.nodes (λ u. get_or placing.from.items u 0) net.nodes →
    AreHigh net placing numbers → AreNumbersOf net placing (potentials_of numbers) → AreGreatest net lists (potentials_of numbers)
covers_greatest net rising falls numbers placing lists seated placed follow firsts high is =
    let to : ℕ → ℕ = λ t. get_or placing.to.items t 0 in
    let from : ℕ → ℕ = λ u. get_or placing.from.items u 0 in
    let plain = seat_plain net falls placing seated.0 seated.1 in
    let full = all_held net.nodes net.most to from placing.spare placing.room plain.0 placed in
    let cover : AreCoverOf net (potentials_of numbers) to lists =
    (matching_is_first net rising (potentials_of numbers) to from placing.spare placing.room is.feasible plain.0 is.tight
    full lists follow firsts).0 in
    let numbers_of : (q : Potentials) → AreNumbers net lists q → AreNumbersOf net placing q = λ q them. record {
      tails = them.tails;
      heads = them.heads;
      feasible = them.feasible;
      tight = slack_tight net rising (potentials_of numbers) q to from placing.spare placing.room plain.0 lists
          cover follow firsts them.slack;
    } in
    record {
      numbers = record { tails = is.tails; heads = is.heads; feasible = is.feasible; slack = cover.slack };
      tails = λ q them x x_in. (high q (numbers_of q them) x x_in).0;
      heads = λ q them v v_in. (high q (numbers_of q them) v v_in).1;
    }

-- paths that follow the columns of a list follow those of an equal one
pub follow_plain : (net : Net) (n : ℕ) (slice to : List ℕ) (lists : List (List ℕ)) → n ≡ net.nodes → slice ≡ to →
    AllFollow n (λ t. get_or slice t 0) lists → AllFollow net.nodes (λ t. get_or to t 0) lists
follow_plain net n slice to lists n_is is follow =
    subst (λ (l : List ℕ). AllFollow net.nodes (λ t. get_or l t 0) lists) is
    (subst (λ (k : ℕ). AllFollow k (λ t. get_or slice t 0) lists) n_is follow)

pub firsts_plain : (net : Net) (n : ℕ) (slice from : List ℕ) (lists : List (List ℕ)) → n ≡ net.nodes → slice ≡ from →
    first_nodes lists ≡ starts n (λ u. get_or slice u 0) n → first_nodes lists ≡ starts net.nodes (λ u. get_or from u 0) net.nodes
firsts_plain net n slice from lists n_is is firsts =
    subst (λ (l : List ℕ). first_nodes lists ≡ starts net.nodes (λ u. get_or l u 0) net.nodes) is
    (subst (λ (k : ℕ). first_nodes lists ≡ starts k (λ u. get_or slice u 0) k) n_is firsts)

depth_of : (k most : ℕ) (z : ℤ) → z ≡ pos 0 -ℤ pos k → depth z ≤ most → k ≤ most
depth_of k most (pos a) e low = omega (arith, ints)
depth_of k most (negsuc a) e low = omega (arith, ints)

double_few : (n dear : ℕ) → (n + 2) * dear ≤ 750000000000 → (2 * n + 3) * dear ≤ 1500000000000
double_few n dear few = omega arith

-- the greatest potentials are not far below 0
pub covers_low : (net : Net) → IsRising net → IsCheap net → (numbers : Falls) (lists : List (List ℕ)) → HasPlaces net.nodes numbers →
    IsCover net lists → AreGreatest net lists (potentials_of numbers) → AreLow numbers 1500000000000
covers_low net rising cheap numbers lists places cover greatest i = elim (cases_lt net.nodes i) [
  | inl past ↦
      let tails = places.tails in
      let heads = places.heads in
      let t : get_or numbers.tails.items i 0 ≡ 0 = get_or_past numbers.tails.items i 0 (omega arith) in
      let h : get_or numbers.heads.items i 0 ≡ 0 = get_or_past numbers.heads.items i 0 (omega arith) in
      (omega arith, omega arith)
  | inr within ↦
      let above = greatest_high net rising cheap.0 cheap.1 lists cover (potentials_of numbers) greatest i within in
      let few = double_few net.nodes cheap.0 cheap.2 in
      let t = depth_of (get_or numbers.tails.items i 0) ((2 * net.nodes + 3) * cheap.0) ((potentials_of numbers).tail i) refl above.0 in
      let h = depth_of (get_or numbers.heads.items i 0) ((2 * net.nodes + 3) * cheap.0) ((potentials_of numbers).head i) refl above.1 in
      (omega arith, omega arith)
]
