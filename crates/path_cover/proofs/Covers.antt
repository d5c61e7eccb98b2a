-- The paths that follow a matching are a cover.
use Rattle.std.proofs.Common.{◌≡◌, ◌≢◌, ◌==◌, ℕ, pos, ◌+◌, ◌<◌, ◌≤◌, Bool, true, false, cond, nat_lt, zero, suc, List, [], ◌∷◌, ◌++◌, length, length-append, Option, Some, inl, inr, refl, sym, ap, subst, ◌∙◌, arith}
use Rattle.std.specs.Prelude.{slice_index, unwrap_or}
use Rattle.std.proofs.lemmas.Int.{ints}
use Rattle.std.proofs.lemmas.Bool.{cases_lt}
use Rattle.std.proofs.lemmas.Bool.Decides.{nat_tests}
use Rattle.cover_core.specs.Cover.{AllBelow, Rises}
use Rattle.cover_core.specs.Plans.{AreColumns, all_classes, all_items, times}
use Rattle.cover_core.proofs.Sums.{sum_first}
use Rattle.cover_core.proofs.Parts.{times-append}
use Rattle.path_cover.specs.Nets.{Net, IsRising, IsCover, all_below, both, columns_of, first_nodes, path_column, path_cost, paths, rest_cost}
use Rattle.path_cover.specs.Potentials.{Potentials, AreTightPaths, IsTightFrom}
use Rattle.path_cover.specs.Walks.{AllFollow, FollowsFrom, starts}
use Rattle.path_cover.proofs.CoverArcs.{HoldsFrom, HoldsOnAll, cover_member, members_hold}
use Rattle.path_cover.proofs.Slack.{in_class}
use Rattle.path_cover.specs.Matchings.{AreCoverOf, one, AreMatched, IsHeld, IsTightArc, IsTightMatching}

-- how often a node stands in a list of one
abbrev here : ℕ → ℕ → ℕ
here s t = cond (s == t) 1 0

here_same : (a b c d : ℕ) → (a ≡ b → c ≡ d) → (c ≡ d → a ≡ b) → here a b ≡ here c d
here_same a b c d there back = go (a == b) (c == d) refl refl
  where
    go : (x y : Bool) → (a == b) ≡ x → (c == d) ≡ y → here a b ≡ here c d
    go true true e e' = rw (e, e') refl
    go false false e e' = rw (e, e') refl
    go true false e e' = absurd (let same : a ≡ b = grind (arith, nat_tests) in let same' : c ≡ d =
        there same in let bad : (c == d) ≡ true = grind (arith, nat_tests) in let two : true ≡ false = sym bad ∙ e' in cc)
    go false true e e' = absurd (let same' : c ≡ d = grind (arith, nat_tests) in let same : a ≡ b =
        back same' in let bad : (a == b) ≡ true = grind (arith, nat_tests) in let two : true ≡ false = sym bad ∙ e in cc)

here_not : (a b : ℕ) → a ≢ b → here a b ≡ 0
here_not a b apart = go (a == b) refl
  where
    go : (x : Bool) → (a == b) ≡ x → here a b ≡ 0
    go true e = absurd (apart (grind (arith, nat_tests)))
    go false e = rw e refl

-- A node with a row before it stands in a path as often as that row, and once more where it is the first: in a path that follows
-- the matching the node before it can only be that row, and behind that row stands only this node. By induction along the path.
times_after : (n : ℕ) (to from : ℕ → ℕ) → AreMatched n to from → (s r : ℕ) → s < n → r < n → from s ≡ r → (t : ℕ) (ts : List ℕ) →
    t < n → FollowsFrom n to t ts →
    times s (t ∷ ts) ≡ here s t + times r (t ∷ ts)
times_after n to from are s r s_in r_in is t [] t_in follows =
    let onto : to r ≡ s = are.back r s r_in s_in is in
    let apart : r ≢ t = λ e. let at : to r ≡ n = let P : ℕ → Type 0 = λ x. to x ≡ n in subst P (sym e) follows in omega arith in
    let none : here r t ≡ 0 = here_not r t apart in
    omega arith
times_after n to from are s r s_in r_in is t (u ∷ us) t_in follows =
    let rest = times_after n to from are s r s_in r_in is u us follows.0 follows.2 in
    let onto : to r ≡ s = are.back r s r_in s_in is in
    let there : s ≡ u → r ≡ t = λ e. let P : ℕ → Type 0 = λ x. from x ≡ t in
    let q : from s ≡ t = subst P (sym e) (are.onto t u t_in follows.0 follows.1) in sym is ∙ q in
    let back : r ≡ t → s ≡ u = λ e. let P : ℕ → Type 0 = λ x. to x ≡ u in let q : to r ≡ u = subst P (sym e) follows.1 in sym onto ∙ q in
    let same : here s u ≡ here r t = here_same s u r t there back in
    omega arith

-- one that comes from the store stands only at the start
times_start : (n : ℕ) (to from : ℕ → ℕ) → AreMatched n to from → (s : ℕ) → s < n → from s ≡ n → (t : ℕ) (ts : List ℕ) → t < n →
    FollowsFrom n to t ts → times s (t ∷ ts) ≡ here s t
times_start n to from are s s_in is t [] t_in follows = omega arith
times_start n to from are s s_in is t (u ∷ us) t_in follows =
    let rest = times_start n to from are s s_in is u us follows.0 follows.2 in
    let apart : s ≢ u = λ e. let P : ℕ → Type 0 = λ x. from x ≡ t in
    let q : from s ≡ t = subst P (sym e) (are.onto t u t_in follows.0 follows.1) in omega arith in
    let none : here s u ≡ 0 = here_not s u apart in
    omega arith

lists_after : (net : Net) (to from : ℕ → ℕ) → AreMatched net.nodes to from → (s r : ℕ) → s < net.nodes → r < net.nodes → from s ≡ r →
    (lists : List (List ℕ)) → AllFollow net.nodes to lists →
    times s (all_items (columns_of net lists)) ≡ times s (first_nodes lists) + times r (all_items (columns_of net lists))
lists_after net to from are s r s_in r_in is [] follow = refl
lists_after net to from are s r s_in r_in is ([] ∷ lists) follow = absurd follow.0
lists_after net to from are s r s_in r_in is ((t ∷ ts) ∷ lists) follow =
    let one_list = times_after net.nodes to from are s r s_in r_in is t ts follow.0.0 follow.0.1 in
    let rest = lists_after net to from are s r s_in r_in is lists follow.1 in
    let apart = times-append s (t ∷ ts) (all_items (columns_of net lists)) in
    let apart' = times-append r (t ∷ ts) (all_items (columns_of net lists)) in
    omega arith

lists_start : (net : Net) (to from : ℕ → ℕ) → AreMatched net.nodes to from → (s : ℕ) → s < net.nodes → from s ≡ net.nodes →
    (lists : List (List ℕ)) → AllFollow net.nodes to lists →
    times s (all_items (columns_of net lists)) ≡ times s (first_nodes lists)
lists_start net to from are s s_in is [] follow = refl
lists_start net to from are s s_in is ([] ∷ lists) follow = absurd follow.0
lists_start net to from are s s_in is ((t ∷ ts) ∷ lists) follow =
    let one_list = times_start net.nodes to from are s s_in is t ts follow.0.0 follow.0.1 in
    let rest = lists_start net to from are s s_in is lists follow.1 in
    let apart = times-append s (t ∷ ts) (all_items (columns_of net lists)) in
    omega arith

-- the nodes that come from the store
pub starts_last : (n : ℕ) (from : ℕ → ℕ) (k s : ℕ) →
    times s (starts n from (suc k)) ≡ times s (starts n from k) + times s (cond (from k == n) (k ∷ []) [])
starts_last n from k s = times-append s (starts n from k) (cond (from k == n) (k ∷ []) [])

times_starts-past : (n : ℕ) (from : ℕ → ℕ) (k s : ℕ) → k ≤ s → times s (starts n from k) ≡ 0
times_starts-past n from zero s past = refl
times_starts-past n from (suc k) s past =
    let before = times_starts-past n from k s (omega arith) in
    let last = starts_last n from k s in
    let none : here s k ≡ 0 = here_not s k (λ e. omega arith) in
    let one_more : times s (cond (from k == n) (k ∷ []) []) ≡ 0 = go (from k == n) none in
    omega arith
  where
    go : (b : Bool) → here s k ≡ 0 → times s (cond b (k ∷ []) []) ≡ 0
    go true none = omega arith
    go false none = refl

pub times_starts-in : (n : ℕ) (from : ℕ → ℕ) (k s : ℕ) → s < k → from s ≡ n → times s (starts n from k) ≡ 1
times_starts-in n from zero s within is = absurd (omega arith)
times_starts-in n from (suc k) s within is =
    let last = starts_last n from k s in
    elim (cases_lt s k) [
      | inl below ↦
          let before = times_starts-in n from k s below is in
          let none : here s k ≡ 0 = here_not s k (λ e. omega arith) in
          let one_more : times s (cond (from k == n) (k ∷ []) []) ≡ 0 = go (from k == n) none in
          omega arith
      | inr past ↦
          let same : s ≡ k = omega arith in
          let before = times_starts-past n from k s (omega arith) in
          let test : (from k == n) ≡ true =
          (let P : ℕ → Type 0 = λ x. from x ≡ n in let is' : from k ≡ n = subst P same is in grind (arith, nat_tests)) in
          let itself : (s == k) ≡ true = grind (arith, nat_tests) in
          let one_more : times s (cond (from k == n) (k ∷ []) []) ≡ 1 = rw test (rw itself refl) in
          omega arith
    ]
  where
    go : (b : Bool) → here s k ≡ 0 → times s (cond b (k ∷ []) []) ≡ 0
    go true none = omega arith
    go false none = refl

times_starts-out : (n : ℕ) (from : ℕ → ℕ) (k s : ℕ) → from s ≢ n → times s (starts n from k) ≡ 0
times_starts-out n from zero s not = refl
times_starts-out n from (suc k) s not =
    let last = starts_last n from k s in
    let before = times_starts-out n from k s not in
    let one_more : times s (cond (from k == n) (k ∷ []) []) ≡ 0 = go (from k == n) refl in
    omega arith
  where
    go : (b : Bool) → (from k == n) ≡ b → times s (cond b (k ∷ []) []) ≡ 0
    go true e =
        let at : from k ≡ n = grind (arith, nat_tests) in
        let none : here s k ≡ 0 = here_not s k (λ same. not (let P : ℕ → Type 0 = λ x. from x ≡ n in subst P (sym same) at)) in
        omega arith
    go false e = refl

pub starts_length : (n : ℕ) (from : ℕ → ℕ) (k : ℕ) → sum_first (λ u. one (from u == n)) k ≡ pos (length (starts n from k))
starts_length n from zero = refl
starts_length n from (suc k) =
    let before = starts_length n from k in
    let both_parts : length (starts n from (suc k)) ≡ length (starts n from k) + length (cond (from k == n) (k ∷ []) []) =
    length-append (starts n from k) (cond (from k == n) (k ∷ []) []) in
    let last : one (from k == n) ≡ pos (length (cond {A = List ℕ} (from k == n) (k ∷ []) [])) = go (from k == n) in
    omega (arith, ints)
  where
    go : (b : Bool) → one b ≡ pos (length (cond {A = List ℕ} b (k ∷ []) []))
    go true = refl
    go false = refl

starts_rise : (n : ℕ) (from : ℕ → ℕ) (k : ℕ) → Rises (starts n from k) × AllBelow k (starts n from k)
starts_rise n from zero = (tt, tt)
starts_rise n from (suc k) =
    let before = starts_rise n from k in
    go (from k == n) (starts n from k) before.0 before.1
  where
    wider : (xs : List ℕ) → AllBelow k xs → AllBelow (suc k) xs
    wider [] below = tt
    wider (x ∷ xs) below = let first : x < k = below.0 in (omega arith, wider xs below.1)

    longer : (xs : List ℕ) → Rises xs → AllBelow k xs → Rises (xs ++ k ∷ []) × AllBelow (suc k) (xs ++ k ∷ [])
    longer [] rise below = (tt, (omega arith, tt))
    longer (x ∷ []) rise below = let first : x < k = below.0 in ((first, tt), (omega arith, (omega arith, tt)))
    longer (x ∷ y ∷ xs) rise below =
        let rest = longer (y ∷ xs) rise.1 below.1 in
        let first : x < k = below.0 in
        ((rise.0, rest.0), (omega arith, rest.1))

    same_list : (xs : List ℕ) → xs ++ [] ≡ xs
    same_list [] = refl
    same_list (x ∷ xs) = ap (λ (l : List ℕ). x ∷ l) (same_list xs)

    go : (b : Bool) (xs : List ℕ) → Rises xs → AllBelow k xs →
        Rises (xs ++ cond b (k ∷ []) []) × AllBelow (suc k) (xs ++ cond b (k ∷ []) [])
    go true xs rise below = longer xs rise below
    go false xs rise below =
        let P : List ℕ → Type 0 = λ l. Rises l × AllBelow (suc k) l in subst P (sym (same_list xs)) (rise, wider xs below)

both_there : (a b : Option ℕ) (c d : ℕ) → a ≡ Some c → b ≡ Some d → both a b ≡ Some (c + d)
both_there a b c d e e' = rw (e, e') refl

rest_there : (net : Net) (p : Potentials) (to from : ℕ → ℕ) (spare : ℕ) → IsTightMatching net p to from spare → (t : ℕ) (ts : List ℕ) →
    t < net.nodes → FollowsFrom net.nodes to t ts →
    (y : ℕ) × (rest_cost net t ts ≡ Some y) × (all_below net.nodes (t ∷ ts) ≡ true) × IsTightFrom net p t ts
rest_there net p to from spare tight t [] t_in follows =
    let last = tight.rows t t_in (omega arith) in
    let test : nat_lt t net.nodes ≡ true = grind (arith, nat_tests) in
    let P : ℕ → Type 0 = λ v. IsTightArc net p t v in
    let arc = subst P follows last in
    (arc.0, arc.1, rw test refl, arc.2)
rest_there net p to from spare tight t (u ∷ us) t_in follows =
    let u_in : u < net.nodes = follows.0 in
    let goes : to t ≡ u = follows.1 in
    let P : ℕ → Type 0 = λ v. IsTightArc net p t v in
    let arc = subst P goes (tight.rows t t_in (omega arith)) in
    let rest = rest_there net p to from spare tight u us u_in follows.2 in
    let test : nat_lt t net.nodes ≡ true = grind (arith, nat_tests) in
    let below : all_below net.nodes (t ∷ u ∷ us) ≡ true = rw test rest.2 in
    (arc.0 + rest.0, both_there (net.arc t u) (rest_cost net u us) arc.0 rest.0 arc.1 rest.1, below, (arc.2, rest.3))

lists_there : (net : Net) (p : Potentials) (to from : ℕ → ℕ) (spare : ℕ) → IsTightMatching net p to from spare → (lists : List (List ℕ)) →
    AllFollow net.nodes to lists →
    ((u : ℕ) → 1 ≤ times u (first_nodes lists) → from u ≡ net.nodes) →
    AreColumns (paths net) (columns_of net lists) × AreTightPaths net p lists × HoldsOnAll (λ s v. s < net.nodes → to s ≡ v) net.nodes lists
lists_there net p to from spare tight [] follow firsts = (tt, tt, tt)
lists_there net p to from spare tight ([] ∷ lists) follow firsts = absurd follow.0
lists_there net p to from spare tight ((t ∷ ts) ∷ lists) follow firsts =
    let itself : (t == t) ≡ true = grind (arith, nat_tests) in
    let t_in : t < net.nodes = follow.0.0 in
    let first = tight.store t t_in (firsts t (rw itself (omega arith))) in
    let rest = rest_there net p to from spare tight t ts t_in follow.0.1 in
    let others = lists_there net p to from spare tight lists follow.1 (λ u member. firsts u (omega arith)) in
    let cost_is : path_cost net (t ∷ ts) ≡ Some (first.0 + rest.0) =
    rw rest.2 (both_there (net.arc net.nodes t) (rest_cost net t ts) first.0 rest.0 first.1 rest.1) in
    let worth : path_cost net (t ∷ ts) ≡ Some (path_column net (t ∷ ts)).worth =
    cost_is ∙ ap (λ (o : Option ℕ). Some (unwrap_or o 0)) (sym cost_is) in
    (((omega arith, worth), others.0), ((first.2, rest.3), others.1), (((λ bad. omega arith), follow_holds t ts follow.0.1), others.2))
  where
    follow_holds : (t : ℕ) (ts : List ℕ) → FollowsFrom net.nodes to t ts → HoldsFrom (λ s v. s < net.nodes → to s ≡ v) net.nodes t ts
    follow_holds t [] follows = λ within. follows
    follow_holds t (u ∷ us) follows = ((λ within. follows.1), follow_holds u us follows.2)

-- Each node stands once in them, by induction over a bound on its number. A node that comes from the store stands at the start of a
-- path, once, and nowhere else. Any other has a row before it, which is a smaller number since arcs rise, and stands as often as
-- that one does: once. Without rising arcs a matching could go in circles that no path runs through; this is where they are
-- excluded.
once_each : (net : Net) → IsRising net → (p : Potentials) (to from : ℕ → ℕ) (spare : ℕ) → AreMatched net.nodes to from →
    IsTightMatching net p to from spare →
    ((u : ℕ) → u < net.nodes → from u ≤ net.nodes) → (lists : List (List ℕ)) → AllFollow net.nodes to lists →
    first_nodes lists ≡ starts net.nodes from net.nodes →
    (k s : ℕ) → s < k → s < net.nodes → times s (all_items (columns_of net lists)) ≡ 1
once_each net rising p to from spare are tight full lists follow firsts zero s below within = absurd (omega arith)
once_each net rising p to from spare are tight full lists follow firsts (suc k) s below within =
    let firsts_of : times s (first_nodes lists) ≡ times s (starts net.nodes from net.nodes) = ap (times s) firsts in
    elim (cases_lt (from s) net.nodes) [
      | inl row ↦
          let arc = tight.rows (from s) row (let goes : to (from s) ≡ s = are.back (from s) s row within refl in omega arith) in
          let goes : to (from s) ≡ s = are.back (from s) s row within refl in
          let P : ℕ → Type 0 = λ v. IsTightArc net p (from s) v in
          let arc' = subst P goes arc in
          let before : from s < s = rising.rises (from s) s arc'.0 row within arc'.1 in
          let r = from s in
          let one_before : times r (all_items (columns_of net lists)) ≡ 1 =
          once_each net rising p to from spare are tight full lists follow firsts k r (omega arith) row in
          let none = times_starts-out net.nodes from net.nodes s (λ e. omega arith) in
          let after : times s (all_items (columns_of net lists)) ≡ times s (first_nodes lists)
          + times r (all_items (columns_of net lists)) = lists_after net to from are s r within row refl lists follow in
          omega arith
      | inr past ↦
          let most = full s within in
          let is : from s ≡ net.nodes = omega arith in
          let in_starts = times_starts-in net.nodes from net.nodes s within is in
          let start = lists_start net to from are s within is lists follow in
          omega arith
    ]

from_starts : (n : ℕ) (from : ℕ → ℕ) (k u : ℕ) → 1 ≤ times u (starts n from k) → from u ≡ n
from_starts n from k u member = go (from u == n) refl
  where
    go : (b : Bool) → (from u == n) ≡ b → from u ≡ n
    go true e = grind (arith, nat_tests)
    go false e = absurd (let none = times_starts-out n from k u (λ same. let bad : (from u == n) ≡ true =
        grind (arith, nat_tests) in let two : true ≡ false = sym bad ∙ e in cc) in omega arith)

pub follow_count : (n : ℕ) (to : ℕ → ℕ) (lists : List (List ℕ)) → AllFollow n to lists → length (first_nodes lists) ≡ length lists
follow_count n to [] follow = refl
follow_count n to ([] ∷ lists) follow = absurd follow.0
follow_count n to ((t ∷ ts) ∷ lists) follow = omega (arith, follow_count n to lists follow.1)

-- The main theorem of this file: the paths that follow a tight matching in which every column has a row are a cover that meets
-- complementary slackness, and each node's successor is its column. Arcs of the matching are there and tight, each node stands
-- once, and the counts of store and end say that there are no more paths than allowed; where fewer run, a vehicle is spare, and so
-- store and end are equal.
pub matching_covers : (net : Net) → IsRising net → (p : Potentials) (to from : ℕ → ℕ) (spare room : ℕ) →
    IsHeld net.nodes net.most to from spare room → IsTightMatching net p to from spare →
    ((u : ℕ) → u < net.nodes → from u ≤ net.nodes) → (lists : List (List ℕ)) → AllFollow net.nodes to lists →
    first_nodes lists ≡ starts net.nodes from net.nodes →
    AreCoverOf net p to lists
matching_covers net rising p to from spare room held tight full lists follow firsts =
    let there = lists_there net p to from spare tight lists follow
    (λ u member. from_starts net.nodes from net.nodes u (let P : List ℕ → Type 0 = λ l. 1 ≤ times u l in subst P firsts member)) in
    let count : length lists ≡ length (starts net.nodes from net.nodes) = sym (follow_count net.nodes to lists follow) ∙ ap length firsts in
    let number = starts_length net.nodes from net.nodes in
    let store = held.starts in
    let cover : IsCover net lists = record {
      worths = there.0;
      once = λ item below. once_each net rising p to from spare held.matched tight full lists follow firsts net.nodes item below below;
      caps = λ class below. capped class below (omega (arith, ints));
    } in
    record {
      cover = cover;
      slack = record { paths = there.1; stays = λ fewer. tight.stays (omega (arith, ints)) };
      successors = λ t within.
          sym (members_hold net rising (λ s v. s < net.nodes → to s ≡ v) lists there.0 there.2 t
          (cover_member net lists cover t within) within);
      ordered = (let P : List ℕ → Type 0 = λ l. Rises l in subst P (sym firsts) (starts_rise net.nodes from net.nodes).0);
    }
  where
    capped : (class : ℕ) → class < 1 → length lists ≤ net.most →
        times class (all_classes (columns_of net lists)) ≤ slice_index (net.most ∷ []) class
    capped zero below few = omega (arith, in_class net lists)
    capped (suc class) below few = absurd (omega arith)
