-- The tree of a search for an augmenting path, and what it shows where it cannot grow.
use Rattle.std.proofs.Common.{Option, ap, ◌≡◌, ℕ, ℤ, pos, ◌-ℤ◌, ◌≤ℤ◌, ◌<◌, ◌≤◌, Bool, true, false, cond, suc, List, Some, None, inl, inr, refl, sym, subst, ◌∙◌, arith}
use Rattle.std.specs.Prelude.{unwrap_or, ◌<ℤ◌}
use Rattle.std.specs.Option.{option_map}
use Rattle.std.proofs.lemmas.Int.{ints}
use Rattle.std.proofs.lemmas.Bool.{cases_lt}
use Rattle.path_cover.specs.Nets.{Net, IsRising, IsCover, successor}
use Rattle.path_cover.specs.Potentials.{Potentials, AreFeasible, IsSlack, IsTight}
use Rattle.path_cover.proofs.CoverArcs.{IsArc, no_cover, not_before}
use Rattle.path_cover.proofs.Blocked.{IsClosed, either}
use Rattle.path_cover.specs.Matchings.{IsHeld, IsTightArc, IsTightMatching}
use Rattle.path_cover.specs.Trees.{Tree, Matching, Aim, IsTree}

-- The seen columns are held by the seen rows. A tree is closed in the sense of the counting argument of `Blocked`: each seen column
-- is held, and by seen rows or rows that may not be moved. This is all that the argument needs of a search.
closed : (net : Net) (p : Potentials) (m : Matching) (a : Aim) (tree : Tree) → IsTree net p m a tree →
    IsClosed net.nodes m.to m.from m.spare m.room a.root a.fixed tree.rows tree.columns
closed net p m a tree is = record {
  root_in = is.root_in;
  root_free = is.root_free;
  held = λ v within in_c. (is.full v (omega arith) in_c).held within;
  holder = λ v within in_c movable. (is.full v (omega arith) in_c).holder within movable;
  store_holds = λ v within in_c from_store.
      let fixed_in = is.fixed_in in
      let seen = (is.full v (omega arith) in_c).holder within (omega arith) in
      let P : ℕ → Type 0 = λ x. tree.rows x ≡ true in
      subst P from_store seen;
  end_full = λ in_c. (is.full net.nodes (omega arith) in_c).no_room refl;
  end_held = λ in_c t movable within at_end. (is.full net.nodes (omega arith) in_c).ends refl t movable within at_end;
  store_stays = λ in_c some. (is.full net.nodes (omega arith) in_c).stays refl some;
}

-- Where nothing is offered, there is no cover. Seen rows have arcs to seen columns alone, and these are all held by seen rows other
-- than the root, which has none: there is one seen row more than there are places for them, in any cover. So `least_cover` may
-- answer that there is none, and the counting is all the proof it takes.
pub stuck_no_cover : (net : Net) → IsRising net → (p : Potentials) (m : Matching) (a : Aim) (tree : Tree) →
    IsHeld net.nodes net.most m.to m.from m.spare m.room → IsTree net p m a tree →
    a.fixed ≡ 0 → net.nodes < a.limit → ((v : ℕ) → v ≤ net.nodes → tree.columns v ≡ false → tree.least v ≡ None) →
    (lists : List (List ℕ)) → IsCover net lists → ⊥
stuck_no_cover net rising p m a tree held is none_fixed no_limit none lists cover =
    let closed_here = closed net p m a tree is in
    let P : ℕ → Type 0 = λ fixed. IsClosed net.nodes m.to m.from m.spare m.room a.root fixed tree.rows tree.columns in
    no_cover net rising m.to m.from m.spare m.room a.root tree.rows tree.columns held (subst P none_fixed closed_here)
    is.root_seen reach lists cover
  where
    reach : (x v : ℕ) → x ≤ net.nodes → tree.rows x ≡ true → IsArc net x v → tree.columns v ≡ true
    reach x v x_in seen arc = elim (either (tree.columns v)) [
      | inl in_c ↦ in_c
      | inr out ↦ absurd (
          let v_in : v ≤ net.nodes = arc.2 in
          let offer = is.offered x v arc.0 x_in v_in seen out (λ e. omega arith) arc.1 in
          let nothing = none v v_in out in
          let bad : Some offer.0 ≡ None = sym offer.1 ∙ nothing in
          cc)
    ]

-- Where what is offered costs more than nothing, no least cover that agrees on the rows before gives the root an earlier column.
-- Covers of least cost go over tight arcs alone, and the tree has all tight arcs of its rows; the rows before the root are where
-- the other cover has them too. So the counting of `stuck_no_cover` applies, with tight arcs for arcs: it makes the cover found the
-- first of all.
pub stuck_not_before : (net : Net) → IsRising net → (p : Potentials) → AreFeasible net p → (m : Matching) (a : Aim) (tree : Tree) →
    IsHeld net.nodes net.most m.to m.from m.spare m.room → IsTree net p m a tree →
    a.fixed ≡ suc a.root → ((v : ℕ) (d : ℤ) → v ≤ net.nodes → tree.columns v ≡ false → tree.least v ≡ Some d → pos 0 <ℤ d) →
    (lists : List (List ℕ)) → IsCover net lists → IsSlack net p lists →
    ((t : ℕ) → t < a.root → successor net.nodes lists t ≡ m.to t) → a.limit ≤ successor net.nodes lists a.root
stuck_not_before net rising p feasible m a tree held is after_root far lists cover slack agree =
    let closed_here = closed net p m a tree is in
    let P : ℕ → Type 0 = λ fixed. IsClosed net.nodes m.to m.from m.spare m.room a.root fixed tree.rows tree.columns in
    not_before net rising p feasible m.to m.from m.spare m.room a.root a.limit tree.rows tree.columns held (subst P after_root closed_here)
    (λ x v x_in seen apart arc. reach x v x_in seen (λ e. absurd (apart e)) arc)
    (λ v before arc. let root_in = is.root_in in reach a.root v (omega arith) is.root_seen (λ e. before) arc) lists cover slack agree
  where
    reach : (x v : ℕ) → x ≤ net.nodes → tree.rows x ≡ true → (x ≡ a.root → v < a.limit) → IsTightArc net p x v → tree.columns v ≡ true
    reach x v x_in seen allowed arc = elim (either (tree.columns v)) [
      | inl in_c ↦ in_c
      | inr out ↦ absurd (
          let v_in : v ≤ net.nodes = arc.3 in
          let offer = is.offered x v arc.0 x_in v_in seen out allowed arc.1 in
          let more = far v offer.0 v_in out offer.1 in
          let tight : p.head v -ℤ p.tail x ≡ pos arc.0 = arc.2 arc.0 arc.1 in
          let low = offer.2 in
          omega (arith, ints))
    ]

-- lowering the numbers of what is seen
abbrev pub lowered : Potentials → Tree → ℤ → Potentials
lowered p tree by = record {
  tail = λ x. cond (tree.rows x) (p.tail x -ℤ by) (p.tail x);
  head =
      λ v. cond (tree.columns v) (p.head v -ℤ by) (p.head v);
}

-- at least this is offered for each unseen column
abbrev pub IsLeast : Net → Tree → ℤ → Type 0
IsLeast net tree by = (v : ℕ) (d : ℤ) → v ≤ net.nodes → tree.columns v ≡ false → tree.least v ≡ Some d → by ≤ℤ d

-- Lowering the potentials of all that is seen by the least offer keeps them feasible. An arc with both ends seen, or neither, has
-- the reduced cost that it had; one from an unseen row to a seen column gains; and one from a seen row to an unseen column loses
-- the lowering, but its reduced cost is an offer, and no offer is less.
pub lowered_feasible : (net : Net) (p : Potentials) (m : Matching) (a : Aim) (tree : Tree) (by : ℤ) → AreFeasible net p →
    IsTree net p m a tree → net.nodes < a.limit → pos 0 ≤ℤ by → IsLeast net tree by → AreFeasible net (lowered p tree by)
lowered_feasible net p m a tree by feasible is no_limit some least x v c x_in v_in e = go (tree.rows x) (tree.columns v) refl refl
  where
    go : (r k : Bool) → tree.rows x ≡ r → tree.columns v ≡ k → ((lowered p tree by).head v -ℤ (lowered p tree by).tail x) ≤ℤ pos c
    go true true row column = let fits = feasible x v c x_in v_in e in rw (row, column) (omega (arith, ints))
    go false false row column = let fits = feasible x v c x_in v_in e in rw (row, column) fits
    go false true row column = let fits = feasible x v c x_in v_in e in rw (row, column) (omega (arith, ints))
    go true false row column =
        let offer = is.offered x v c x_in v_in row column (λ root. omega arith) e in
        let more = least v offer.0 v_in column offer.1 in
        let low = offer.2 in
        rw (row, column) (omega (arith, ints))

-- an arc that is tight stays so where its ends are seen both or neither
pub lowered_tight : (net : Net) (p : Potentials) (tree : Tree) (by : ℤ) (x v : ℕ) → tree.rows x ≡ tree.columns v → IsTightArc net p x v →
    IsTightArc net (lowered p tree by) x v
lowered_tight net p tree by x v same arc = (arc.0, arc.1, go (tree.rows x) (tree.columns v) refl refl same, arc.3)
  where
    go : (r k : Bool) → tree.rows x ≡ r → tree.columns v ≡ k → r ≡ k → IsTight net (lowered p tree by) x v
    go true true row column e c is = let tight : p.head v -ℤ p.tail x ≡ pos c = arc.2 c is in rw (row, column) (omega (arith, ints))
    go false false row column e c is = let tight : p.head v -ℤ p.tail x ≡ pos c = arc.2 c is in rw (row, column) tight
    go true false row column e c is = absurd (cc)
    go false true row column e c is = absurd (cc)

-- where a lowering is by more than nothing, the row of a tight arc is seen only with its column
pub seen_with : (net : Net) (p : Potentials) (m : Matching) (a : Aim) (tree : Tree) (by : ℤ) → IsTree net p m a tree → net.nodes < a.limit →
    pos 0 <ℤ by → IsLeast net tree by →
    (x v : ℕ) → x ≤ net.nodes → IsTightArc net p x v → tree.rows x ≡ true → tree.columns v ≡ true
seen_with net p m a tree by is no_limit some least x v x_in arc row = elim (either (tree.columns v)) [
  | inl column ↦ column
  | inr out ↦ absurd (
      let v_in : v ≤ net.nodes = arc.3 in
      let offer = is.offered x v arc.0 x_in v_in row out (λ root. omega arith) arc.1 in
      let more = least v offer.0 v_in out offer.1 in
      let tight : p.head v -ℤ p.tail x ≡ pos arc.0 = arc.2 arc.0 arc.1 in
      let low = offer.2 in
      omega (arith, ints))
]

same_seen : (r k : Bool) → (r ≡ true → k ≡ true) → (k ≡ true → r ≡ true) → r ≡ k
same_seen true k there back = sym (there refl)
same_seen false true there back = back refl
same_seen false false there back = refl

-- The matching stays tight: each of its arcs has both ends seen or neither. A seen column's holder is seen, as the tree is closed
-- under holders; and a seen row offers nothing over its tight arc, while each unseen column is offered more, so its column is seen.
pub lowered_matching : (net : Net) → IsRising net → (p : Potentials) (m : Matching) (a : Aim) (tree : Tree) (by : ℤ) →
    IsHeld net.nodes net.most m.to m.from m.spare m.room → IsTree net p m a tree →
    IsTightMatching net p m.to m.from m.spare → a.fixed ≡ 0 → net.nodes < a.limit → pos 0 <ℤ by → IsLeast net tree by →
    IsTightMatching net (lowered p tree by) m.to m.from m.spare
lowered_matching net rising p m a tree by held is tight none_fixed no_limit some least = record {
  rows = λ t t_in there.
      let arc = tight.rows t t_in there in
      lowered_tight net p tree by t (m.to t)
      (same_seen (tree.rows t) (tree.columns (m.to t)) (seen_with net p m a tree by is no_limit some least t (m.to t) (omega arith) arc)
      (row_seen t t_in there)) arc;
  store = λ u u_in from_store.
      let arc = tight.store u u_in from_store in
      lowered_tight net p tree by net.nodes u
      (same_seen (tree.rows net.nodes) (tree.columns u) (seen_with net p m a tree by is no_limit some least net.nodes u (omega arith) arc)
      (store_seen u u_in from_store)) arc;
  stays = λ more.
      let equal = tight.stays more in
      let arc : IsTightArc net p net.nodes net.nodes = (0, rising.stays, tight_stay equal, omega arith) in
      let same = same_seen (tree.rows net.nodes) (tree.columns net.nodes)
      (seen_with net p m a tree by is no_limit some least net.nodes net.nodes (omega arith) arc)
      (λ column. (is.full net.nodes (omega arith) column).stays refl more) in
      let after = lowered_tight net p tree by net.nodes net.nodes same arc in
      let tight_after : (lowered p tree by).head net.nodes -ℤ (lowered p tree by).tail net.nodes ≡ pos 0 = after.2 0 rising.stays in
      apart_none ((lowered p tree by).head net.nodes) ((lowered p tree by).tail net.nodes) tight_after;
}
  where
    apart_none : (h t : ℤ) → h -ℤ t ≡ pos 0 → h ≡ t
    apart_none h t e = omega (arith, ints)

    tight_stay : p.head net.nodes ≡ p.tail net.nodes → IsTight net p net.nodes net.nodes
    tight_stay equal c e =
        let free : 0 ≡ c = let o : Some 0 ≡ Some c = sym rising.stays ∙ e in cc in
        rw (← free) (omega (arith, ints))

    row_seen : (t : ℕ) → t < net.nodes → m.to t ≤ net.nodes → tree.columns (m.to t) ≡ true → tree.rows t ≡ true
    row_seen t t_in there column = elim (cases_lt (m.to t) net.nodes) [
      | inl below ↦
          let e : m.from (m.to t) ≡ t = held.matched.onto t (m.to t) t_in below refl in
          let P : ℕ → Type 0 = λ x. tree.rows x ≡ true in
          subst P e ((is.full (m.to t) there column).holder below (omega arith))
      | inr past ↦
          let e : m.to t ≡ net.nodes = omega arith in
          let P : ℕ → Type 0 = λ v. tree.columns v ≡ true in
          (is.full net.nodes (omega arith) (subst P e column)).ends refl t (omega arith) t_in e
    ]

    store_seen : (u : ℕ) → u < net.nodes → m.from u ≡ net.nodes → tree.columns u ≡ true → tree.rows net.nodes ≡ true
    store_seen u u_in from_store column =
        let P : ℕ → Type 0 = λ x. tree.rows x ≡ true in
        subst P from_store ((is.full u (omega arith) column).holder u_in (omega arith))

-- the tree stays a tree: each offer falls as the rows' potentials do
abbrev pub fallen : Tree → ℤ → Tree
fallen tree by = record {
  rows = tree.rows;
  columns = tree.columns;
  by = tree.by;
  via = tree.via;
  least =
      λ v. option_map (λ d. d -ℤ by) (tree.least v);
  depth = tree.depth;
}

less_offer : (o : Option ℤ) (by d : ℤ) → option_map (λ (z : ℤ). z -ℤ by) o ≡ Some d → (z : ℤ) × (o ≡ Some z) × (z -ℤ by ≡ d)
less_offer None by d e = absurd (cc)
less_offer (Some z) by d e = (z, refl, some_int (z -ℤ by) d e)
  where
    some_int : (a b : ℤ) → Some a ≡ Some b → a ≡ b
    some_int a b e = let f : Option ℤ → ℤ = λ o. unwrap_or o a in ap f e

-- The tree stays a tree under lowered potentials: the arcs on which it hangs have both ends seen, so they stay tight, and every
-- offer falls by what was lowered. The least becomes 0, and so the tree can grow: each lowering is followed by a column that is
-- seen or has a place.
pub fallen_tree : (net : Net) (p : Potentials) (m : Matching) (a : Aim) (tree : Tree) (by : ℤ) → IsTree net p m a tree →
    IsTree net (lowered p tree by) m a (fallen tree by)
fallen_tree net p m a tree by is = record {
  root_in = is.root_in;
  root_free = is.root_free;
  root_seen = is.root_seen;
  fixed_in = is.fixed_in;
  reached = λ x x_in seen apart. let was = is.reached x x_in seen apart in
      record {
        movable = was.movable;
        within = was.within;
        seen = was.seen;
        row = was.row;
        store = was.store;
        stays =
            was.stays;
        deeper = was.deeper;
      };
  full = λ v v_in seen. let was = is.full v v_in seen in record {
    within = was.within;
    seen = was.seen;
    allowed = was.allowed;
    tight = lowered_tight net p tree by (tree.via v) v (was.seen ∙ sym seen) was.tight;
    held = was.held;
    holder = was.holder;
    no_room = was.no_room;
    ends = was.ends;
    stays = was.stays;
  };
  offered = λ x v c x_in v_in row column allowed e.
      let offer = is.offered x v c x_in v_in row column allowed e in
      let low = offer.2 in
      (offer.0 -ℤ by, ap (option_map (λ (z : ℤ). z -ℤ by)) offer.1, rw (row, column) (omega (arith, ints)));
  kept = λ v d v_in column e.
      let before = less_offer (tree.least v) by d e in
      let was = is.kept v before.0 v_in column before.1 in
      let equal = was.is in
      let less = before.2 in
      let row = was.seen in
      record {
        within = was.within;
        seen = was.seen;
        allowed = was.allowed;
        cost = was.cost;
        arc = was.arc;
        is =
            rw (row, column) (omega (arith, ints));
      };
}
