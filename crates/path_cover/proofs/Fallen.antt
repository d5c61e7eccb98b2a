-- Lowering, as potentials and the tree are kept.
use Rattle.std.proofs.Common.{Option, ap, ◌≡◌, ℕ, ℤ, pos, ◌+ℤ◌, ◌-ℤ◌, ◌≤ℤ◌, ◌+◌, ◌-◌, ◌*◌, ◌<◌, ◌≤◌, Bool, true, false, cond, zero, suc, Some, None, List, length, get_or, inl, inr, refl, sym, subst, ◌∙◌, arith}
use Rattle.std.specs.Option.{option_map}
use Rattle.std.proofs.Math.Path.{fun_ext}
use Rattle.std.proofs.lemmas.Int.{ints}
use Rattle.std.proofs.lemmas.Bool.{cases_lt}
use Rattle.std.proofs.lemmas.List.{get_or_past}
use Rattle.path_cover.specs.declared.growth.Falls.{Falls}
use Rattle.path_cover.specs.declared.growth.Growth.{Growth}
use Rattle.path_cover.specs.declared.growth.Target.{Target}
use Rattle.path_cover.specs.declared.placing.Placing.{Placing}
use Rattle.path_cover.specs.Augmenting.{aim_of, potentials_of, tree_of}
use Rattle.path_cover.specs.Nets.{Net, IsCheap, IsRising}
use Rattle.path_cover.specs.Potentials.{Potentials, AreFeasible}
use Rattle.path_cover.specs.Matchings.{IsTightMatching}
use Rattle.path_cover.specs.Trees.{Aim, IsTree, Matching, Tree}
use Rattle.path_cover.specs.Scans.{IsNearest}
use Rattle.path_cover.specs.Searching.{HasPlaces, IsDeep, IsSized, IsStuckBy, IsTreed, one_search, seen_count}
use Rattle.path_cover.proofs.Depths.{deep_columns, deep_rows}
use Rattle.path_cover.proofs.Reaching.{unmap}
use Rattle.path_cover.proofs.Trees.{IsLeast, fallen, fallen_tree, lowered, lowered_feasible, lowered_matching}

-- what lowering writes
pub record IsLoweredBy (n by : ℕ) (old new : Falls) (grown growth : Growth) : Type 0 where
  pub places : HasPlaces n new
  pub tails : (i : ℕ) → i < n + 1 → get_or new.tails.items i 0 ≡ get_or old.tails.items i 0 + cond (get_or grown.rows.items i false) by 0
  pub heads : (i : ℕ) → i < n + 1 → get_or new.heads.items i 0 ≡ get_or old.heads.items i 0 + cond (get_or grown.columns.items i false) by 0
  pub rows : growth.rows.items ≡ grown.rows.items
  pub columns : growth.columns.items ≡ grown.columns.items
  pub reached : growth.by.items ≡ grown.by.items
  pub via : growth.via.items ≡ grown.via.items
  pub depth : growth.depth.items ≡ grown.depth.items
  pub least_count : length growth.least.items ≡ length grown.least.items
  pub least : (i : ℕ) → i < n + 1 → get_or growth.least.items i None ≡ option_map (λ (d : ℕ). d - by) (get_or grown.least.items i None)

abbrev pots : (ℕ → ℤ) → (ℕ → ℤ) → Potentials
pots f g = record { tail = f; head = g }

fallen_by : (old new by : ℕ) (b : Bool) → new ≡ old + cond b by 0 →
    pos 0 -ℤ pos new ≡ cond b ((pos 0 -ℤ pos old) -ℤ pos by) (pos 0 -ℤ pos old)
fallen_by old new by true e = omega (arith, ints)
fallen_by old new by false e = omega (arith, ints)

fallen_list : (n by : ℕ) (old new : List ℕ) (seen : List Bool) → length old ≡ n + 1 → length new ≡ n + 1 → length seen ≡ n + 1 →
    ((i : ℕ) → i < n + 1 → get_or new i 0 ≡ get_or old i 0 + cond (get_or seen i false) by 0) → (i : ℕ) →
    get_or new i 0 ≡ get_or old i 0 + cond (get_or seen i false) by 0
fallen_list n by old new seen old_count new_count seen_is each i = elim (cases_lt i (n + 1)) [
  | inl below ↦ each i below
  | inr past ↦
      let a : get_or new i 0 ≡ 0 = get_or_past new i 0 (omega arith) in
      let b : get_or old i 0 ≡ 0 = get_or_past old i 0 (omega arith) in
      let c : get_or seen i false ≡ false = get_or_past seen i false (omega arith) in
      rw (a, b, c) refl
]

-- The potentials are lowered where rows and columns are seen. The code adds to how far seen numbers are below 0, entry by entry;
-- the law speaks of potentials as functions. They are the same function at every place, also past the end of the lists, where
-- nothing is seen. All else that follows is said of the functions.
pots_lowered : (net : Net) (by : ℕ) (old new : Falls) (grown growth : Growth) → HasPlaces net.nodes old → IsSized net.nodes grown →
    IsLoweredBy net.nodes by old new grown growth →
    potentials_of new ≡ lowered (potentials_of old) (tree_of grown) (pos by)
pots_lowered net by old new grown growth places sized is =
    ap (λ (f : ℕ → ℤ). pots f (potentials_of new).head) tails
    ∙ ap (λ (g : ℕ → ℤ). pots (lowered (potentials_of old) (tree_of grown) (pos by)).tail g) heads
  where
    tails : (potentials_of new).tail ≡ (lowered (potentials_of old) (tree_of grown) (pos by)).tail
    tails = fun_ext (λ x. fallen_by (get_or old.tails.items x 0) (get_or new.tails.items x 0) by (get_or grown.rows.items x false)
        (fallen_list net.nodes by old.tails.items new.tails.items grown.rows.items places.tails is.places.tails sized.rows is.tails x))

    heads : (potentials_of new).head ≡ (lowered (potentials_of old) (tree_of grown) (pos by)).head
    heads = fun_ext (λ v. fallen_by (get_or old.heads.items v 0) (get_or new.heads.items v 0) by (get_or grown.columns.items v false)
        (fallen_list net.nodes by old.heads.items new.heads.items grown.columns.items places.heads
        is.places.heads sized.columns is.heads v))

-- a tree with other offers to columns that are seen is a tree
abbrev tree_from : List Bool → List Bool → List ℕ → List ℕ → (ℕ → Option ℤ) → List ℕ → Tree
tree_from rows columns by via least depth = record {
  rows = λ x. get_or rows x false;
  columns = λ v. get_or columns v false;
  by =
      λ x. get_or by x 0;
  via = λ v. get_or via v 0;
  least = least;
  depth = λ x. get_or depth x 0;
}

abbrev retold : Tree → (ℕ → Option ℤ) → Tree
retold tree least = record { rows = tree.rows; columns = tree.columns; by = tree.by; via = tree.via; least = least; depth = tree.depth }

-- Only the offers to columns that are not seen matter to a tree: what is kept for a seen one may be anything, as it is here, where
-- the code takes the lowering off every entry and stops at 0.
retold_tree : (net : Net) (p : Potentials) (m : Matching) (a : Aim) (tree : Tree) (least : ℕ → Option ℤ) →
    ((v : ℕ) → v ≤ net.nodes → tree.columns v ≡ false → least v ≡ tree.least v) →
    IsTree net p m a tree → IsTree net p m a (retold tree least)
retold_tree net p m a tree least same is = record {
  root_in = is.root_in;
  root_free = is.root_free;
  root_seen = is.root_seen;
  fixed_in = is.fixed_in;
  reached = λ x x_in seen apart. let was = is.reached x x_in seen apart in
      record {
        movable = was.movable;
        within = was.within;
        seen = was.seen;
        row = was.row;
        store = was.store;
        stays =
            was.stays;
        deeper = was.deeper;
      };
  full = λ v v_in seen. let was = is.full v v_in seen in record {
    within = was.within;
    seen = was.seen;
    allowed = was.allowed;
    tight = was.tight;
    held = was.held;
    holder = was.holder;
    no_room = was.no_room;
    ends = was.ends;
    stays = was.stays;
  };
  offered = λ x v c x_in v_in row column allowed e. let offer = is.offered x v c x_in v_in row column allowed e in
      (offer.0, same v v_in column ∙ offer.1, offer.2);
  kept = λ v d v_in column e.
      let was = is.kept v d v_in column (sym (same v v_in column) ∙ e) in
      record { within = was.within; seen = was.seen; allowed = was.allowed; cost = was.cost; arc = was.arc; is = was.is };
}

less_offer : (o : Option ℕ) (by : ℕ) → ((d : ℕ) → o ≡ Some d → by ≤ d) →
    option_map (λ (k : ℕ). pos k) (option_map (λ (d : ℕ). d - by) o) ≡ option_map (λ (z : ℤ). z -ℤ pos by) (option_map (λ (k : ℕ). pos k) o)
less_offer None by most = refl
less_offer (Some d) by most = let less = most d refl in ap Some (diff d by less)
  where
    diff : (d by : ℕ) → by ≤ d → pos (d - by) ≡ pos d -ℤ pos by
    diff d by less = omega (arith, ints)

-- The tree after lowering: on functions it is a tree (`fallen_tree`), the kept numbers are these functions, and the offers agree
-- for every unseen column, since the least of them is what is taken off, so that the subtraction of the code never stops at 0
-- there.
tree_lowered : (net : Net) (m : Matching) (a : Aim) (v by : ℕ) (old new : Falls) (grown growth : Growth) → HasPlaces net.nodes old →
    IsSized net.nodes grown → IsLoweredBy net.nodes by old new grown growth →
    IsNearest grown.columns.items grown.least.items (net.nodes + 1) v by → IsTree net (potentials_of old) m a (tree_of grown) →
    IsTree net (potentials_of new) m a (tree_of growth)
tree_lowered net m a v by old new grown growth places sized is nearest tree =
    let fell : IsTree net (lowered (potentials_of old) (tree_of grown) (pos by)) m a (fallen (tree_of grown) (pos by)) =
    fallen_tree net (potentials_of old) m a (tree_of grown) (pos by) tree in
    let pots_are : IsTree net (potentials_of new) m a (fallen (tree_of grown) (pos by)) =
    subst (λ (p : Potentials). IsTree net p m a (fallen (tree_of grown) (pos by)))
    (sym (pots_lowered net by old new grown growth places sized is)) fell in
    let told = retold_tree net (potentials_of new) m a (fallen (tree_of grown) (pos by)) (tree_of growth).least
    (λ w w_in unseen. ap (option_map (λ (k : ℕ). pos k)) (is.least w (omega arith))
    ∙ less_offer (get_or grown.least.items w None) by (λ d e. nearest.nearest w d (omega arith) unseen e)) pots_are in
    let p : Potentials = potentials_of new in
    let least : ℕ → Option ℤ = (tree_of growth).least in
    let with_rows = subst (λ (l : List Bool). IsTree net p m a
    (tree_from l grown.columns.items grown.by.items grown.via.items least grown.depth.items)) (sym is.rows) told in
    let with_columns = subst
    (λ (l : List Bool). IsTree net p m a (tree_from growth.rows.items l grown.by.items grown.via.items least grown.depth.items))
    (sym is.columns) with_rows in
    let with_by = subst (λ (l : List ℕ). IsTree net p m a
    (tree_from growth.rows.items growth.columns.items l grown.via.items least grown.depth.items)) (sym is.reached) with_columns in
    let with_via = subst (λ (l : List ℕ). IsTree net p m a
    (tree_from growth.rows.items growth.columns.items growth.by.items l least grown.depth.items)) (sym is.via) with_by in
    subst (λ (l : List ℕ). IsTree net p m a (tree_from growth.rows.items growth.columns.items growth.by.items growth.via.items least l))
    (sym is.depth) with_via

-- No offer is great, so taking it off is safe in 64 bits: an offer is an arc's cost, plus how far the column is below 0, less how
-- far the row is; costs are cheap, and a column that is not seen is no lower than when the search began.
pub offer_small : (net : Net) → IsCheap net →
    (falls : Falls) (placing : Placing) (growth : Growth) (target : Target) (n v by : ℕ) (m : Matching) →
    IsTreed net falls placing growth target m → n ≡ net.nodes →
    IsNearest growth.columns.items growth.least.items (n + 1) v by → by < 1000000000000000000
offer_small net cheap falls placing growth target n v by m is n_is nearest =
    let within = nearest.within in
    let kept = is.tree.kept v (pos by) (omega arith) nearest.unseen (ap (option_map (λ (k : ℕ). pos k)) nearest.is) in
    let dear = cheap.1 (get_or growth.via.items v 0) v kept.cost kept.within (omega arith) kept.arc in
    let few = cheap.2 in
    let low = is.low.heads v nearest.unseen in
    let most = is.low.most in
    small by kept.cost (get_or falls.heads.items v 0) (get_or falls.tails.items (get_or growth.via.items v 0) 0) target.level cheap.0
    net.nodes kept.is dear few low most
  where
    small : (by cost h t level dear n : ℕ) → pos by ≡ pos cost +ℤ ((pos 0 -ℤ pos t) -ℤ (pos 0 -ℤ pos h)) → cost ≤ dear →
        (n + 2) * dear ≤ 750000000000 → h ≤ level → level ≤ 5000000000000000 → by < 1000000000000000000
    small by cost h t level dear n e c_low few low most = omega (arith, ints)

-- A tree whose offers cost something, where potentials are not to be lowered. Where the root may take earlier columns alone,
-- potentials must stay, for the covers of least cost are told by them. So where even the least offer costs something the search is
-- over, and the tree that is left shows why.
pub stuck_here : (net : Net) (falls : Falls) (placing : Placing) (growth : Growth) (target : Target) (n v by : ℕ) (m : Matching) →
    IsTreed net falls placing growth target m → n ≡ net.nodes →
    IsNearest growth.columns.items growth.least.items (n + 1) v by → 0 < by → target.limit ≤ n →
    IsStuckBy net falls placing target m (tree_of growth)
stuck_here net falls placing growth target n v by m is n_is nearest some limit = record {
  seat = is.seat;
  grown = is.tree;
  halted = λ w d w_in unseen e.
      let number = unmap (get_or growth.least.items w None) d e in
      let more = nearest.nearest w number.0 (omega arith) unseen number.1 in
      let same = number.2 in
      (omega arith, omega (arith, ints));
}

search_low : (n dear deep level : ℕ) → deep * dear ≤ (n + 1) * dear → (n + 2) * dear ≤ 750000000000 →
    (level + dear) + (deep * dear + deep * dear) ≤ level + 1500000000000
search_low n dear deep level most few = omega arith

pub times_mono : (a b k : ℕ) → a ≤ b → a * k ≤ b * k
times_mono zero b k less = omega arith
times_mono (suc a) zero k less = absurd (omega arith)
times_mono (suc a) (suc b) k less = let rest = times_mono a b k (omega arith) in omega arith

-- Lowered potentials are not far below the level. The main theorem of this file: after a lowering by the least offer all that a
-- search keeps still holds. Feasible potentials and the tight matching are those of `Trees`. New is that no number falls far,
-- however often a search lowers. The row that made the least offer now has a tight arc to a column that is not seen, and so is no
-- more than one arc's cost below the level of the start; all seen rows hang together by tight arcs, none more steps away from the
-- root than columns are seen (`deep_rows`); so none is more than one search's fall below the level.
pub lowered_treed : (net : Net) → IsRising net → IsCheap net →
    (old new : Falls) (placing : Placing) (grown growth : Growth) (target : Target) (n v by : ℕ) (m : Matching) →
    IsTreed net old placing grown target m → n ≡ net.nodes → n < target.limit → target.fixed ≡ 0 → 0 < by →
    seen_count grown.columns.items ≤ net.nodes + 1 →
    IsNearest grown.columns.items grown.least.items (n + 1) v by → IsLoweredBy n by old new grown growth →
    IsTreed net new placing growth target m
lowered_treed net rising cheap old new placing grown growth target n v by m is n_is no_limit none_fixed some count nearest_n lowered_n =
    record {
      seat = record {
        kept = is.seat.kept;
        held = is.seat.held;
        tight = tight;
        places = low_is.places;
        feasible = feasible;
        few = is.seat.few;
      };
      sized = record {
        rows = ap length low_is.rows ∙ is.sized.rows;
        columns = ap length low_is.columns ∙ is.sized.columns;
        by = ap length low_is.reached ∙ is.sized.by;
        via = ap length low_is.via ∙ is.sized.via;
        least = low_is.least_count ∙ is.sized.least;
        depth = ap length low_is.depth ∙ is.sized.depth;
      };
      deep = deep_now;
      low = record {
        most = is.low.most;
        all = λ i. (all_tails i (get_or growth.rows.items i false) refl, all_heads i (get_or growth.columns.items i false) refl);
        tails = tails_unseen;
        heads = heads_unseen;
      };
      tree = tree;
    }
  where
    p_old : Potentials
    p_old = potentials_of old

    nearest : IsNearest grown.columns.items grown.least.items (net.nodes + 1) v by
    nearest = subst (λ (k : ℕ). IsNearest grown.columns.items grown.least.items (k + 1) v by) n_is nearest_n

    low_is : IsLoweredBy net.nodes by old new grown growth
    low_is = subst (λ (k : ℕ). IsLoweredBy k by old new grown growth) n_is lowered_n

    tree : IsTree net (potentials_of new) m (aim_of target) (tree_of growth)
    tree = tree_lowered net m (aim_of target) v by old new grown growth is.seat.places is.sized low_is nearest is.tree

    least : IsLeast net (tree_of grown) (pos by)
    least w d w_in unseen e =
        let number = unmap (get_or grown.least.items w None) d e in
        let more = nearest.nearest w number.0 (omega arith) unseen number.1 in
        let same = number.2 in
        omega (arith, ints)

    same_pots : potentials_of new ≡ lowered (potentials_of old) (tree_of grown) (pos by)
    same_pots = pots_lowered net by old new grown growth is.seat.places is.sized low_is

    feasible : AreFeasible net (potentials_of new)
    feasible = subst (AreFeasible net) (sym same_pots)
        (lowered_feasible net (potentials_of old) m (aim_of target) (tree_of grown) (pos by) is.seat.feasible is.tree (omega arith)
        (omega (arith, ints)) least)

    tight : IsTightMatching net (potentials_of new) m.to m.from m.spare
    tight = subst (λ (p : Potentials). IsTightMatching net p m.to m.from m.spare) (sym same_pots)
        (lowered_matching net rising (potentials_of old) m (aim_of target) (tree_of grown) (pos by) is.seat.held is.tree is.seat.tight
        none_fixed (omega arith) (omega (arith, ints)) least)

    deep_now : IsDeep growth
    deep_now x =
        let was = is.deep x in
        let same : get_or growth.depth.items x 0 ≡ get_or grown.depth.items x 0 = ap (λ (l : List ℕ). get_or l x 0) low_is.depth in
        let counts : seen_count growth.columns.items ≡ seen_count grown.columns.items = ap seen_count low_is.columns in
        omega arith

    dear : ℕ
    dear = cheap.0

    deep : ℕ
    deep = seen_count grown.columns.items

    far : ℕ
    far = (target.level + dear) + (deep * dear + deep * dear)

    far_low : far ≤ target.level + one_search
    far_low = search_low net.nodes dear deep target.level (times_mono deep (net.nodes + 1) dear count) cheap.2

    row : ℕ
    row = get_or grown.via.items v 0

    rows_same : (x : ℕ) → get_or growth.rows.items x false ≡ get_or grown.rows.items x false
    rows_same x = ap (λ (l : List Bool). get_or l x false) low_is.rows

    columns_same : (w : ℕ) → get_or growth.columns.items w false ≡ get_or grown.columns.items w false
    columns_same w = ap (λ (l : List Bool). get_or l w false) low_is.columns

    tail_now : (i : ℕ) → get_or new.tails.items i 0 ≡ get_or old.tails.items i 0 + cond (get_or grown.rows.items i false) by 0
    tail_now i = fallen_list net.nodes by old.tails.items new.tails.items grown.rows.items is.seat.places.tails low_is.places.tails
        is.sized.rows low_is.tails i

    head_now : (i : ℕ) → get_or new.heads.items i 0 ≡ get_or old.heads.items i 0 + cond (get_or grown.columns.items i false) by 0
    head_now i = fallen_list net.nodes by old.heads.items new.heads.items grown.columns.items is.seat.places.heads low_is.places.heads
        is.sized.columns low_is.heads i

    v_in : v ≤ net.nodes
    v_in = let within = nearest.within in omega arith

    row_low : (pos 0 -ℤ pos (target.level + dear)) ≤ℤ (potentials_of new).tail row
    row_low =
        let kept = is.tree.kept v (pos by) v_in nearest.unseen (ap (option_map (λ (k : ℕ). pos k)) nearest.is) in
        let c_low = cheap.1 row v kept.cost kept.within v_in kept.arc in
        let low = is.low.heads v nearest.unseen in
        let now : get_or new.tails.items row 0 ≡ get_or old.tails.items row 0 + by =
        tail_now row ∙ ap (λ (b : Bool). get_or old.tails.items row 0 + cond b by 0) kept.seen in
        here by kept.cost (get_or old.heads.items v 0) (get_or old.tails.items row 0) (get_or new.tails.items row 0)
        target.level dear kept.is c_low low now
      where
        here : (by cost h t now level dear : ℕ) → pos by ≡ pos cost +ℤ ((pos 0 -ℤ pos t) -ℤ (pos 0 -ℤ pos h)) → cost ≤ dear → h ≤ level →
            now ≡ t + by → (pos 0 -ℤ pos (level + dear)) ≤ℤ (pos 0 -ℤ pos now)
        here by cost h t now level dear e c_low low is_now = omega (arith, ints)

    row_in : row ≤ net.nodes
    row_in = (is.tree.kept v (pos by) v_in nearest.unseen (ap (option_map (λ (k : ℕ). pos k)) nearest.is)).within

    row_seen : get_or growth.rows.items row false ≡ true
    row_seen = rows_same row ∙ (is.tree.kept v (pos by) v_in nearest.unseen (ap (option_map (λ (k : ℕ). pos k)) nearest.is)).seen

    seen_rows : (y : ℕ) → y ≤ net.nodes → get_or growth.rows.items y false ≡ true → (pos 0 -ℤ pos far) ≤ℤ (potentials_of new).tail y
    seen_rows = deep_rows net rising dear cheap.1 (potentials_of new) m (aim_of target) (tree_of growth) tree tight deep
        (λ x. (let now = deep_now x in let counts : seen_count growth.columns.items ≡ deep = ap seen_count low_is.columns in omega arith))
        (target.level + dear) row row_in row_seen row_low

    seen_columns : (w : ℕ) → w ≤ net.nodes → get_or growth.columns.items w false ≡ true → (pos 0 -ℤ pos far) ≤ℤ (potentials_of new).head w
    seen_columns = deep_columns net (potentials_of new) m (aim_of target) (tree_of growth) tree (pos 0 -ℤ pos far) seen_rows

    not_far : (now far most : ℕ) → (pos 0 -ℤ pos far) ≤ℤ (pos 0 -ℤ pos now) → far ≤ most → now ≤ most
    not_far now far most above low = omega (arith, ints)

    tails_unseen : (x : ℕ) → get_or growth.rows.items x false ≡ false → get_or new.tails.items x 0 ≤ target.level
    tails_unseen x hidden =
        let hidden_before : get_or grown.rows.items x false ≡ false = sym (rows_same x) ∙ hidden in
        let before = is.low.tails x hidden_before in
        let now : get_or new.tails.items x 0 ≡ get_or old.tails.items x 0 + 0 =
        tail_now x ∙ ap (λ (b : Bool). get_or old.tails.items x 0 + cond b by 0) hidden_before in
        omega arith

    heads_unseen : (w : ℕ) → get_or growth.columns.items w false ≡ false → get_or new.heads.items w 0 ≤ target.level
    heads_unseen w hidden =
        let hidden_before : get_or grown.columns.items w false ≡ false = sym (columns_same w) ∙ hidden in
        let before = is.low.heads w hidden_before in
        let now : get_or new.heads.items w 0 ≡ get_or old.heads.items w 0 + 0 =
        head_now w ∙ ap (λ (b : Bool). get_or old.heads.items w 0 + cond b by 0) hidden_before in
        omega arith

    all_tails : (i : ℕ) (b : Bool) → get_or growth.rows.items i false ≡ b → get_or new.tails.items i 0 ≤ target.level + one_search
    all_tails i false hidden = let low = tails_unseen i hidden in omega arith
    all_tails i true seen = elim (cases_lt net.nodes i) [
      | inl past ↦ (let count_is = low_is.places.tails in let zero_is : get_or new.tails.items i 0 ≡ 0 =
          get_or_past new.tails.items i 0 (omega arith) in omega arith)
      | inr within ↦ not_far (get_or new.tails.items i 0) far (target.level + one_search) (seen_rows i within seen) far_low
    ]

    all_heads : (i : ℕ) (b : Bool) → get_or growth.columns.items i false ≡ b → get_or new.heads.items i 0 ≤ target.level + one_search
    all_heads i false hidden = let low = heads_unseen i hidden in omega arith
    all_heads i true seen = elim (cases_lt net.nodes i) [
      | inl past ↦ (let count_is = low_is.places.heads in let zero_is : get_or new.heads.items i 0 ≡ 0 =
          get_or_past new.heads.items i 0 (omega arith) in omega arith)
      | inr within ↦ not_far (get_or new.heads.items i 0) far (target.level + one_search) (seen_columns i within seen) far_low
    ]
