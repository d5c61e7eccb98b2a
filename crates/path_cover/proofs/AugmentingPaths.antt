-- Along an augmenting path, back to the root.
use Rattle.std.proofs.Common.{◌≡◌, ◌≢◌, ◌⊎◌, ◌==◌, ℕ, ℤ, pos, ◌-ℤ◌, ◌-◌, ◌<◌, ◌≤◌, Bool, true, false, cond, nat_lt, suc, inl, inr, refl, sym, subst, ◌∙◌, arith}
use Rattle.std.proofs.lemmas.Int.{ints}
use Rattle.std.proofs.lemmas.Bool.{cases_lt}
use Rattle.std.proofs.lemmas.Bool.Decides.{nat_tests}
use Rattle.path_cover.specs.Nets.{Net, IsRising}
use Rattle.path_cover.specs.Potentials.{Potentials}
use Rattle.path_cover.specs.Matchings.{IsTightArc, IsTightMatching}
use Rattle.path_cover.specs.Augmenting.{HasPlace, IsWalk}
use Rattle.path_cover.specs.Trees.{Aim, IsReached, Matching, Tree}
use Rattle.path_cover.proofs.Moves.{put, put_other, put_same, same_or_not}
use Rattle.path_cover.proofs.Walking.{Holds, lt_true, moved, moved_held, moved_other, placed, taken, taken_place}

-- what is known of the rows of one column, after a move
from_moved : (n free x old v u : ℕ) (m : Matching) → n < free → u < n → (moved n free x old v m).from u ≡ n →
    ((u ≡ v) × (x ≡ n)) ⊎ (m.from u ≡ n)
from_moved n free x old v u m outside u_in e = go (nat_lt v n) (nat_lt old n) (u == v) (u == old) refl refl refl refl e
  where
    go : (b c d f : Bool) → nat_lt v n ≡ b → nat_lt old n ≡ c → (u == v) ≡ d → (u == old) ≡ f →
        cond (nat_lt v n) (put v x (cond (nat_lt old n) (put old free m.from) m.from)) (cond (nat_lt old n) (put old free m.from) m.from) u
        ≡ n →
        ((u ≡ v) × (x ≡ n)) ⊎ (m.from u ≡ n)
    go true c true f b_is c_is d_is f_is e = let same : u ≡ v = grind (arith, nat_tests) in let at = rw (b_is, d_is) at e in inl (same, at)
    go true true false true b_is c_is d_is f_is e = absurd (let at = rw (b_is, d_is, c_is, f_is) at e in omega arith)
    go true true false false b_is c_is d_is f_is e = inr (rw (b_is, d_is, c_is, f_is) at e)
    go true false false f b_is c_is d_is f_is e = inr (rw (b_is, d_is, c_is) at e)
    go false true d true b_is c_is d_is f_is e = absurd (let at = rw (b_is, c_is, f_is) at e in omega arith)
    go false true d false b_is c_is d_is f_is e = inr (rw (b_is, c_is, f_is) at e)
    go false false d f b_is c_is d_is f_is e = inr (rw (b_is, c_is) at e)

from_kept : (n free x old v u : ℕ) (m : Matching) → u ≢ v → u ≢ old → (moved n free x old v m).from u ≡ m.from u
from_kept n free x old v u m apart apart' = go (nat_lt v n) (nat_lt old n)
  where
    go : (b c : Bool) → cond b (put v x (cond c (put old free m.from) m.from)) (cond c (put old free m.from) m.from) u ≡ m.from u
    go true true = put_other v x (put old free m.from) u apart ∙ put_other old free m.from u apart'
    go true false = put_other v x m.from u apart
    go false true = put_other old free m.from u apart'
    go false false = refl

spare_moved : (n free x old v : ℕ) (m : Matching) → 0 < (moved n free x old v m).spare → (0 < m.spare) ⊎ ((n ≤ x) × (n ≤ v))
spare_moved n free x old v m some = go (nat_lt v n) (nat_lt x n) (nat_lt old n) refl refl some
  where
    go : (b c d : Bool) → nat_lt v n ≡ b → nat_lt x n ≡ c →
        0 < cond b (cond d m.spare (cond c m.spare (m.spare - 1)))
        (cond c (cond d m.spare (cond c m.spare (m.spare - 1))) (suc (cond d m.spare (cond c m.spare (m.spare - 1))))) →
        (0 < m.spare) ⊎ ((n ≤ x) × (n ≤ v))
    go true true true b_is c_is some = inl some
    go true true false b_is c_is some = inl some
    go true false true b_is c_is some = inl some
    go true false false b_is c_is some = inl (omega arith)
    go false true true b_is c_is some = inl some
    go false true false b_is c_is some = inl some
    go false false d b_is c_is some = inr (let r : n ≤ x = grind (arith, nat_tests) in let k : n ≤ v = grind (arith, nat_tests) in (r, k))

-- a vehicle that stays is tight where store and end are equal
stay_equal : (net : Net) → IsRising net → (p : Potentials) → IsTightArc net p net.nodes net.nodes → p.head net.nodes ≡ p.tail net.nodes
stay_equal net rising p arc = let e : p.head net.nodes -ℤ p.tail net.nodes ≡ pos 0 = arc.2 0 rising.stays in
    apart_none (p.head net.nodes) (p.tail net.nodes) e
  where
    apart_none : (h t : ℤ) → h -ℤ t ≡ pos 0 → h ≡ t
    apart_none h t e = omega (arith, ints)

-- A tight arc taken into the matching leaves it tight: the row's new arc is this one, the column that it left may be without a row,
-- and every other arc is as it was. A vehicle that stays is the arc from the store to the end, whose cost is 0: so it is tight
-- where store and end are equal.
pub moved_tight : (net : Net) → IsRising net → (p : Potentials) (free x old v : ℕ) (m : Matching) → net.nodes < free →
    IsTightMatching net p m.to m.from m.spare → IsTightArc net p x v → x ≤ net.nodes → v ≤ net.nodes →
    IsTightMatching net p (moved net.nodes free x old v m).to (moved net.nodes free x old v m).from (moved net.nodes free x old v m).spare
moved_tight net rising p free x old v m outside tight arc x_in v_in = record {
  rows = λ t t_in there. elim (same_or_not t x) [
    | inl same ↦
        let r = lt_true x net.nodes (omega arith) in
        let at : (moved net.nodes free x old v m).to x ≡ v = rw r (put_same x v (put x free m.to)) in
        let P : ℕ → Type 0 = λ y. IsTightArc net p y ((moved net.nodes free x old v m).to y) in
        subst P (sym same) (subst (IsTightArc net p x) (sym at) arc)
    | inr apart ↦
        let other = moved_other net.nodes free x old v t m apart in
        let there' : m.to t ≤ net.nodes = omega arith in
        subst (IsTightArc net p t) (sym other) (tight.rows t t_in there')
  ];
  store = λ u u_in e. elim (from_moved net.nodes free x old v u m outside u_in e) [
    | inl new ↦ subst (λ (w : ℕ). IsTightArc net p net.nodes w) (sym new.0) (subst (λ (y : ℕ). IsTightArc net p y v) new.1 arc)
    | inr old_store ↦ tight.store u u_in old_store
  ];
  stays = λ some. elim (spare_moved net.nodes free x old v m some) [
    | inl before ↦ tight.stays before
    | inr new ↦
        let is_store : x ≡ net.nodes = let past = new.0 in omega arith in
        let is_end : v ≡ net.nodes = let past = new.1 in omega arith in
        stay_equal net rising p
        (subst (λ (w : ℕ). IsTightArc net p net.nodes w) is_end (subst (λ (y : ℕ). IsTightArc net p y v) is_store arc))
  ];
}

-- the root's arc is tight, and the others stay so
pub placed_tight : (net : Net) → IsRising net → (p : Potentials) (x v : ℕ) (m : Matching) → IsTightMatching net p m.to m.from m.spare →
    IsTightArc net p x v → x < net.nodes → v ≤ net.nodes →
    IsTightMatching net p (placed net.nodes x v m).to (placed net.nodes x v m).from (placed net.nodes x v m).spare
placed_tight net rising p x v m tight arc row v_in = record {
  rows = λ t t_in there. elim (same_or_not t x) [
    | inl same ↦
        let r = lt_true x net.nodes row in
        let at : (placed net.nodes x v m).to x ≡ v = rw r (put_same x v m.to) in
        let P : ℕ → Type 0 = λ y. IsTightArc net p y ((placed net.nodes x v m).to y) in
        subst P (sym same) (subst (IsTightArc net p x) (sym at) arc)
    | inr apart ↦
        let other : (placed net.nodes x v m).to t ≡ m.to t = go_to (nat_lt x net.nodes) t apart in
        let there' : m.to t ≤ net.nodes = omega arith in
        subst (IsTightArc net p t) (sym other) (tight.rows t t_in there')
  ];
  store = λ u u_in e. go_from (nat_lt v net.nodes) (u == v) refl u u_in refl e;
  stays = λ some. go_spare (nat_lt v net.nodes) (nat_lt x net.nodes) (lt_true x net.nodes row) some;
}
  where
    go_to : (b : Bool) (t : ℕ) → t ≢ x → cond b (put x v m.to) m.to t ≡ m.to t
    go_to true t apart = put_other x v m.to t apart
    go_to false t apart = refl

    go_from : (b d : Bool) → nat_lt v net.nodes ≡ b → (u : ℕ) → u < net.nodes → (u == v) ≡ d →
        cond (nat_lt v net.nodes) (put v x m.from) m.from u ≡ net.nodes → IsTightArc net p net.nodes u
    go_from true true b_is u u_in d_is e = absurd (let at = rw (b_is, d_is) at e in omega arith)
    go_from true false b_is u u_in d_is e = tight.store u u_in (rw (b_is, d_is) at e)
    go_from false d b_is u u_in d_is e = tight.store u u_in (rw b_is at e)

    go_spare : (b c : Bool) → c ≡ true → 0 < cond b m.spare (cond c m.spare (suc m.spare)) → p.head net.nodes ≡ p.tail net.nodes
    go_spare true c is some = tight.stays some
    go_spare false true is some = tight.stays some
    go_spare false false is some = absurd (cc)

-- One step of the walk: the row that reached the column with a free place moves to it, and so frees its own. That one was reached
-- by a row nearer to the root, so the same holds again one row on. The invariant only speaks of rows that are nearer: what lies
-- behind has moved, and is not asked for again, as depths fall at each step. It is also why the walk ends, at the root, which has
-- no column to free.
pub walk_back : (net : Net) → IsRising net → (p : Potentials) (a : Aim) (tree : Tree) (m : Matching) (v free : ℕ) → net.nodes < free →
    IsWalk net p a tree m v → tree.via v ≢ a.root →
    IsWalk net p a tree (moved net.nodes free (tree.via v) (tree.by (tree.via v)) v m) (tree.by (tree.via v))
walk_back net rising p a tree m v free outside walk apart = record {
  held = moved_held net.nodes net.most free x old v m walk.held outside holds walk.place;
  tight = moved_tight net rising p free x old v m outside walk.tight walk.step.tight row_in walk.place.column_in;
  place = old_place;
  root_in = walk.root_in;
  root_free = (let other = moved_other net.nodes free x old v a.root m (λ e. apart (sym e)) in let free_root =
      walk.root_free in omega arith);
  step = walk.steps old old_in is.seen;
  steps = walk.steps;
  reached = λ y y_in seen y_apart near.
      let deeper = is.deeper in
      let y_not_x : y ≢ x = λ e. (let D : ℕ → Type 0 = λ z. tree.depth z ≤ tree.depth (tree.via old) in let bad =
      subst D e near in omega arith) in
      let was = walk.reached y y_in seen y_apart (omega arith) in
      record {
        movable = was.movable;
        within = was.within;
        seen = was.seen;
        deeper = was.deeper;
        row = λ row. moved_other net.nodes free x old v y m y_not_x ∙ was.row row;
        store = λ store column.
            let at : m.from (tree.by y) ≡ net.nodes = was.store store column in
            let not_hole : tree.by y ≢ v =
            λ e. (let F : ℕ → Type 0 = λ w. m.from w ≡ net.nodes in let at_v : m.from v ≡ net.nodes = subst F e at in let some =
            walk.place.column (let in_v : v < net.nodes = subst (λ (w : ℕ). w < net.nodes) e column in in_v) in omega arith) in
            let not_old : tree.by y ≢ old = λ e. (
            let F : ℕ → Type 0 = λ w. m.from w ≡ net.nodes in
            let at_old : m.from old ≡ net.nodes = subst F e at in
            let old_column : old < net.nodes = subst (λ (w : ℕ). w < net.nodes) e column in
            store_or_row at_old old_column store y_not_x) in
            from_kept net.nodes free x old v (tree.by y) m not_hole not_old ∙ at;
        stays = λ store at_end.
            let some = was.stays store at_end in
            spare_kept (nat_lt v net.nodes) (nat_lt old net.nodes) (lt_true x net.nodes (x_is_row store y_not_x)) some;
      };
}
  where
    x : ℕ
    x = tree.via v

    old : ℕ
    old = tree.by (tree.via v)

    row_in : tree.via v ≤ net.nodes
    row_in = walk.step.within

    is : IsReached net m a tree (tree.via v)
    is = walk.reached (tree.via v) row_in walk.step.seen apart (omega arith)

    old_in : tree.by (tree.via v) ≤ net.nodes
    old_in = is.within

    holds : Holds net.nodes (tree.via v) (tree.by (tree.via v)) m
    holds = record { row_in = row_in; column_in = old_in; row = is.row; store = is.store; stays = is.stays }

    hole_not_old : v ≢ tree.by (tree.via v)
    hole_not_old = λ e. (let D : ℕ → Type 0 = λ w. tree.depth (tree.via w) < tree.depth (tree.via v) in let bad =
        subst D (sym e) is.deeper in omega arith)

    old_place : HasPlace net.nodes (tree.by (tree.via v)) (moved net.nodes free (tree.via v) (tree.by (tree.via v)) v m)
    old_place =
        let first = taken_place net.nodes free (tree.via v) (tree.by (tree.via v)) m outside old_in in
        record {
          column_in = old_in;
          column = λ column. keeps_place (nat_lt v net.nodes) (first.column column);
          room = λ at_end. room_kept at_end (first.room at_end);
        }
      where
        keeps_place : (b : Bool) → net.nodes < (taken net.nodes free (tree.via v) (tree.by (tree.via v)) m).from (tree.by (tree.via v)) →
            net.nodes < cond b (put v (tree.via v) (taken net.nodes free (tree.via v) (tree.by (tree.via v)) m).from)
            (taken net.nodes free (tree.via v) (tree.by (tree.via v)) m).from (tree.by (tree.via v))
        keeps_place true some =
            let e = put_other v (tree.via v) (taken net.nodes free (tree.via v) (tree.by (tree.via v)) m).from (tree.by (tree.via v))
            (λ e. hole_not_old (sym e)) in rw e some
        keeps_place false some = some

        room_kept : tree.by (tree.via v) ≡ net.nodes → 0 < (taken net.nodes free (tree.via v) (tree.by (tree.via v)) m).room →
            0 < (moved net.nodes free (tree.via v) (tree.by (tree.via v)) v m).room
        room_kept at_end some =
            let column_in = walk.place.column_in in
            let below : v < net.nodes =
            elim (cases_lt v net.nodes) [
              | inl less ↦ less
              | inr past ↦
                  absurd (hole_not_old (let e : v ≡ net.nodes = omega arith in e ∙ sym at_end))
            ] in
            let k = lt_true v net.nodes below in
            rw k some

    x_is_row : {y : ℕ} → y ≡ net.nodes → y ≢ tree.via v → tree.via v < net.nodes
    x_is_row store not_x = elim (cases_lt (tree.via v) net.nodes) [
      | inl less ↦ less
      | inr past ↦
          absurd (not_x (let e : tree.via v ≡ net.nodes = omega arith in store ∙ sym e))
    ]

    store_or_row : {y : ℕ} → m.from (tree.by (tree.via v)) ≡ net.nodes → tree.by (tree.via v) < net.nodes →
        y ≡ net.nodes → y ≢ tree.via v → ⊥
    store_or_row at_old column store not_x =
        let row = x_is_row store not_x in
        let goes = is.row row in
        let back = walk.held.matched.onto (tree.via v) (tree.by (tree.via v)) row column goes in
        omega arith

    spare_kept : (b d : Bool) → nat_lt (tree.via v) net.nodes ≡ true → 0 < m.spare →
        0 < cond b (cond d m.spare (cond (nat_lt (tree.via v) net.nodes) m.spare (m.spare - 1)))
        (cond (nat_lt (tree.via v) net.nodes) (cond d m.spare (cond (nat_lt (tree.via v) net.nodes) m.spare (m.spare - 1)))
        (suc (cond d m.spare (cond (nat_lt (tree.via v) net.nodes) m.spare (m.spare - 1)))))
    spare_kept true true r some = some
    spare_kept true false r some = rw r some
    spare_kept false true r some = rw r some
    spare_kept false false r some = rw r some
