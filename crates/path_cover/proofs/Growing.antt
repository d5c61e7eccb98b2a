-- How the tree grows: a column is seen, and then the rows that hold it.
use Rattle.std.proofs.Common.{ap, ◌≡◌, ◌≢◌, ◌⊎◌, ◌==◌, ℕ, ℤ, pos, ◌+ℤ◌, ◌-ℤ◌, ◌≤ℤ◌, ◌<◌, ◌≤◌, Bool, true, false, cond, suc, Some, inl, inr, refl, sym, subst, ◌∙◌, arith}
use Rattle.std.proofs.lemmas.Int.{ints}
use Rattle.std.proofs.lemmas.Bool.Decides.{nat_tests}
use Rattle.std.proofs.lemmas.Option.{same_Some}
use Rattle.path_cover.specs.Augmenting.{HasPlace, IsStep, IsWalk}
use Rattle.path_cover.specs.Matchings.{IsHeld, IsTightArc, IsTightMatching}
use Rattle.path_cover.specs.Nets.{Net}
use Rattle.path_cover.specs.Potentials.{Potentials, IsTight}
use Rattle.path_cover.specs.Searching.{IsOpening}
use Rattle.path_cover.specs.Trees.{Aim, IsFull, IsReached, IsTree, Matching, Tree}
use Rattle.path_cover.proofs.Moves.{put, put_other, put_same, same_or_not}

-- seen from now on
abbrev pub seen_too : ℕ → (ℕ → Bool) → ℕ → Bool
seen_too v f w = cond (w == v) true (f w)

seen_same : (v : ℕ) (f : ℕ → Bool) → seen_too v f v ≡ true
seen_same v f = let test : (v == v) ≡ true = grind (arith, nat_tests) in rw test refl

seen_other : (v : ℕ) (f : ℕ → Bool) (w : ℕ) → w ≢ v → seen_too v f w ≡ f w
seen_other v f w apart = go (w == v) refl
  where
    go : (b : Bool) → (w == v) ≡ b → seen_too v f w ≡ f w
    go true e = absurd (apart (grind (arith, nat_tests)))
    go false e = rw e refl

still_seen : (v : ℕ) (f : ℕ → Bool) (w : ℕ) → f w ≡ true → seen_too v f w ≡ true
still_seen v f w seen = go (w == v)
  where
    go : (b : Bool) → cond b true (f w) ≡ true
    go true = refl
    go false = seen

still_unseen : (v : ℕ) (f : ℕ → Bool) (w : ℕ) → seen_too v f w ≡ false → (w ≢ v) × (f w ≡ false)
still_unseen v f w unseen = go (w == v) refl unseen
  where
    go : (b : Bool) → (w == v) ≡ b → cond b true (f w) ≡ false → (w ≢ v) × (f w ≡ false)
    go true e bad = absurd (cc)
    go false e kept = (
      (λ same. absurd (let test : (w == v) ≡ true = grind (arith, nat_tests) in let two : true ≡ false =
          sym test ∙ e in cc)),
      kept,
    )

abbrev pub opened_at : ℕ → Tree → Tree
opened_at v tree = record {
  rows = tree.rows;
  columns = seen_too v tree.columns;
  by = tree.by;
  via = tree.via;
  least =
      tree.least;
  depth = tree.depth;
}

-- A column whose offer is 0 is seen. Seeing a column takes three steps, for it becomes part of the tree before the rows that hold
-- it do. Between them stands an opening: a tree but for one column whose holders may not be seen yet. Here it begins: the column's
-- least offer is 0, so the arc from the row that made it is there and tight.
pub open_column : (net : Net) (p : Potentials) (m : Matching) (a : Aim) (tree : Tree) (v : ℕ) → IsTree net p m a tree → v ≤ net.nodes →
    tree.columns v ≡ false → tree.least v ≡ Some (pos 0) →
    (v < net.nodes → m.from v ≤ net.nodes) → (v ≡ net.nodes → m.room ≡ 0) → IsOpening net p m a (opened_at v tree) v
open_column net p m a tree v is v_in unseen none held no_room = record {
  root_in = is.root_in;
  root_free = is.root_free;
  root_seen = is.root_seen;
  fixed_in = is.fixed_in;
  reached = λ x x_in seen apart. let was = is.reached x x_in seen apart in
      record {
        movable = was.movable;
        within = was.within;
        seen = still_seen v tree.columns (tree.by x) was.seen;
        row = was.row;
        store =
            was.store;
        stays = was.stays;
        deeper = was.deeper;
      };
  within = v_in;
  opened = seen_same v tree.columns;
  step =
      let kept = is.kept v (pos 0) v_in unseen none in
      let equal = kept.is in
      record {
        within = kept.within;
        seen = kept.seen;
        allowed = kept.allowed;
        tight = (kept.cost, kept.arc, tight kept.cost kept.arc (omega (arith, ints)), v_in);
      };
  held = held;
  no_room = no_room;
  full = λ w w_in seen apart. let was = is.full w w_in (sym (seen_other v tree.columns w apart) ∙ seen) in
      record {
        within = was.within;
        seen = was.seen;
        allowed = was.allowed;
        tight = was.tight;
        held = was.held;
        holder =
            was.holder;
        no_room = was.no_room;
        ends = was.ends;
        stays = was.stays;
      };
  offered = λ x w c x_in w_in row column allowed e. is.offered x w c x_in w_in row (still_unseen v tree.columns w column).1 allowed e;
  kept = λ w d w_in column e. let was = is.kept w d w_in (still_unseen v tree.columns w column).1 e in
      record { within = was.within; seen = was.seen; allowed = was.allowed; cost = was.cost; arc = was.arc; is = was.is };
}
  where
    tight : (cost : ℕ) → net.arc (tree.via v) v ≡ Some cost → p.head v -ℤ p.tail (tree.via v) ≡ pos cost → IsTight net p (tree.via v) v
    tight cost arc equal c e = let same : cost ≡ c = same_Some cost c (sym arc ∙ e) in equal ∙ ap pos same

-- what a new row offers and what was offered before, put together
pub record IsOfferedToo (net : Net) (p : Potentials) (a : Aim) (x : ℕ) (old new : Tree) : Type 0 where
  pub columns : (w : ℕ) → new.columns w ≡ old.columns w
  pub via_seen : (w : ℕ) → w ≤ net.nodes → old.columns w ≡ true → new.via w ≡ old.via w
  pub offer : (w c : ℕ) → w ≤ net.nodes → old.columns w ≡ false → net.arc x w ≡ Some c →
      (d : ℤ) × (new.least w ≡ Some d) × (d ≤ℤ (pos c +ℤ (p.tail x -ℤ p.head w)))
  pub lower : (w : ℕ) (d : ℤ) → w ≤ net.nodes → old.columns w ≡ false → old.least w ≡ Some d → (e : ℤ) × (new.least w ≡ Some e) × (e ≤ℤ d)
  pub either : (w : ℕ) (d : ℤ) → w ≤ net.nodes → old.columns w ≡ false → new.least w ≡ Some d →
      ((old.least w ≡ Some d) × (new.via w ≡ old.via w)) ⊎
      ((new.via w ≡ x) × ((c : ℕ) × (net.arc x w ≡ Some c) × (d ≡ pos c +ℤ (p.tail x -ℤ p.head w))))

-- A row that holds the column is reached. In the middle of an opening one row that holds the column is seen and makes its offers.
-- The row hangs on the column, one deeper than the row that the column was reached from: depths only grow away from the root, and
-- seen columns keep the row that reached them, so the walk back from any column ends. Offers only fall, and each that is kept is
-- still one that a seen row makes.
pub reach_row : (net : Net) (p : Potentials) (m : Matching) (a : Aim) (old new : Tree) (v x : ℕ) → IsOpening net p m a old v →
    x ≤ net.nodes → old.rows x ≡ false → a.fixed ≤ x →
    (x < net.nodes → m.to x ≡ v) → (x ≡ net.nodes → v < net.nodes → m.from v ≡ net.nodes) → (x ≡ net.nodes → v ≡ net.nodes → 0 < m.spare) →
    ((y : ℕ) → new.rows y ≡ seen_too x old.rows y) → ((y : ℕ) → new.by y ≡ put x v old.by y) →
    ((y : ℕ) → new.depth y ≡ put x (suc (old.depth (old.via v))) old.depth y) →
    IsOfferedToo net p a x old new → IsOpening net p m a new v
reach_row net p m a old new v x is x_in unseen movable row store stays rows bys depths too = record {
  root_in = is.root_in;
  root_free = is.root_free;
  root_seen = seen_still a.root is.root_seen;
  fixed_in = is.fixed_in;
  reached = λ y y_in seen apart. elim (same_or_not y x) [
    | inl same ↦ subst (IsReached net m a new) (sym same) here
    | inr other ↦
        let was_seen : old.rows y ≡ true = sym (rows y ∙ seen_other x old.rows y other) ∙ seen in
        let was = is.reached y y_in was_seen apart in
        let by_same : new.by y ≡ old.by y = bys y ∙ put_other x v old.by y other in
        let column_seen = was.seen in
        let via_same : new.via (new.by y) ≡ old.via (old.by y) = ap new.via by_same ∙ too.via_seen (old.by y) was.within column_seen in
        let depth_y : new.depth y ≡ old.depth y = depths y ∙ put_other x (suc (old.depth (old.via v))) old.depth y other in
        let depth_via : new.depth (new.via (new.by y)) ≡ old.depth (old.via (old.by y)) =
        ap new.depth via_same ∙ (depths (old.via (old.by y))
        ∙ put_other x (suc (old.depth (old.via v))) old.depth (old.via (old.by y))
        (not_x (old.via (old.by y)) (column_row (old.by y) was.within column_seen))) in
        let deeper = was.deeper in
        record {
          movable = was.movable;
          within = (let inside = was.within in omega arith);
          seen = ap new.columns by_same ∙ (too.columns (old.by y) ∙ column_seen);
          row = λ in_rows. was.row in_rows ∙ sym by_same;
          store = λ at_store below. ap m.from by_same ∙ was.store at_store (omega arith);
          stays = λ at_store at_end. was.stays at_store (sym by_same ∙ at_end);
          deeper = omega arith;
        }
  ];
  within = is.within;
  opened = too.columns v ∙ is.opened;
  step = step_too v is.within is.opened is.step;
  held = is.held;
  no_room = is.no_room;
  full = λ w w_in seen apart.
      let was_seen : old.columns w ≡ true = sym (too.columns w) ∙ seen in
      let was = is.full w w_in was_seen apart in
      let via_same : new.via w ≡ old.via w = too.via_seen w w_in was_seen in
      record {
        within = (let inside = was.within in omega arith);
        seen = ap new.rows via_same ∙ seen_still (old.via w) was.seen;
        allowed = λ e. was.allowed (sym via_same ∙ e);
        tight = subst (λ (y : ℕ). IsTightArc net p y w) (sym via_same) was.tight;
        held = was.held;
        holder = λ below past. seen_still (m.from w) (was.holder below past);
        no_room = was.no_room;
        ends = λ at_end t past below goes. seen_still t (was.ends at_end t past below goes);
        stays = λ at_end some. seen_still net.nodes (was.stays at_end some);
      };
  offered = λ y w c y_in w_in seen column allowed e.
      let column_was : old.columns w ≡ false = sym (too.columns w) ∙ column in
      elim (same_or_not y x) [
        | inl same ↦ (let P : ℕ → Type 0 = λ z. (d : ℤ) × (new.least w ≡ Some d) × (d ≤ℤ (pos c +ℤ (p.tail z -ℤ p.head w))) in
            subst P (sym same) (too.offer w c w_in column_was (subst (λ (z : ℕ). net.arc z w ≡ Some c) same e)))
        | inr other ↦
            let was_seen : old.rows y ≡ true = sym (rows y ∙ seen_other x old.rows y other) ∙ seen in
            let offer = is.offered y w c y_in w_in was_seen column_was allowed e in
            let lower = too.lower w offer.0 w_in column_was offer.1 in
            let low = offer.2 in
            let less = lower.2 in
            (lower.0, lower.1, omega (arith, ints))
      ];
  kept = λ w d w_in column e.
      let column_was : old.columns w ≡ false = sym (too.columns w) ∙ column in
      elim (too.either w d w_in column_was e) [
        | inl before ↦
            let was = is.kept w d w_in column_was before.0 in
            let via_same = before.1 in
            record {
              within = (let inside = was.within in omega arith);
              seen = ap new.rows via_same ∙ seen_still (old.via w) was.seen;
              allowed = λ root. was.allowed (sym via_same ∙ root);
              cost = was.cost;
              arc = ap (λ (y : ℕ). net.arc y w) via_same ∙ was.arc;
              is = was.is ∙ ap (λ (y : ℕ). pos was.cost +ℤ (p.tail y -ℤ p.head w)) (sym via_same);
            }
        | inr now ↦
            let via_x = now.0 in
            record {
              within = omega arith;
              seen = ap new.rows via_x ∙ (rows x ∙ seen_same x old.rows);
              allowed = λ root. absurd (not_root (sym via_x ∙ root));
              cost = now.1.0;
              arc = ap (λ (y : ℕ). net.arc y w) via_x ∙ now.1.1;
              is = now.1.2 ∙ ap (λ (y : ℕ). pos now.1.0 +ℤ (p.tail y -ℤ p.head w)) (sym via_x);
            }
      ];
}
  where
    seen_still : (y : ℕ) → old.rows y ≡ true → new.rows y ≡ true
    seen_still y seen = rows y ∙ still_seen x old.rows y seen

    not_x : (y : ℕ) → old.rows y ≡ true → y ≢ x
    not_x y seen = λ same. absurd (let e : old.rows x ≡ true = subst (λ (z : ℕ). old.rows z ≡ true) same seen in let two : true ≡ false =
        sym e ∙ unseen in cc)

    not_root : x ≢ a.root
    not_root = λ same. not_x a.root is.root_seen (sym same)

    column_row : (w : ℕ) → w ≤ net.nodes → old.columns w ≡ true → old.rows (old.via w) ≡ true
    column_row w w_in seen = elim (same_or_not w v) [
      | inl same ↦ subst (λ (z : ℕ). old.rows (old.via z) ≡ true) (sym same) is.step.seen
      | inr other ↦ (is.full w w_in seen other).seen
    ]

    step_too : (w : ℕ) → w ≤ net.nodes → old.columns w ≡ true → IsStep net p a old w → IsStep net p a new w
    step_too w w_in seen was =
        let via_same : new.via w ≡ old.via w = too.via_seen w w_in seen in
        record {
          within = (let inside = was.within in omega arith);
          seen = ap new.rows via_same ∙ seen_still (old.via w) was.seen;
          allowed = λ e. was.allowed (sym via_same ∙ e);
          tight = subst (λ (y : ℕ). IsTightArc net p y w) (sym via_same) was.tight;
        }

    here : IsReached net m a new x
    here =
        let by_x : new.by x ≡ v = bys x ∙ put_same x v old.by in
        let via_same : new.via (new.by x) ≡ old.via v = ap new.via by_x ∙ too.via_seen v is.within is.opened in
        let depth_x : new.depth x ≡ suc (old.depth (old.via v)) = depths x ∙ put_same x (suc (old.depth (old.via v))) old.depth in
        let depth_via : new.depth (new.via (new.by x)) ≡ old.depth (old.via v) =
        ap new.depth via_same ∙ (depths (old.via v)
        ∙ put_other x (suc (old.depth (old.via v))) old.depth (old.via v) (not_x (old.via v) is.step.seen)) in
        let inside = is.within in
        record {
          movable = movable;
          within = omega arith;
          seen = ap new.columns by_x ∙ (too.columns v ∙ is.opened);
          row = λ below. row below ∙ sym by_x;
          store = λ at_store below. ap m.from by_x ∙ store at_store (omega arith);
          stays = λ at_store at_end. stays at_store (sym by_x ∙ at_end);
          deeper = omega arith;
        }

-- Once all rows that hold the column and may be moved are seen, the opening is a tree again. With the two lemmas above this carries
-- the tree over each step of a search that finds no free place.
pub close_column : (net : Net) (p : Potentials) (m : Matching) (a : Aim) (tree : Tree) (v : ℕ) → IsOpening net p m a tree v →
    (v < net.nodes → a.fixed ≤ m.from v → tree.rows (m.from v) ≡ true) →
    (v ≡ net.nodes → (t : ℕ) → a.fixed ≤ t → t < net.nodes → m.to t ≡ net.nodes → tree.rows t ≡ true) →
    (v ≡ net.nodes → 0 < m.spare → tree.rows net.nodes ≡ true) → IsTree net p m a tree
close_column net p m a tree v is holder ends stays = record {
  root_in = is.root_in;
  root_free = is.root_free;
  root_seen = is.root_seen;
  fixed_in = is.fixed_in;
  reached = is.reached;
  full = λ w w_in seen. elim (same_or_not w v) [
    | inl same ↦ subst (IsFull net p m a tree) (sym same) (record {
      within = is.step.within;
      seen = is.step.seen;
      allowed = is.step.allowed;
      tight = is.step.tight;
      held = is.held;
      holder = holder;
      no_room = is.no_room;
      ends = ends;
      stays = stays;
    })
    | inr other ↦ is.full w w_in seen other
  ];
  offered = is.offered;
  kept = is.kept;
}

-- A column with a free place whose offer is 0: the walk back begins. Of a tree it needs only the tight arcs from rows to the
-- columns that they reached, and that rows other than the root hold the column by which they were reached; these let each row give
-- its column to the next.
pub begin_walk : (net : Net) (p : Potentials) (m : Matching) (a : Aim) (tree : Tree) (v : ℕ) → IsTree net p m a tree → v ≤ net.nodes →
    tree.columns v ≡ false → tree.least v ≡ Some (pos 0) →
    IsHeld net.nodes net.most m.to m.from m.spare m.room → IsTightMatching net p m.to m.from m.spare →
    HasPlace net.nodes v m → IsWalk net p a tree m v
begin_walk net p m a tree v is v_in unseen none held tight place = record {
  held = held;
  tight = tight;
  place = place;
  root_in = is.root_in;
  root_free = is.root_free;
  step =
      let kept = is.kept v (pos 0) v_in unseen none in
      let equal = kept.is in
      record {
        within = kept.within;
        seen = kept.seen;
        allowed = kept.allowed;
        tight =
            (kept.cost, kept.arc, tight_here kept.cost kept.arc (omega (arith, ints)), v_in);
      };
  steps = λ w w_in seen. let was = is.full w w_in seen in
      record { within = was.within; seen = was.seen; allowed = was.allowed; tight = was.tight };
  reached = λ x x_in seen apart near. is.reached x x_in seen apart;
}
  where
    tight_here : (cost : ℕ) → net.arc (tree.via v) v ≡ Some cost → p.head v -ℤ p.tail (tree.via v) ≡ pos cost → IsTight net p (tree.via v) v
    tight_here cost arc equal c e = let same : cost ≡ c = same_Some cost c (sym arc ∙ e) in equal ∙ ap pos same
