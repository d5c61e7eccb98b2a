-- A column is opened, its rows are seen, and the tree is one again.
use Rattle.std.proofs.Common.{ap, ◌≡◌, ◌==◌, ℕ, pos, ◌+◌, ◌<◌, ◌≤◌, Bool, true, false, cond, Some, None, Option, List, length, get_or, set, refl, sym, subst, ◌∙◌, arith, length-set}
use Rattle.std.specs.Option.{option_map}
use Rattle.std.proofs.Math.Path.{fun_ext}
use Rattle.std.proofs.lemmas.Bool.Decides.{nat_tests}
use Rattle.path_cover.specs.declared.growth.Falls.{Falls}
use Rattle.path_cover.specs.declared.growth.Growth.{Growth}
use Rattle.path_cover.specs.declared.growth.Target.{Target}
use Rattle.path_cover.specs.declared.placing.Placing.{Placing}
use Rattle.path_cover.specs.Augmenting.{aim_of, potentials_of, tree_of}
use Rattle.path_cover.specs.Nets.{Net}
use Rattle.path_cover.specs.Trees.{Matching}
use Rattle.path_cover.specs.Searching.{AreLow, IsLow, IsOpened, IsOpenedAs, IsOpening, IsReachedBy, IsTreed, IsTreedAs, seen_count}
use Rattle.path_cover.proofs.Counts.{count_more, count_most}
use Rattle.path_cover.proofs.Growing.{close_column, open_column, opened_at, seen_too}
use Rattle.path_cover.proofs.Reaching.{reach_opened, set_at}

pub opened_near : (net : Net) (falls : Falls) (placing : Placing) (growth : Growth) (target : Target) (v : ℕ) (m : Matching) →
    IsOpened net falls placing growth target v m → net.nodes ≤ 3000 →
    (y : ℕ) → get_or growth.depth.items y 0 ≤ 3001
opened_near net falls placing growth target v m is few y =
    let deep = is.deep y in
    let most = count_most growth.columns.items in
    let count = is.sized.columns in
    omega arith

pub low_small : (falls : Falls) (growth : Growth) (level : ℕ) → IsLow falls growth level → AreLow falls 9000000000000000
low_small falls growth level is i =
    let most = is.most in
    let tails = (is.all i).0 in
    let heads = (is.all i).1 in
    (omega arith, omega arith)

-- what is so where a row is seen that may have been seen before
pub record IsSeenToo (net : Net) (falls : Falls) (placing : Placing) (old new : Growth) (target : Target) (v x : ℕ) : Type 0 where
  pub opened : IsOpenedAs net falls placing new target v
  pub columns : new.columns.items ≡ old.columns.items
  pub rows : (y : ℕ) → get_or old.rows.items y false ≡ true → get_or new.rows.items y false ≡ true
  pub here : get_or new.rows.items x false ≡ true

pub seen_once : (net : Net) (falls : Falls) (placing : Placing) (old new : Growth) (target : Target) (v x : ℕ) →
    IsOpenedAs net falls placing old target v → x ≤ net.nodes → target.fixed ≤ x →
    (x < net.nodes → get_or placing.to.items x 0 ≡ v) → (x ≡ net.nodes → v < net.nodes → get_or placing.from.items v 0 ≡ net.nodes) →
    (x ≡ net.nodes → v ≡ net.nodes → 0 < placing.spare) →
    (get_or old.rows.items x false ≡ true → new ≡ old) → (get_or old.rows.items x false ≡ false → IsReachedBy net falls x v old new) →
    IsSeenToo net falls placing old new target v x
seen_once net falls placing old new target v x is x_in movable row store stays before now = go (get_or old.rows.items x false) refl
  where
    keep : (b c : Bool) → c ≡ true → cond b true c ≡ true
    keep true c e = refl
    keep false c e = e

    go : (b : Bool) → get_or old.rows.items x false ≡ b → IsSeenToo net falls placing old new target v x
    go true seen =
        let same : new ≡ old = before seen in
        let P : Growth → Type 0 = λ g. IsSeenToo net falls placing old g target v x in
        subst P (sym same) (record { opened = is; columns = refl; rows = λ y was. was; here = seen })
    go false unseen =
        let by = now unseen in
        let count = is.1.sized.rows in
        record {
          opened = (is.0, reach_opened net falls placing old new target v x is.0 is.1 x_in unseen movable row store stays by);
          columns = by.columns;
          rows = λ y was. ap (λ (l : List Bool). get_or l y false) by.rows
              ∙ (set_at old.rows.items x true false (omega arith) y ∙ keep (y == x) (get_or old.rows.items y false) was);
          here = ap (λ (l : List Bool). get_or l x false) by.rows
              ∙ (set_at old.rows.items x true false (omega arith) x
              ∙ (let test : (x == x) ≡ true = grind (arith, nat_tests) in rw test refl));
        }

-- the rows of the opened column are seen: the tree is one again
pub closed : (net : Net) (falls : Falls) (placing : Placing) (growth : Growth) (target : Target) (v : ℕ) →
    IsOpenedAs net falls placing growth target v →
    (v < net.nodes → target.fixed ≤ get_or placing.from.items v 0 → get_or growth.rows.items (get_or placing.from.items v 0) false ≡ true) →
    (v ≡ net.nodes → (t : ℕ) → target.fixed ≤ t → t < net.nodes → get_or placing.to.items t 0 ≡ net.nodes →
    get_or growth.rows.items t false ≡ true) →
    (v ≡ net.nodes → 0 < placing.spare → get_or growth.rows.items net.nodes false ≡ true) → IsTreedAs net falls placing growth target
closed net falls placing growth target v opened holder ends stays =
    let m = opened.0 in
    let is = opened.1 in (
      m,
      record {
        seat = is.seat;
        sized = is.sized;
        deep = is.deep;
        low = is.low;
        tree = close_column net (potentials_of falls) m (aim_of target) (tree_of growth) v is.opening
            (λ below past.
            let same = is.seat.kept.from v below in
            let P : ℕ → Type 0 = λ x. get_or growth.rows.items x false ≡ true in
            subst P same (holder below (omega arith)))
            (λ at_end t past t_in goes. ends at_end t past t_in (is.seat.kept.to t t_in ∙ goes))
            (λ at_end some. (let same = is.seat.kept.spare in stays at_end (omega arith)));
      },
    )

-- a row that holds a column, and is no store, goes to it
pub holder_goes : (net : Net) (falls : Falls) (placing : Placing) (growth : Growth) (target : Target) (v : ℕ) →
    IsOpenedAs net falls placing growth target v → v < net.nodes →
    (get_or placing.from.items v 0 ≤ net.nodes)
    × (get_or placing.from.items v 0 < net.nodes → get_or placing.to.items (get_or placing.from.items v 0) 0 ≡ v)
holder_goes net falls placing growth target v opened below =
    let m = opened.0 in
    let is = opened.1 in
    let same = is.seat.kept.from v below in
    let held = is.opening.held below in (
      omega arith,
      λ within. is.seat.kept.to (get_or placing.from.items v 0) within
          ∙ is.seat.held.matched.back (get_or placing.from.items v 0) v within below (sym same),
    )

-- a column with no free place, whose offer is 0, is opened
pub opened_treed : (net : Net) (falls : Falls) (placing : Placing) (old new : Growth) (target : Target) (v : ℕ) →
    IsTreedAs net falls placing old target → v ≤ net.nodes →
    get_or old.columns.items v false ≡ false → get_or old.least.items v None ≡ Some 0 →
    (v < net.nodes → get_or placing.from.items v 0 ≤ net.nodes) → (v ≡ net.nodes → placing.room ≡ 0) →
    new.rows.items ≡ old.rows.items → new.columns.items ≡ set old.columns.items v true → new.by.items ≡ old.by.items →
    new.via.items ≡ old.via.items → new.least.items ≡ old.least.items → new.depth.items ≡ old.depth.items →
    IsOpenedAs net falls placing new target v × (seen_count new.columns.items ≡ seen_count old.columns.items + 1)
opened_treed net falls placing old new target v treed v_in unseen none held no_room rows columns by via least depth = (
  (
    m,
    record {
      seat = is.seat;
      sized = record {
        rows = ap length rows ∙ is.sized.rows;
        columns = ap length columns ∙ (length-set old.columns.items v true ∙ is.sized.columns);
        by = ap length by ∙ is.sized.by;
        via = ap length via ∙ is.sized.via;
        least = ap length least ∙ is.sized.least;
        depth = ap length depth ∙ is.sized.depth;
      };
      deep = λ x. (let grew = more in let was = is.deep x in let same : get_or new.depth.items x 0 ≡ get_or old.depth.items x 0 =
          ap (λ (l : List ℕ). get_or l x 0) depth in omega arith);
      low = record {
        most = is.low.most;
        all = is.low.all;
        tails = λ x hidden. is.low.tails x (sym (ap (λ (l : List Bool). get_or l x false) rows) ∙ hidden);
        heads = λ w hidden. is.low.heads w (before (w == v) (get_or old.columns.items w false) (sym (column_at w) ∙ hidden));
      };
      above =
          let grew = more in
          let x_same : get_or new.via.items v 0 ≡ get_or old.via.items v 0 = ap (λ (l : List ℕ). get_or l v 0) via in
          let was = is.deep (get_or old.via.items v 0) in
          let same : get_or new.depth.items (get_or new.via.items v 0) 0 ≡ get_or old.depth.items (get_or old.via.items v 0) 0 =
          ap (λ (l : List ℕ). get_or l (get_or new.via.items v 0) 0) depth ∙ ap (λ (x : ℕ). get_or old.depth.items x 0) x_same in
          omega arith;
      opening = opening;
    },
  ),
  more,
)
  where
    m : Matching
    m = treed.0

    is : IsTreed net falls placing old target m
    is = treed.1

    v_at : v < length old.columns.items
    v_at = let count = is.sized.columns in omega arith

    column_at : (w : ℕ) → get_or new.columns.items w false ≡ seen_too v (tree_of old).columns w
    column_at w = ap (λ (l : List Bool). get_or l w false) columns ∙ set_at old.columns.items v true false v_at w

    before : (b c : Bool) → cond b true c ≡ false → c ≡ false
    before true c e = absurd (cc)
    before false c e = e

    more : seen_count new.columns.items ≡ seen_count old.columns.items + 1
    more = ap seen_count columns ∙ count_more old.columns.items v v_at unseen

    at_once : IsOpening net (potentials_of falls) m (aim_of target) (opened_at v (tree_of old)) v
    at_once = open_column net (potentials_of falls) m (aim_of target) (tree_of old) v is.tree v_in unseen
        (ap (option_map (λ (k : ℕ). pos k)) none)
        (λ below. (let same = is.seat.kept.from v below in let low = held below in omega arith))
        (λ at_end. (let same = is.seat.kept.room in let zero_is = no_room at_end in omega arith))

    columns_are : seen_too v (tree_of old).columns ≡ (tree_of new).columns
    columns_are = fun_ext (λ w. sym (column_at w))

    opening : IsOpening net (potentials_of falls) m (aim_of target) (tree_of new) v
    opening =
        let p = potentials_of falls in
        let a = aim_of target in
        let with_columns = subst
        (λ (f : ℕ → Bool). IsOpening net p m a
        (record {
          rows = λ x. get_or old.rows.items x false;
          columns = f;
          by = λ x. get_or old.by.items x 0;
          via = λ w. get_or old.via.items w 0;
          least = λ w. option_map (λ (k : ℕ). pos k) (get_or old.least.items w None);
          depth = λ x. get_or old.depth.items x 0;
        }) v) columns_are at_once in
        let with_rows = subst (λ (l : List Bool). IsOpening net p m a
        (record {
          rows = λ x. get_or l x false;
          columns = (tree_of new).columns;
          by = λ x. get_or old.by.items x 0;
          via = λ w. get_or old.via.items w 0;
          least = λ w. option_map (λ (k : ℕ). pos k) (get_or old.least.items w None);
          depth = λ x. get_or old.depth.items x 0;
        }) v) (sym rows) with_columns in
        let with_by = subst (λ (l : List ℕ). IsOpening net p m a
        (record {
          rows = (tree_of new).rows;
          columns = (tree_of new).columns;
          by = λ x. get_or l x 0;
          via = λ w. get_or old.via.items w 0;
          least = λ w. option_map (λ (k : ℕ). pos k) (get_or old.least.items w None);
          depth = λ x. get_or old.depth.items x 0;
        }) v) (sym by) with_rows in
        let with_via = subst (λ (l : List ℕ). IsOpening net p m a
        (record {
          rows = (tree_of new).rows;
          columns = (tree_of new).columns;
          by = (tree_of new).by;
          via = λ w. get_or l w 0;
          least = λ w. option_map (λ (k : ℕ). pos k) (get_or old.least.items w None);
          depth = λ x. get_or old.depth.items x 0;
        }) v) (sym via) with_by in
        let with_least = subst (λ (l : List (Option ℕ)). IsOpening net p m a
        (record {
          rows = (tree_of new).rows;
          columns = (tree_of new).columns;
          by = (tree_of new).by;
          via = (tree_of new).via;
          least =
              λ w. option_map (λ (k : ℕ). pos k) (get_or l w None);
          depth = λ x. get_or old.depth.items x 0;
        }) v) (sym least) with_via in
        subst (λ (l : List ℕ). IsOpening net p m a
        (record {
          rows = (tree_of new).rows;
          columns = (tree_of new).columns;
          by = (tree_of new).by;
          via = (tree_of new).via;
          least =
              (tree_of new).least;
          depth = λ x. get_or l x 0;
        }) v) (sym depth) with_least
