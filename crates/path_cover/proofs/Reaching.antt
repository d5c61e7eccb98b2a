-- A row is reached, as the tree is kept.
use Rattle.std.proofs.Common.{Option, ap, ◌≡◌, ◌≢◌, ◌⊎◌, ◌==◌, ℕ, ℤ, pos, ◌+ℤ◌, ◌-ℤ◌, ◌≤ℤ◌, ◌+◌, ◌-◌, ◌<◌, ◌≤◌, Bool, true, false, cond, nat_lt, suc, Some, None, List, length, get_or, set, inl, inr, refl, sym, subst, ◌∙◌, arith, length-set}
use Rattle.std.specs.Prelude.{unwrap_or}
use Rattle.std.specs.Option.{option_map}
use Rattle.std.proofs.lemmas.Int.{ints}
use Rattle.std.proofs.lemmas.Bool.{cases_lt}
use Rattle.std.proofs.lemmas.Bool.Decides.{nat_tests}
use Rattle.std.proofs.lemmas.List.{get_or-set_same, get_or-set_other}
use Rattle.std.proofs.lemmas.Option.{same_Some}
use Rattle.path_cover.specs.declared.growth.Falls.{Falls}
use Rattle.path_cover.specs.declared.growth.Growth.{Growth}
use Rattle.path_cover.specs.declared.growth.Target.{Target}
use Rattle.path_cover.specs.declared.placing.Placing.{Placing}
use Rattle.path_cover.specs.Augmenting.{aim_of, potentials_of, tree_of}
use Rattle.path_cover.specs.Nets.{Net}
use Rattle.path_cover.specs.Potentials.{AreFeasible}
use Rattle.path_cover.specs.Trees.{Aim, Matching}
use Rattle.path_cover.specs.Scans.{IsScanned, kept_of, takes}
use Rattle.path_cover.specs.Searching.{IsOpened, IsReachedBy, row_offer, seen_count}
use Rattle.path_cover.proofs.Growing.{IsOfferedToo, reach_row}

-- what stands in a list that was changed at one place
pub set_at : {A : Type 0} → (xs : List A) (i : ℕ) (w d : A) → i < length xs → (t : ℕ) →
    get_or (set xs i w) t d ≡ cond (t == i) w (get_or xs t d)
set_at xs i w d within t = go (t == i) refl
  where
    go : (b : Bool) → (t == i) ≡ b → get_or (set xs i w) t d ≡ cond b w (get_or xs t d)
    go true e = let same : t ≡ i = grind (arith, nat_tests) in
        (let P : ℕ → Type 0 = λ s. get_or (set xs i w) s d ≡ w in subst P (sym same) (get_or-set_same xs i w d within))
    go false e = get_or-set_other xs i t w d
        (λ same. absurd (let test : (t == i) ≡ true = grind (arith, nat_tests) in let two : true ≡ false = sym test ∙ e in cc))

takes_none : (o : Option ℕ) → takes o None ≡ false
takes_none None = refl
takes_none (Some o) = refl

-- the less of what is kept and an offer
kept_offer : (old : Option ℕ) (o : ℕ) → (d : ℕ) × (kept_of old (Some o) ≡ Some d) × (d ≤ o)
kept_offer None o = (o, refl, omega arith)
kept_offer (Some k) o = elim (cases_lt o k) [
  | inl less ↦ let test : nat_lt o k ≡ true = grind (arith, nat_tests) in (o, rw test refl, omega arith)
  | inr more ↦ let test : nat_lt o k ≡ false = grind (arith, nat_tests) in (k, rw test refl, more)
]

kept_lower : (k : ℕ) (offer : Option ℕ) → (d : ℕ) × (kept_of (Some k) offer ≡ Some d) × (d ≤ k)
kept_lower k None = (k, refl, omega arith)
kept_lower k (Some o) = elim (cases_lt o k) [
  | inl less ↦ let test : nat_lt o k ≡ true = grind (arith, nat_tests) in (o, rw test refl, omega arith)
  | inr more ↦ let test : nat_lt o k ≡ false = grind (arith, nat_tests) in (k, rw test refl, omega arith)
]

-- a cost that is kept, and its number
pub unmap : (o : Option ℕ) (d : ℤ) → option_map (λ (k : ℕ). pos k) o ≡ Some d → (k : ℕ) × (o ≡ Some k) × (pos k ≡ d)
unmap None d e = absurd (cc)
unmap (Some k) d e = (k, refl, some_int (pos k) d e)
  where
    some_int : (a b : ℤ) → Some a ≡ Some b → a ≡ b
    some_int a b e = let f : Option ℤ → ℤ = λ o. unwrap_or o a in ap f e

-- an arc's offer is its reduced cost
pub offer_is : (c h t : ℕ) → t ≤ c + h → pos ((c + h) - t) ≡ pos c +ℤ ((pos 0 -ℤ pos t) -ℤ (pos 0 -ℤ pos h))
offer_is c h t fits = omega (arith, ints)

-- no arc has a negative reduced cost
pub fits_of : (c h t : ℕ) → ((pos 0 -ℤ pos h) -ℤ (pos 0 -ℤ pos t)) ≤ℤ pos c → t ≤ c + h
fits_of c h t e = omega (arith, ints)

-- what a new row keeps and what was kept before, from what a scan writes
pub scan_offers : (net : Net) (falls : Falls) (a : Aim) (old new : Growth) (x : ℕ) → AreFeasible net (potentials_of falls) → x ≤ net.nodes →
    new.columns.items ≡ old.columns.items →
    IsScanned (net.nodes + 1) x (row_offer net falls old x) old.least.items new.least.items old.via.items new.via.items →
    IsOfferedToo net (potentials_of falls) a x (tree_of old) (tree_of new)
scan_offers net falls a old new x feasible x_in columns scanned = record {
  columns = λ w. ap (λ (l : List Bool). get_or l w false) columns;
  via_seen = λ w w_in seen.
      let none : row_offer net falls old x w ≡ None = rw seen refl in
      let takes_not : takes (get_or old.least.items w None) (row_offer net falls old x w) ≡ false =
      ap (takes (get_or old.least.items w None)) none ∙ takes_none (get_or old.least.items w None) in
      scanned.via_below w (omega arith) ∙ rw takes_not refl;
  offer = λ w c w_in unseen arc.
      let at : row_offer net falls old x w ≡ Some ((c + head w) - tail) = rw (unseen, arc) refl in
      let kept = kept_offer (get_or old.least.items w None) ((c + head w) - tail) in
      let is : get_or new.least.items w None ≡ Some kept.0 =
      scanned.least_below w (omega arith) ∙ (ap (kept_of (get_or old.least.items w None)) at ∙ kept.1) in
      let fits = fits_of c (head w) tail (feasible x w c x_in w_in arc) in
      let low = kept.2 in
      let whole = offer_is c (head w) tail fits in
      (pos kept.0, ap (option_map (λ (k : ℕ). pos k)) is, omega (arith, ints));
  lower = λ w d w_in unseen was.
      let before = unmap (get_or old.least.items w None) d was in
      let kept = kept_lower before.0 (row_offer net falls old x w) in
      let is : get_or new.least.items w None ≡ Some kept.0 =
      scanned.least_below w (omega arith) ∙ (ap (λ (o : Option ℕ). kept_of o (row_offer net falls old x w)) before.1 ∙ kept.1) in
      let low = kept.2 in
      let same = before.2 in
      (pos kept.0, ap (option_map (λ (k : ℕ). pos k)) is, omega (arith, ints));
  either = λ w d w_in unseen is.
      choose w d w_in unseen (takes (get_or old.least.items w None) (row_offer net falls old x w)) refl
      (scanned.least_below w (omega arith)) (scanned.via_below w (omega arith)) is;
}
  where
    head : ℕ → ℕ
    head w = get_or falls.heads.items w 0

    tail : ℕ
    tail = get_or falls.tails.items x 0

    offered : (w : ℕ) (o : Option ℕ) → net.arc x w ≡ o → get_or old.columns.items w false ≡ false → (k : ℕ) →
        row_offer net falls old x w ≡ Some k → w ≤ net.nodes →
        (c : ℕ) × (net.arc x w ≡ Some c) × (pos k ≡ pos c +ℤ ((potentials_of falls).tail x -ℤ (potentials_of falls).head w))
    offered w None arc unseen k is w_in =
        absurd (let none : row_offer net falls old x w ≡ None = rw (unseen, arc) refl in let bad : None ≡ Some k = sym none ∙ is in cc)
    offered w (Some c) arc unseen k is w_in =
        let at : row_offer net falls old x w ≡ Some ((c + head w) - tail) = rw (unseen, arc) refl in
        let same : (c + head w) - tail ≡ k = same_Some ((c + head w) - tail) k (sym at ∙ is) in
        let fits = fits_of c (head w) tail (feasible x w c x_in w_in arc) in
        (c, arc, ap (λ (j : ℕ). pos j) (sym same) ∙ offer_is c (head w) tail fits)

    choose : (w : ℕ) (d : ℤ) → w ≤ net.nodes → get_or old.columns.items w false ≡ false → (b : Bool) →
        takes (get_or old.least.items w None) (row_offer net falls old x w) ≡ b →
        get_or new.least.items w None ≡ cond (takes (get_or old.least.items w None) (row_offer net falls old x w))
        (row_offer net falls old x w) (get_or old.least.items w None) →
        get_or new.via.items w 0 ≡ cond (takes (get_or old.least.items w None) (row_offer net falls old x w)) x (get_or old.via.items w 0) →
        (tree_of new).least w ≡ Some d →
        (((tree_of old).least w ≡ Some d) × ((tree_of new).via w ≡ (tree_of old).via w)) ⊎
        (((tree_of new).via w ≡ x)
        × ((c : ℕ) × (net.arc x w ≡ Some c) × (d ≡ pos c +ℤ ((potentials_of falls).tail x -ℤ (potentials_of falls).head w))))
    choose w d w_in unseen false test least via is =
        let same : get_or new.least.items w None ≡ get_or old.least.items w None = least ∙ rw test refl in
        inl (ap (option_map (λ (k : ℕ). pos k)) (sym same) ∙ is, via ∙ rw test refl)
    choose w d w_in unseen true test least via is =
        let same : get_or new.least.items w None ≡ row_offer net falls old x w = least ∙ rw test refl in
        let number = unmap (get_or new.least.items w None) d is in
        let found = offered w (net.arc x w) refl unseen number.0 (sym same ∙ number.1) w_in in
        inr (via ∙ rw test refl, (found.0, found.1, sym number.2 ∙ found.2))

-- a row that holds an opened column is reached
pub reach_opened : (net : Net) (falls : Falls) (placing : Placing) (old new : Growth) (target : Target) (v x : ℕ) (m : Matching) →
    IsOpened net falls placing old target v m → x ≤ net.nodes →
    get_or old.rows.items x false ≡ false → target.fixed ≤ x → (x < net.nodes → get_or placing.to.items x 0 ≡ v) →
    (x ≡ net.nodes → v < net.nodes → get_or placing.from.items v 0 ≡ net.nodes) →
    (x ≡ net.nodes → v ≡ net.nodes → 0 < placing.spare) → IsReachedBy net falls x v old new → IsOpened net falls placing new target v m
reach_opened net falls placing old new target v x m is x_in unseen movable row store stays by = record {
  seat = is.seat;
  sized = record {
    rows = ap length by.rows ∙ (length-set old.rows.items x true ∙ is.sized.rows);
    columns = ap length by.columns ∙ is.sized.columns;
    by = ap length by.reached ∙ (length-set old.by.items x v ∙ is.sized.by);
    via = by.scanned.via_count ∙ is.sized.via;
    least = by.scanned.least_count ∙ is.sized.least;
    depth = ap length by.depth ∙ (length-set old.depth.items x (above + 1) ∙ is.sized.depth);
  };
  deep = λ y. deep y (y == x) (depth_at y);
  low = record {
    most = is.low.most;
    all = is.low.all;
    tails = λ y hidden. tails y (y == x) (sym (row_at y) ∙ hidden);
    heads = λ w hidden. is.low.heads w (sym (ap (λ (l : List Bool). get_or l w false) by.columns) ∙ hidden);
  };
  above =
      let opening = is.opening in
      let depth_same : get_or new.depth.items (get_or new.via.items v 0) 0 ≡ above =
      ap (λ (y : ℕ). get_or new.depth.items y 0) via_same ∙ above_same in
      let below = is.above in
      let count : seen_count new.columns.items ≡ seen_count old.columns.items = ap seen_count by.columns in
      omega arith;
  opening = reach_row net (potentials_of falls) m (aim_of target) (tree_of old) (tree_of new) v x is.opening x_in unseen movable
      (λ below. sym (is.seat.kept.to x below) ∙ row below) (λ last below. sym (is.seat.kept.from v below) ∙ store last below)
      (λ last at_end. (let some = stays last at_end in let same = is.seat.kept.spare in omega arith))
      row_at by_at (λ y. depth_at y ∙ ap (λ (k : ℕ). cond (y == x) k (get_or old.depth.items y 0)) add_one) too;
}
  where
    above : ℕ
    above = get_or old.depth.items (get_or old.via.items v 0) 0

    add_one : above + 1 ≡ suc above
    add_one = omega arith

    too : IsOfferedToo net (potentials_of falls) (aim_of target) x (tree_of old) (tree_of new)
    too = scan_offers net falls (aim_of target) old new x is.seat.feasible x_in by.columns by.scanned

    row_at : (y : ℕ) → get_or new.rows.items y false ≡ cond (y == x) true (get_or old.rows.items y false)
    row_at y = let count = is.sized.rows in
        ap (λ (l : List Bool). get_or l y false) by.rows ∙ set_at old.rows.items x true false (omega arith) y

    by_at : (y : ℕ) → get_or new.by.items y 0 ≡ cond (y == x) v (get_or old.by.items y 0)
    by_at y = let count = is.sized.by in ap (λ (l : List ℕ). get_or l y 0) by.reached ∙ set_at old.by.items x v 0 (omega arith) y

    depth_at : (y : ℕ) → get_or new.depth.items y 0 ≡ cond (y == x) (above + 1) (get_or old.depth.items y 0)
    depth_at y = let count = is.sized.depth in
        ap (λ (l : List ℕ). get_or l y 0) by.depth ∙ set_at old.depth.items x (above + 1) 0 (omega arith) y

    deep : (y : ℕ) (b : Bool) → get_or new.depth.items y 0 ≡ cond b (above + 1) (get_or old.depth.items y 0) →
        get_or new.depth.items y 0 ≤ seen_count new.columns.items
    deep y true e = let count : seen_count new.columns.items ≡ seen_count old.columns.items = ap seen_count by.columns in
        let below = is.above in omega arith
    deep y false e = let count : seen_count new.columns.items ≡ seen_count old.columns.items = ap seen_count by.columns in
        let before = is.deep y in omega arith

    tails : (y : ℕ) (b : Bool) → cond b true (get_or old.rows.items y false) ≡ false → get_or falls.tails.items y 0 ≤ target.level
    tails y true hidden = absurd (cc)
    tails y false hidden = is.low.tails y hidden

    via_same : get_or new.via.items v 0 ≡ get_or old.via.items v 0
    via_same = too.via_seen v is.opening.within is.opening.opened

    other : get_or old.via.items v 0 ≢ x
    other same = absurd (
        let seen : get_or old.rows.items (get_or old.via.items v 0) false ≡ true = is.opening.step.seen in
        let P : ℕ → Type 0 = λ y. get_or old.rows.items y false ≡ true in
        let two : true ≡ false = sym (subst P same seen) ∙ unseen in cc)

    above_same : get_or new.depth.items (get_or old.via.items v 0) 0 ≡ above
    above_same =
        let count = is.sized.depth in
        ap (λ (l : List ℕ). get_or l (get_or old.via.items v 0) 0) by.depth
        ∙ get_or-set_other old.depth.items x (get_or old.via.items v 0) (above + 1) 0 other
