-- The walk back over matchings as they are kept.
use Rattle.std.proofs.Common.{◌≡◌, ◌≢◌, ◌⊎◌, ◌==◌, inl, inr, length-set, ℕ, pos, ◌≤ℤ◌, ◌+◌, ◌<◌, ◌≤◌, Bool, true, false, cond, nat_lt, zero, suc, List, length, get_or, set, refl, sym, ap, subst, ◌∙◌, arith}
use Rattle.std.proofs.lemmas.Int.{ints}
use Rattle.std.proofs.lemmas.Bool.Decides.{nat_tests}
use Rattle.std.proofs.lemmas.List.{get_or-set_same, get_or-set_other}
use Rattle.cover_core.proofs.Sums.{sum_first}
use Rattle.path_cover.specs.declared.growth.Falls.{Falls}
use Rattle.path_cover.specs.declared.growth.Growth.{Growth}
use Rattle.path_cover.specs.declared.growth.Target.{Target}
use Rattle.path_cover.specs.declared.placing.Placing.{Placing}
use Rattle.path_cover.specs.Augmenting.{IsFramed, IsTightAs, IsWalkOf, aim_of, potentials_of, tree_of}
use Rattle.path_cover.specs.Matchings.{IsHeld, IsTightArc, one}
use Rattle.path_cover.specs.Nets.{Net, IsRising}
use Rattle.path_cover.specs.Trees.{IsReached}
use Rattle.path_cover.proofs.AugmentingPaths.{placed_tight, walk_back}
use Rattle.path_cover.proofs.Keeping.{placed_kept, taken_kept}
use Rattle.path_cover.proofs.Moves.{same_or_not}
use Rattle.path_cover.proofs.Walking.{moved, placed, rooted_held, taken}

-- the rows and columns of a walk are there
pub walk_in : (net : Net) (falls : Falls) (target : Target) (growth : Growth) (placing : Placing) (hole : ℕ) →
    IsWalkOf net falls target growth placing hole → (hole ≤ net.nodes) × (get_or growth.via.items hole 0 ≤ net.nodes)
walk_in net falls target growth placing hole walk = (walk.2.place.column_in, walk.2.step.within)

ones_low : (f : ℕ → Bool) (n : ℕ) → pos 0 ≤ℤ sum_first (λ t. one (f t)) n
ones_low f zero = omega (arith, ints)
ones_low f (suc n) = let rest = ones_low f n in let last = go (f n) in omega (arith, ints)
  where
    go : (b : Bool) → pos 0 ≤ℤ one b
    go true = omega (arith, ints)
    go false = omega (arith, ints)

-- no more places are free or spare than there may be paths
pub few_places : (n most : ℕ) (to from : ℕ → ℕ) (spare room : ℕ) → IsHeld n most to from spare room → spare + room ≤ most
few_places n most to from spare room is = let low = ones_low (λ t. to t == n) n in let ends = is.ends in omega (arith, ints)

pub walk_few : (net : Net) (falls : Falls) (target : Target) (growth : Growth) (placing : Placing) (hole : ℕ) →
    IsWalkOf net falls target growth placing hole → placing.spare + placing.room ≤ net.most
walk_few net falls target growth placing hole walk =
    let few = few_places net.nodes net.most walk.0.to walk.0.from walk.0.spare walk.0.room walk.2.held in
    let spare = walk.1.spare in
    let room = walk.1.room in
    omega arith

-- what take_out and put_in ensure
abbrev pub IsTaken : ℕ → ℕ → ℕ → ℕ → Placing → Placing → Type 0
IsTaken n free x v old new =
    (new.to.items ≡ cond (nat_lt x n) (set old.to.items x free) old.to.items)
    × (new.from.items ≡ cond (nat_lt v n) (set old.from.items v free) old.from.items) ×
    (new.room ≡ old.room + cond (nat_lt v n) 0 1) × (new.spare + cond (nat_lt v n) 0 (cond (nat_lt x n) 0 1) ≡ old.spare)

abbrev pub IsPlaced : ℕ → ℕ → ℕ → Placing → Placing → Type 0
IsPlaced n x v old new =
    (new.to.items ≡ cond (nat_lt x n) (set old.to.items x v) old.to.items)
    × (new.from.items ≡ cond (nat_lt v n) (set old.from.items v x) old.from.items) ×
    (new.room + cond (nat_lt v n) 0 1 ≡ old.room) × (new.spare ≡ old.spare + cond (nat_lt v n) 0 (cond (nat_lt x n) 0 1))

walk_more_here : (net : Net) → IsRising net → (falls : Falls) (target : Target) (growth : Growth) (old mid new : Placing) (free hole : ℕ) →
    net.nodes < free →
    get_or growth.via.items hole 0 ≢ target.root → IsWalkOf net falls target growth old hole →
    IsTaken net.nodes free (get_or growth.via.items hole 0) (get_or growth.by.items (get_or growth.via.items hole 0) 0) old mid →
    IsPlaced net.nodes (get_or growth.via.items hole 0) hole mid new →
    IsWalkOf net falls target growth new (get_or growth.by.items (get_or growth.via.items hole 0) 0)
walk_more_here net rising falls target growth old mid new free hole outside apart walk out put =
    let m = walk.0 in
    let kept = walk.1 in
    let x = get_or growth.via.items hole 0 in
    let back = get_or growth.by.items x 0 in
    let w = walk.2 in
    let is : IsReached net m (aim_of target) (tree_of growth) x = w.reached x w.step.within w.step.seen apart (omega arith) in
    let within = w.step.within in
    let inside = is.within in
    let some : net.nodes ≤ x → net.nodes ≤ back → 0 < old.spare =
    λ past past'. (let stays = is.stays (omega arith) (omega arith) in let same = kept.spare in omega arith) in
    let taken_is = taken_kept net.nodes free x back old mid m kept some out.0 out.1 out.2 out.3 in (
      moved net.nodes free x back hole m,
      placed_kept net.nodes x hole mid new (taken net.nodes free x back m) taken_is put.0 put.1 put.2 put.3,
      walk_back net rising (potentials_of falls) (aim_of target) (tree_of growth) m hole free outside w apart,
    )

-- one turn of the loop
pub walk_more : (net : Net) → IsRising net →
    (falls : Falls) (target : Target) (growth : Growth) (old mid new : Placing) (free hole n row back : ℕ) → net.nodes < free →
    n ≡ net.nodes → row ≡ get_or growth.via.items hole 0 → back ≡ get_or growth.by.items row 0 → row ≢ target.root →
    IsWalkOf net falls target growth old hole →
    IsTaken n free row back old mid → IsPlaced n row hole mid new → IsWalkOf net falls target growth new back
walk_more net rising falls target growth old mid new free hole n row back outside n_is row_is back_is apart walk out put =
    let via = get_or growth.via.items hole 0 in
    let by = get_or growth.by.items via 0 in
    let by_is : back ≡ by = back_is ∙ ap (λ (x : ℕ). get_or growth.by.items x 0) row_is in
    let A : ℕ → Type 0 = λ x. x ≢ target.root in
    let O1 : ℕ → Type 0 = λ k. IsTaken k free row back old mid in
    let O2 : ℕ → Type 0 = λ x. IsTaken net.nodes free x back old mid in
    let O3 : ℕ → Type 0 = λ v. IsTaken net.nodes free via v old mid in
    let P1 : ℕ → Type 0 = λ k. IsPlaced k row hole mid new in
    let P2 : ℕ → Type 0 = λ x. IsPlaced net.nodes x hole mid new in
    let W : ℕ → Type 0 = λ v. IsWalkOf net falls target growth new v in
    subst W (sym by_is) (walk_more_here net rising falls target growth old mid new free hole outside (subst A row_is apart) walk
    (subst O3 by_is (subst O2 row_is (subst O1 n_is out))) (subst P2 row_is (subst P1 n_is put)))

-- the root takes its column at last
pub walk_done : (net : Net) → IsRising net → (falls : Falls) (target : Target) (growth : Growth) (old new : Placing) (hole n row : ℕ) →
    n ≡ net.nodes → row ≡ get_or growth.via.items hole 0 → row ≡ target.root → IsWalkOf net falls target growth old hole →
    IsPlaced n row hole old new → IsTightAs net falls new
walk_done net rising falls target growth old new hole n row n_is row_is at_root walk put =
    let m = walk.0 in
    let kept = walk.1 in
    let w = walk.2 in
    let root = target.root in
    let P1 : ℕ → Type 0 = λ k. IsPlaced k row hole old new in
    let P2 : ℕ → Type 0 = λ x. IsPlaced net.nodes x hole old new in
    let put' : IsPlaced net.nodes root hole old new = subst P2 at_root (subst P1 n_is put) in
    let arc = subst (λ (x : ℕ). IsTightArc net (potentials_of falls) x hole) (sym row_is ∙ at_root) w.step.tight in
    let root_in = w.root_in in (
      placed net.nodes root hole m,
      placed_kept net.nodes root hole old new m kept put'.0 put'.1 put'.2 put'.3,
      rooted_held net.nodes net.most root hole m w.held root_in w.root_free w.place,
      placed_tight net rising (potentials_of falls) root hole m w.tight arc root_in w.place.column_in,
    )

-- what moves keep of a list of columns
frame_put : (n x v : ℕ) (target : Target) (first old new : List ℕ) → IsFramed n target first old → length old ≡ n →
    (target.fixed ≤ x) ⊎ (x ≡ target.root) → v ≤ n →
    new ≡ cond (nat_lt x n) (set old x v) old → IsFramed n target first new
frame_put n x v target first old new is count movable v_in e = go (nat_lt x n) refl e
  where
    go : (b : Bool) → nat_lt x n ≡ b → new ≡ cond b (set old x v) old → IsFramed n target first new
    go false test e = subst (IsFramed n target first) (sym e) is
    go true test e = record {
      fixed = λ t below apart.
          let not : t ≢ x = λ same. elim movable [ inl past ↦ omega arith | inr root ↦ absurd (apart (same ∙ root)) ] in
          ap (λ (l : List ℕ). get_or l t 0) e ∙ (get_or-set_other old x t v 0 not ∙ is.fixed t below apart);
      rows = λ t t_in placed_before. elim (same_or_not t x) [
        | inl same ↦
            let x_in : x < length old = omega arith in
            let at : get_or new t 0 ≡ v =
            ap (λ (l : List ℕ). get_or l t 0) e
            ∙ (let P : ℕ → Type 0 = λ s. get_or (set old x v) s 0 ≡ v in subst P (sym same) (get_or-set_same old x v 0 x_in)) in
            omega arith
        | inr apart ↦
            let kept = is.rows t t_in placed_before in
            let at : get_or new t 0 ≡ get_or old t 0 = ap (λ (l : List ℕ). get_or l t 0) e ∙ get_or-set_other old x t v 0 apart in
            omega arith
      ];
    }

-- setting twice at one place is setting once
pub twice : (n x a v : ℕ) (old mid new : List ℕ) → mid ≡ cond (nat_lt x n) (set old x a) old → new ≡ cond (nat_lt x n) (set mid x v) mid →
    length old ≡ n → (t : ℕ) → get_or new t 0 ≡ get_or (cond (nat_lt x n) (set old x v) old) t 0
twice n x a v old mid new e e' count t = go (nat_lt x n) refl e e'
  where
    go : (b : Bool) → nat_lt x n ≡ b → mid ≡ cond b (set old x a) old → new ≡ cond b (set mid x v) mid →
        get_or new t 0 ≡ get_or (cond b (set old x v) old) t 0
    go false test e e' = ap (λ (l : List ℕ). get_or l t 0) (e' ∙ e)
    go true test e e' =
        let below : x < n = grind (arith, nat_tests) in
        elim (same_or_not t x) [
          | inl same ↦ (
              let P : ℕ → Type 0 = λ s. get_or new s 0 ≡ get_or (set old x v) s 0 in
              let mid_count : length mid ≡ length old = ap length e ∙ length-set old x a in
              subst P (sym same) (ap (λ (l : List ℕ). get_or l x 0) e'
              ∙ (get_or-set_same mid x v 0 (omega arith) ∙ sym (get_or-set_same old x v 0 (omega arith)))))
          | inr apart ↦
              ap (λ (l : List ℕ). get_or l t 0) e'
              ∙ (get_or-set_other mid x t v 0 apart
              ∙ (ap (λ (l : List ℕ). get_or l t 0) e ∙ (get_or-set_other old x t a 0 apart ∙ sym (get_or-set_other old x t v 0 apart))))
        ]

frame_same : (n : ℕ) (target : Target) (first a b : List ℕ) → ((t : ℕ) → get_or b t 0 ≡ get_or a t 0) → IsFramed n target first a →
    IsFramed n target first b
frame_same n target first a b same is = record {
  fixed = λ t below apart. same t ∙ is.fixed t below apart;
  rows = λ t t_in placed_before. let kept = is.rows t t_in placed_before in let e = same t in omega arith;
}

-- one turn of the loop keeps the frame
pub frame_more : (net : Net) (falls : Falls) (target : Target) (growth : Growth) (old mid new : Placing) (first : List ℕ)
    (free hole n row back : ℕ) →
    n ≡ net.nodes → row ≡ get_or growth.via.items hole 0 → row ≢ target.root → IsWalkOf net falls target growth old hole →
    IsFramed net.nodes target first old.to.items →
    IsTaken n free row back old mid → IsPlaced n row hole mid new → IsFramed net.nodes target first new.to.items
frame_more net falls target growth old mid new first free hole n row back n_is row_is apart walk framed out put =
    let w = walk.2 in
    let A : ℕ → Type 0 = λ x. x ≢ target.root in
    let is : IsReached net walk.0 (aim_of target) (tree_of growth) (get_or growth.via.items hole 0) =
    w.reached (get_or growth.via.items hole 0) w.step.within w.step.seen (subst A row_is apart) (omega arith) in
    let movable : target.fixed ≤ row = (let past = is.movable in omega arith) in
    let count : length old.to.items ≡ n = walk.1.to_count ∙ sym n_is in
    let F : ℕ → Type 0 = λ k. IsFramed k target first old.to.items in
    let G : ℕ → Type 0 = λ k. IsFramed k target first new.to.items in
    let hole_in : hole ≤ n = (let inside = w.place.column_in in omega arith) in
    let once = frame_put n row hole target first old.to.items (cond (nat_lt row n) (set old.to.items row hole) old.to.items)
    (subst F (sym n_is) framed) count (inl movable) hole_in refl in
    subst G n_is (frame_same n target first (cond (nat_lt row n) (set old.to.items row hole) old.to.items) new.to.items
    (twice n row free hole old.to.items mid.to.items new.to.items out.0 put.0 count) once)

-- and so does the root at last, which takes an allowed column
pub frame_done : (net : Net) (falls : Falls) (target : Target) (growth : Growth) (old new : Placing) (first : List ℕ) (hole n row : ℕ) →
    n ≡ net.nodes → row ≡ get_or growth.via.items hole 0 → row ≡ target.root → IsWalkOf net falls target growth old hole →
    IsFramed net.nodes target first old.to.items → IsPlaced n row hole old new →
    IsFramed net.nodes target first new.to.items × (get_or new.to.items target.root 0 < target.limit)
    × (get_or new.to.items target.root 0 ≤ net.nodes)
frame_done net falls target growth old new first hole n row n_is row_is at_root walk framed put =
    let w = walk.2 in
    let count : length old.to.items ≡ n = walk.1.to_count ∙ sym n_is in
    let inside = w.place.column_in in
    let hole_in : hole ≤ n = omega arith in
    let F : ℕ → Type 0 = λ k. IsFramed k target first old.to.items in
    let G : ℕ → Type 0 = λ k. IsFramed k target first new.to.items in
    let root_in = w.root_in in
    let row_in : row < n = (let e = at_root in omega arith) in
    let test : nat_lt row n ≡ true = grind (arith, nat_tests) in
    let set_is : new.to.items ≡ set old.to.items row hole = put.0 ∙ rw test refl in
    let at_row : get_or new.to.items row 0 ≡ hole =
    ap (λ (l : List ℕ). get_or l row 0) set_is ∙ get_or-set_same old.to.items row hole 0 (omega arith) in
    let at : get_or new.to.items target.root 0 ≡ hole =
    (let P : ℕ → Type 0 = λ x. get_or new.to.items x 0 ≡ hole in subst P at_root at_row) in
    let low : hole < target.limit = w.step.allowed (sym row_is ∙ at_root) in (
      subst G n_is (frame_put n row hole target first old.to.items new.to.items (subst F (sym n_is) framed) count (inr at_root) hole_in
          put.0),
      omega arith,
      omega arith,
    )

pub frame_start : (n : ℕ) (target : Target) (first : List ℕ) → IsFramed n target first first
frame_start n target first = record { fixed = λ t below apart. refl; rows = λ t t_in placed_before. placed_before }
