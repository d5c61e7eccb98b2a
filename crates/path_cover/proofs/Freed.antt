-- A row leaves its column, and may get it back.
use Rattle.std.proofs.Common.{ap, ◌≡◌, ◌≢◌, ◌==◌, ℕ, ℤ, pos, ◌+ℤ◌, ◌+◌, ◌-◌, ◌<◌, ◌≤◌, Bool, true, false, cond, nat_lt, List, length, get_or, set, inl, inr, sym, subst, ◌∙◌, arith}
use Rattle.std.proofs.lemmas.List.{get_or-set_same, get_or-set_other}
use Rattle.cover_core.proofs.Sums.{sum_first, sum_first-same}
use Rattle.path_cover.specs.declared.growth.Falls.{Falls}
use Rattle.path_cover.specs.declared.placing.Placing.{Placing}
use Rattle.path_cover.specs.Augmenting.{potentials_of}
use Rattle.path_cover.specs.Matchings.{IsHeld, IsTightArc, IsTightMatching, one}
use Rattle.path_cover.specs.Nets.{Net, IsRising}
use Rattle.path_cover.specs.Potentials.{Potentials}
use Rattle.path_cover.specs.Trees.{Matching}
use Rattle.path_cover.specs.Searching.{IsSeat, IsSeated}
use Rattle.path_cover.proofs.AugmentingPaths.{placed_tight}
use Rattle.path_cover.proofs.Keeping.{placed_kept, taken_kept}
use Rattle.path_cover.proofs.Moves.{but_held, held_but, put, put_other, put_same, same_or_not}
use Rattle.path_cover.proofs.Walking.{Holds, HeldBut, lt_true, placed, rooted_held, taken, taken_held, taken_place, taken_row}
use Rattle.path_cover.proofs.WalkSteps.{IsPlaced, IsTaken, few_places, twice}

taken_tight : (net : Net) (p : Potentials) (free t v : ℕ) (m : Matching) → net.nodes < free → t < net.nodes →
    IsTightMatching net p m.to m.from m.spare →
    IsTightMatching net p (taken net.nodes free t v m).to (taken net.nodes free t v m).from (taken net.nodes free t v m).spare
taken_tight net p free t v m outside t_in tight = record {
  rows = λ s s_in there. elim (same_or_not s t) [
    | inl same ↦ absurd (
        let row = lt_true t net.nodes t_in in
        let at : (taken net.nodes free t v m).to s ≡ free =
        ap (λ (b : Bool). cond b (put t free m.to) m.to s) row ∙ (ap (put t free m.to) same ∙ put_same t free m.to) in
        omega arith)
    | inr apart ↦
        let row = lt_true t net.nodes t_in in
        let at : (taken net.nodes free t v m).to s ≡ m.to s =
        ap (λ (b : Bool). cond b (put t free m.to) m.to s) row ∙ put_other t free m.to s apart in
        subst (λ (w : ℕ). IsTightArc net p s w) (sym at) (tight.rows s s_in (omega arith))
  ];
  store = λ u u_in from_store. tight.store u u_in (from_before u (nat_lt v net.nodes) from_store);
  stays = λ some. tight.stays (spare_before (nat_lt v net.nodes) (nat_lt t net.nodes) (lt_true t net.nodes t_in) some);
}
  where
    from_before : (u : ℕ) (b : Bool) → cond b (put v free m.from) m.from u ≡ net.nodes → m.from u ≡ net.nodes
    from_before u false e = e
    from_before u true e = elim (same_or_not u v) [
      | inl same ↦ absurd (let at : put v free m.from u ≡ free = ap (put v free m.from) same ∙ put_same v free m.from in omega arith)
      | inr apart ↦ sym (put_other v free m.from u apart) ∙ e
    ]

    spare_before : (b c : Bool) → c ≡ true → 0 < cond b m.spare (cond c m.spare (m.spare - 1)) → 0 < m.spare
    spare_before true c e some = some
    spare_before false true e some = some
    spare_before false false e some = absurd (cc)

-- The row's place is taken off: what is left is a tight matching that lacks this one row, and a search from it may begin.
pub freed : (net : Net) (falls : Falls) (old mid : Placing) (free t v : ℕ) (m : Matching) → IsSeat net falls old m → net.nodes < free →
    t < net.nodes → v ≡ get_or old.to.items t 0 → v ≤ net.nodes →
    IsTaken net.nodes free t v old mid → IsSeat net falls mid (taken net.nodes free t v m)
freed net falls old mid free t v m is outside t_in v_is v_in out = record {
  kept = taken_kept net.nodes free t v old mid m is.kept (λ past past_too. absurd (omega arith)) out.0 out.1 out.2 out.3;
  held = but_held net.nodes net.most _ _ _ _ hand;
  tight = taken_tight net (potentials_of falls) free t v m outside t_in is.tight;
  places = is.places;
  feasible = is.feasible;
  few = is.few;
}
  where
    goes : m.to t ≡ v
    goes = sym (is.kept.to t t_in) ∙ sym v_is

    holds : Holds net.nodes t v m
    holds = record {
      row_in = omega arith;
      column_in = v_in;
      row = λ below. goes;
      store = λ last. absurd (omega arith);
      stays =
          λ last. absurd (omega arith);
    }

    hand : HeldBut net.nodes net.most 0 (taken net.nodes free t v m)
    hand =
        let row = lt_true t net.nodes t_in in
        let H : Bool → Type 0 = λ b. HeldBut net.nodes net.most (cond b 0 1) (taken net.nodes free t v m) in
        subst H row (taken_held net.nodes net.most free t v m
        (held_but net.nodes net.most m.to m.from m.spare m.room is.held) outside holds)

-- it has none then
pub freed_row : (net : Net) (old mid : Placing) (free t v : ℕ) → length old.to.items ≡ net.nodes → net.nodes < free → t < net.nodes →
    IsTaken net.nodes free t v old mid → net.nodes < get_or mid.to.items t 0
freed_row net old mid free t v count outside t_in out =
    let row = lt_true t net.nodes t_in in
    let at : get_or mid.to.items t 0 ≡ free =
    ap (λ (l : List ℕ). get_or l t 0) out.0
    ∙ (ap (λ (b : Bool). get_or (cond b (set old.to.items t free) old.to.items) t 0) row
    ∙ get_or-set_same old.to.items t free 0 (omega arith)) in
    omega arith

-- others keep theirs
pub freed_other : (net : Net) (old mid : Placing) (free t v s : ℕ) → t < net.nodes → s ≢ t → IsTaken net.nodes free t v old mid →
    get_or mid.to.items s 0 ≡ get_or old.to.items s 0
freed_other net old mid free t v s t_in apart out =
    let row = lt_true t net.nodes t_in in
    ap (λ (l : List ℕ). get_or l s 0) out.0
    ∙ (ap (λ (b : Bool). get_or (cond b (set old.to.items t free) old.to.items) s 0) row ∙ get_or-set_other old.to.items t s free 0 apart)

-- And the row gets it back where the search was stuck: the same matching as before, since a stuck search has moved no row. So
-- trying for an earlier column costs nothing if there is none.
pub restored : (net : Net) → IsRising net → (falls : Falls) (old mid new : Placing) (free t v : ℕ) (m : Matching) → IsSeat net falls old m →
    net.nodes < free → t < net.nodes → v ≡ get_or old.to.items t 0 → v ≤ net.nodes →
    IsTaken net.nodes free t v old mid → IsPlaced net.nodes t v mid new → IsSeated net falls new
restored net rising falls old mid new free t v m is outside t_in v_is v_in out put_back =
    let part = taken net.nodes free t v m in
    let mid_is = freed net falls old mid free t v m is outside t_in v_is v_in out in
    let goes : m.to t ≡ v = sym (is.kept.to t t_in) ∙ sym v_is in
    let arc : IsTightArc net (potentials_of falls) t v =
    subst (λ (w : ℕ). IsTightArc net (potentials_of falls) t w) goes (is.tight.rows t t_in (omega arith)) in (
      placed net.nodes t v part,
      record {
        kept = placed_kept net.nodes t v mid new part mid_is.kept put_back.0 put_back.1 put_back.2 put_back.3;
        held = rooted_held net.nodes net.most t v part mid_is.held t_in (taken_row net.nodes free t v m outside t_in)
            (taken_place net.nodes free t v m outside v_in);
        tight = placed_tight net rising (potentials_of falls) t v part mid_is.tight arc t_in v_in;
        places = is.places;
        feasible = is.feasible;
        few = is.few;
      },
    )

pub restored_rows : (net : Net) (old mid new : Placing) (free t v : ℕ) → length old.to.items ≡ net.nodes → t < net.nodes →
    v ≡ get_or old.to.items t 0 →
    IsTaken net.nodes free t v old mid → IsPlaced net.nodes t v mid new → (s : ℕ) → get_or new.to.items s 0 ≡ get_or old.to.items s 0
restored_rows net old mid new free t v count t_in v_is out put_back s =
    let row = lt_true t net.nodes t_in in
    twice net.nodes t free v old.to.items mid.to.items new.to.items out.0 put_back.0 count s
    ∙ (ap (λ (b : Bool). get_or (cond b (set old.to.items t v) old.to.items) s 0) row ∙ same)
  where
    same : get_or (set old.to.items t v) s 0 ≡ get_or old.to.items s 0
    same = elim (same_or_not s t) [
      | inl is ↦ (let P : ℕ → Type 0 = λ k. get_or (set old.to.items t v) k 0 ≡ get_or old.to.items k 0 in
          subst P (sym is) (get_or-set_same old.to.items t v 0 (omega arith) ∙ v_is))
      | inr apart ↦ get_or-set_other old.to.items t s v 0 apart
    ]

-- places of the end and the store are few
pub seat_few : (net : Net) (falls : Falls) (placing : Placing) → IsSeated net falls placing →
    (placing.room + 1 < 4294967296) × (placing.spare + 1 < 4294967296)
seat_few net falls placing seated =
    let m = seated.0 in
    let is = seated.1 in
    let few = few_places net.nodes net.most m.to m.from m.spare m.room is.held in
    let most = is.few in
    let spare = is.kept.spare in
    let room = is.kept.room in
    (omega arith, omega arith)

-- the matching as its lists say it
pub seat_plain : (net : Net) (falls : Falls) (placing : Placing) (m : Matching) → IsSeat net falls placing m →
    IsHeld net.nodes net.most (λ t. get_or placing.to.items t 0) (λ u. get_or placing.from.items u 0) placing.spare placing.room ×
    IsTightMatching net (potentials_of falls) (λ t. get_or placing.to.items t 0) (λ u. get_or placing.from.items u 0) placing.spare
seat_plain net falls placing m is = (
  record {
    matched = record {
      onto = λ t u t_in u_in e. is.kept.from u u_in ∙ is.held.matched.onto t u t_in u_in (sym (is.kept.to t t_in) ∙ e);
      back = λ t u t_in u_in e. is.kept.to t t_in ∙ is.held.matched.back t u t_in u_in (sym (is.kept.from u u_in) ∙ e);
    };
    ends =
        let same : sum_first (λ t. one (get_or placing.to.items t 0 == net.nodes)) net.nodes
        ≡ sum_first (λ t. one (m.to t == net.nodes)) net.nodes =
        sum_first-same _ _ net.nodes (λ t t_in. ap (λ (w : ℕ). one (w == net.nodes)) (is.kept.to t t_in)) in
        ap (λ (z : ℤ). z +ℤ pos (placing.spare + placing.room)) same
        ∙ (ap (λ (k : ℕ). sum_first (λ t. one (m.to t == net.nodes)) net.nodes +ℤ pos k) both ∙ is.held.ends);
    starts =
        let same : sum_first (λ u. one (get_or placing.from.items u 0 == net.nodes)) net.nodes
        ≡ sum_first (λ u. one (m.from u == net.nodes)) net.nodes =
        sum_first-same _ _ net.nodes (λ u u_in. ap (λ (w : ℕ). one (w == net.nodes)) (is.kept.from u u_in)) in
        ap (λ (z : ℤ). z +ℤ pos placing.spare) same
        ∙ (ap (λ (k : ℕ). sum_first (λ u. one (m.from u == net.nodes)) net.nodes +ℤ pos k) is.kept.spare ∙ is.held.starts);
  },
  record {
    rows = λ t t_in there.
        let same = is.kept.to t t_in in
        subst (λ (w : ℕ). IsTightArc net (potentials_of falls) t w) (sym same) (is.tight.rows t t_in (omega arith));
    store = λ u u_in from_store. is.tight.store u u_in (sym (is.kept.from u u_in) ∙ from_store);
    stays = λ some. is.tight.stays (let same = is.kept.spare in omega arith);
  },
)
  where
    both : placing.spare + placing.room ≡ m.spare + m.room
    both = let spare = is.kept.spare in let room = is.kept.room in omega arith
