-- The tree of the root alone.
use Rattle.std.proofs.Common.{Option, ap, ◌≡◌, ◌==◌, ℕ, ℤ, pos, ◌+ℤ◌, ◌-ℤ◌, ◌≤ℤ◌, ◌+◌, ◌-◌, ◌<◌, ◌≤◌, Bool, true, false, cond, Some, None, List, length, get_or, inl, inr, refl, sym, subst, ◌∙◌, arith}
use Rattle.std.specs.Option.{option_map}
use Rattle.std.proofs.lemmas.Int.{ints}
use Rattle.std.proofs.lemmas.Bool.{cases_lt}
use Rattle.std.proofs.lemmas.Bool.Decides.{nat_tests}
use Rattle.std.proofs.lemmas.List.{get_or_past}
use Rattle.std.proofs.lemmas.Option.{same_Some}
use Rattle.path_cover.specs.declared.growth.Falls.{Falls}
use Rattle.path_cover.specs.declared.growth.Growth.{Growth}
use Rattle.path_cover.specs.declared.growth.Target.{Target}
use Rattle.path_cover.specs.declared.placing.Placing.{Placing}
use Rattle.path_cover.specs.Augmenting.{aim_of, potentials_of, tree_of}
use Rattle.path_cover.specs.Nets.{Net}
use Rattle.path_cover.specs.Scans.{IsScanned, kept_of, offer_of, via_of}
use Rattle.path_cover.specs.Trees.{IsKept, Matching}
use Rattle.path_cover.specs.Searching.{AreLow, IsSeat, IsSeated, IsSized, IsTreedAs}
use Rattle.path_cover.proofs.Moves.{same_or_not}
use Rattle.path_cover.proofs.Reaching.{fits_of, offer_is, unmap}

-- a list that holds one value has it past its end too
pub all_past : {A : Type 0} → (xs : List A) (n : ℕ) (d : A) → length xs ≡ n → ((i : ℕ) → i < n → get_or xs i d ≡ d) →
    (i : ℕ) → get_or xs i d ≡ d
all_past xs n d count each i = elim (cases_lt i n) [
  | inl below ↦ each i below
  | inr past ↦ get_or_past xs i d (omega arith)
]

-- what is kept of one row's offers
pub record IsRoot (net : Net) (falls : Falls) (target : Target) (columns : List Bool) (least : List (Option ℕ)) (via : List ℕ)
    (growth : Growth) : Type 0 where
  pub sized : IsSized net.nodes growth
  pub rows : (x : ℕ) → get_or growth.rows.items x false ≡ cond (x == target.root) true false
  pub columns_none : (v : ℕ) → get_or growth.columns.items v false ≡ false
  pub depth_none : (x : ℕ) → get_or growth.depth.items x 0 ≡ 0
  pub before_none : (v : ℕ) → get_or columns v false ≡ false
  pub least_none : (v : ℕ) → get_or least v None ≡ None
  pub scanned : IsScanned target.limit target.root
      (λ v. offer_of (get_or columns v false) (net.arc target.root v) (get_or falls.heads.items v 0)
      (get_or falls.tails.items target.root 0)) least growth.least.items via growth.via.items

pub root_treed : (net : Net) (falls : Falls) (placing : Placing) (target : Target) (columns : List Bool) (least : List (Option ℕ))
    (via : List ℕ) (growth : Growth) →
    IsSeated net falls placing → target.root < net.nodes → target.fixed ≤ net.nodes → target.level ≤ 5000000000000000 →
    AreLow falls target.level → net.nodes < get_or placing.to.items target.root 0 →
    IsRoot net falls target columns least via growth → IsTreedAs net falls placing growth target
root_treed net falls placing target columns least via growth seated root_in fixed_in level low free is = (
  m,
  record {
    seat = seat;
    sized = is.sized;
    deep = λ x. (let none = is.depth_none x in omega arith);
    low = record {
      most = level;
      all = λ i. (let tails = (low i).0 in let heads = (low i).1 in (omega arith, omega arith));
      tails = λ x hidden. (low x).0;
      heads = λ v hidden. (low v).1;
    };
    tree = record {
      root_in = root_in;
      root_free = (let same = seat.kept.to target.root root_in in omega arith);
      root_seen = is.rows target.root ∙ (let test : (target.root == target.root) ≡ true = grind (arith, nat_tests) in rw test refl);
      fixed_in = fixed_in;
      reached = λ x x_in seen apart. absurd (apart (only x seen));
      full = λ v v_in seen. absurd (let two : true ≡ false = sym seen ∙ is.columns_none v in cc);
      offered = λ x v c x_in v_in row column allowed e.
          let at_root = only x row in
          let below = allowed at_root in
          let arc : net.arc target.root v ≡ Some c = ap (λ (y : ℕ). net.arc y v) (sym at_root) ∙ e in
          let hidden = is.before_none v in
          let offer : offer_at v ≡ Some ((c + head v) - tail) = rw (hidden, arc) refl in
          let kept : get_or growth.least.items v None ≡ Some ((c + head v) - tail) =
          is.scanned.least_below v below ∙ (ap (λ (o : Option ℕ). kept_of o (offer_at v)) (is.least_none v) ∙ ap (kept_of None) offer) in
          let whole = offer_is c (head v) tail (fits_of c (head v) tail (seat.feasible target.root v c (omega arith) v_in arc)) in
          let P : ℕ → Type 0 = λ y. pos ((c + head v) - tail) ≤ℤ
          (pos c +ℤ ((pos 0 -ℤ pos (get_or falls.tails.items y 0)) -ℤ (pos 0 -ℤ pos (head v)))) in
          (pos ((c + head v) - tail), ap (option_map (λ (k : ℕ). pos k)) kept, subst P (sym at_root) (omega (arith, ints)));
      kept = λ v d v_in column e. elim (cases_lt v target.limit) [
        | inl below ↦
            let hidden = is.before_none v in
            kept v d v_in below (net.arc target.root v) refl hidden (unmap (get_or growth.least.items v None) d e)
        | inr past ↦ absurd (
            let none : get_or growth.least.items v None ≡ None = is.scanned.least_past v past ∙ is.least_none v in
            let number = unmap (get_or growth.least.items v None) d e in
            let bad : None ≡ Some number.0 = sym none ∙ number.1 in
            cc)
      ];
    };
  },
)
  where
    m : Matching
    m = seated.0

    seat : IsSeat net falls placing m
    seat = seated.1

    head : ℕ → ℕ
    head v = get_or falls.heads.items v 0

    tail : ℕ
    tail = get_or falls.tails.items target.root 0

    offer_at : ℕ → Option ℕ
    offer_at v = offer_of (get_or columns v false) (net.arc target.root v) (get_or falls.heads.items v 0)
        (get_or falls.tails.items target.root 0)

    only : (x : ℕ) → get_or growth.rows.items x false ≡ true → x ≡ target.root
    only x seen = elim (same_or_not x target.root) [
      | inl same ↦ same
      | inr apart ↦ absurd (
          let test : (x == target.root) ≡ false = grind (arith, nat_tests) in
          let hidden : get_or growth.rows.items x false ≡ false = is.rows x ∙ rw test refl in
          let two : true ≡ false = sym seen ∙ hidden in
          cc)
    ]

    kept : (v : ℕ) (d : ℤ) → v ≤ net.nodes → v < target.limit → (o : Option ℕ) → net.arc target.root v ≡ o →
        get_or columns v false ≡ false → (k : ℕ) × (get_or growth.least.items v None ≡ Some k) × (pos k ≡ d) →
        IsKept net (potentials_of falls) (aim_of target) (tree_of growth) v d
    kept v d v_in below None arc hidden number = absurd (
        let offer : offer_at v ≡ None = rw (hidden, arc) refl in
        let none : get_or growth.least.items v None ≡ None =
        is.scanned.least_below v below ∙ (ap (λ (o : Option ℕ). kept_of o (offer_at v)) (is.least_none v) ∙ ap (kept_of None) offer) in
        let bad : None ≡ Some number.0 = sym none ∙ number.1 in
        cc)
    kept v d v_in below (Some c) arc hidden number =
        let offer : offer_at v ≡ Some ((c + head v) - tail) = rw (hidden, arc) refl in
        let least_is : get_or growth.least.items v None ≡ Some ((c + head v) - tail) =
        is.scanned.least_below v below ∙ (ap (λ (o : Option ℕ). kept_of o (offer_at v)) (is.least_none v) ∙ ap (kept_of None) offer) in
        let via_is : get_or growth.via.items v 0 ≡ target.root =
        is.scanned.via_below v below
        ∙ (ap (λ (o : Option ℕ). via_of o (offer_at v) target.root (get_or via v 0)) (is.least_none v)
        ∙ ap (λ (o : Option ℕ). via_of None o target.root (get_or via v 0)) offer) in
        let same : (c + head v) - tail ≡ number.0 = same_Some ((c + head v) - tail) number.0 (sym least_is ∙ number.1) in
        let whole = offer_is c (head v) tail (fits_of c (head v) tail (seat.feasible target.root v c (omega arith) v_in arc)) in
        let d_is : d ≡ pos c +ℤ ((pos 0 -ℤ pos tail) -ℤ (pos 0 -ℤ pos (head v))) =
        sym number.2 ∙ (ap (λ (k : ℕ). pos k) (sym same) ∙ whole) in
        record {
          within = omega arith;
          seen = ap (λ (y : ℕ). get_or growth.rows.items y false) via_is
              ∙ (is.rows target.root ∙ (let test : (target.root == target.root) ≡ true = grind (arith, nat_tests) in rw test refl));
          allowed = λ e. below;
          cost = c;
          arc = ap (λ (y : ℕ). net.arc y v) via_is ∙ arc;
          is = d_is ∙ ap (λ (y : ℕ). pos c +ℤ ((pos 0 -ℤ pos (get_or falls.tails.items y 0)) -ℤ (pos 0 -ℤ pos (head v)))) (sym via_is);
        }
