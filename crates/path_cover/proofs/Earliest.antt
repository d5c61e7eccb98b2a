-- What a stuck search shows: no cover, or no earlier successor.
use Rattle.std.proofs.Common.{◌≡◌, ℕ, ℤ, ◌<◌, ◌≤◌, suc, Some, None, Option, List, get_or, refl, ◌∙◌, arith}
use Rattle.path_cover.specs.declared.growth.Falls.{Falls}
use Rattle.path_cover.specs.declared.growth.Target.{Target}
use Rattle.path_cover.specs.declared.placing.Placing.{Placing}
use Rattle.path_cover.specs.Augmenting.{aim_of, potentials_of}
use Rattle.path_cover.specs.Nets.{Net, IsCover, IsRising, successor}
use Rattle.path_cover.specs.Potentials.{IsSlack}
use Rattle.path_cover.specs.Firsts.{IsEarliest}
use Rattle.path_cover.specs.Searching.{IsStuck}
use Rattle.path_cover.proofs.Trees.{stuck_no_cover, stuck_not_before}

none_of : (o : Option ℤ) → ((d : ℤ) → o ≡ Some d → ⊥) → o ≡ None
none_of None never = refl
none_of (Some d) never = absurd (never d refl)

pub stuck_none : (net : Net) → IsRising net → (falls : Falls) (placing : Placing) (target : Target) → IsStuck net falls placing target →
    target.fixed ≡ 0 → net.nodes < target.limit →
    (lists : List (List ℕ)) → IsCover net lists → ⊥
stuck_none net rising falls placing target stuck none_fixed no_limit lists cover =
    let m = stuck.0 in
    let tree = stuck.1 in
    let is = stuck.2 in
    stuck_no_cover net rising (potentials_of falls) m (aim_of target) tree is.seat.held is.grown none_fixed no_limit
    (λ v v_in unseen. none_of (tree.least v) (λ d e. (let low = (is.halted v d v_in unseen e).0 in absurd (omega arith)))) lists cover

pub stuck_first : (net : Net) → IsRising net → (falls : Falls) (placing : Placing) (target : Target) → IsStuck net falls placing target →
    target.fixed ≡ suc target.root →
    (lists : List (List ℕ)) → IsCover net lists → IsSlack net (potentials_of falls) lists →
    ((s : ℕ) → s < target.root → successor net.nodes lists s ≡ get_or placing.to.items s 0) →
    target.limit ≤ successor net.nodes lists target.root
stuck_first net rising falls placing target stuck after_root lists cover slack agree =
    let m = stuck.0 in
    let tree = stuck.1 in
    let is = stuck.2 in
    let root_in = is.grown.root_in in
    stuck_not_before net rising (potentials_of falls) is.seat.feasible m (aim_of target) tree is.seat.held is.grown after_root
    (λ v d v_in unseen e. (is.halted v d v_in unseen e).1) lists cover slack
    (λ s below. agree s below ∙ is.seat.kept.to s (omega (arith, below, root_in)))

-- Where rows up to one keep their columns, it stays so that no least cover comes earlier there: the statement only speaks of the
-- columns of rows before this one, and of its own.
pub earliest_kept : (net : Net) (falls : Falls) (old new : Placing) (t : ℕ) →
    ((s : ℕ) → s ≤ t → get_or new.to.items s 0 ≡ get_or old.to.items s 0) → IsEarliest net falls old t → IsEarliest net falls new t
earliest_kept net falls old new t same is lists cover slack agree =
    let at = same t (omega arith) in
    let low = is lists cover slack (λ s below. agree s below ∙ same s (omega (arith, below))) in
    omega arith
