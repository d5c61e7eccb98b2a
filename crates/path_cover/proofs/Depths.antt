-- How far the potentials of a tree lie apart: rows hang together by tight arcs, so no search lowers potentials by much.
use Rattle.std.proofs.Common.{◌≡◌, ◌≢◌, ℕ, ℤ, pos, ◌+ℤ◌, ◌-ℤ◌, ◌≤ℤ◌, ◌+◌, ◌*◌, ◌≤◌, true, suc, zero, Some, inl, inr, sym, subst, ◌∙◌, arith}
use Rattle.std.proofs.lemmas.Int.{ints}
use Rattle.std.proofs.lemmas.Bool.{cases_lt}
use Rattle.path_cover.specs.Nets.{Net, IsDear, IsRising}
use Rattle.path_cover.specs.Potentials.{Potentials, IsTight}
use Rattle.path_cover.specs.Matchings.{IsTightArc, IsTightMatching}
use Rattle.path_cover.specs.Trees.{Aim, IsTree, Matching, Tree}
use Rattle.path_cover.proofs.Moves.{same_or_not}

tight_stay : (net : Net) → IsRising net → (p : Potentials) → p.head net.nodes ≡ p.tail net.nodes → IsTight net p net.nodes net.nodes
tight_stay net rising p equal c e =
    let free : 0 ≡ c = let o : Some 0 ≡ Some c = sym rising.stays ∙ e in cc in
    rw (← free) (omega (arith, ints))

-- a row other than the root holds its column over a tight arc
held_arc : (net : Net) → IsRising net → (p : Potentials) (m : Matching) (a : Aim) (tree : Tree) → IsTree net p m a tree →
    IsTightMatching net p m.to m.from m.spare →
    (x : ℕ) → x ≤ net.nodes → tree.rows x ≡ true → x ≢ a.root → IsTightArc net p x (tree.by x)
held_arc net rising p m a tree is tight x x_in seen apart =
    let reached = is.reached x x_in seen apart in
    let inside = reached.within in
    elim (cases_lt x net.nodes) [
      | inl below ↦
          let goes : m.to x ≡ tree.by x = reached.row below in
          subst (λ (w : ℕ). IsTightArc net p x w) goes (tight.rows x below (omega arith))
      | inr past ↦
          let last : x ≡ net.nodes = omega arith in
          elim (cases_lt (tree.by x) net.nodes) [
            | inl below ↦ subst (λ (y : ℕ). IsTightArc net p y (tree.by x)) (sym last)
                (tight.store (tree.by x) below (reached.store last below))
            | inr past_too ↦
                let at_end : tree.by x ≡ net.nodes = omega arith in
                let equal = tight.stays (reached.stays last at_end) in
                let arc : IsTightArc net p net.nodes net.nodes = (0, rising.stays, tight_stay net rising p equal, omega arith) in
                subst (λ (w : ℕ). IsTightArc net p x w) (sym at_end) (subst (λ (y : ℕ). IsTightArc net p y net.nodes) (sym last) arc)
          ]
    ]

abbrev IsNear : Potentials → ℕ → ℕ → ℕ → Type 0
IsNear p root far x = (p.tail x ≤ℤ (p.tail root +ℤ pos far)) × (p.tail root ≤ℤ (p.tail x +ℤ pos far))

near_root : (p : Potentials) (root far x : ℕ) → x ≡ root → IsNear p root far x
near_root p root far x same = subst (IsNear p root far) (sym same) (omega (arith, ints), omega (arith, ints))

near_step : (x y h r : ℤ) (c d dear far more : ℕ) → h -ℤ y ≡ pos c → h -ℤ x ≡ pos d → c ≤ dear → d ≤ dear → more ≡ dear + far →
    y ≤ℤ (r +ℤ pos far) → r ≤ℤ (y +ℤ pos far) → (x ≤ℤ (r +ℤ pos more)) × (r ≤ℤ (x +ℤ pos more))
near_step x y h r c d dear far more c_is d_is c_low d_low more_is high low = (omega (arith, ints), omega (arith, ints))

-- A seen row's potential is within a dearest arc of the root's for each row between: from a row one steps to the next nearer the
-- root over two tight arcs that share a column, and each of these is at most a dearest arc wide. By induction on how many steps
-- away the row may be.
near : (net : Net) → IsRising net → (dear : ℕ) → IsDear net dear → (p : Potentials) (m : Matching) (a : Aim) (tree : Tree) →
    IsTree net p m a tree → IsTightMatching net p m.to m.from m.spare →
    (k x : ℕ) → x ≤ net.nodes → tree.rows x ≡ true → tree.depth x ≤ k → IsNear p a.root (k * dear) x
near net rising dear cheap p m a tree is tight zero x x_in seen deep = elim (same_or_not x a.root) [
  | inl same ↦ near_root p a.root (0 * dear) x same
  | inr apart ↦ absurd (let deeper = (is.reached x x_in seen apart).deeper in omega arith)
]
near net rising dear cheap p m a tree is tight (suc k) x x_in seen deep = elim (same_or_not x a.root) [
  | inl same ↦ near_root p a.root (suc k * dear) x same
  | inr apart ↦
      let reached = is.reached x x_in seen apart in
      let deeper = reached.deeper in
      let w : ℕ = tree.by x in
      let y : ℕ = tree.via w in
      let full = is.full w reached.within reached.seen in
      let first : IsTightArc net p y w = full.tight in
      let second : IsTightArc net p x w = held_arc net rising p m a tree is tight x x_in seen apart in
      let rest = near net rising dear cheap p m a tree is tight k y full.within full.seen (omega arith) in
      near_step (p.tail x) (p.tail y) (p.head w) (p.tail a.root) first.0 second.0 dear (k * dear) (suc k * dear)
      (first.2 first.0 first.1) (second.2 second.0 second.1) (cheap y w first.0 full.within reached.within first.1)
      (cheap x w second.0 x_in reached.within second.1) (omega arith) rest.0 rest.1
]

-- where one seen row's potential is not far below a level, none is
pub deep_rows : (net : Net) → IsRising net → (dear : ℕ) → IsDear net dear → (p : Potentials) (m : Matching) (a : Aim) (tree : Tree) →
    IsTree net p m a tree → IsTightMatching net p m.to m.from m.spare →
    (deep : ℕ) → ((x : ℕ) → tree.depth x ≤ deep) → (low : ℕ) (x : ℕ) → x ≤ net.nodes → tree.rows x ≡ true → (pos 0 -ℤ pos low) ≤ℤ p.tail x →
    (y : ℕ) → y ≤ net.nodes → tree.rows y ≡ true → (pos 0 -ℤ pos (low + (deep * dear + deep * dear))) ≤ℤ p.tail y
deep_rows net rising dear cheap p m a tree is tight deep depths low x x_in seen high y y_in seen_too =
    let one = near net rising dear cheap p m a tree is tight deep x x_in seen (depths x) in
    let two = near net rising dear cheap p m a tree is tight deep y y_in seen_too (depths y) in
    between (p.tail x) (p.tail y) (p.tail a.root) low (deep * dear) high one.0 two.1
  where
    between : (x y r : ℤ) (low far : ℕ) → (pos 0 -ℤ pos low) ≤ℤ x → x ≤ℤ (r +ℤ pos far) → r ≤ℤ (y +ℤ pos far) →
        (pos 0 -ℤ pos (low + (far + far))) ≤ℤ y
    between x y r low far high one two = omega (arith, ints)

-- and no seen column's
pub deep_columns : (net : Net) (p : Potentials) (m : Matching) (a : Aim) (tree : Tree) → IsTree net p m a tree → (low : ℤ) →
    ((y : ℕ) → y ≤ net.nodes → tree.rows y ≡ true → low ≤ℤ p.tail y) →
    (w : ℕ) → w ≤ net.nodes → tree.columns w ≡ true → low ≤ℤ p.head w
deep_columns net p m a tree is low rows w w_in seen =
    let full = is.full w w_in seen in
    let arc : IsTightArc net p (tree.via w) w = full.tight in
    above (p.head w) (p.tail (tree.via w)) low arc.0 (arc.2 arc.0 arc.1) (rows (tree.via w) full.within full.seen)
  where
    above : (h t low : ℤ) (c : ℕ) → h -ℤ t ≡ pos c → low ≤ℤ t → low ≤ℤ h
    above h t low c is below = omega (arith, ints)
