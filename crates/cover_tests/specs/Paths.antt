-- Inner: a small network.
use Rattle.std.proofs.Common.{◌≡◌, ◌==◌, ℕ, ◌+◌, ◌-◌, ◌*◌, ◌<◌, ◌≤◌, ◌&&◌, Bool, true, false, cond, nat_lt, zero, suc, Option, Some, None, inl, inr, refl, sym, ap, ◌∙◌, arith}
use Rattle.std.specs.Prelude.{not, unwrap_or}
use Rattle.std.proofs.lemmas.Bool.{cases_lt}
use Rattle.std.proofs.lemmas.Bool.Decides.{nat_tests}
use Rattle.path_cover.specs.Nets.{Net, IsCheap, IsRising}

-- Four nodes. Paths begin at one cost and end at none. An arc between nodes costs one, and so much more for each node that it goes on;
-- where next nodes are closed, none goes to the next node.
abbrev pub small_arc : ℕ → ℕ → Bool → ℕ → ℕ → Option ℕ
small_arc start step closed x v =
    cond (x == 4) (Some (cond (v == 4) 0 start))
    (cond (v == 4) (Some 0) (cond (nat_lt x v && not (closed && (v == x + 1))) (Some (step * (v - x) + 1)) None))

abbrev pub small_net : ℕ → ℕ → ℕ → Bool → Net
small_net most start step closed = record { nodes = 4; most = most; arc = small_arc start step closed }

-- it rises, and is cheap
some_nat : (a b : ℕ) → Some a ≡ Some b → a ≡ b
some_nat a b e = let f : Option ℕ → ℕ = λ o. unwrap_or o a in ap f e

pub small_rising : (most start step : ℕ) (closed : Bool) → IsRising (small_net most start step closed)
small_rising most start step closed = record { stays = refl; rises = rises }
  where
    rises : (t u c : ℕ) → t < 4 → u < 4 → small_arc start step closed t u ≡ Some c → t < u
    rises t u c t_in u_in e = elim (cases_lt t u) [
      | inl below ↦ below
      | inr past ↦ absurd (
          let row : (t == 4) ≡ false = grind (arith, nat_tests) in
          let column : (u == 4) ≡ false = grind (arith, nat_tests) in
          let after : nat_lt t u ≡ false = grind (arith, nat_tests) in
          let none : small_arc start step closed t u ≡ None = rw (row, column, after) refl in
          let bad : None ≡ Some c = sym none ∙ e in
          cc)
    ]

times_few : (step k : ℕ) → k ≤ 4 → step * k ≤ step * 4
times_few step k few = let more = mono k 4 few in omega arith
  where
    mono : (a b : ℕ) → a ≤ b → a * step ≤ b * step
    mono zero b less = omega arith
    mono (suc a) zero less = absurd (omega arith)
    mono (suc a) (suc b) less = let rest = mono a b (omega arith) in omega arith

pub small_cheap : (most start step : ℕ) (closed : Bool) → start ≤ 1000 → step ≤ 1000 → IsCheap (small_net most start step closed)
small_cheap most start step closed start_low step_low = (5001, dear, omega arith)
  where
    dear : (x v c : ℕ) → x ≤ 4 → v ≤ 4 → small_arc start step closed x v ≡ Some c → c ≤ 5001
    dear x v c x_in v_in e = go (x == 4) (v == 4) (nat_lt x v && not (closed && (v == x + 1))) e
      where
        go : (a b k : Bool) → cond a (Some (cond b 0 start)) (cond b (Some 0) (cond k (Some (step * (v - x) + 1)) None)) ≡ Some c → c ≤ 5001
        go true true k e = let is : 0 ≡ c = some_nat 0 c e in omega arith
        go true false k e = let is : start ≡ c = some_nat start c e in omega arith
        go false true k e = let is : 0 ≡ c = some_nat 0 c e in omega arith
        go false false true e = let is : step * (v - x) + 1 ≡ c = some_nat (step * (v - x) + 1) c e in
            let low = times_few step (v - x) (omega arith) in omega arith
        go false false false e = absurd (cc)
