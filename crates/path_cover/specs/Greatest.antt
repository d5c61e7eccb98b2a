-- Promise: the greatest potentials of a cover.
use Rattle.std.specs.Prelude.{ℕ, ℤ, pos, negsuc, suc, ◌≤◌, ◌≤ℤ◌, List}
use Rattle.path_cover.specs.Nets.{Net}
use Rattle.path_cover.specs.Potentials.{Potentials, AreFeasible, IsSlack}

-- potentials of a cover: none is above 0, no arc has a negative reduced cost, and the cover meets complementary slackness
pub record AreNumbers (net : Net) (lists : List (List ℕ)) (p : Potentials) : Type 0 where
  pub tails : (x : ℕ) → x ≤ net.nodes → p.tail x ≤ℤ pos 0
  pub heads : (v : ℕ) → v ≤ net.nodes → p.head v ≤ℤ pos 0
  pub feasible : AreFeasible net p
  pub slack : IsSlack net p lists

-- each is the greatest that it is in any potentials of the cover
pub record AreGreatest (net : Net) (lists : List (List ℕ)) (p : Potentials) : Type 0 where
  pub numbers : AreNumbers net lists p
  pub tails : (q : Potentials) → AreNumbers net lists q → (x : ℕ) → x ≤ net.nodes → q.tail x ≤ℤ p.tail x
  pub heads : (q : Potentials) → AreNumbers net lists q → (v : ℕ) → v ≤ net.nodes → q.head v ≤ℤ p.head v

-- how far a number is below 0
abbrev pub depth : ℤ → ℕ
depth (pos n) = 0
depth (negsuc n) = suc n

-- all numbers are not below a level
abbrev pub AreAbove : Net → Potentials → ℕ → Type 0
AreAbove net p level = (x : ℕ) → x ≤ net.nodes → (depth (p.tail x) ≤ level) × (depth (p.head x) ≤ level)
