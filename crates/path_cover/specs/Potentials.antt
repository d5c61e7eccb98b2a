-- Promise: potentials of a network, and complementary slackness.
use Rattle.std.specs.Prelude.{◌≡◌, ℕ, ℤ, pos, ◌<◌, ◌≤◌, ◌-ℤ◌, ◌*ℤ◌, ◌≤ℤ◌, List, [], ◌∷◌, length, Some}
use Rattle.plan_core.specs.declared.Price.{Price}
use Rattle.cover_core.specs.Plans.{price_at}
use Rattle.path_cover.specs.Nets.{Net}

-- a number for each place where an arc begins (n: the store), and one for each place where an arc ends (n: the end)
pub record Potentials : Type 0 where
  pub tail : ℕ → ℤ
  pub head : ℕ → ℤ

-- no arc has a negative reduced cost
abbrev pub AreFeasible : Net → Potentials → Type 0
AreFeasible net p = (x v c : ℕ) → x ≤ net.nodes → v ≤ net.nodes → net.arc x v ≡ Some c → (p.head v -ℤ p.tail x) ≤ℤ pos c

-- the reduced cost of an arc is 0
abbrev pub IsTight : Net → Potentials → ℕ → ℕ → Type 0
IsTight net p x v = (c : ℕ) → net.arc x v ≡ Some c → p.head v -ℤ p.tail x ≡ pos c

-- all arcs of a path from a node on
abbrev pub IsTightFrom : Net → Potentials → ℕ → List ℕ → Type 0
IsTightFrom net p t [] = IsTight net p t net.nodes
IsTightFrom net p t (u ∷ us) = IsTight net p t u × IsTightFrom net p u us

abbrev pub IsTightPath : Net → Potentials → List ℕ → Type 0
IsTightPath net p [] = Unit {0}
IsTightPath net p (t ∷ ts) = IsTight net p net.nodes t × IsTightFrom net p t ts

abbrev pub AreTightPaths : Net → Potentials → List (List ℕ) → Type 0
AreTightPaths net p [] = Unit {0}
AreTightPaths net p (list ∷ lists) = IsTightPath net p list × AreTightPaths net p lists

-- complementary slackness: each arc of the paths is tight, and store and end are equal where there could be more paths
pub record IsSlack (net : Net) (p : Potentials) (lists : List (List ℕ)) : Type 0 where
  pub paths : AreTightPaths net p lists
  pub stays : length lists < net.most → p.head net.nodes ≡ p.tail net.nodes

-- the prices that potentials make, and the class price
pub record ArePricesOf (net : Net) (p : Potentials) (prices : List Price) (class_price : ℤ) : Type 0 where
  pub count : length prices ≡ net.nodes
  pub each : (t : ℕ) → t < net.nodes → price_at prices t ≡ pos 1000 *ℤ (p.head t -ℤ p.tail t)
  pub of_class : class_price ≡ pos 1000 *ℤ (p.tail net.nodes -ℤ p.head net.nodes)
