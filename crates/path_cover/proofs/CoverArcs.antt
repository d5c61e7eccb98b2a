-- What holds of each arc of the paths of a cover holds of each node and its successor.
use Rattle.std.proofs.Common.{◌≡◌, ◌≢◌, ◌⊎◌, ◌==◌, ℕ, ◌<◌, ◌≤◌, Bool, true, false, cond, suc, List, [], ◌∷◌, length, Option, Some, None, inl, inr, refl, sym, subst, ◌∙◌, arith}
use Rattle.std.specs.Prelude.{unwrap_or}
use Rattle.std.proofs.lemmas.Int.{ints}
use Rattle.std.proofs.lemmas.Bool.{cases_lt}
use Rattle.std.proofs.lemmas.Bool.Decides.{nat_tests}
use Rattle.cover_core.specs.Cover.{AllBelow, Rises}
use Rattle.cover_core.specs.Plans.{AreColumns, all_items, times}
use Rattle.cover_core.proofs.Parts.{times-append}
use Rattle.path_cover.specs.Nets.{Net, IsRising, IsCover, behind, columns_of, first_nodes, path_column, path_cost, paths, rest_cost, successor}
use Rattle.path_cover.specs.Potentials.{Potentials, AreFeasible, AreTightPaths, IsSlack, IsTight, IsTightFrom, IsTightPath}
use Rattle.path_cover.proofs.Blocked.{IsClosed, blocked}
use Rattle.path_cover.proofs.Slack.{few_paths}
use Rattle.path_cover.proofs.Successors.{above_first, behind-none, successors_sum}
use Rattle.path_cover.proofs.Telescope.{both_some, path_is, paths_listed}
use Rattle.path_cover.specs.Matchings.{IsHeld, IsTightArc}

-- each arc of a path from a node on
abbrev pub HoldsFrom : (ℕ → ℕ → Type 0) → ℕ → ℕ → List ℕ → Type 0
HoldsFrom P n t [] = P t n
HoldsFrom P n t (u ∷ us) = P t u × HoldsFrom P n u us

abbrev pub HoldsOn : (ℕ → ℕ → Type 0) → ℕ → List ℕ → Type 0
HoldsOn P n [] = Unit {0}
HoldsOn P n (t ∷ ts) = P n t × HoldsFrom P n t ts

abbrev pub HoldsOnAll : (ℕ → ℕ → Type 0) → ℕ → List (List ℕ) → Type 0
HoldsOnAll P n [] = Unit {0}
HoldsOnAll P n (list ∷ lists) = HoldsOn P n list × HoldsOnAll P n lists

-- a member is the first or of the rest
member_cases : (s x : ℕ) (rest : List ℕ) → 1 ≤ times s (x ∷ rest) → (s ≡ x) ⊎ (1 ≤ times s rest)
member_cases s x rest member = go (s == x) refl
  where
    go : (b : Bool) → (s == x) ≡ b → (s ≡ x) ⊎ (1 ≤ times s rest)
    go true e = inl (grind (arith, nat_tests))
    go false e = inr (let moved = rw e at member in omega arith)

-- a member of a list that rises, and what is behind it
behind_holds : (P : ℕ → ℕ → Type 0) (n other x : ℕ) (rest : List ℕ) (s : ℕ) → Rises (x ∷ rest) → HoldsFrom P n x rest →
    1 ≤ times s (x ∷ rest) → P s (unwrap_or (behind n s (x ∷ rest)) other)
behind_holds P n other x [] s rise holds member = elim (member_cases s x [] member) [
  | inl is ↦
      let Q : ℕ → Type 0 = λ y. P y (unwrap_or (cond (x == y) (Some n) None) other) in
      let test : (x == x) ≡ true = grind (arith, nat_tests) in
      subst Q (sym is) (rw test holds)
  | inr more ↦ absurd (omega arith)
]
behind_holds P n other x (y ∷ rest) s rise holds member = elim (member_cases s x (y ∷ rest) member) [
  | inl is ↦
      let Q : ℕ → Type 0 = λ z. P z (unwrap_or (cond (x == z) (Some y) (behind n z (y ∷ rest))) other) in
      let test : (x == x) ≡ true = grind (arith, nat_tests) in
      subst Q (sym is) (rw test holds.0)
  | inr more ↦
      let above = above_first x (y ∷ rest) s rise more in
      let no : (x == s) ≡ false = grind (arith, nat_tests) in
      rw no (behind_holds P n other y rest s rise.1 holds.1 more)
]

-- What holds of each arc of the paths holds of each node and its successor. The successor is looked for in path after path; a node
-- stands in its own path once, as this rises, and what follows it there is where its arc goes. It turns covers into the counting
-- form that `Blocked` takes.
pub members_hold : (net : Net) → IsRising net → (P : ℕ → ℕ → Type 0) (lists : List (List ℕ)) →
    AreColumns (paths net) (columns_of net lists) → HoldsOnAll P net.nodes lists →
    (s : ℕ) → 1 ≤ times s (all_items (columns_of net lists)) → P s (successor net.nodes lists s)
members_hold net rising P [] are holds s member = absurd (omega arith)
members_hold net rising P ([] ∷ lists) are holds s member =
    absurd ((paths_listed net rising 0 [] (path_column net []).worth are.0.1).0 refl)
members_hold net rising P ((x ∷ rest) ∷ lists) are holds s member =
    let rise = (paths_listed net rising 0 (x ∷ rest) (path_column net (x ∷ rest)).worth are.0.1).1 in
    elim (cases_lt 0 (times s (x ∷ rest))) [
      | inl here ↦ behind_holds P net.nodes (successor net.nodes lists s) x rest s rise holds.0.1 (omega arith)
      | inr gone ↦
          let none = behind-none net.nodes s (x ∷ rest) (omega arith) in
          let counted = times-append s (x ∷ rest) (all_items (columns_of net lists)) in
          let next = members_hold net rising P lists are.1 holds.1 s (omega arith) in
          let Q : Option ℕ → Type 0 = λ o. P s (unwrap_or o (successor net.nodes lists s)) in
          subst Q (sym none) next
    ]

pub firsts_hold : (net : Net) → IsRising net → (P : ℕ → ℕ → Type 0) (lists : List (List ℕ)) →
    AreColumns (paths net) (columns_of net lists) → HoldsOnAll P net.nodes lists →
    (u : ℕ) → 1 ≤ times u (first_nodes lists) → P net.nodes u
firsts_hold net rising P [] are holds u member = absurd (omega arith)
firsts_hold net rising P ([] ∷ lists) are holds u member = absurd ((paths_listed net rising 0 [] (path_column net []).worth are.0.1).0 refl)
firsts_hold net rising P ((x ∷ rest) ∷ lists) are holds u member = elim (member_cases u x (first_nodes lists) member) [
  | inl is ↦ subst (P net.nodes) (sym is) holds.0.0
  | inr more ↦ firsts_hold net rising P lists are.1 holds.1 u more
]

pub firsts_count : (net : Net) → IsRising net → (lists : List (List ℕ)) → AreColumns (paths net) (columns_of net lists) →
    length (first_nodes lists) ≡ length lists
firsts_count net rising [] are = refl
firsts_count net rising ([] ∷ lists) are = absurd ((paths_listed net rising 0 [] (path_column net []).worth are.0.1).0 refl)
firsts_count net rising ((x ∷ rest) ∷ lists) are = omega (arith, firsts_count net rising lists are.1)

-- a node of a cover stands in it
pub cover_member : (net : Net) (lists : List (List ℕ)) → IsCover net lists → (s : ℕ) → s < net.nodes →
    1 ≤ times s (all_items (columns_of net lists))
cover_member net lists cover s within = let one = cover.once s within in omega arith

abbrev pub IsArc : Net → ℕ → ℕ → Type 0
IsArc net x v = (c : ℕ) × (net.arc x v ≡ Some c) × (v ≤ net.nodes)

rest_arcs : (net : Net) (t : ℕ) (ts : List ℕ) (y : ℕ) → AllBelow net.nodes ts → rest_cost net t ts ≡ Some y →
    HoldsFrom (IsArc net) net.nodes t ts
rest_arcs net t [] y below e = (y, e, omega arith)
rest_arcs net t (u ∷ us) y below e =
    let parts = both_some (net.arc t u) (rest_cost net u us) y e in
    let within : u < net.nodes = below.0 in
    ((parts.first, parts.first_is, omega arith), rest_arcs net u us parts.second below.1 parts.second_is)

path_arcs : (net : Net) (list : List ℕ) (y : ℕ) → path_cost net list ≡ Some y → HoldsOn (IsArc net) net.nodes list
path_arcs net [] y e = tt
path_arcs net (t ∷ ts) y e =
    let path = path_is net t ts y e in
    let within : t < net.nodes = path.below.0 in
    ((path.costs.first, path.costs.first_is, omega arith), rest_arcs net t ts path.costs.second path.below.1 path.costs.second_is)

lists_arcs : (net : Net) (lists : List (List ℕ)) → AreColumns (paths net) (columns_of net lists) → HoldsOnAll (IsArc net) net.nodes lists
lists_arcs net [] are = tt
lists_arcs net (list ∷ lists) are = (path_arcs net list (path_column net list).worth are.0.1, lists_arcs net lists are.1)

rest_tight_arcs : (net : Net) (p : Potentials) (t : ℕ) (ts : List ℕ) (y : ℕ) → AllBelow net.nodes ts → rest_cost net t ts ≡ Some y →
    IsTightFrom net p t ts → HoldsFrom (IsTightArc net p) net.nodes t ts
rest_tight_arcs net p t [] y below e tight = (y, e, tight, omega arith)
rest_tight_arcs net p t (u ∷ us) y below e tight =
    let parts = both_some (net.arc t u) (rest_cost net u us) y e in
    let within : u < net.nodes = below.0 in
    ((parts.first, parts.first_is, tight.0, omega arith), rest_tight_arcs net p u us parts.second below.1 parts.second_is tight.1)

path_tight_arcs : (net : Net) (p : Potentials) (list : List ℕ) (y : ℕ) → path_cost net list ≡ Some y → IsTightPath net p list →
    HoldsOn (IsTightArc net p) net.nodes list
path_tight_arcs net p [] y e tight = tt
path_tight_arcs net p (t ∷ ts) y e tight =
    let path = path_is net t ts y e in
    let within : t < net.nodes = path.below.0 in (
      (path.costs.first, path.costs.first_is, tight.0, omega arith),
      rest_tight_arcs net p t ts path.costs.second path.below.1 path.costs.second_is tight.1,
    )

pub lists_tight_arcs : (net : Net) (p : Potentials) (lists : List (List ℕ)) → AreColumns (paths net) (columns_of net lists) →
    AreTightPaths net p lists → HoldsOnAll (IsTightArc net p) net.nodes lists
lists_tight_arcs net p [] are tight = tt
lists_tight_arcs net p (list ∷ lists) are tight =
    (path_tight_arcs net p list (path_column net list).worth are.0.1 tight.0, lists_tight_arcs net p lists are.1 tight.1)

-- Where the rows of R reach only columns of C, and all of these are held by other rows of R, there is no cover. For the counting
-- argument a cover is another way in which each row has a column: its successor, for the store the first nodes of paths. The
-- premise that seen rows have arcs to seen columns alone puts all of them into C.
pub no_cover : (net : Net) → IsRising net → (to from : ℕ → ℕ) (spare room root : ℕ) (R C : ℕ → Bool) →
    IsHeld net.nodes net.most to from spare room → IsClosed net.nodes to from spare room root 0 R C → R root ≡ true →
    ((x v : ℕ) → x ≤ net.nodes → R x ≡ true → IsArc net x v → C v ≡ true) →
    (lists : List (List ℕ)) → IsCover net lists → ⊥
no_cover net rising to from spare room root R C are closed root_in reach lists cover =
    let arcs = lists_arcs net lists cover.worths in
    let count = firsts_count net rising lists cover.worths in
    let next : ℕ → ℕ = successor net.nodes lists in
    let on : (s : ℕ) → s < net.nodes → IsArc net s (next s) =
    λ s within. members_hold net rising (IsArc net) lists cover.worths arcs s (cover_member net lists cover s within) in
    let within_root = closed.root_in in
    blocked net.nodes net.most to from spare room root 0 R C next (first_nodes lists) are closed (record {
      few = omega (arith, few_paths net lists cover);
      all = λ f. let sum = successors_sum net rising f lists cover in rw count sum;
      agree = λ t below apart. absurd (omega arith);
      leads = λ t within from_fixed in_r. reach t (next t) (omega arith) in_r (on t within);
      root_leads = reach root (next root) (omega arith) root_in (on root within_root);
      store_leads = λ in_r u member. reach net.nodes u (omega arith) in_r
          (firsts_hold net rising (IsArc net) lists cover.worths arcs u member);
      stays = λ in_r fewer. reach net.nodes net.nodes (omega arith) in_r (0, rising.stays, omega arith);
    })

-- Where the rows of R reach only columns of C over tight arcs, and the root, whose column is taken off, reaches only columns of C below
-- that one, no other least cover that agrees with the matching on all rows before has an earlier column there.
-- The same argument with tight arcs, which are all that a least cover uses. It supposes that the other cover takes an earlier
-- column for the root, which then is one of C; the rows before the root have the same columns both ways, so they take as many of C
-- in the one as in the other.
pub not_before : (net : Net) → IsRising net → (p : Potentials) → AreFeasible net p →
    (to from : ℕ → ℕ) (spare room root column : ℕ) (R C : ℕ → Bool) →
    IsHeld net.nodes net.most to from spare room → IsClosed net.nodes to from spare room root (suc root) R C →
    ((x v : ℕ) → x ≤ net.nodes → R x ≡ true → x ≢ root → IsTightArc net p x v → C v ≡ true) →
    ((v : ℕ) → v < column → IsTightArc net p root v → C v ≡ true) →
    (lists : List (List ℕ)) → IsCover net lists → IsSlack net p lists →
    ((t : ℕ) → t < root → successor net.nodes lists t ≡ to t) → column ≤ successor net.nodes lists root
not_before net rising p feasible to from spare room root column R C are closed reach root_reach lists cover slack agree =
    elim (cases_lt (successor net.nodes lists root) column) [
      | inr past ↦ past
      | inl before ↦ absurd (
          let arcs = lists_tight_arcs net p lists cover.worths slack.paths in
          let count = firsts_count net rising lists cover.worths in
          let next : ℕ → ℕ = successor net.nodes lists in
          let on : (s : ℕ) → s < net.nodes → IsTightArc net p s (next s) =
          λ s within. members_hold net rising (IsTightArc net p) lists cover.worths arcs s (cover_member net lists cover s within) in
          let within_root = closed.root_in in
          blocked net.nodes net.most to from spare room root (suc root) R C next (first_nodes lists) are closed (record {
            few = omega (arith, few_paths net lists cover);
            all = λ f. let sum = successors_sum net rising f lists cover in rw count sum;
            agree = λ t below apart. agree t (omega arith);
            leads = λ t within from_fixed in_r. reach t (next t) (omega arith) in_r (λ e. omega arith) (on t within);
            root_leads = root_reach (next root) before (on root within_root);
            store_leads = λ in_r u member. reach net.nodes u (omega arith) in_r (λ e. omega arith)
                (firsts_hold net rising (IsTightArc net p) lists cover.worths arcs u member);
            stays = λ in_r fewer. reach net.nodes net.nodes (omega arith) in_r (λ e. omega arith)
                (0, rising.stays, tight_stay fewer, omega arith);
          }))
    ]
  where
    tight_stay : length (first_nodes lists) < net.most → IsTight net p net.nodes net.nodes
    tight_stay fewer c e =
        let count = firsts_count net rising lists cover.worths in
        let equal = slack.stays (omega arith) in
        let free : 0 ≡ c = let o : Some 0 ≡ Some c = sym rising.stays ∙ e in cc in
        rw (← free) (omega (arith, ints))
