-- Sums over the successors of all nodes.
use Rattle.std.proofs.Common.{◌≡◌, ◌==◌, ℕ, ℤ, pos, ◌+ℤ◌, ◌*ℤ◌, ◌+◌, ◌<◌, ◌≤◌, true, false, List, [], ◌∷◌, ◌++◌, length, Option, None, inl, inr, refl, ap, ◌∙◌, arith}
use Rattle.std.specs.Prelude.{unwrap_or}
use Rattle.std.proofs.lemmas.Int.{ints}
use Rattle.std.proofs.lemmas.Bool.{cases_lt}
use Rattle.std.proofs.lemmas.Bool.Decides.{nat_tests}
use Rattle.cover_core.specs.Cover.{AllBelow, Rises}
use Rattle.cover_core.specs.Plans.{AreColumns, all_items, times}
use Rattle.cover_core.proofs.Duality.{all_items-below}
use Rattle.cover_core.proofs.Sums.{sum_each, sum_each-append, sum_each-times, sum_first, sum_first-same}
pub use Rattle.cover_core.proofs.Parts.{times-append}
use Rattle.path_cover.specs.Nets.{Net, IsRising, IsCover, behind, columns_of, first_nodes, path_column, paths, successor}
use Rattle.path_cover.proofs.Telescope.{paths_listed}

-- each member counts
pub times-here : (x : ℕ) (xs : List ℕ) → times x (x ∷ xs) ≡ 1 + times x xs
times-here x xs = let test : (x == x) ≡ true = grind (arith, nat_tests) in rw test refl

pub times-there : (s x : ℕ) (xs : List ℕ) → times s xs ≤ times s (x ∷ xs)
times-there s x xs = omega arith

pub times-above : (n s : ℕ) (xs : List ℕ) → AllBelow n xs → n ≤ s → times s xs ≡ 0
times-above n s [] below above = refl
times-above n s (x ∷ xs) below above =
    let here : x < n = below.0 in
    let test : (s == x) ≡ false = grind (arith, nat_tests) in
    rw test (omega (arith, times-above n s xs below.1 above))

pub sum_each-same : (f g : ℕ → ℤ) (xs : List ℕ) → ((s : ℕ) → 1 ≤ times s xs → f s ≡ g s) → sum_each f xs ≡ sum_each g xs
sum_each-same f g [] same = refl
sum_each-same f g (x ∷ xs) same =
    let here : f x ≡ g x = same x (omega (arith, times-here x xs)) in
    let rest : sum_each f xs ≡ sum_each g xs = sum_each-same f g xs (λ s member. same s (omega (arith, times-there s x xs))) in
    omega (arith, ints)

-- the numbers behind the nodes of a list, n behind the last one
abbrev pub chain : (ℕ → ℤ) → ℕ → List ℕ → ℤ
chain f n [] = pos 0
chain f n (x ∷ []) = f n
chain f n (x ∷ y ∷ rest) = f y +ℤ chain f n (y ∷ rest)

pub chain-is : (f : ℕ → ℤ) (n x : ℕ) (rest : List ℕ) → chain f n (x ∷ rest) ≡ sum_each f rest +ℤ f n
chain-is f n x [] = omega (arith, ints)
chain-is f n x (y ∷ rest) = omega (arith, ints, chain-is f n y rest)

-- in a list that rises each member of the rest is above the first
pub above_first : (x : ℕ) (rest : List ℕ) (s : ℕ) → Rises (x ∷ rest) → 1 ≤ times s rest → x < s
above_first x [] s rise member = absurd (omega arith)
above_first x (y ∷ rest) s rise member =
    let step : x < y = rise.0 in
    elim (cases_lt y s) [
      | inl above ↦ omega arith
      | inr past ↦ elim (cases_lt s y) [
        | inl below ↦
            let test : (s == y) ≡ false = grind (arith, nat_tests) in
            let moved = rw test at member in
            let member' : 1 ≤ times s rest = omega arith in
            let next = above_first y rest s rise.1 member' in
            omega arith
        | inr above ↦ omega arith
      ]
    ]

pub behind-none : (n s : ℕ) (list : List ℕ) → times s list ≡ 0 → behind n s list ≡ None
behind-none n s [] none = refl
behind-none n s (x ∷ []) none =
    elim (cases_lt x s) [
      | inl below ↦ let test : (x == s) ≡ false = grind (arith, nat_tests) in rw test refl
      | inr past ↦ elim (cases_lt s x) [
        | inl above ↦ let test : (x == s) ≡ false = grind (arith, nat_tests) in rw test refl
        | inr same ↦ let test : (s == x) ≡ true = grind (arith, nat_tests) in absurd (let bad = rw test at none in omega arith)
      ]
    ]
behind-none n s (x ∷ y ∷ rest) none =
    let rest_none : times s (y ∷ rest) ≡ 0 = omega arith in
    let next = behind-none n s (y ∷ rest) rest_none in
    elim (cases_lt x s) [
      | inl below ↦ let test : (x == s) ≡ false = grind (arith, nat_tests) in rw test next
      | inr past ↦ elim (cases_lt s x) [
        | inl above ↦ let test : (x == s) ≡ false = grind (arith, nat_tests) in rw test next
        | inr same ↦ let test : (s == x) ≡ true = grind (arith, nat_tests) in absurd (let bad = rw test at none in omega arith)
      ]
    ]

-- Over the members of a list that rises, whatever the others have behind them. In a path that rises, what stands behind its nodes
-- is the path without its first node and with the end put last. That it rises makes a node's place in it the only one, so that
-- looking for what is behind a node finds this.
list_chain : (f : ℕ → ℤ) (n : ℕ) (others : ℕ → ℕ) (list : List ℕ) → Rises list →
    sum_each (λ s. f (unwrap_or (behind n s list) (others s))) list ≡ chain f n list
list_chain f n others [] rise = refl
list_chain f n others (x ∷ []) rise = let test : (x == x) ≡ true = grind (arith, nat_tests) in rw test (omega (arith, ints))
list_chain f n others (x ∷ y ∷ rest) rise =
    let test : (x == x) ≡ true = grind (arith, nat_tests) in
    let here : unwrap_or (behind n x (x ∷ y ∷ rest)) (others x) ≡ y = rw test refl in
    let first : f (unwrap_or (behind n x (x ∷ y ∷ rest)) (others x)) ≡ f y = ap f here in
    let next : sum_each (λ s. f (unwrap_or (behind n s (x ∷ y ∷ rest)) (others s))) (y ∷ rest)
    ≡ sum_each (λ s. f (unwrap_or (behind n s (y ∷ rest)) (others s))) (y ∷ rest) =
    sum_each-same _ _ (y ∷ rest) (λ s member.
    let above = above_first x (y ∷ rest) s rise member in
    let no : (x == s) ≡ false = grind (arith, nat_tests) in
    let same : behind n s (x ∷ y ∷ rest) ≡ behind n s (y ∷ rest) = rw no refl in
    ap (λ (o : Option ℕ). f (unwrap_or o (others s))) same) in
    let others_are = list_chain f n others (y ∷ rest) rise.1 in
    omega (arith, ints)

abbrev pub chains : (ℕ → ℤ) → ℕ → List (List ℕ) → ℤ
chains f n [] = pos 0
chains f n (list ∷ lists) = chain f n list +ℤ chains f n lists

-- over the members of all lists, where none stands twice
lists_chain : (net : Net) → IsRising net → (f : ℕ → ℤ) (lists : List (List ℕ)) → AreColumns (paths net) (columns_of net lists) →
    ((s : ℕ) → times s (all_items (columns_of net lists)) ≤ 1) →
    sum_each (λ s. f (successor net.nodes lists s)) (all_items (columns_of net lists)) ≡ chains f net.nodes lists
lists_chain net rising f [] are once = refl
lists_chain net rising f (list ∷ lists) are once =
    let items = all_items (columns_of net lists) in
    let rise = (paths_listed net rising 0 list (path_column net list).worth are.0.1).1 in
    let one : sum_each (λ s. f (successor net.nodes (list ∷ lists) s)) list ≡ chain f net.nodes list =
    list_chain f net.nodes (successor net.nodes lists) list rise in
    let apart : sum_each (λ s. f (successor net.nodes (list ∷ lists) s)) (list ++ items)
    ≡ sum_each (λ s. f (successor net.nodes (list ∷ lists) s)) list +ℤ sum_each (λ s. f (successor net.nodes (list ∷ lists) s)) items =
    sum_each-append _ list items in
    let rest : sum_each (λ s. f (successor net.nodes (list ∷ lists) s)) items ≡ sum_each (λ s. f (successor net.nodes lists s)) items =
    sum_each-same _ _ items (λ s member.
    let counted = times-append s list items in
    let most = once s in
    let none : times s list ≡ 0 = omega arith in
    let gone = behind-none net.nodes s list none in
    ap (λ (o : Option ℕ). f (unwrap_or o (successor net.nodes lists s))) gone) in
    let others = lists_chain net rising f lists are.1 (λ s. let most = once s in omega (arith, times-append s list items)) in
    omega (arith, ints)

-- the firsts and what stands behind the others are all nodes, and the end once for each path
chains_are : (net : Net) → IsRising net → (f : ℕ → ℤ) (lists : List (List ℕ)) → AreColumns (paths net) (columns_of net lists) →
    chains f net.nodes lists +ℤ sum_each f (first_nodes lists) ≡ sum_each f (all_items (columns_of net lists))
    +ℤ (pos (length lists) *ℤ f net.nodes)
chains_are net rising f [] are = omega (arith, ints)
chains_are net rising f ([] ∷ lists) are = absurd ((paths_listed net rising 0 [] (path_column net []).worth are.0.1).0 refl)
chains_are net rising f ((t ∷ ts) ∷ lists) are =
    omega (
      arith,
      ints,
      chain-is f net.nodes t ts,
      chains_are net rising f lists are.1,
      sum_each-append f (t ∷ ts) (all_items (columns_of net lists)),
    )

-- a sum over the nodes of a cover is one over all nodes
pub cover_spread : (net : Net) → IsRising net → (g : ℕ → ℤ) (lists : List (List ℕ)) → IsCover net lists →
    sum_each g (all_items (columns_of net lists)) ≡ sum_first g net.nodes
cover_spread net rising g lists cover =
    let below = all_items-below (paths net) (columns_of net lists) (paths_listed net rising) cover.worths in
    sum_each-times g net.nodes (all_items (columns_of net lists)) below ∙
    sum_first-same _ _ _ (λ i h. let one : times i (all_items (columns_of net lists)) ≡ 1 = cover.once i h in rw one (omega (arith, ints)))

pub cover_once : (net : Net) → IsRising net → (lists : List (List ℕ)) → IsCover net lists → (s : ℕ) →
    times s (all_items (columns_of net lists)) ≤ 1
cover_once net rising lists cover s =
    elim (cases_lt s net.nodes) [
      | inl below ↦ let one = cover.once s below in omega arith
      | inr past ↦
          let below = all_items-below (paths net) (columns_of net lists) (paths_listed net rising) cover.worths in
          let none = times-above net.nodes s (all_items (columns_of net lists)) below (omega arith) in
          omega arith
    ]

-- Successors and firsts together are all nodes, and the end once for each path, for any sum over them: each node but the first of
-- its path is the successor of one node, and the last node of each path has the end. This is all that the counting argument needs
-- to know of a cover.
pub successors_sum : (net : Net) → IsRising net → (f : ℕ → ℤ) (lists : List (List ℕ)) → IsCover net lists →
    sum_first (λ s. f (successor net.nodes lists s)) net.nodes +ℤ sum_each f (first_nodes lists) ≡ sum_first f net.nodes
    +ℤ (pos (length lists) *ℤ f net.nodes)
successors_sum net rising f lists cover =
    let all = cover_spread net rising (λ s. f (successor net.nodes lists s)) lists cover in
    let chained = lists_chain net rising f lists cover.worths (cover_once net rising lists cover) in
    let are = chains_are net rising f lists cover.worths in
    let nodes = cover_spread net rising f lists cover in
    omega (arith, ints)
