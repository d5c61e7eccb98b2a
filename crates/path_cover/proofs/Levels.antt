-- The greatest potentials are not far below 0: where no number lies in a band of an arc's width, all numbers below the band could be
-- raised.
use Rattle.std.proofs.Common.{◌≡◌, ◌⊎◌, ◌==◌, ℕ, ℤ, pos, negsuc, ◌+ℤ◌, ◌-ℤ◌, ◌*ℤ◌, ◌≤ℤ◌, ◌+◌, ◌*◌, ◌<◌, ◌≤◌, Bool, true, false, cond, nat_le, zero, suc, List, [], ◌∷◌, Some, inl, inr, refl, sym, ap, subst, arith}
use Rattle.std.proofs.lemmas.Int.{ints}
use Rattle.std.proofs.lemmas.Bool.{cases_lt}
use Rattle.std.proofs.lemmas.Bool.Decides.{nat_tests}
use Rattle.cover_core.specs.Cover.{AllBelow}
use Rattle.cover_core.specs.Plans.{AreColumns}
use Rattle.cover_core.proofs.Sums.{sum_first, sum_first-mono}
use Rattle.path_cover.specs.Nets.{Net, IsDear, IsRising, IsCover, columns_of, path_column, paths}
use Rattle.path_cover.specs.Potentials.{Potentials, AreTightPaths, IsTightFrom}
use Rattle.path_cover.specs.Greatest.{AreAbove, AreGreatest, AreNumbers, depth}
use Rattle.path_cover.specs.Matchings.{one}
use Rattle.path_cover.proofs.Counting.{sum_first-less}
use Rattle.path_cover.proofs.Telescope.{paths_listed}

depth_is : (z : ℤ) → z ≤ℤ pos 0 → z +ℤ pos (depth z) ≡ pos 0
depth_is (pos zero) low = refl
depth_is (pos (suc n)) low = absurd (omega (arith, ints))
depth_is (negsuc n) low = omega (arith, ints)

-- raised by 1 where it is below a level
abbrev raised : ℕ → ℤ → ℤ
raised level z = cond (nat_le (depth z) level) z (z +ℤ pos 1)

-- no number lies in the band below the level
abbrev NotInBand : ℕ → ℕ → ℤ → Type 0
NotInBand level dear z = depth z ≤ level + dear → depth z ≤ level

raised_low : (level : ℕ) (z : ℤ) → z ≤ℤ pos 0 → raised level z ≤ℤ pos 0
raised_low level z low = elim (cases_lt level (depth z)) [
  | inl below ↦ let test : nat_le (depth z) level ≡ false = grind (arith, nat_tests) in rw test (omega (arith, ints, depth_is z low))
  | inr above ↦ let test : nat_le (depth z) level ≡ true = grind (arith, nat_tests) in rw test low
]

-- two numbers of an arc
raised_arc : (level dear c : ℕ) (h t : ℤ) → c ≤ dear → h ≤ℤ pos 0 → t ≤ℤ pos 0 → NotInBand level dear h → NotInBand level dear t →
    (h -ℤ t) ≤ℤ pos c → (raised level h -ℤ raised level t) ≤ℤ pos c
raised_arc level dear c h t cheap low low' band band' fits = elim (cases_lt level (depth h)) [
  | inl below ↦
      let test : nat_le (depth h) level ≡ false = grind (arith, nat_tests) in
      let deep : level + dear < depth h =
      elim (cases_lt (level + dear) (depth h)) [ inl far ↦ far | inr near ↦ absurd (let bad = band near in omega arith) ] in
      elim (cases_lt level (depth t)) [
        | inl below' ↦ let test' : nat_le (depth t) level ≡ false = grind (arith, nat_tests) in rw (test, test') (omega (arith, ints))
        | inr above' ↦ let test' : nat_le (depth t) level ≡ true = grind (arith, nat_tests) in
            rw (test, test') (omega (arith, ints, depth_is h low, depth_is t low'))
      ]
  | inr above ↦
      let test : nat_le (depth h) level ≡ true = grind (arith, nat_tests) in
      elim (cases_lt level (depth t)) [
        | inl below' ↦ let test' : nat_le (depth t) level ≡ false = grind (arith, nat_tests) in rw (test, test') (omega (arith, ints))
        | inr above' ↦ let test' : nat_le (depth t) level ≡ true = grind (arith, nat_tests) in rw (test, test') fits
      ]
]

raised_tight : (level dear c : ℕ) (h t : ℤ) → c ≤ dear → h ≤ℤ pos 0 → t ≤ℤ pos 0 → NotInBand level dear h → NotInBand level dear t →
    h -ℤ t ≡ pos c → raised level h -ℤ raised level t ≡ pos c
raised_tight level dear c h t cheap low low' band band' equal = elim (cases_lt level (depth h)) [
  | inl below ↦
      let test : nat_le (depth h) level ≡ false = grind (arith, nat_tests) in
      let deep : level + dear < depth h =
      elim (cases_lt (level + dear) (depth h)) [ inl far ↦ far | inr near ↦ absurd (let bad = band near in omega arith) ] in
      elim (cases_lt level (depth t)) [
        | inl below' ↦ let test' : nat_le (depth t) level ≡ false = grind (arith, nat_tests) in rw (test, test') (omega (arith, ints))
        | inr above' ↦ absurd (omega (arith, ints, depth_is h low, depth_is t low'))
      ]
  | inr above ↦
      let test : nat_le (depth h) level ≡ true = grind (arith, nat_tests) in
      elim (cases_lt level (depth t)) [
        | inl below' ↦
            let deep' : level + dear < depth t =
            elim (cases_lt (level + dear) (depth t)) [ inl far ↦ far | inr near ↦ absurd (let bad = band' near in omega arith) ] in
            absurd (omega (arith, ints, depth_is h low, depth_is t low'))
        | inr above' ↦ let test' : nat_le (depth t) level ≡ true = grind (arith, nat_tests) in rw (test, test') equal
      ]
]

-- tight arcs of paths stay tight where each arc of the network does
abbrev StaysTight : Net → Potentials → Potentials → Type 0
StaysTight net p q = (x v c : ℕ) → x ≤ net.nodes → v ≤ net.nodes → net.arc x v ≡ Some c → p.head v -ℤ p.tail x ≡ pos c →
    q.head v -ℤ q.tail x ≡ pos c

rest_stays : (net : Net) (p q : Potentials) → StaysTight net p q → (t : ℕ) (ts : List ℕ) → t < net.nodes → AllBelow net.nodes ts →
    IsTightFrom net p t ts → IsTightFrom net q t ts
rest_stays net p q stays t [] within below tight = λ c e. stays t net.nodes c (omega arith) (omega arith) e (tight c e)
rest_stays net p q stays t (u ∷ us) within below tight =
    let within' : u < net.nodes = below.0 in
    ((λ c e. stays t u c (omega arith) (omega arith) e (tight.0 c e)), rest_stays net p q stays u us within' below.1 tight.1)

lists_stay : (net : Net) → IsRising net → (p q : Potentials) → StaysTight net p q → (lists : List (List ℕ)) →
    AreColumns (paths net) (columns_of net lists) → AreTightPaths net p lists → AreTightPaths net q lists
lists_stay net rising p q stays [] are tight = tt
lists_stay net rising p q stays ([] ∷ lists) are tight = (tt, lists_stay net rising p q stays lists are.1 tight.1)
lists_stay net rising p q stays ((t ∷ ts) ∷ lists) are tight =
    let below = (paths_listed net rising 0 (t ∷ ts) (path_column net (t ∷ ts)).worth are.0.1).2 in
    let within : t < net.nodes = below.0 in (
      ((λ c e. stays net.nodes t c (omega arith) (omega arith) e (tight.0.0 c e)), rest_stays net p q stays t ts within below.1 tight.0.1),
      lists_stay net rising p q stays lists are.1 tight.1,
    )

-- Where no number lies in a band of a dearest arc's width, none lies below it. Otherwise raise all numbers below the band by 1. An
-- arc with one end below and one above would be wider than the dearest cost, so tight arcs have both ends on one side and stay
-- tight, and no arc loses what makes it feasible. So the raised numbers are potentials of the cover too, and higher than the
-- greatest ones.
no_band : (net : Net) → IsRising net → (dear : ℕ) → IsDear net dear → (lists : List (List ℕ)) → IsCover net lists → (p : Potentials) →
    AreGreatest net lists p → (level : ℕ) →
    ((x : ℕ) → x ≤ net.nodes → NotInBand level dear (p.tail x)) → ((v : ℕ) → v ≤ net.nodes → NotInBand level dear (p.head v)) →
    (x : ℕ) → x ≤ net.nodes → (depth (p.tail x) ≤ level) × (depth (p.head x) ≤ level)
no_band net rising dear cheap lists cover p greatest level tails heads x within =
    let q : Potentials = record { tail = λ x. raised level (p.tail x); head = λ v. raised level (p.head v) } in
    let numbers = greatest.numbers in
    let stays : StaysTight net p q =
    λ x v c x_in v_in e equal. raised_tight level dear c (p.head v) (p.tail x) (cheap x v c x_in v_in e) (numbers.heads v v_in)
    (numbers.tails x x_in) (heads v v_in) (tails x x_in) equal in
    let are : AreNumbers net lists q = record {
      tails = λ x x_in. raised_low level (p.tail x) (numbers.tails x x_in);
      heads = λ v v_in. raised_low level (p.head v) (numbers.heads v v_in);
      feasible = λ x v c x_in v_in e. raised_arc level dear c (p.head v) (p.tail x) (cheap x v c x_in v_in e) (numbers.heads v v_in)
          (numbers.tails x x_in) (heads v v_in) (tails x x_in) (numbers.feasible x v c x_in v_in e);
      slack = record {
        paths = lists_stay net rising p q stays lists cover.worths numbers.slack.paths;
        stays = λ fewer. ap (raised level) (numbers.slack.stays fewer);
      };
    } in
    (not_raised (p.tail x) (greatest.tails q are x within), not_raised (p.head x) (greatest.heads q are x within))
  where
    not_raised : (z : ℤ) → raised level z ≤ℤ z → depth z ≤ level
    not_raised z high = elim (cases_lt level (depth z)) [
      | inl below ↦ let test : nat_le (depth z) level ≡ false = grind (arith, nat_tests) in let moved = rw test at high in
          absurd (omega (arith, ints))
      | inr above ↦ above
    ]

-- how many numbers are not below a level
abbrev above_in : ℕ → (ℕ → ℤ) → ℕ → ℤ
above_in level f n = sum_first (λ x. one (nat_le (depth (f x)) level)) n

abbrev above_of : ℕ → Net → Potentials → ℤ
above_of level net p = above_in level p.tail (suc net.nodes) +ℤ above_in level p.head (suc net.nodes)

one_more : (a b : ℕ) (m : ℕ) → a ≤ b → one (nat_le m a) ≤ℤ one (nat_le m b)
one_more a b m more = elim (cases_lt b m) [
  | inl below ↦
      let test : nat_le m b ≡ false = grind (arith, nat_tests) in
      let test' : nat_le m a ≡ false = grind (arith, nat_tests) in
      rw (test, test') (omega (arith, ints))
  | inr above ↦ let test : nat_le m b ≡ true = grind (arith, nat_tests) in rw test (one_most (nat_le m a))
]
  where
    one_most : (b : Bool) → one b ≤ℤ one true
    one_most true = omega (arith, ints)
    one_most false = omega (arith, ints)

-- A counting step: where as many numbers lie above the lower edge of a band as above its upper edge, none lies in the band.
same_above : (level dear : ℕ) (f : ℕ → ℤ) (n : ℕ) → above_in (level + dear) f n ≤ℤ above_in level f n → (x : ℕ) →
    x < n → NotInBand level dear (f x)
same_above level dear f n same x within near = elim (cases_lt level (depth (f x))) [
  | inr above ↦ above
  | inl below ↦ absurd (
      let less : (above_in level f n +ℤ pos 1) ≤ℤ above_in (level + dear) f n =
      sum_first-less (λ y. one (nat_le (depth (f y)) level)) (λ y. one (nat_le (depth (f y)) (level + dear))) x n within
      (λ i i_in. go i (i == x) refl below near) in
      omega (arith, ints))
]
  where
    go : (i : ℕ) (b : Bool) → (i == x) ≡ b → level < depth (f x) → depth (f x) ≤ level + dear →
        (one (nat_le (depth (f i)) level) +ℤ (pos (cond (i == x) 1 0) *ℤ pos 1)) ≤ℤ one (nat_le (depth (f i)) (level + dear))
    go i true e below near =
        let same_place : i ≡ x = grind (arith, nat_tests) in
        let P : ℕ → Type 0 = λ j. (one (nat_le (depth (f j)) level) +ℤ (pos 1 *ℤ pos 1)) ≤ℤ one (nat_le (depth (f j)) (level + dear)) in
        let test : nat_le (depth (f x)) level ≡ false = grind (arith, nat_tests) in
        let test' : nat_le (depth (f x)) (level + dear) ≡ true = grind (arith, nat_tests) in
        let at : P x = rw (test, test') (omega (arith, ints)) in
        rw e (subst P (sym same_place) at)
    go i false e below near = let more = one_more level (level + dear) (depth (f i)) (omega arith) in rw e (omega (arith, ints))

above_more : (level dear : ℕ) (f : ℕ → ℤ) (n : ℕ) → above_in level f n ≤ℤ above_in (level + dear) f n
above_more level dear f n = sum_first-mono _ _ n (λ x within. one_more level (level + dear) (depth (f x)) (omega arith))

above_low : (level : ℕ) (f : ℕ → ℤ) (n : ℕ) → pos 0 ≤ℤ above_in level f n
above_low level f zero = omega (arith, ints)
above_low level f (suc n) = let rest = above_low level f n in let last = go (nat_le (depth (f n)) level) in omega (arith, ints)
  where
    go : (b : Bool) → pos 0 ≤ℤ one b
    go true = omega (arith, ints)
    go false = omega (arith, ints)

above_high : (level : ℕ) (f : ℕ → ℤ) (n : ℕ) → above_in level f n ≤ℤ pos n
above_high level f zero = omega (arith, ints)
above_high level f (suc n) = let rest = above_high level f n in let last = go (nat_le (depth (f n)) level) in omega (arith, ints)
  where
    go : (b : Bool) → one b ≤ℤ pos 1
    go true = omega (arith, ints)
    go false = omega (arith, ints)

-- After k bands there are at least k numbers above, or all are. By induction: either the next band has a number in it and the count
-- rises, or it has none, and then by `no_band` no number is below it.
levels : (net : Net) → IsRising net → (dear : ℕ) → IsDear net dear → (lists : List (List ℕ)) → IsCover net lists → (p : Potentials) →
    AreGreatest net lists p → (k : ℕ) →
    (pos k ≤ℤ above_of (k * dear) net p) ⊎ AreAbove net p (k * dear)
levels net rising dear cheap lists cover p greatest zero =
    inl (omega (arith, ints, above_low (0 * dear) p.tail (suc net.nodes), above_low (0 * dear) p.head (suc net.nodes)))
levels net rising dear cheap lists cover p greatest (suc k) = elim (levels net rising dear cheap lists cover p greatest k) [
  | inr all ↦ inr (λ x within. let at = all x within in let more : k * dear ≤ suc k * dear = next in (omega arith, omega arith))
  | inl many ↦ go (above_of (k * dear) net p) (above_of (suc k * dear) net p) refl refl many
]
  where
    next : k * dear ≤ suc k * dear
    next = omega arith

    band : suc k * dear ≡ k * dear + dear
    band = omega arith

    go : (a b : ℤ) → above_of (k * dear) net p ≡ a → above_of (suc k * dear) net p ≡ b → pos k ≤ℤ a →
        (pos (suc k) ≤ℤ above_of (suc k * dear) net p) ⊎ AreAbove net p (suc k * dear)
    go a b e e' many = elim (int_cases b a) [
      | inr more ↦ inl (omega (arith, ints))
      | inl no_more ↦
          let P : ℕ → Type 0 = λ level. above_of level net p ≤ℤ above_of (k * dear) net p in
          let wide : above_of (suc k * dear) net p ≤ℤ above_of (k * dear) net p =
          subst (λ (z : ℤ). z ≤ℤ above_of (k * dear) net p) (sym e') (subst (λ (z : ℤ). b ≤ℤ z) (sym e) no_more) in
          let same : above_of (k * dear + dear) net p ≤ℤ above_of (k * dear) net p = subst P band wide in
          let tails_more = above_more (k * dear) dear p.tail (suc net.nodes) in
          let heads_more = above_more (k * dear) dear p.head (suc net.nodes) in
          let tails = same_above (k * dear) dear p.tail (suc net.nodes) (omega (arith, ints)) in
          let heads = same_above (k * dear) dear p.head (suc net.nodes) (omega (arith, ints)) in
          let all = no_band net rising dear cheap lists cover p greatest (k * dear) (λ x within. tails x (omega arith))
          (λ x within. heads x (omega arith)) in
          inr (λ x within. let at = all x within in let more : k * dear ≤ suc k * dear = next in (omega arith, omega arith))
    ]
      where
        int_cases : (x y : ℤ) → (x ≤ℤ y) ⊎ ((y +ℤ pos 1) ≤ℤ x)
        int_cases (pos m) (pos n) = elim (cases_lt n m) [ inl below ↦ inr (omega (arith, ints)) | inr above ↦ inl (omega (arith, ints)) ]
        int_cases (pos m) (negsuc n) = inr (omega (arith, ints))
        int_cases (negsuc m) (pos n) = inl (omega (arith, ints))
        int_cases (negsuc m) (negsuc n) =
            elim (cases_lt m n) [ inl below ↦ inr (omega (arith, ints)) | inr above ↦ inl (omega (arith, ints)) ]

-- No greatest number is further below 0 than 2 n + 3 times the greatest cost of an arc: there are 2 n + 2 numbers, so that many
-- bands cannot each have one of their own. So prices made of them are bounded by the network alone, however far the search had
-- lowered its own potentials.
pub greatest_high : (net : Net) → IsRising net → (dear : ℕ) → IsDear net dear → (lists : List (List ℕ)) → IsCover net lists →
    (p : Potentials) → AreGreatest net lists p →
    AreAbove net p ((2 * net.nodes + 3) * dear)
greatest_high net rising dear cheap lists cover p greatest =
    elim (levels net rising dear cheap lists cover p greatest (2 * net.nodes + 3)) [
      | inr all ↦ all
      | inl many ↦ absurd (omega (
        arith,
        ints,
        above_high ((2 * net.nodes + 3) * dear) p.tail (suc net.nodes),
        above_high ((2 * net.nodes + 3) * dear) p.head (suc net.nodes),
      ))
    ]
