-- One number more is pressed.
use Rattle.std.proofs.Common.{ap, ◌≡◌, ◌==◌, ℕ, ℤ, pos, ◌-ℤ◌, ◌≤ℤ◌, ◌+◌, ◌-◌, ◌<◌, ◌≤◌, Bool, true, false, cond, zero, suc, Some, List, [], ◌∷◌, length, get_or, set, inl, inr, refl, sym, subst, ◌∙◌, arith, length-set}
use Rattle.std.proofs.lemmas.Int.{ints}
use Rattle.std.proofs.lemmas.Bool.{cases_lt}
use Rattle.std.proofs.lemmas.Bool.Decides.{nat_tests}
use Rattle.path_cover.specs.declared.growth.Falls.{Falls}
use Rattle.path_cover.specs.declared.placing.Placing.{Placing}
use Rattle.path_cover.specs.Augmenting.{potentials_of}
use Rattle.path_cover.specs.Matchings.{IsTightArc}
use Rattle.path_cover.specs.Nets.{Net, IsRising}
use Rattle.path_cover.specs.Sweeps.{AreHigh, AreNumbersOf, IsFitting, IsFloored, IsSwept, IsTaut, IsTightIn, gap, list_gap}
use Rattle.path_cover.specs.Searching.{HasPlaces}
use Rattle.path_cover.proofs.Reaching.{set_at}

-- a number that falls comes nearer to the floor
gap_less : (xs : List ℕ) (i w : ℕ) → i < length xs → get_or xs i 0 < w → w ≤ 5000000000000000 → list_gap (set xs i w) < list_gap xs
gap_less [] i w within less floor = absurd (omega arith)
gap_less (x ∷ xs) zero w within less floor = omega arith
gap_less (x ∷ xs) (suc i) w within less floor = let rest = gap_less xs i w (omega arith) less floor in omega arith

pub swept_start : (net : Net) (placing : Placing) (numbers : Falls) → HasPlaces net.nodes numbers → AreHigh net placing numbers →
    IsSwept net placing numbers numbers false
swept_start net placing numbers places high = record { places = places; high = high; nearer = λ e. absurd (cc); same = λ e. refl }

or_false : (a b : Bool) → cond a true b ≡ false → (a ≡ false) × (b ≡ false)
or_false true b e = absurd (cc)
or_false false b e = (refl, e)

-- one sweep after another
pub swept_more : (net : Net) (placing : Placing) (old mid new : Falls) (a b : Bool) → IsSwept net placing old mid a →
    IsSwept net placing mid new b → IsSwept net placing old new (cond a true b)
swept_more net placing old mid new a b first second = record {
  places = second.places;
  high = second.high;
  nearer = go a b first.nearer first.same second.nearer second.same;
  same = λ e. (let both = or_false a b e in second.same both.1 ∙ first.same both.0);
}
  where
    go : (a b : Bool) → (a ≡ true → gap mid < gap old) → (a ≡ false → mid ≡ old) → (b ≡ true → gap new < gap mid) →
        (b ≡ false → new ≡ mid) → cond a true b ≡ true → gap new < gap old
    go true true n1 s1 n2 s2 e = let one = n1 refl in let two = n2 refl in omega arith
    go true false n1 s1 n2 s2 e = let one = n1 refl in let same = ap gap (s2 refl) in omega arith
    go false true n1 s1 n2 s2 e = let same = ap gap (s1 refl) in let two = n2 refl in omega arith
    go false false n1 s1 n2 s2 e = absurd (cc)

-- A column's number is pressed. The invariant is that no number is below any potentials of the matching: one that an arc forbids to
-- be so high is put down only as far as the arc asks, and any potentials, keeping that arc, are as low there. Each move brings the
-- numbers nearer to a floor at which some potentials lie, so sweeps end; and they end at the greatest potentials, not just at some.
pub head_pressed : (net : Net) (placing : Placing) (old new : Falls) (x v c : ℕ) → x ≤ net.nodes → v ≤ net.nodes → HasPlaces net.nodes old →
    AreHigh net placing old → IsFloored net placing → net.arc x v ≡ Some c →
    new.tails.items ≡ old.tails.items → get_or old.heads.items v 0 < get_or old.tails.items x 0 - c →
    new.heads.items ≡ set old.heads.items v (get_or old.tails.items x 0 - c) → IsSwept net placing old new true
head_pressed net placing old new x v c x_in v_in places high floor arc tails less heads = record {
  places = record { tails = ap length tails ∙ places.tails; heads = ap length heads ∙ (length-set old.heads.items v least ∙ places.heads) };
  high = high_now;
  nearer = λ e.
      let falls = gap_less old.heads.items v least v_at less low in
      let tails_same : list_gap new.tails.items ≡ list_gap old.tails.items = ap list_gap tails in
      let heads_same : list_gap new.heads.items ≡ list_gap (set old.heads.items v least) = ap list_gap heads in
      omega arith;
  same = λ e. absurd (cc);
}
  where
    least : ℕ
    least = get_or old.tails.items x 0 - c

    v_at : v < length old.heads.items
    v_at = let count = places.heads in omega arith

    below_floor : (t : ℕ) (q : ℤ) → (pos 0 -ℤ pos 5000000000000000) ≤ℤ q → q ≤ℤ (pos 0 -ℤ pos t) → t ≤ 5000000000000000
    below_floor t q bottom top = omega (arith, ints)

    low : least ≤ 5000000000000000
    low =
        let tail_low = below_floor (get_or old.tails.items x 0) (floor.0.tail x) (floor.1.tails x x_in)
        (high floor.0 floor.1.numbers x x_in).0 in
        omega arith

    pressed : (t c : ℕ) (qt qh : ℤ) → (qh -ℤ qt) ≤ℤ pos c → qt ≤ℤ (pos 0 -ℤ pos t) → qh ≤ℤ pos 0 → qh ≤ℤ (pos 0 -ℤ pos (t - c))
    pressed t c qt qh fits tail head = omega (arith, ints)

    high_now : AreHigh net placing new
    high_now q is y y_in =
        let before = high q is y y_in in
        let tail_same : get_or new.tails.items y 0 ≡ get_or old.tails.items y 0 = ap (λ (l : List ℕ). get_or l y 0) tails in
        let head_is : get_or new.heads.items y 0 ≡ cond (y == v) least (get_or old.heads.items y 0) =
        ap (λ (l : List ℕ). get_or l y 0) heads ∙ set_at old.heads.items v least 0 v_at y in (
          subst (λ (k : ℕ). q.tail y ≤ℤ (pos 0 -ℤ pos k)) (sym tail_same) before.0,
          subst (λ (k : ℕ). q.head y ≤ℤ (pos 0 -ℤ pos k)) (sym head_is) (go (y == v) refl),
        )
      where
        go : (b : Bool) → (y == v) ≡ b → q.head y ≤ℤ (pos 0 -ℤ pos (cond b least (get_or old.heads.items y 0)))
        go false e = (high q is y y_in).1
        go true e =
            let same : y ≡ v = grind (arith, nat_tests) in
            let at_v = pressed (get_or old.tails.items x 0) c (q.tail x) (q.head v) (is.feasible x v c x_in v_in arc)
            (high q is x x_in).0 (is.heads v v_in) in
            subst (λ (w : ℕ). q.head w ≤ℤ (pos 0 -ℤ pos least)) (sym same) at_v

-- Where an arc of the matching is tight for all potentials, what it asks of its row is not below the floor: potentials above the
-- floor keep it too, and none of the numbers is below theirs.
pub tail_low : (net : Net) (placing : Placing) (numbers : Falls) (x v c : ℕ) → x ≤ net.nodes → v ≤ net.nodes → AreHigh net placing numbers →
    IsFloored net placing → IsTightIn net placing x v → net.arc x v ≡ Some c →
    c + get_or numbers.heads.items v 0 ≤ 5000000000000000
tail_low net placing numbers x v c x_in v_in high floor tight arc =
    low (get_or numbers.heads.items v 0) c (floor.0.tail x) (floor.0.head v) (tight floor.0 floor.1.numbers c arc) (floor.1.tails x x_in)
    (high floor.0 floor.1.numbers v v_in).1
  where
    low : (h c : ℕ) (qt qh : ℤ) → qh -ℤ qt ≡ pos c → (pos 0 -ℤ pos 5000000000000000) ≤ℤ qt →
        qh ≤ℤ (pos 0 -ℤ pos h) → c + h ≤ 5000000000000000
    low h c qt qh e bottom top = omega (arith, ints)

-- a row's number is pressed
pub tail_pressed : (net : Net) (placing : Placing) (old new : Falls) (x v c : ℕ) → x ≤ net.nodes → v ≤ net.nodes → HasPlaces net.nodes old →
    AreHigh net placing old → IsFloored net placing → IsTightIn net placing x v → net.arc x v ≡ Some c →
    new.heads.items ≡ old.heads.items → get_or old.tails.items x 0 < c + get_or old.heads.items v 0 →
    new.tails.items ≡ set old.tails.items x (c + get_or old.heads.items v 0) → IsSwept net placing old new true
tail_pressed net placing old new x v c x_in v_in places high floor tight arc heads less tails = record {
  places = record { heads = ap length heads ∙ places.heads; tails = ap length tails ∙ (length-set old.tails.items x least ∙ places.tails) };
  high = high_now;
  nearer = λ e.
      let falls = gap_less old.tails.items x least x_at less (tail_low net placing old x v c x_in v_in high floor tight arc) in
      let heads_same : list_gap new.heads.items ≡ list_gap old.heads.items = ap list_gap heads in
      let tails_same : list_gap new.tails.items ≡ list_gap (set old.tails.items x least) = ap list_gap tails in
      omega arith;
  same = λ e. absurd (cc);
}
  where
    least : ℕ
    least = c + get_or old.heads.items v 0

    x_at : x < length old.tails.items
    x_at = let count = places.tails in omega arith

    pressed : (h c : ℕ) (qt qh : ℤ) → qh -ℤ qt ≡ pos c → qh ≤ℤ (pos 0 -ℤ pos h) → qt ≤ℤ (pos 0 -ℤ pos (c + h))
    pressed h c qt qh fits head = omega (arith, ints)

    high_now : AreHigh net placing new
    high_now q is y y_in =
        let before = high q is y y_in in
        let head_same : get_or new.heads.items y 0 ≡ get_or old.heads.items y 0 = ap (λ (l : List ℕ). get_or l y 0) heads in
        let tail_is : get_or new.tails.items y 0 ≡ cond (y == x) least (get_or old.tails.items y 0) =
        ap (λ (l : List ℕ). get_or l y 0) tails ∙ set_at old.tails.items x least 0 x_at y in (
          subst (λ (k : ℕ). q.tail y ≤ℤ (pos 0 -ℤ pos k)) (sym tail_is) (go (y == x) refl),
          subst (λ (k : ℕ). q.head y ≤ℤ (pos 0 -ℤ pos k)) (sym head_same) before.1,
        )
      where
        go : (b : Bool) → (y == x) ≡ b → q.tail y ≤ℤ (pos 0 -ℤ pos (cond b least (get_or old.tails.items y 0)))
        go false e = (high q is y y_in).0
        go true e =
            let same : y ≡ x = grind (arith, nat_tests) in
            let at_x = pressed (get_or old.heads.items v 0) c (q.tail x) (q.head v) (tight q is c arc) (high q is v v_in).1 in
            subst (λ (w : ℕ). q.tail w ≤ℤ (pos 0 -ℤ pos least)) (sym same) at_x

pub head_swept : (net : Net) (placing : Placing) (old new : Falls) (x v c : ℕ) (r : Bool) → x ≤ net.nodes → v ≤ net.nodes →
    HasPlaces net.nodes old → AreHigh net placing old → IsFloored net placing → net.arc x v ≡ Some c →
    new.tails.items ≡ old.tails.items → (r ≡ true → get_or old.heads.items v 0 < get_or old.tails.items x 0 - c) →
    (r ≡ true → new.heads.items ≡ set old.heads.items v (get_or old.tails.items x 0 - c)) → (r ≡ false → new ≡ old) →
    IsSwept net placing old new r
head_swept net placing old new x v c true x_in v_in places high floor arc tails less heads same =
    head_pressed net placing old new x v c x_in v_in places high floor arc tails (less refl) (heads refl)
head_swept net placing old new x v c false x_in v_in places high floor arc tails less heads same =
    subst (λ (f : Falls). IsSwept net placing old f false) (sym (same refl)) (swept_start net placing old places high)

pub tail_swept : (net : Net) (placing : Placing) (old new : Falls) (x v c : ℕ) (r : Bool) → x ≤ net.nodes → v ≤ net.nodes →
    HasPlaces net.nodes old → AreHigh net placing old → IsFloored net placing → IsTightIn net placing x v → net.arc x v ≡ Some c →
    new.heads.items ≡ old.heads.items → (r ≡ true → get_or old.tails.items x 0 < c + get_or old.heads.items v 0) →
    (r ≡ true → new.tails.items ≡ set old.tails.items x (c + get_or old.heads.items v 0)) → (r ≡ false → new ≡ old) →
    IsSwept net placing old new r
tail_swept net placing old new x v c true x_in v_in places high floor tight arc heads less tails same =
    tail_pressed net placing old new x v c x_in v_in places high floor tight arc heads (less refl) (tails refl)
tail_swept net placing old new x v c false x_in v_in places high floor tight arc heads less tails same =
    subst (λ (f : Falls). IsSwept net placing old f false) (sym (same refl)) (swept_start net placing old places high)

-- what was asked so far, and one thing more
pub asked_more : (P : Falls → ℕ → Type 0) (k : ℕ) (mid new : Falls) (a b : Bool) → (a ≡ false → (w : ℕ) → w < k → P mid w) →
    (b ≡ false → new ≡ mid) → (b ≡ false → P new k) → cond a true b ≡ false → (w : ℕ) → w < k + 1 → P new w
asked_more P k mid new a b before same here e w below =
    let both = or_false a b e in
    elim (cases_lt w k) [
      | inl earlier ↦ subst (λ (f : Falls). P f w) (sym (same both.1)) (before both.0 w earlier)
      | inr now ↦ (let at : w ≡ k = omega arith in subst (λ (j : ℕ). P new j) (sym at) (here both.1))
    ]

-- Where nothing moves, all conditions hold: no arc asks a column to be lower, and no arc of the matching a row, so all arcs are
-- feasible and those of the matching tight. With the invariant the numbers are the greatest potentials there are.
pub numbers_hold : (net : Net) → IsRising net → (placing : Placing) (numbers : Falls) → IsFloored net placing →
    ((x v : ℕ) → x ≤ net.nodes → v ≤ net.nodes → IsFitting net numbers x v) →
    ((t : ℕ) → t < net.nodes → IsTaut net numbers t (get_or placing.to.items t 0)) →
    ((u : ℕ) → u < net.nodes → get_or placing.from.items u 0 ≡ net.nodes → IsTaut net numbers net.nodes u) →
    (0 < placing.spare → IsTaut net numbers net.nodes net.nodes) → AreNumbersOf net placing (potentials_of numbers)
numbers_hold net rising placing numbers floor fits rows starts stay = record {
  tails = λ x x_in. below (get_or numbers.tails.items x 0);
  heads = λ v v_in. below (get_or numbers.heads.items v 0);
  feasible = λ x v c x_in v_in arc. feasible (get_or numbers.heads.items v 0) (get_or numbers.tails.items x 0) c (fits x v x_in v_in c arc);
  tight = record {
    rows = λ t t_in there.
        let arc : IsTightArc net floor.0 t (get_or placing.to.items t 0) = floor.1.numbers.tight.rows t t_in there in (
          arc.0,
          arc.1,
          λ c e. tight (get_or numbers.heads.items (get_or placing.to.items t 0) 0) (get_or numbers.tails.items t 0) c
              (fits t (get_or placing.to.items t 0) (omega arith) there c e) (rows t t_in c e),
          there,
        );
    store = λ u u_in from_store.
        let arc : IsTightArc net floor.0 net.nodes u = floor.1.numbers.tight.store u u_in from_store in (
          arc.0,
          arc.1,
          λ c e. tight (get_or numbers.heads.items u 0) (get_or numbers.tails.items net.nodes 0) c
              (fits net.nodes u (omega arith) (omega arith) c e) (starts u u_in from_store c e),
          omega arith,
        );
    stays = λ some. equal (get_or numbers.heads.items net.nodes 0) (get_or numbers.tails.items net.nodes 0)
        (fits net.nodes net.nodes (omega arith) (omega arith) 0 rising.stays) (stay some 0 rising.stays);
  };
}
  where
    below : (k : ℕ) → (pos 0 -ℤ pos k) ≤ℤ pos 0
    below k = omega (arith, ints)

    feasible : (h t c : ℕ) → t ≤ c + h → ((pos 0 -ℤ pos h) -ℤ (pos 0 -ℤ pos t)) ≤ℤ pos c
    feasible h t c fit = omega (arith, ints)

    tight : (h t c : ℕ) → t ≤ c + h → c + h ≤ t → (pos 0 -ℤ pos h) -ℤ (pos 0 -ℤ pos t) ≡ pos c
    tight h t c fit taut = omega (arith, ints)

    equal : (h t : ℕ) → t ≤ 0 + h → 0 + h ≤ t → pos 0 -ℤ pos h ≡ pos 0 -ℤ pos t
    equal h t fit taut = omega (arith, ints)

-- the arcs of the matching are tight in all numbers
pub tight_row : (net : Net) (placing : Placing) (t : ℕ) → t < net.nodes → get_or placing.to.items t 0 ≤ net.nodes →
    IsTightIn net placing t (get_or placing.to.items t 0)
tight_row net placing t t_in there q is c arc = (is.tight.rows t t_in there).2 c arc

pub tight_start : (net : Net) (placing : Placing) (u : ℕ) → u < net.nodes → get_or placing.from.items u 0 ≡ net.nodes →
    IsTightIn net placing net.nodes u
tight_start net placing u u_in from_store q is c arc = (is.tight.store u u_in from_store).2 c arc

pub tight_unused : (net : Net) → IsRising net → (placing : Placing) → 0 < placing.spare → IsTightIn net placing net.nodes net.nodes
tight_unused net rising placing some q is c arc =
    let equal = is.tight.stays some in
    let free : 0 ≡ c = let o : Some 0 ≡ Some c = sym rising.stays ∙ arc in cc in
    rw (← free) (omega (arith, ints))
