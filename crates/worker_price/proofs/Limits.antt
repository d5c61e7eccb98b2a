-- Limits, and least values of columns.
use Rattle.std.proofs.Common.{◌≡◌, ◌⊎◌, inl, inr, ⊎_elim, ℕ, ℤ, pos, negsuc, zero, suc, ◌+◌, ◌<◌, ◌≤◌, ◌+ℤ◌, ◌≤ℤ◌, ◌<ℤ◌, List, [], ◌∷◌, ◌++◌, Bool, true, false, ◌&&◌, Option, Some, None, Contains, refl, sym, ap, ◌∙◌, subst, arith, ne_eqb, filter_map, ◌==◌}
use Rattle.std.specs.List.{range_with_len}
use Rattle.std.specs.Int.{int_min}
use native.Mathlib.Decide.{ℕ_discrete}
use lib.Signed.{lt_z, le_z}
use Rattle.std.proofs.lemmas.Int.{ints, clamps, by_lt_z}
use Rattle.std.proofs.lemmas.Bool.Decides.{nat_tests}
use Rattle.std.proofs.lemmas.Bool.{and_from, eqb-true, and_parts}
use Rattle.plan_core.specs.declared.Price.{Price}
use Rattle.cover_core.specs.declared.Column.{Column}
use Rattle.cover_core.specs.FirstLeast.{value}
use Rattle.cover_core.specs.Best.{within}
use Rattle.worker_price.specs.Priced.{least_value}
use Rattle.worker_price.specs.Work.{half, limit_of}
use Rattle.worker_price.specs.Gathered.{least_lowered}

-- Twice a value is at most what was seen, so the value is at most half of it. Rounding half of what was seen down loses nothing:
-- twice a whole number is at most what was seen exactly if the number is at most that half. With it a limit can be one number,
-- though what is kept is told by twice a value.
half_above : (v seen : ℤ) → (v +ℤ v) ≤ℤ seen → v ≤ℤ half seen
half_above (pos a) (pos n) h = omega (arith, ints)
half_above (pos a) (negsuc n) h = absurd (omega (arith, ints))
half_above (negsuc a) (pos n) h = omega (arith, ints)
half_above (negsuc a) (negsuc n) h = omega (arith, ints)

half_below : (v seen : ℤ) → v ≤ℤ half seen → (v +ℤ v) ≤ℤ seen
half_below (pos a) (pos n) h = omega (arith, ints)
half_below (pos a) (negsuc n) h = absurd (omega (arith, ints))
half_below (negsuc a) (pos n) h = omega (arith, ints)
half_below (negsuc a) (negsuc n) h = omega (arith, ints)

half_rises : (a b : ℤ) → a ≤ℤ b → half a ≤ℤ half b
half_rises (pos a) (pos n) h = omega (arith, ints)
half_rises (pos a) (negsuc n) h = absurd (omega (arith, ints))
half_rises (negsuc a) (pos n) h = omega (arith, ints)
half_rises (negsuc a) (negsuc n) h = omega (arith, ints)

pub limit_above : (v seen : ℤ) → v <ℤ pos 0 → (v +ℤ v) ≤ℤ seen → v ≤ℤ limit_of seen
limit_above v seen low h = let b = half_above v seen h in omega (arith, ints, clamps)

limit_negative : (v seen : ℤ) → v ≤ℤ limit_of seen → v <ℤ pos 0
limit_negative v seen h = omega (arith, ints, clamps)

limit_half : (v seen : ℤ) → v ≤ℤ limit_of seen → v ≤ℤ half seen
limit_half v seen h = omega (arith, ints, clamps)

-- A lower value seen gives no higher limit. What a worker sees while others still work is never below the least value at the end,
-- so no limit is below the limit of that: it is the one property of limits on which the answer rests, for any order of the workers'
-- steps.
pub limit_rises : (a b : ℤ) → a ≤ℤ b → limit_of a ≤ℤ limit_of b
limit_rises a b h = let r = half_rises a b h in omega (arith, ints, clamps)

pub limit_lowest : (a : ℤ) → limit_of a ≤ℤ negsuc 0
limit_lowest a = omega (arith, ints, clamps)

pub le_true : (a b : ℤ) → a ≤ℤ b → le_z a b ≡ true
le_true a b h = grind (arith, ints)

lt_true : (a b : ℤ) → a <ℤ b → lt_z a b ≡ true
lt_true a b h = grind (arith, ints)

pub le_is : (a b : ℤ) → le_z a b ≡ true → a ≤ℤ b
le_is a b h = grind (arith, ints)

lt_is : (a b : ℤ) → lt_z a b ≡ true → a <ℤ b
lt_is a b h = grind (arith, ints)

-- two tests that are true together are the same
same_tests : (a b : Bool) → (a ≡ true → b ≡ true) → (b ≡ true → a ≡ true) → a ≡ b
same_tests true b f g = sym (f refl)
same_tests false true f g = g refl
same_tests false false f g = refl

-- A column is kept, its value being below 0 and twice it at most the least, exactly where its value is within the limit of the
-- least value. So keeping columns at the end is the same as pricing once more under a lower limit.
pub kept_is_within : (v l : ℤ) → (lt_z v (pos 0) && le_z (v +ℤ v) l) ≡ le_z v (limit_of l)
kept_is_within v l =
    same_tests (lt_z v (pos 0) && le_z (v +ℤ v) l) (le_z v (limit_of l))
    (λ h. le_true v (limit_of l)
    (limit_above v l (lt_is v (pos 0) (and_parts (lt_z v (pos 0)) (le_z (v +ℤ v) l) h).0)
    (le_is (v +ℤ v) l (and_parts (lt_z v (pos 0)) (le_z (v +ℤ v) l) h).1)))
    (λ h. let low = le_is v (limit_of l) h in
    and_from (lt_z v (pos 0)) (le_z (v +ℤ v) l) (lt_true v (pos 0) (limit_negative v l low))
    (le_true (v +ℤ v) l (half_below v l (limit_half v l low))))

-- a column whose value is within a limit is found under it
pub found_where : (prices : List Price) (c : Column) (limit : ℤ) → value prices c ≤ℤ limit → within limit prices (Some c) ≡ Some c
found_where prices c limit h = rw (le_true (value prices c) limit h) refl

-- What is kept under a lower limit is what is kept of what was found under a higher one: a limit only hides columns above it, and
-- these would not be kept. So what a task found under its own limit, whichever that was, is as good as the first least itself.
pub within_within : (prices : List Price) (l m : ℤ) (b : Option Column) → l ≤ℤ m → within l prices (within m prices b) ≡ within l prices b
within_within prices l m None h = refl
within_within prices l m (Some c) h = go (le_z v m) refl (le_z v l) refl
  where
    v : ℤ
    v = value prices c

    go : (b : Bool) → le_z v m ≡ b → (k : Bool) → le_z v l ≡ k → within l prices (within m prices (Some c)) ≡ within l prices (Some c)
    go true e k i = rw e refl
    go false e false i = rw (e, i) refl
    go false e true i = let low = le_is v l i in let f = le_true v m (omega (arith, ints)) in absurd (cc)

-- what is within a limit is the column itself
pub within_some : (prices : List Price) (limit : ℤ) (b : Option Column) (c : Column) → within limit prices b ≡ Some c → b ≡ Some c
within_some prices limit None c h = h
within_some prices limit (Some d) c h = go (le_z (value prices d) limit) refl
  where
    go : (k : Bool) → le_z (value prices d) limit ≡ k → Some d ≡ Some c
    go true e = rw e at h
    go false e = let n : None ≡ Some c = rw e at h in absurd (cc)

pub head_cases : {X : Type 0} (y : X) (xs : List X) (x : X) → Contains (y ∷ xs) x → (y ≡ x) ⊎ Contains xs x
head_cases y xs x (zero, l, e) = inl e
head_cases y xs x (suc k, l, e) = inr (k, omega arith, e)

pub in_tail : {X : Type 0} (y : X) (xs : List X) (x : X) → Contains xs x → Contains (y ∷ xs) x
in_tail y xs x (k, l, e) = (suc k, omega arith, e)

pub in_none : {X : Type 0} (P : Type 0) (x : X) → Contains [] x → P
in_none P x (k, l, e) = absurd (omega arith)

min_left : (x y : ℤ) → int_min x y ≤ℤ x
min_left x y = omega (arith, ints, clamps)

min_right : (x y : ℤ) → int_min x y ≤ℤ y
min_right x y = omega (arith, ints, clamps)

min_cases : (x y : ℤ) → (int_min x y ≡ x) ⊎ (int_min x y ≡ y)
min_cases x y = by_lt_z y x (λ h. inr (omega (arith, ints, clamps))) (λ h. inl (omega (arith, ints, clamps)))

at_most_through : (x y z : ℤ) → x ≤ℤ y → y ≤ℤ z → x ≤ℤ z
at_most_through x y z h k = omega (arith, ints)

zero_most : pos 0 ≤ℤ pos 0
zero_most = omega (arith, ints)

same_least : (l m : ℤ) → l ≤ℤ m → m ≤ℤ l → l ≡ m
same_least l m h k = omega (arith, ints)

-- the least of 0 and the values of n columns
pub record IsLeastOver (prices : List Price) (f : ℕ → Option Column) (n : ℕ) (l : ℤ) : Type 0 where
  pub most : l ≤ℤ pos 0
  pub below : (g : ℕ) (c : Column) → g < n → f g ≡ Some c → l ≤ℤ value prices c
  pub reached : (l ≡ pos 0) ⊎ ((g : ℕ) × (c : Column) × (g < n) × (f g ≡ Some c) × (value prices c ≡ l))

-- the least of 0 and the entries of the class
pub record IsLeastIn (entries : List (ℕ × ℤ)) (k : ℕ) (l : ℤ) : Type 0 where
  pub most : l ≤ℤ pos 0
  pub below : (x : ℤ) → Contains entries (k, x) → l ≤ℤ x
  pub reached : (l ≡ pos 0) ⊎ Contains entries (k, l)

module _ (prices : List Price) where
  pub least_value_most : (cs : List Column) → least_value prices cs ≤ℤ pos 0
  least_value_most [] = zero_most
  least_value_most (c ∷ cs) = at_most_through _ _ _ (min_right (value prices c) (least_value prices cs)) (least_value_most cs)

  pub least_value_below : (cs : List Column) (c : Column) → Contains cs c → least_value prices cs ≤ℤ value prices c
  least_value_below [] c h = in_none _ c h
  least_value_below (d ∷ cs) c h =
      ⊎_elim (λ (e : d ≡ c). subst (λ (x : Column). int_min (value prices d) (least_value prices cs) ≤ℤ value prices x) e
      (min_left (value prices d) (least_value prices cs)))
      (λ (r : Contains cs c). at_most_through _ _ _ (min_right (value prices d) (least_value prices cs)) (least_value_below cs c r))
      (head_cases d cs c h)

  pub least_value_reached : (cs : List Column) →
      (least_value prices cs ≡ pos 0) ⊎ ((c : Column) × Contains cs c × (value prices c ≡ least_value prices cs))
  least_value_reached [] = inl refl
  least_value_reached (d ∷ cs) =
      ⊎_elim (λ (e : int_min (value prices d) (least_value prices cs) ≡ value prices d). inr (d, (0, omega arith, refl), sym e))
      (λ (e : int_min (value prices d) (least_value prices cs) ≡ least_value prices cs).
      ⊎_elim (λ (z : least_value prices cs ≡ pos 0). inl (e ∙ z))
      (λ (r : (c : Column) × Contains cs c × (value prices c ≡ least_value prices cs)). inr (r.0, in_tail d cs r.0 r.1, r.2 ∙ sym e))
      (least_value_reached cs))
      (min_cases (value prices d) (least_value prices cs))

  -- The least of 0 and the values of some columns is one number, as each of two such numbers is reached and the other is not above
  -- it. So it is enough to show of what workers found that it is the least over the first leasts, and nothing of how they came to
  -- it.
  pub least_over_unique : (f : ℕ → Option Column) (n : ℕ) (l m : ℤ) → IsLeastOver prices f n l → IsLeastOver prices f n m → l ≡ m
  least_over_unique f n l m a b = same_least l m (lower l m a b) (lower m l b a)
    where
      lower : (x y : ℤ) → IsLeastOver prices f n x → IsLeastOver prices f n y → x ≤ℤ y
      lower x y s t =
          ⊎_elim (λ (z : y ≡ pos 0). subst (λ (w : ℤ). x ≤ℤ w) (sym z) s.most)
          (λ (r : (g : ℕ) × (c : Column) × (g < n) × (f g ≡ Some c) × (value prices c ≡ y)). subst (λ (w : ℤ). x ≤ℤ w)
          r.4 (s.below r.0 r.1 r.2 r.3))
          t.reached

-- what a function gives of a number stands in the list of what it gives
pub in_given : {Y : Type 0} (f : ℕ → Option Y) (a n g : ℕ) (y : Y) → a ≤ g → g < a + n → f g ≡ Some y →
    Contains (filter_map f (range_with_len a n)) y
in_given f a zero g y low high is = absurd (omega arith)
in_given {Y = Y} f a (suc n) g y low high is =
    elim (ℕ_discrete a g) [
      | yes same ↦ let here : f a ≡ Some y = ap f same ∙ is in rw here (0, omega arith, refl)
      | no apart ↦
          let rest = in_given f (a + 1) n g y (omega arith) (omega arith) is in
          elim (f a) as (λ o. f a ≡ o → Contains (filter_map f (range_with_len a (suc n))) y) [
            | None ↦ λ e. rw e rest
            | Some z ↦ λ e. rw e (in_tail z (filter_map f (range_with_len (a + 1) n)) y rest)
          ] refl
    ]

-- and what stands there was given
pub from_given : {Y : Type 0} (f : ℕ → Option Y) (a n : ℕ) (y : Y) → Contains (filter_map f (range_with_len a n)) y →
    (g : ℕ) × (a ≤ g) × (g < a + n) × (f g ≡ Some y)
from_given f a zero y h = in_none _ y h
from_given {Y = Y} f a (suc n) y h =
    let later = λ (r : Contains (filter_map f (range_with_len (a + 1) n)) y).
    (let s = from_given f (a + 1) n y r in here s) in
    go (f a) refl later h
  where
    here : ((g : ℕ) × (a + 1 ≤ g) × (g < a + 1 + n) × (f g ≡ Some y)) → (g : ℕ) × (a ≤ g) × (g < a + suc n) × (f g ≡ Some y)
    here s = (s.0, (let x = s.1 in omega arith), (let x = s.2 in omega arith), s.3)

    go : (o : Option Y) → f a ≡ o →
        (Contains (filter_map f (range_with_len (a + 1) n)) y → (g : ℕ) × (a ≤ g) × (g < a + suc n) × (f g ≡ Some y))
        → Contains (filter_map f (range_with_len a (suc n))) y → (g : ℕ) × (a ≤ g) × (g < a + suc n) × (f g ≡ Some y)
    go None e later k = later (rw e at k)
    go (Some z) e later k =
        ⊎_elim (λ (s : z ≡ y). (a, omega arith, omega arith, e ∙ ap Some s)) later
        (head_cases z (filter_map f (range_with_len (a + 1) n)) y (rw e at k))

-- The computed least value is the least of 0 and the values of all columns that a function gives below n: none is above one of
-- them, and it is 0 or one of them. The lemmas before it carry membership to and from the list that is computed.
pub least_over : (prices : List Price) (f : ℕ → Option Column) (n : ℕ) →
    IsLeastOver prices f n (least_value prices (filter_map f (range_with_len 0 n)))
least_over prices f n = record {
  most = least_value_most prices (filter_map f (range_with_len 0 n));
  below = λ g c low is. least_value_below prices (filter_map f (range_with_len 0 n)) c (in_given f 0 n g c (omega arith) (omega arith) is);
  reached =
      ⊎_elim (λ (z : least_value prices (filter_map f (range_with_len 0 n)) ≡ pos 0). inl z)
      (λ (r : (c : Column) × Contains (filter_map f (range_with_len 0 n)) c
      × (value prices c ≡ least_value prices (filter_map f (range_with_len 0 n)))).
      let s = from_given f 0 n r.0 r.1 in inr (s.0, r.0, (let x = s.2 in omega arith), s.3, r.2))
      (least_value_reached prices (filter_map f (range_with_len 0 n)));
}

entry_same : (e : ℕ × ℤ) (k : ℕ) (x : ℤ) → e ≡ (k, x) → (e.0 == k) ≡ true
entry_same e k x h = let s : e.0 ≡ k = ap (λ (p : ℕ × ℤ). p.0) h in grind (arith, nat_tests)

-- the least lowered value, of one more entry
least_more : (e : ℕ × ℤ) (es : List (ℕ × ℤ)) (k : ℕ) (b : Bool) → (e.0 == k) ≡ b → IsLeastIn es k (least_lowered es k) →
    IsLeastIn (e ∷ es) k (least_lowered (e ∷ es) k)
least_more e es k true t r = rw t (record {
  most = at_most_through _ _ _ (min_right e.1 (least_lowered es k)) r.most;
  below = λ x h.
      ⊎_elim (λ (s : e ≡ (k, x)). subst (λ (y : ℤ). int_min e.1 (least_lowered es k) ≤ℤ y) (ap (λ (p : ℕ × ℤ). p.1) s)
      (min_left e.1 (least_lowered es k)))
      (λ (c : Contains es (k, x)). at_most_through _ _ _ (min_right e.1 (least_lowered es k)) (r.below x c))
      (head_cases e es (k, x) h);
  reached =
      ⊎_elim (λ (s : int_min e.1 (least_lowered es k) ≡ e.1).
      let here : e ≡ (k, int_min e.1 (least_lowered es k)) = λ i. (eqb-true e.0 k t i, sym s i) in
      inr (0, omega arith, here))
      (λ (s : int_min e.1 (least_lowered es k) ≡ least_lowered es k).
      ⊎_elim (λ (z : least_lowered es k ≡ pos 0). inl (s ∙ z))
      (λ (c : Contains es (k, least_lowered es k)).
      inr (subst (λ (y : ℤ). Contains (e ∷ es) (k, y)) (sym s) (in_tail e es (k, least_lowered es k) c)))
      r.reached)
      (min_cases e.1 (least_lowered es k));
})
least_more e es k false t r = rw t (record {
  most = r.most;
  below = λ x h.
      ⊎_elim (λ (s : e ≡ (k, x)). let y = entry_same e k x s in absurd (cc)) (λ (c : Contains es (k, x)). r.below x c)
      (head_cases e es (k, x) h);
  reached =
      ⊎_elim (λ (z : least_lowered es k ≡ pos 0). inl z)
      (λ (c : Contains es (k, least_lowered es k)). inr (in_tail e es (k, least_lowered es k) c)) r.reached;
})

-- The least lowered value of a class is the least of 0 and its entries, by induction over the entries: one of the class may lower
-- it, one of another class leaves it as it is.
pub least_lowered_is : (entries : List (ℕ × ℤ)) (k : ℕ) → IsLeastIn entries k (least_lowered entries k)
least_lowered_is [] k = record { most = zero_most; below = λ x h. in_none _ (k, x) h; reached = inl refl }
least_lowered_is (e ∷ es) k = least_more e es k (e.0 == k) refl (least_lowered_is es k)

min_through : (x y z : ℤ) → int_min (int_min x y) z ≡ int_min x (int_min y z)
min_through x y z = omega (arith, ints, clamps)

min_turn : (x y : ℤ) → int_min x y ≡ int_min y x
min_turn x y = omega (arith, ints, clamps)

zero_first : (l : ℤ) → l ≤ℤ pos 0 → int_min (pos 0) l ≡ l
zero_first l h = omega (arith, ints, clamps)

-- Of two lists of entries, the least is the lesser of their leasts; so it does not matter in which order the desks of the workers
-- are joined.
pub least_lowered-append : (xs ys : List (ℕ × ℤ)) (k : ℕ) → least_lowered (xs ++ ys) k ≡ int_min (least_lowered xs k) (least_lowered ys k)
least_lowered-append [] ys k = sym (zero_first (least_lowered ys k) (least_lowered_is ys k).most)
least_lowered-append (e ∷ es) ys k =
    let rest = least_lowered-append es ys k in
    elim (e.0 == k) as (λ b. (e.0 == k) ≡ b → least_lowered ((e ∷ es) ++ ys) k ≡ int_min (least_lowered (e ∷ es) k) (least_lowered ys k)) [
      | true ↦ λ t. rw t (ap (int_min e.1) rest ∙ sym (min_through e.1 (least_lowered es k) (least_lowered ys k)))
      | false ↦ λ t. rw t rest
    ] refl

-- a single entry of the class lowers its least
pub least_lowered-push : (xs : List (ℕ × ℤ)) (k : ℕ) (x : ℤ) → least_lowered (xs ++ (k, x) ∷ []) k ≡ int_min x (least_lowered xs k)
least_lowered-push xs k x =
    let here : (k == k) ≡ true = grind (arith, nat_tests) in
    let most : least_lowered xs k ≤ℤ pos 0 = (least_lowered_is xs k).most in
    let one : least_lowered ((k, x) ∷ []) k ≡ int_min x (pos 0) = rw here refl in
    least_lowered-append xs ((k, x) ∷ []) k ∙ (ap (int_min (least_lowered xs k)) one ∙ last (least_lowered xs k) x most)
  where
    last : (l x : ℤ) → l ≤ℤ pos 0 → int_min l (int_min x (pos 0)) ≡ int_min x l
    last l x h = omega (arith, ints, clamps)

-- an entry of another class does not
pub least_lowered-other : (xs : List (ℕ × ℤ)) (k j : ℕ) (x : ℤ) → (j ≡ k → ⊥) → least_lowered (xs ++ (j, x) ∷ []) k ≡ least_lowered xs k
least_lowered-other xs k j x apart =
    let there : (j == k) ≡ false = ne_eqb j k apart in
    let one : least_lowered ((j, x) ∷ []) k ≡ pos 0 = rw there refl in
    least_lowered-append xs ((j, x) ∷ []) k
    ∙ (ap (int_min (least_lowered xs k)) one
    ∙ (min_turn (least_lowered xs k) (pos 0) ∙ zero_first (least_lowered xs k) (least_lowered_is xs k).most))

-- A value that is not below the least wherever it is within the limit of a value seen, which is itself not below the least, is
-- never below it. For suppose it is: then it is below 0, and twice it is below the value seen, so it is within that limit, and not
-- below the least. With this a column that a limit hid cannot have been the least one: the main step of the theorem that limits
-- hide nothing that counts.
pub found_low : (l v seen : ℤ) → l ≤ℤ pos 0 → l ≤ℤ seen → (v ≤ℤ limit_of seen → l ≤ℤ v) → l ≤ℤ v
found_low l v seen most above here =
    by_lt_z v l (λ (low : v <ℤ l). here (limit_above v seen (omega (arith, ints)) (omega (arith, ints)))) (λ h. h)
