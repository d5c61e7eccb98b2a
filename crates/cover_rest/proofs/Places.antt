-- The places of items in a rest.
use Rattle.std.proofs.Common.{◌≡◌, ◌==◌, ℕ, ◌+◌, ◌<◌, ◌≤◌, Bool, true, false, cond, nat_lt, nat_le, zero, suc, List, [], ◌∷◌, ◌++◌, length, refl, sym, ap, subst, ◌∙◌, arith}
use Rattle.std.proofs.lemmas.Bool.Decides.{nat_tests}
use Rattle.cover_core.specs.Cover.{Rises}
use Rattle.cover_core.specs.Plans.{times}
use Rattle.cover_rest.specs.declared.begun.Begun.{Begun}
use Rattle.cover_rest.specs.Rest.{all_below, begun_lists, bodies, body_at, free_lists, has_begun, none_below, rises, written}
use Rattle.cover_rest.proofs.Lists.{true-both}

-- how many of d items from one on are in no head
abbrev free_count : List Begun → ℕ → ℕ → ℕ
free_count heads k zero = 0
free_count heads k (suc d) = cond (has_begun heads k) (free_count heads (suc k) d) (suc (free_count heads (suc k) d))

abbrev past : List Begun → ℕ → ℕ
past [] x = x
past (h ∷ hs) x = suc (past hs x)

-- where an item in no head stands
abbrev place : List Begun → ℕ → ℕ
place heads i = past heads (free_count heads 0 i)

abbrev pub places : List Begun → List ℕ → List ℕ
places heads [] = []
places heads (i ∷ is) = place heads i ∷ places heads is

-- items of a list are in no head, and there
abbrev pub AllFree : List Begun → ℕ → List ℕ → Type 0
AllFree heads n list = (i : ℕ) → 1 ≤ times i list → (has_begun heads i ≡ false) × (i < n)

record IsFreeAt (bs : List (List ℕ)) (x i : ℕ) : Type 0 where
  pub within : x < length bs
  pub body : body_at bs x ≡ i ∷ []

-- Where an item in no head stands among the free ones: at the place that is the number of free items before it. By induction over
-- the items, counted on from k, so that the items before k are out of the way.
free-at : (heads : List Begun) (n k d : ℕ) → d < n → has_begun heads (k + d) ≡ false →
    IsFreeAt (free_lists heads n k) (free_count heads k d) (k + d)
free-at heads zero k d h free = absurd (omega arith)
free-at heads (suc n) k zero h free =
    let same : k + 0 ≡ k = omega arith in
    let here : has_begun heads k ≡ false = ap (has_begun heads) (sym same) ∙ free in
    let P : Bool → Type 0 = λ b. IsFreeAt (cond b (free_lists heads n (suc k)) ((k ∷ []) ∷ free_lists heads n (suc k))) 0 (k + 0) in
    subst P (sym here) (record { within = omega arith; body = ap (λ k. k ∷ []) (sym same) })
free-at heads (suc n) k (suc d) h free =
    let same : suc k + d ≡ k + suc d = omega arith in
    let there : has_begun heads (suc k + d) ≡ false = ap (has_begun heads) same ∙ free in
    let rest = free-at heads n (suc k) d (omega arith) there in
    let Q : ℕ → Type 0 = λ i. IsFreeAt (free_lists heads n (suc k)) (free_count heads (suc k) d) i in
    let moved = subst Q same rest in
    elim (has_begun heads k) as
    (λ b. IsFreeAt (cond b (free_lists heads n (suc k)) ((k ∷ []) ∷ free_lists heads n (suc k)))
    (cond b (free_count heads (suc k) d) (suc (free_count heads (suc k) d))) (k + suc d)) [
      | true ↦ moved
      | false ↦ let within = moved.within in record { within = omega arith; body = moved.body }
    ]

count-up : (heads : List Begun) (k d e : ℕ) → d < e → has_begun heads (k + d) ≡ false → free_count heads k d < free_count heads k e
count-up heads k d zero h free = absurd (omega arith)
count-up heads k zero (suc e) h free =
    let same : k + 0 ≡ k = omega arith in
    let here : has_begun heads k ≡ false = ap (has_begun heads) (sym same) ∙ free in
    let P : Bool → Type 0 = λ b. 0 < cond b (free_count heads (suc k) e) (suc (free_count heads (suc k) e)) in
    subst P (sym here) (omega arith)
count-up heads k (suc d) (suc e) h free =
    let same : suc k + d ≡ k + suc d = omega arith in
    let there : has_begun heads (suc k + d) ≡ false = ap (has_begun heads) same ∙ free in
    let rest = count-up heads (suc k) d e (omega arith) there in
    elim (has_begun heads k) as
    (λ b. cond b (free_count heads (suc k) d) (suc (free_count heads (suc k) d)) < cond b (free_count heads (suc k) e)
    (suc (free_count heads (suc k) e))) [
      | true ↦ rest
      | false ↦ omega (arith, rest)
    ]

past-body : (heads : List Begun) (more : List (List ℕ)) (x : ℕ) → body_at (begun_lists heads ++ more) (past heads x) ≡ body_at more x
past-body [] more x = refl
past-body (h ∷ hs) more x = past-body hs more x

past-within : (heads : List Begun) (more : List (List ℕ)) (x : ℕ) → x < length more → past heads x < length (begun_lists heads ++ more)
past-within [] more x h = h
past-within (g ∷ gs) more x h = omega (arith, past-within gs more x h)

past-up : (heads : List Begun) (x y : ℕ) → x < y → past heads x < past heads y
past-up [] x y h = h
past-up (g ∷ gs) x y h = omega (arith, past-up gs x y h)

pub past-heads : (heads : List Begun) (x : ℕ) → length heads ≤ past heads x
past-heads [] x = omega arith
past-heads (g ∷ gs) x = omega (arith, past-heads gs x)

is-below : (x y : ℕ) → x < y → nat_lt x y ≡ true
is-below x y h = grind (arith, nat_tests)

is-at-most : (x y : ℕ) → x ≤ y → nat_le x y ≡ true
is-at-most x y h = grind (arith, nat_tests)

module _ (heads : List Begun) (n : ℕ) where
  abbrev bs : List (List ℕ)
  bs = bodies heads n

  place-is : (i : ℕ) → has_begun heads i ≡ false → i < n → IsFreeAt bs (place heads i) i
  place-is i free below =
      let same : 0 + i ≡ i = omega arith in
      let there : has_begun heads (0 + i) ≡ false = ap (has_begun heads) same ∙ free in
      let is = free-at heads n 0 i below there in
      record {
        within = past-within heads (free_lists heads n 0) (free_count heads 0 i) is.within;
        body = past-body heads (free_lists heads n 0) (free_count heads 0 i) ∙ is.body ∙ ap (λ i. i ∷ []) same;
      }

  place-up : (i j : ℕ) → has_begun heads i ≡ false → i < j → place heads i < place heads j
  place-up i j free h =
      let same : 0 + i ≡ i = omega arith in
      let there : has_begun heads (0 + i) ≡ false = ap (has_begun heads) same ∙ free in
      past-up heads (free_count heads 0 i) (free_count heads 0 j) (count-up heads 0 i j h there)

  first-free : (x : ℕ) (xs : List ℕ) → AllFree heads n (x ∷ xs) → (has_begun heads x ≡ false) × (x < n)
  first-free x xs free = free x (let same : (x == x) ≡ true = grind (arith, nat_tests) in rw same (omega arith))

  pub rest-free : (x : ℕ) (xs : List ℕ) → AllFree heads n (x ∷ xs) → AllFree heads n xs
  rest-free x xs free = λ i h. free i (omega (arith, h))

  -- Putting places for items and writing out again gives the list: a free item's place stands for that item alone. It is the other
  -- way round of `written`, for lists that touch no head, and so the core of the bijection between lists of the problem and lists
  -- of the rest.
  pub places-written : (xs : List ℕ) → AllFree heads n xs → written bs (places heads xs) ≡ xs
  places-written [] free = refl
  places-written (x ∷ xs) free =
      let (here, below) = first-free x xs free in
      let is = place-is x here below in
      ap (λ b. b ++ written bs (places heads xs)) is.body ∙ ap (λ l. x ∷ l) (places-written xs (rest-free x xs free))

  pub places-below : (xs : List ℕ) → AllFree heads n xs → all_below (length bs) (places heads xs) ≡ true
  places-below [] free = refl
  places-below (x ∷ xs) free =
      let (here, below) = first-free x xs free in
      let is = place-is x here below in
      true-both (nat_lt (place heads x) (length bs)) (all_below (length bs) (places heads xs))
      (is-below (place heads x) (length bs) is.within) (places-below xs (rest-free x xs free))

  -- Places of free items rise as the items do, since they count the free items before: a list that rises is one of the rest that
  -- rises.
  pub places-rise : (xs : List ℕ) → AllFree heads n xs → Rises xs → rises (places heads xs) ≡ true
  places-rise [] free up = refl
  places-rise (x ∷ []) free up = refl
  places-rise (x ∷ y ∷ ys) free up =
      let (here, below) = first-free x (y ∷ ys) free in
      true-both (nat_lt (place heads x) (place heads y)) (rises (places heads (y ∷ ys)))
      (is-below (place heads x) (place heads y) (place-up x y here up.0))
      (places-rise (y ∷ ys) (rest-free x (y ∷ ys) free) up.1)

  pub places-past : (xs : List ℕ) → none_below (length heads) (places heads xs) ≡ true
  places-past [] = refl
  places-past (x ∷ xs) =
      true-both (nat_le (length heads) (place heads x)) (none_below (length heads) (places heads xs))
      (is-at-most (length heads) (place heads x) (past-heads heads (free_count heads 0 x))) (places-past xs)

  -- a head before them
  pub head-rises : (k : ℕ) (xs : List ℕ) → k < length heads → AllFree heads n xs → Rises xs → rises (k ∷ places heads xs) ≡ true
  head-rises k [] h free up = refl
  head-rises k (x ∷ xs) h free up =
      let at = past-heads heads (free_count heads 0 x) in
      true-both (nat_lt k (place heads x)) (rises (places heads (x ∷ xs))) (is-below k (place heads x) (omega (arith, h, at)))
      (places-rise (x ∷ xs) free up)

  pub head-below : (k : ℕ) (xs : List ℕ) → k < length bs → AllFree heads n xs → all_below (length bs) (k ∷ places heads xs) ≡ true
  head-below k xs h free =
      true-both (nat_lt k (length bs)) (all_below (length bs) (places heads xs)) (is-below k (length bs) h) (places-below xs free)
