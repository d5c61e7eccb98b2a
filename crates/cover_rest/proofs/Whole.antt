-- What the items of a rest stand for is each item once.
use Rattle.std.proofs.Common.{◌≡◌, ◌≢◌, ℕ, ℤ, pos, ◌*ℤ◌, ◌+◌, ◌<◌, ◌≤◌, true, false, cond, zero, suc, List, [], ◌∷◌, ◌++◌, length, refl, ap, arith, length-append}
use Rattle.std.proofs.lemmas.Int.{ints}
use Rattle.cover_core.specs.Cover.{Problem, AllBelow}
use Rattle.cover_core.specs.Plans.{times}
use Rattle.cover_core.proofs.Duality.{AllBelow-append}
use Rattle.cover_core.proofs.Sums.{sum_first, sum_each, sum_first-same, sum_each-times}
use Rattle.cover_rest.specs.declared.begun.Begun.{Begun}
use Rattle.cover_rest.specs.Rest.{begun_lists, bodies, body_at, free_lists, has_begun, joined}
use Rattle.cover_rest.specs.Keeping.{AreHeads, NoneEmpty}
use Rattle.cover_rest.specs.Laws.{StandForAll}
use Rattle.cover_rest.proofs.Counts.{bodies-once}

pub front-below : (n : ℕ) (xs ys : List ℕ) → AllBelow n (xs ++ ys) → AllBelow n xs
front-below n [] ys h = tt
front-below n (x ∷ xs) ys h = (h.0, front-below n xs ys h.1)

pub back-below : (n : ℕ) (xs ys : List ℕ) → AllBelow n (xs ++ ys) → AllBelow n ys
back-below n [] ys h = h
back-below n (x ∷ xs) ys h = back-below n xs ys h.1

joined-below : (n : ℕ) (xs ys : List (List ℕ)) → AllBelow n (joined xs) → AllBelow n (joined ys) → AllBelow n (joined (xs ++ ys))
joined-below n [] ys h k = k
joined-below n (x ∷ xs) ys h k =
    AllBelow-append n x (joined (xs ++ ys)) (front-below n x (joined xs) h) (joined-below n xs ys (back-below n x (joined xs) h) k)

free-below : (heads : List Begun) (n k m : ℕ) → k + n ≤ m → AllBelow m (joined (free_lists heads n k))
free-below heads zero k m h = tt
free-below heads (suc n) k m h =
    let rest = free-below heads n (suc k) m (omega arith) in
    let here : k < m = omega arith in
    elim (has_begun heads k) as
    (λ b. AllBelow m (joined (cond b (free_lists heads n (suc k)) ((k ∷ []) ∷ free_lists heads n (suc k))))) [
      | true ↦
          rest
      | false ↦ (here, rest)
    ]

-- none of the lists is empty
abbrev AllSome : List (List ℕ) → Type 0
AllSome [] = Unit {0}
AllSome (b ∷ bs) = (b ≢ []) × AllSome bs

free-some : (heads : List Begun) (n k : ℕ) → AllSome (free_lists heads n k)
free-some heads zero k = tt
free-some heads (suc n) k =
    let rest = free-some heads n (suc k) in
    elim (has_begun heads k) as (λ b. AllSome (cond b (free_lists heads n (suc k)) ((k ∷ []) ∷ free_lists heads n (suc k)))) [
      | true ↦
          rest
      | false ↦ (λ none. absurd (cc), rest)
    ]

all-some : (heads : List Begun) (free : List (List ℕ)) → NoneEmpty heads → AllSome free → AllSome (begun_lists heads ++ free)
all-some [] free h k = k
all-some (g ∷ hs) free h k = (h.0, all-some hs free h.1 k)

some-at : (bs : List (List ℕ)) (x : ℕ) → AllSome bs → x < length bs → body_at bs x ≢ []
some-at [] x h there = absurd (omega arith)
some-at (b ∷ bs) zero h there = h.0
some-at (b ∷ bs) (suc x) h there = some-at bs x h.1 (omega arith)

not-empty : (xs : List ℕ) → xs ≢ [] → 1 ≤ length xs
not-empty [] some = absurd (some refl)
not-empty (x ∷ xs) some = omega arith

no-longer : (bs : List (List ℕ)) → AllSome bs → length bs ≤ length (joined bs)
no-longer [] h = omega arith
no-longer (b ∷ bs) h = omega (arith, no-longer bs h.1, not-empty b h.0, length-append b (joined bs))

abbrev one : ℕ → ℤ
one i = pos 1

each-one : (xs : List ℕ) → sum_each one xs ≡ pos (length xs)
each-one [] = refl
each-one (x ∷ xs) = omega (arith, ints, each-one xs)

first-ones : (n : ℕ) → sum_first one n ≡ pos n
first-ones zero = refl
first-ones (suc n) = omega (arith, ints, first-ones n)

-- each item once is as many as there are
once-length : (n : ℕ) (xs : List ℕ) → AllBelow n xs → ((i : ℕ) → i < n → times i xs ≡ 1) → length xs ≡ n
once-length n xs below once =
    let spread = sum_each-times one n xs below in
    let same : sum_first (λ i. pos (times i xs) *ℤ one i) n ≡ sum_first one n =
    sum_first-same _ _ n (λ i h. ap (λ t. pos t *ℤ pos 1) (once i h)) in
    omega (arith, ints, spread, same, each-one xs, first-ones n)

-- What the items of a rest stand for has each item of the problem once, and none of them stands for nothing; so there are no more
-- of them than items, and a rest stays within the limits of its problem.
pub stand-for-all : (p : Problem) (heads : List Begun) → AreHeads p heads → StandForAll p.items (bodies heads p.items)
stand-for-all p heads are =
    let bs : List (List ℕ) = bodies heads p.items in
    let none : 0 + p.items ≤ p.items = omega arith in
    let below : AllBelow p.items (joined bs) =
    joined-below p.items (begun_lists heads) (free_lists heads p.items 0) are.below (free-below heads p.items 0 p.items none) in
    let some : AllSome bs = all-some heads (free_lists heads p.items 0) are.some (free-some heads p.items 0) in
    let once : (i : ℕ) → i < p.items → times i (joined bs) ≡ 1 = λ i h. bodies-once heads p.items i h (are.once i) in
    record {
      below = below;
      some = λ x h. some-at bs x some h;
      once = once;
      few = omega (arith, no-longer bs some, once-length p.items (joined bs) below once);
    }
