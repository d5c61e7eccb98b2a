-- The least of candidates that are looked at range by range.
use Rattle.std.proofs.Common.{◌≡◌, ◌≢◌, ℕ, ◌+◌, true, false, cond, zero, suc, List, [], ◌∷◌, ◌++◌, Option, Some, None, Contains, Less, Equal, Greater, append_assoc, add-one, refl, sym, ap, ◌∙◌, subst, arith, ⊎_elim}
use Rattle.std.specs.Prelude.{flat_map}
use Rattle.std.specs.List.{range_with_len}
use Rattle.std.specs.Ordering.{is_lt}
use Rattle.std.specs.declared.cmp.Ordering.{Ordering}
use Rattle.std.proofs.lemmas.Grind.{flat_map-append}
use Rattle.std.proofs.lemmas.List.Elements.{Contains-append_left, Contains-append_right, Contains-append_cases}
use Rattle.rayon.specs.Lists.{IsLeast}
use Rattle.tail_exchange.specs.declared.candidate.Candidate.{Candidate}
use Rattle.tail_exchange.specs.declared.candidate.Kind.{Kind}
use Rattle.tail_exchange.specs.Exchange.{step_for}
use Rattle.tail_exchange.specs.Order.{candidate_cmp}
use Rattle.tail_exchange.specs.Leasts.{lesser, least_from}
use Rattle.tail_exchange.proofs.Leasts.{candidate_total, Contains-cons_cases, Contains-head, not_below, not_below_itself, not_below_lesser}

append_nil : (xs : List Candidate) → xs ++ [] ≡ xs
append_nil [] = refl
append_nil (x ∷ xs) = ap (λ l. x ∷ l) (append_nil xs)

pub least_from-append : (best : Option Candidate) (xs ys : List Candidate) → least_from best (xs ++ ys) ≡ least_from (least_from best xs) ys
least_from-append best [] ys = refl
least_from-append best (x ∷ xs) ys = least_from-append (Some (lesser best x)) xs ys

range-more : (a n : ℕ) → range_with_len a (suc n) ≡ range_with_len a n ++ (a + n) ∷ []
range-more a zero = let same : a ≡ a + 0 = omega arith in ap (λ k. k ∷ []) same
range-more a (suc n) =
    let next : a + 1 + n ≡ a + suc n = omega arith in
    ap (λ l. a ∷ l) (range-more (a + 1) n ∙ ap (λ k. range_with_len (a + 1) n ++ k ∷ []) next)

flat-one : (f : ℕ → List Candidate) (k : ℕ) → flat_map f (k ∷ []) ≡ f k
flat-one f k = append_nil (f k)

-- one more number is looked at
pub least-more : (f : ℕ → List Candidate) (a n k : ℕ) (start now next : Option Candidate) → a + n ≡ k →
    now ≡ least_from start (flat_map f (range_with_len a n)) → next ≡ least_from now (f k) →
    next ≡ least_from start (flat_map f (range_with_len a (n + 1)))
least-more f a n k start now next at so_far is =
    let whole : flat_map f (range_with_len a (n + 1)) ≡ flat_map f (range_with_len a n) ++ f k =
    ap (λ m. flat_map f (range_with_len a m)) (add-one n) ∙ ap (flat_map f) (range-more a n)
    ∙ flat_map-append f (range_with_len a n) ((a + n) ∷ [])
    ∙ ap (λ l. flat_map f (range_with_len a n) ++ l) (flat-one f (a + n) ∙ ap f at) in
    is ∙ ap (λ (o : Option Candidate). least_from o (f k)) so_far ∙ sym (least_from-append start (flat_map f (range_with_len a n)) (f k))
    ∙ ap (least_from start) (sym whole)

one_in : (c x : Candidate) → Contains (c ∷ []) x → c ≡ x
one_in c x at = ⊎_elim (λ (e : c ≡ x). e) (λ (n : Contains [] x). absurd (let l = n.1 in omega arith)) (Contains-cons_cases c [] x at)

abbrev IsBelowNone : List Candidate → Candidate → Type 0
IsBelowNone xs m = (x : Candidate) → Contains xs x → candidate_cmp x m ≢ Less

below_none-push : (xs : List Candidate) (c m : Candidate) → IsBelowNone xs m → candidate_cmp c m ≢ Less → IsBelowNone (xs ++ c ∷ []) m
below_none-push xs c m h k x at =
    let P : Candidate → Type 0 = λ y. candidate_cmp y m ≢ Less in
    ⊎_elim (λ (front : Contains xs x). h x front) (λ (last : Contains (c ∷ []) x). subst P (one_in c x last) k)
    (Contains-append_cases xs (c ∷ []) x at)

pub not_lt : (o : Ordering) → is_lt o ≡ false → o ≢ Less
not_lt o e h = let yes : is_lt o ≡ true = ap is_lt h in cc

pub is_lt-Less : (o : Ordering) → is_lt o ≡ true → o ≡ Less
is_lt-Less Less e = refl
is_lt-Less Equal e = cc
is_lt-Less Greater e = cc

-- The least so far of some candidates, and one more of them: the new one where it comes before, else the old one; as the order is
-- total, what was not before the old least is not before a lesser one either. By it any split of the candidates into ranges, looked
-- at one after another, gives their least.
least-push : (xs : List Candidate) (best : Option Candidate) (c : Candidate) → IsLeast candidate_cmp xs best →
    IsLeast candidate_cmp (xs ++ c ∷ []) (Some (lesser best c))
least-push xs None c h =
    let P : List Candidate → Type 0 = λ l. IsLeast candidate_cmp (l ++ c ∷ []) (Some c) in
    let Q : Candidate → Type 0 = λ y. candidate_cmp y c ≢ Less in
    subst P (sym h) (Contains-head c [], λ x at. subst Q (one_in c x at) (not_below_itself candidate_cmp candidate_total c))
least-push xs (Some b) c h =
    elim (is_lt (candidate_cmp c b)) as (λ t. is_lt (candidate_cmp c b) ≡ t → IsLeast candidate_cmp (xs ++ c ∷ []) (Some (cond t c b))) [
      | true ↦ λ test.
          let less : candidate_cmp c b ≡ Less = is_lt-Less (candidate_cmp c b) test in
          let back : candidate_cmp b c ≢ Less = not_below_lesser candidate_cmp candidate_total c b less in (
            Contains-append_right xs (c ∷ []) c (Contains-head c []),
            below_none-push xs c c (λ x at. not_below candidate_cmp candidate_total x b c (h.1 x at) back)
                (not_below_itself candidate_cmp candidate_total c),
          )
      | false ↦ λ test. (Contains-append_left xs (c ∷ []) b h.0, below_none-push xs c b h.1 (not_lt (candidate_cmp c b) test))
    ] refl

pub least_from-append_least : (xs ys : List Candidate) (best : Option Candidate) → IsLeast candidate_cmp xs best →
    IsLeast candidate_cmp (xs ++ ys) (least_from best ys)
least_from-append_least xs [] best h = let P : List Candidate → Type 0 = λ l. IsLeast candidate_cmp l best in
    subst P (sym (append_nil xs)) h
least_from-append_least xs (y ∷ ys) best h =
    let P : List Candidate → Type 0 = λ l. IsLeast candidate_cmp l (least_from (Some (lesser best y)) ys) in
    subst P (append_assoc xs (y ∷ []) ys) (least_from-append_least (xs ++ y ∷ []) ys (Some (lesser best y)) (least-push xs best y h))

-- what is kept is the least of all that was looked at
pub least_from-least : (xs : List Candidate) → IsLeast candidate_cmp xs (least_from None xs)
least_from-least xs = least_from-append_least [] xs None refl

-- a step is no candidate where one of its lists has no worth
pub step_for-left : (before : ℕ) (kind : Kind) (a b i j : ℕ) (left right : Option ℕ) → left ≡ None →
    step_for before kind a b i j left right ≡ []
step_for-left before kind a b i j left right e = ap (λ o. step_for before kind a b i j o right) e

pub step_for-right : (before : ℕ) (kind : Kind) (a b i j : ℕ) (left right : Option ℕ) → right ≡ None →
    step_for before kind a b i j left right ≡ []
step_for-right before kind a b i j None right e = refl
step_for-right before kind a b i j (Some left) right e = ap (λ o. step_for before kind a b i j (Some left) o) e
