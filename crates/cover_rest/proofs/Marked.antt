-- The marks of the items that have begun say which have.
use Rattle.std.proofs.Common.{◌≡◌, ◌≢◌, ◌==◌, ℕ, ◌+◌, ◌<◌, Bool, true, false, cond, not, zero, suc, List, [], ◌∷◌, length, get_or, set, replicate, refl, sym, ap, subst, ◌∙◌, arith}
use Rattle.std.proofs.lemmas.Bool.Decides.{nat_tests}
use Rattle.std.proofs.lemmas.List.{length-replicate, length-set, get_or-set_same, get_or-set_other}
use Rattle.cover_core.specs.Plans.{times}
use Rattle.cover_core.proofs.Parts.{times-append}
use Rattle.cover_rest.specs.declared.begun.Begun.{Begun}
use Rattle.cover_rest.specs.Rest.{begun_lists, free_lists, has_begun, joined}
use Rattle.cover_rest.specs.Marks.{all_marked, free_of, marked}

length-marked : (xs : List ℕ) (ms : List Bool) → length (marked xs ms) ≡ length ms
length-marked [] ms = refl
length-marked (x ∷ xs) ms = length-marked xs (set ms x true) ∙ length-set ms x true

pub length-all_marked : (hs : List Begun) (ms : List Bool) → length (all_marked hs ms) ≡ length ms
length-all_marked [] ms = refl
length-all_marked (h ∷ hs) ms = length-all_marked hs (marked h.items ms) ∙ length-marked h.items ms

either-true : (b : Bool) → cond b true true ≡ true
either-true true = refl
either-true false = refl

-- an item is marked where it stands in the list, or was marked
marked-at : (xs : List ℕ) (ms : List Bool) (i : ℕ) → i < length ms →
    get_or (marked xs ms) i false ≡ cond (times i xs == 0) (get_or ms i false) true
marked-at [] ms i h = refl
marked-at (x ∷ xs) ms i h =
    let rest = marked-at xs (set ms x true) i (subst (λ n. i < n) (sym (length-set ms x true)) h) in
    elim (i == x) as (λ b. (i == x) ≡ b → get_or (marked xs (set ms x true)) i false
    ≡ cond (cond b 1 0 + times i xs == 0) (get_or ms i false) true) [
      | true ↦ λ e.
          let same : i ≡ x = grind (arith, nat_tests) in
          let here : get_or (set ms x true) i false ≡ true =
          subst (λ y. get_or (set ms y true) i false ≡ true) same (get_or-set_same ms i true false h) in
          let some : (1 + times i xs == 0) ≡ false = grind (arith, nat_tests) in
          rest ∙ ap (λ b. cond (times i xs == 0) b true) here ∙ either-true (times i xs == 0)
          ∙ ap (λ t. cond t (get_or ms i false) true) (sym some)
      | false ↦ λ e.
          let other : i ≢ x = grind (arith, nat_tests) in
          let none : 0 + times i xs ≡ times i xs = omega arith in
          rest ∙ ap (λ b. cond (times i xs == 0) b true) (get_or-set_other ms x i true false other)
          ∙ ap (λ n. cond (n == 0) (get_or ms i false) true) (sym none)
    ] refl

both-times : (a b : ℕ) (t : Bool) → cond (b == 0) (cond (a == 0) t true) true ≡ cond (a + b == 0) t true
both-times zero b t = let same : 0 + b ≡ b = omega arith in ap (λ n. cond (n == 0) t true) (sym same)
both-times (suc a) b t =
    let some : (suc a + b == 0) ≡ false = grind (arith, nat_tests) in
    let here : (suc a == 0) ≡ false = grind (arith, nat_tests) in
    ap (λ c. cond (b == 0) (cond c t true) true) here ∙ either-true (b == 0) ∙ ap (λ c. cond c t true) (sym some)

all_marked-at : (hs : List Begun) (ms : List Bool) (i : ℕ) → i < length ms →
    get_or (all_marked hs ms) i false ≡ cond (times i (joined (begun_lists hs)) == 0) (get_or ms i false) true
all_marked-at [] ms i h = refl
all_marked-at (g ∷ hs) ms i h =
    let rest = all_marked-at hs (marked g.items ms) i (subst (λ n. i < n) (sym (length-marked g.items ms)) h) in
    let first = marked-at g.items ms i h in
    rest ∙ ap (λ b. cond (times i (joined (begun_lists hs)) == 0) b true) first
    ∙ both-times (times i g.items) (times i (joined (begun_lists hs))) (get_or ms i false)
    ∙ ap (λ n. cond (n == 0) (get_or ms i false) true) (sym (times-append i g.items (joined (begun_lists hs))))

unmarked : (n i : ℕ) → get_or (replicate n false) i false ≡ false
unmarked zero i = refl
unmarked (suc n) zero = refl
unmarked (suc n) (suc i) = unmarked n i

begun-at : (heads : List Begun) (n i : ℕ) → i < n → get_or (all_marked heads (replicate n false)) i false ≡ has_begun heads i
begun-at heads n i h =
    all_marked-at heads (replicate n false) i (subst (λ m. i < m) (sym (length-replicate n false)) h)
    ∙ ap (λ b. cond (times i (joined (begun_lists heads)) == 0) b true) (unmarked n i)
    ∙ flip (times i (joined (begun_lists heads)) == 0)
  where
    flip : (b : Bool) → cond b false true ≡ not b
    flip true = refl
    flip false = refl

free-lists : (heads : List Begun) (k : ℕ) (ms : List Bool) → ((i : ℕ) → i < length ms → get_or ms i false ≡ has_begun heads (k + i)) →
    free_of k ms ≡ free_lists heads (length ms) k
free-lists heads k [] same = refl
free-lists heads k (m ∷ ms) same =
    let here : m ≡ has_begun heads k = same 0 (omega arith) ∙ ap (has_begun heads) (add-none k) in
    let rest = free-lists heads (suc k) ms (λ i h. same (suc i) (omega arith) ∙ ap (has_begun heads) (next i)) in
    ap (λ l. cond m l ((k ∷ []) ∷ l)) rest
    ∙ ap (λ b. cond b (free_lists heads (length ms) (suc k)) ((k ∷ []) ∷ free_lists heads (length ms) (suc k))) here
  where
    add-none : (k : ℕ) → k + 0 ≡ k
    add-none k = omega arith

    next : (i : ℕ) → k + suc i ≡ suc k + i
    next i = omega arith

-- the items that are not marked are those in no head
pub free-is : (heads : List Begun) (n : ℕ) → free_of 0 (all_marked heads (replicate n false)) ≡ free_lists heads n 0
free-is heads n =
    let long : length (all_marked heads (replicate n false)) ≡ n = length-all_marked heads (replicate n false) ∙ length-replicate n false in
    free-lists heads 0 (all_marked heads (replicate n false)) (λ i h. begun-at heads n i (subst (λ m. i < m) long h)
    ∙ ap (has_begun heads) (none i))
    ∙ ap (λ m. free_lists heads m 0) long
  where
    none : (i : ℕ) → i ≡ 0 + i
    none i = omega arith

-- there is a mark for each item
pub length-begun : (heads : List Begun) (n : ℕ) → length (all_marked heads (replicate n false)) ≡ n
length-begun heads n = length-all_marked heads (replicate n false) ∙ length-replicate n false
