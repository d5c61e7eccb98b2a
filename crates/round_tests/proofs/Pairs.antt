-- The earlier of two columns by their values.
use Rattle.std.proofs.Common.{◌≡◌, ℕ, ℤ, ◌*◌, ◌<◌, ◌≤◌, ◌<ℤ◌, ◌≤ℤ◌, Bool, true, false, cond, List, [], ◌∷◌, length, Option, Some, None, IfSome, refl, ap, ◌∙◌, arith}
use Rattle.std.proofs.lemmas.Int.{ints}
use Rattle.std.specs.Prelude.{int_lt}
use Rattle.std.specs.Ordering.{int_cmp, ordering_then, is_gt}
use Rattle.std.specs.declared.cmp.Ordering.{Ordering}
use Rattle.plan_core.specs.declared.Price.{Price}
use Rattle.cover_core.specs.declared.Column.{Column}
use Rattle.cover_core.specs.Best.{best_of, earlier}
use Rattle.cover_core.specs.FirstLeast.{value, backward_cmp}
use Rattle.round_tests.specs.Pair.{pair, column, MayBeValued, best_alone, best_column}

after_by_value : (x y : ℤ) (o : Ordering) → y <ℤ x → is_gt (ordering_then (int_cmp x y) o) ≡ true
after_by_value x y o less =
    let no : int_lt x y ≡ false = grind (arith, ints) in
    let yes : int_lt y x ≡ true = grind (arith, ints) in
    rw (no, yes) refl

before_by_value : (x y : ℤ) (o : Ordering) → x <ℤ y → is_gt (ordering_then (int_cmp x y) o) ≡ false
before_by_value x y o less =
    let yes : int_lt x y ≡ true = grind (arith, ints) in
    rw yes refl

by_list : (x y : ℤ) (o : Ordering) → x ≡ y → is_gt (ordering_then (int_cmp x y) o) ≡ is_gt o
by_list x y o same =
    let no : int_lt x y ≡ false = grind (arith, ints) in
    let not : int_lt y x ≡ false = grind (arith, ints) in
    rw (no, not) refl

pub other_earlier : (prices : List Price) (a b : Column) → value prices b <ℤ value prices a → earlier prices a b ≡ b
other_earlier prices a b less =
    ap (λ (t : Bool). cond t b a) (after_by_value (value prices a) (value prices b) (backward_cmp a.items b.items) less)

pub first_earlier : (prices : List Price) (a b : Column) → value prices a <ℤ value prices b → earlier prices a b ≡ a
first_earlier prices a b less =
    ap (λ (t : Bool). cond t b a) (before_by_value (value prices a) (value prices b) (backward_cmp a.items b.items) less)

pub same_first : (prices : List Price) (a b : Column) → value prices a ≡ value prices b → is_gt (backward_cmp a.items b.items) ≡ false →
    earlier prices a b ≡ a
same_first prices a b same order =
    ap (λ (t : Bool). cond t b a) (by_list (value prices a) (value prices b) (backward_cmp a.items b.items) same ∙ order)

pub same_other : (prices : List Price) (a b : Column) → value prices a ≡ value prices b → is_gt (backward_cmp a.items b.items) ≡ true →
    earlier prices a b ≡ b
same_other prices a b same order =
    ap (λ (t : Bool). cond t b a) (by_list (value prices a) (value prices b) (backward_cmp a.items b.items) same ∙ order)

pub not_other : (prices : List Price) (a b : Column) → value prices a ≤ℤ value prices b → is_gt (backward_cmp a.items b.items) ≡ false →
    earlier prices a b ≡ a
not_other prices a b most order =
    elim (int_lt (value prices a) (value prices b)) as (λ t. int_lt (value prices a) (value prices b) ≡ t → earlier prices a b ≡ a) [
      | true ↦ λ e. (let less : value prices a <ℤ value prices b = grind (arith, ints) in first_earlier prices a b less)
      | false ↦ λ e. (let same : value prices a ≡ value prices b = grind (arith, ints) in same_first prices a b same order)
    ] refl

pub not_first : (prices : List Price) (a b : Column) → value prices b ≤ℤ value prices a → is_gt (backward_cmp a.items b.items) ≡ true →
    earlier prices a b ≡ b
not_first prices a b most order =
    elim (int_lt (value prices b) (value prices a)) as (λ t. int_lt (value prices b) (value prices a) ≡ t → earlier prices a b ≡ b) [
      | true ↦ λ e. (let less : value prices b <ℤ value prices a = grind (arith, ints) in other_earlier prices a b less)
      | false ↦ λ e. (let same : value prices a ≡ value prices b = grind (arith, ints) in same_other prices a b same order)
    ] refl

-- an earlier column is one of the two
pub earlier-has : (P : Column → Type 0) (prices : List Price) (a b : Column) → P a → P b → P (earlier prices a b)
earlier-has P prices a b h k = go (is_gt (ordering_then (int_cmp (value prices a) (value prices b)) (backward_cmp a.items b.items)))
  where
    go : (t : Bool) → P (cond t b a)
    go true = k
    go false = h

pub alone_valued : (count worth item : ℕ) → item < count → worth ≤ 4000000000 → MayBeValued count (column worth (item ∷ []))
alone_valued count worth item below cheap = record { rises = tt; items = (below, tt); cheap = cheap }

pub both_valued : (count worth : ℕ) → count ≡ 2 → worth ≤ 4000000000 → MayBeValued count (column worth (0 ∷ 1 ∷ []))
both_valued count worth two cheap =
    let zero_in : 0 < count = omega arith in
    let one_in : 1 < count = omega arith in
    record { rises = (omega arith, tt); items = (zero_in, (one_in, tt)); cheap = cheap }

pub best_alone_valued : (prices : List Price) (alone : ℕ) → length prices ≡ 2 → alone ≤ 4000000000 →
    MayBeValued (length prices) (best_alone prices alone)
best_alone_valued prices alone two cheap =
    earlier-has (MayBeValued (length prices)) prices (column alone (0 ∷ [])) (column alone (1 ∷ []))
    (alone_valued (length prices) alone 0 (omega arith) cheap) (alone_valued (length prices) alone 1 (omega arith) cheap)

pub best_valued : (prices : List Price) (alone : ℕ) (both : Option ℕ) → length prices ≡ 2 → alone ≤ 4000000000 →
    IfSome both (λ worth. worth ≤ 4000000000) → MayBeValued (length prices) (best_column prices alone both)
best_valued prices alone None two cheap together = best_alone_valued prices alone two cheap
best_valued prices alone (Some worth) two cheap together =
    earlier-has (MayBeValued (length prices)) prices (column worth (0 ∷ 1 ∷ [])) (best_alone prices alone)
    (both_valued (length prices) worth two together) (best_alone_valued prices alone two cheap)

-- the list of both items comes after that of one
abbrev IsBehindBoth : Column → Type 0
IsBehindBoth c = is_gt (backward_cmp (0 ∷ 1 ∷ []) c.items) ≡ true

pub alone_behind : (prices : List Price) (alone : ℕ) → is_gt (backward_cmp (0 ∷ 1 ∷ []) (best_alone prices alone).items) ≡ true
alone_behind prices alone = earlier-has IsBehindBoth prices (column alone (0 ∷ [])) (column alone (1 ∷ [])) refl refl

-- Two items have one class and one group, so all other classes and groups are void; of that one the best column is found by at most
-- two comparisons, which `best_column` writes out. So a pricer that makes these keeps the contract of a search.
pub pair_best : (alone places class group : ℕ) (both : Option ℕ) (prices : List Price) → class < 1 → 16 * group < 2 →
    best_of (pair alone both places) prices class group ≡ Some (best_column prices alone both)
pair_best alone places class group both prices one first =
    let no_class : class ≡ 0 = omega arith in
    let no_group : group ≡ 0 = omega arith in
    ap (λ (k : ℕ). best_of (pair alone both places) prices k group) no_class
    ∙ (ap (λ (k : ℕ). best_of (pair alone both places) prices 0 k) no_group ∙ go both)
  where
    go : (both : Option ℕ) → best_of (pair alone both places) prices 0 0 ≡ Some (best_column prices alone both)
    go None = refl
    go (Some worth) = refl
