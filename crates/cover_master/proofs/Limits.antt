-- Limits of classes: how many values are at most one that stands at a place.
use Rattle.std.proofs.Common.{◌≡◌, ◌==◌, ◌&&◌, ℕ, ℤ, pos, ◌≤ℤ◌, int_le, ◌+◌, ◌<◌, Bool, true, false, cond, zero, suc, List, [], ◌∷◌, ◌++◌, length, get_or, refl, sym, ap, ◌∙◌, subst, inl, inr, arith, IsPermutation}
use Rattle.std.specs.List.{count_by}
use Rattle.std.specs.Ordering.{int_cmp, is_lt}
use Rattle.std.proofs.lemmas.Int.{ints}
use Rattle.std.proofs.lemmas.Bool.{cases_eq}
use Rattle.std.proofs.lemmas.Cmp.{int_ranked, by_ranked}
use Rattle.std.proofs.lemmas.List.Sums.{sum_by-cons, sum_by-append}
use Rattle.std.proofs.lemmas.List.Sorted.{sum_by-IsPermutation}
use Rattle.cover_core.specs.Plans.{number_at}
use Rattle.cover_core.specs.declared.column_keys.ColumnKey.{ColumnKey}
use Rattle.cover_master.specs.Candidates.{is_at_most, class_values, IsLimit}

at_most-from : (x v : ℤ) → is_lt (int_cmp x v) ≡ false → int_le v x ≡ true
at_most-from x v h =
    let low : v ≤ℤ x =
    by_ranked _ _ _ (int_cmp x v) (int_ranked x v (int_cmp x v) refl)
    (λ is less. absurd (let e : true ≡ false = ap is_lt (sym is) ∙ h in cc))
    (λ is same. omega (arith, ints))
    (λ is greater. omega (arith, ints)) in
    grind (arith, ints)

count-front : (x : ℤ) (front : List ℤ) → ((k : ℕ) (d : ℤ) → k < length front → is_lt (int_cmp x (get_or front k d)) ≡ false) →
    count_by (λ v. int_le v x) front ≡ length front
count-front x [] h = refl
count-front x (v ∷ vs) h =
    let first : int_le v x ≡ true = at_most-from x v (h 0 (pos 0) (omega arith)) in
    let rest : count_by (λ v. int_le v x) vs ≡ length vs = count-front x vs (λ k d below. h (suc k) d (omega arith)) in
    let whole : count_by (λ v. int_le v x) (v ∷ vs) ≡ cond {A = ℕ} (int_le v x) 1 0 + count_by (λ v. int_le v x) vs =
    sum_by-cons (λ y. cond {A = ℕ} (int_le y x) 1 0) v vs in
    let one : cond {A = ℕ} (int_le v x) 1 0 ≡ 1 = ap (λ (b : Bool). cond {A = ℕ} b 1 0) first in
    omega arith

pub count-split : (values front back : List ℤ) (x : ℤ) (place : ℕ) → IsPermutation values (front ++ x ∷ back) → length front ≡ place →
    ((k : ℕ) (d : ℤ) → k < length front → is_lt (int_cmp x (get_or front k d)) ≡ false) → place < count_by (λ v. int_le v x) values
count-split values front back x place moved len split =
    let same : count_by (λ v. int_le v x) (front ++ x ∷ back) ≡ count_by (λ v. int_le v x) values =
    sum_by-IsPermutation (λ y. cond {A = ℕ} (int_le y x) 1 0) values (front ++ x ∷ back) moved in
    let parts : count_by (λ v. int_le v x) (front ++ x ∷ back) ≡ count_by (λ v. int_le v x) front + count_by (λ v. int_le v x) (x ∷ back) =
    sum_by-append (λ y. cond {A = ℕ} (int_le y x) 1 0) front (x ∷ back) in
    let before = count-front x front split in
    let whole : count_by (λ v. int_le v x) (x ∷ back) ≡ cond {A = ℕ} (int_le x x) 1 0 + count_by (λ v. int_le v x) back =
    sum_by-cons (λ y. cond {A = ℕ} (int_le y x) 1 0) x back in
    let here : int_le x x ≡ true = (let low : x ≤ℤ x = omega (arith, ints) in grind (arith, ints)) in
    let one : cond {A = ℕ} (int_le x x) 1 0 ≡ 1 = ap (λ (b : Bool). cond {A = ℕ} b 1 0) here in
    omega arith

-- the values of a class that are at most a limit
pub count-class : (class : ℕ) (limit : ℤ) (keys : List ColumnKey) →
    count_by (λ v. int_le v limit) (class_values class keys) ≡ count_by (is_at_most class limit) keys
count-class class limit [] = refl
count-class class limit (k ∷ ks) =
    let rest : count_by (λ v. int_le v limit) (class_values class ks) ≡ count_by (is_at_most class limit) ks = count-class class limit ks in
    let whole : count_by (is_at_most class limit) (k ∷ ks) ≡ cond {A = ℕ} ((k.class == class) && int_le k.value limit) 1 0
    + count_by (is_at_most class limit) ks = sum_by-cons (λ y. cond {A = ℕ} ((y.class == class) && int_le y.value limit) 1 0) k ks in
    elim (k.class == class) as
    (λ b. count_by (is_at_most class limit) (k ∷ ks) ≡ cond {A = ℕ} (b && int_le k.value limit) 1 0 + count_by (is_at_most class limit) ks →
    count_by (λ v. int_le v limit) (cond b (k.value ∷ class_values class ks) (class_values class ks))
    ≡ count_by (is_at_most class limit) (k ∷ ks)) [
      | true ↦ λ is. sum_by-cons (λ y. cond {A = ℕ} (int_le y limit) 1 0) k.value (class_values class ks)
          ∙ ap (λ n. cond {A = ℕ} (int_le k.value limit) 1 0 + n) rest ∙ sym is
      | false ↦ λ is. omega arith
    ] whole

number_at-front : (zs : List ℤ) (z : ℤ) (i : ℕ) → i < length zs → number_at (zs ++ z ∷ []) i ≡ number_at zs i
number_at-front [] z i h = absurd (omega arith)
number_at-front (y ∷ ys) z zero h = refl
number_at-front (y ∷ ys) z (suc i) h = number_at-front ys z i (omega arith)

number_at-last : (zs : List ℤ) (z : ℤ) (i : ℕ) → i ≡ length zs → number_at (zs ++ z ∷ []) i ≡ z
number_at-last [] z zero h = refl
number_at-last [] z (suc i) h = absurd (omega arith)
number_at-last (y ∷ ys) z zero h = absurd (omega arith)
number_at-last (y ∷ ys) z (suc i) h = number_at-last ys z i (omega arith)

-- one more limit
pub limits-more : (keys : List ColumnKey) (caps : List ℕ) (limits : List ℤ) (z : ℤ) (class : ℕ) → length limits ≡ class →
    IsLimit keys class (get_or caps class 0) z →
    ((k : ℕ) → k < class → IsLimit keys k (get_or caps k 0) (number_at limits k)) → (k : ℕ) → k < class + 1 →
    IsLimit keys k (get_or caps k 0) (number_at (limits ++ z ∷ []) k)
limits-more keys caps limits z class len here so_far k below =
    elim (cases_eq k class) [
      | inl same ↦
          let P : ℤ → Type 0 = λ l. IsLimit keys k (get_or caps k 0) l in
          let Q : ℕ → Type 0 = λ n. IsLimit keys n (get_or caps n 0) z in
          subst P (sym (number_at-last limits z k (same ∙ sym len))) (subst Q (sym same) here)
      | inr apart ↦
          let P : ℤ → Type 0 = λ l. IsLimit keys k (get_or caps k 0) l in
          let less : k < class = omega arith in
          subst P (sym (number_at-front limits z k (omega arith))) (so_far k less)
    ]
