-- What is known of the columns of value below 0, in any order.
use Rattle.std.proofs.Common.{◌≡◌, ℕ, ◌≤◌, List, length, sym, ap, subst, arith, All, IsPermutation}
use Rattle.std.proofs.lemmas.List.Sorted.{All-permutation, length_permutation}
use Rattle.plan_core.specs.declared.Price.{Price}
use Rattle.cover_core.specs.declared.Column.{Column}
use Rattle.cover_core.specs.Cover.{AllBelow}
use Rattle.cover_core.specs.Fitting.{AreFit}
use Rattle.cover_core.specs.FirstLeast.{AllWithin}
use Rattle.cover_core.specs.declared.column_keys.ColumnKey.{ColumnKey}
use Rattle.lagrangian_climb.specs.Choices.{gains_at, IsGain}
use Rattle.lagrangian_climb.proofs.InPlay.{gains-at-are, gains-at-few}

pub sorted-are : (n k : ℕ) (prices : List Price) (pool : List Column) (places : List ℕ) (xs ys : List ColumnKey) → n ≤ 3000 →
    AllWithin 10000000000000 prices → AreFit n k pool →
    AllBelow (length pool) places → xs ≡ gains_at prices pool places → IsPermutation xs ys → All (IsGain k (length pool)) ys
sorted-are n k prices pool places xs ys few w fit below is perm =
    let P : List ColumnKey → Type 0 = λ l. All (IsGain k (length pool)) l in
    All-permutation (IsGain k (length pool)) xs ys perm (subst P (sym is) (gains-at-are n k prices pool places few w fit below))

pub sorted-few : (prices : List Price) (pool : List Column) (places : List ℕ) (xs ys : List ColumnKey) → xs ≡ gains_at prices pool places →
    IsPermutation xs ys → length ys ≤ length places
sorted-few prices pool places xs ys is perm =
    let few = gains-at-few prices pool places in
    let long = ap (λ (l : List ColumnKey). length l) is in
    let same = length_permutation xs ys perm in
    omega arith
