-- Promise: labels of lists: a label is made from one item, carried over one item more, and says enough of its list.
use Rattle.std.specs.Prelude.{◌≡◌, ℕ, ℤ, ◌≤ℤ◌, ◌<ℤ◌, ◌⊎◌, List, [], ◌∷◌, ◌++◌, Option, Some, None}
use Rattle.cover_core.specs.FirstLeast.{IsNotAfter}

-- how labels are made: from a list of one item, and from a label and one item more
pub record Labelling (L : Type 0) : Type 0 where
  pub start : ℕ → Option L
  pub extend : L → ℕ → Option L

-- the label after further items
abbrev pub label_after : {L : Type 0} → Labelling L → Option L → List ℕ → Option L
label_after w None xs = None
label_after w (Some a) [] = Some a
label_after w (Some a) (x ∷ xs) = label_after w (w.extend a x) xs

-- the label of a list, if it has one
abbrev pub label_of : {L : Type 0} → Labelling L → List ℕ → Option L
label_of w [] = None
label_of w (x ∷ xs) = label_after w (w.start x) xs

-- a label that is at least as good stays so over each further item
pub record IsKept {L : Type 0} (w : Labelling L) (good : L → L → Type 0) : Type 0 where
  pub same : (a : L) → good a a
  pub through : (a b c : L) → good a b → good b c → good a c
  pub extended : (a b b' : L) (item : ℕ) → good a b → w.extend b item ≡ Some b' → (a' : L) × (w.extend a item ≡ Some a') × good a' b'

-- labels that have one at least as good for each list of one item, and for each extension of one of them
pub record IsCover {L : Type 0} (w : Labelling L) (good : L → L → Type 0) (kept : L → Type 0) : Type 0 where
  pub starts : (item : ℕ) (b : L) → w.start item ≡ Some b → (a : L) × kept a × good a b
  pub steps : (a b : L) (item : ℕ) → kept a → w.extend a item ≡ Some b → (c : L) × kept c × good c b

-- a label beside its list
abbrev pub Held : Type 0 → Type 0
Held S = List ℕ × S

-- a label, where there is one, beside a list
abbrev pub hold : {S : Type 0} → List ℕ → Option S → Option (Held S)
hold xs None = None
hold xs (Some a) = Some (xs, a)

-- labels that carry their lists
abbrev pub held : {S : Type 0} → Labelling S → Labelling (Held S)
held w = record {
  start = λ item. hold (item ∷ []) (w.start item);
  extend = λ h item. hold (h.0 ++ item ∷ []) (w.extend h.1 item);
}

-- at least as good, and of a smaller value or with a list that is not after the other
abbrev pub Beats : {S : Type 0} → (S → S → Type 0) → (S → ℤ) → Held S → Held S → Type 0
Beats good value_at h k = good h.1 k.1 × ((value_at h.1 <ℤ value_at k.1) ⊎ IsNotAfter h.0 k.0)

-- a label that is at least as good has no greater value, a smaller one stays smaller over each further item,
-- and its list closes with a value that is no greater, and smaller where it was
pub record IsValued {S : Type 0} (w : Labelling S) (good : S → S → Type 0) (value_at : S → ℤ) (close : S → Option ℤ) : Type 0 where
  pub at_most : (a b : S) → good a b → value_at a ≤ℤ value_at b
  pub apart : (a b a' b' : S) (item : ℕ) → good a b → value_at a <ℤ value_at b → w.extend a item ≡ Some a' → w.extend b item ≡ Some b' →
      value_at a' <ℤ value_at b'
  pub closes : (a b : S) (v : ℤ) → good a b → close b ≡ Some v →
      (u : ℤ) × (close a ≡ Some u) × (u ≤ℤ v) × (value_at a <ℤ value_at b → u <ℤ v)

-- of all lists that close this one closes with the least value, and of those with that value it comes first
pub record IsFirstClosed {S : Type 0} (w : Labelling S) (close : S → Option ℤ) (list : List ℕ) (least : ℤ) : Type 0 where
  pub at_least : (xs : List ℕ) (b : S) (v : ℤ) → label_of w xs ≡ Some b → close b ≡ Some v → least ≤ℤ v
  pub first : (xs : List ℕ) (b : S) → label_of w xs ≡ Some b → close b ≡ Some least → IsNotAfter list xs

-- the same among the kept labels alone
pub record IsFirstKept {S : Type 0} (kept : Held S → Type 0) (close : S → Option ℤ) (list : List ℕ) (least : ℤ) : Type 0 where
  pub at_least : (h : Held S) (v : ℤ) → kept h → close h.1 ≡ Some v → least ≤ℤ v
  pub first : (h : Held S) → kept h → close h.1 ≡ Some least → IsNotAfter list h.0
