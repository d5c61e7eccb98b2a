-- Promise: what a search answers.
use Rattle.std.specs.Prelude.{◌≡◌, ℕ, ℤ, ◌<ℤ◌, List, Option, Some}
use Rattle.cover_core.specs.Labels.{Labelling, label_of, IsFirstClosed}

-- a list that closes with a value, such that no list closes with less, and none of that value comes before it
pub record IsLeastClosed {L : Type 0} (w : Labelling L) (close : L → Option ℤ) (list : List ℕ) (least : ℤ) : Type 0 where
  pub label : L
  pub label_is : label_of w list ≡ Some label
  pub closes : close label ≡ Some least
  pub first : IsFirstClosed w close list least

-- no list closes
abbrev pub NoneCloses : {L : Type 0} → Labelling L → (L → Option ℤ) → Type 0
NoneCloses {L} w close = (xs : List ℕ) (b : L) (v : ℤ) → label_of w xs ≡ Some b → close b ≡ Some v → ⊥

-- each list that closes does so above the limit
abbrev pub AllCloseAbove : {L : Type 0} → Labelling L → (L → Option ℤ) → ℤ → Type 0
AllCloseAbove {L} w close limit = (xs : List ℕ) (b : L) (v : ℤ) → label_of w xs ≡ Some b → close b ≡ Some v → limit <ℤ v
