-- Promise: the lists whose items are all before an end.
use Rattle.std.specs.Prelude.{◌≡◌, ℕ, ℤ, nat_lt, cond, List, Option, None}
use Rattle.cover_core.specs.Cover.{AllBelow}
use Rattle.cover_core.specs.Labels.{Labelling, label_of}

-- a labelling without the items from an end on
abbrev pub before : {L : Type 0} → Labelling L → ℕ → Labelling L
before w end = record {
  start = λ item. cond (nat_lt item end) (w.start item) None;
  extend = λ a item. cond (nat_lt item end) (w.extend a item) None;
}

-- two labellings give the lists before an end the same labels
abbrev pub AreSameBefore : {L : Type 0} → Labelling L → Labelling L → ℕ → Type 0
AreSameBefore w v end = (xs : List ℕ) → AllBelow end xs → label_of v xs ≡ label_of w xs

-- lists close with the same values
abbrev pub CloseAlike : {L : Type 0} → (L → Option ℤ) → (L → Option ℤ) → Type 0
CloseAlike {L} close other = (a : L) → other a ≡ close a
