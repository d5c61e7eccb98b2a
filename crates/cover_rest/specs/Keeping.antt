-- Promise: plans that keep what has begun.
use Rattle.std.specs.Prelude.{◌≡◌, ◌≢◌, ℕ, ◌≤◌, Bool, true, List, [], ◌∷◌, ◌++◌, Some, slice_get}
use Rattle.cover_core.specs.declared.Column.{Column}
use Rattle.cover_core.specs.Cover.{Problem, AllBelow}
use Rattle.cover_core.specs.Plans.{times}
use Rattle.cover_rest.specs.declared.begun.Begun.{Begun}
use Rattle.cover_rest.specs.Rest.{begun_lists, joined}

-- a column begins with a head: it is of the head's class, the head's items are its first ones, and nothing follows where the head is
-- finished
pub record BeginsWith (h : Begun) (c : Column) : Type 0 where
  pub class : c.class ≡ h.class
  pub more : List ℕ
  pub items : c.items ≡ h.items ++ more
  pub finished : h.finished ≡ true → more ≡ []

-- Each head is what some column begins with, and every other column may be begun now.
pub record KeepsBegun (heads : List Begun) (may : ℕ → List ℕ → Bool) (columns : List Column) : Type 0 where
  pub kept : (k : ℕ) (h : Begun) → slice_get heads k ≡ Some h → (j : ℕ) × (c : Column) × (slice_get columns j ≡ Some c) × BeginsWith h c
  pub others : (j : ℕ) (c : Column) → slice_get columns j ≡ Some c →
      ((k : ℕ) (h : Begun) → slice_get heads k ≡ Some h → BeginsWith h c → ⊥) → may c.class c.items ≡ true

-- no head is empty
abbrev pub NoneEmpty : List Begun → Type 0
NoneEmpty [] = Unit {0}
NoneEmpty (h ∷ hs) = (h.items ≢ []) × NoneEmpty hs

-- heads of a problem: none is empty, their items are there, and none stands twice
pub record AreHeads (p : Problem) (heads : List Begun) : Type 0 where
  pub some : NoneEmpty heads
  pub below : AllBelow p.items (joined (begun_lists heads))
  pub once : (item : ℕ) → times item (joined (begun_lists heads)) ≤ 1
