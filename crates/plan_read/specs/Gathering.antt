-- Inner: trips by their blocks and pieces by their duties.
use Rattle.std.specs.Prelude.{ℕ, zero, suc, List, [], ◌∷◌, ◌++◌, slice_index_or}
use Rattle.cover_core.specs.declared.Column.{Column}
use Rattle.umlauf_write.specs.declared.text.DutyRow.{DutyRow}
use Rattle.umlauf_write.specs.Reading.{Part, block_said, duty_said, entries_from}

-- a list with the item at a place changed, if there is one
abbrev pub change : {A : Type 0} → (A → A) → ℕ → List A → List A
change f place [] = []
change f zero (x ∷ xs) = f x ∷ xs
change f (suc place) (x ∷ xs) = x ∷ change f place xs

abbrev pub no_trips : ℕ → List ℕ
no_trips class = []

-- a trip behind those of its block
abbrev pub with_trip : List (List ℕ) → ℕ × ℕ → List (List ℕ)
with_trip lists entry = change (λ (trips : List ℕ). trips ++ entry.0 ∷ []) entry.1 lists

abbrev pub with_trips : List (List ℕ) → List (ℕ × ℕ) → List (List ℕ)
with_trips lists [] = lists
with_trips lists (entry ∷ entries) = with_trips (with_trip lists entry) entries

-- a block of a class, whose trips stand at a place
abbrev pub block_at : List (List ℕ) → ℕ → ℕ → Column
block_at lists place class = record { class = class; worth = 0; items = slice_index_or lists place [] }

abbrev pub blocks_from : List (List ℕ) → List ℕ → List Column
blocks_from lists classes = entries_from (block_at lists) 0 classes

-- the blocks of these classes, each with its trips in the order of their rows
abbrev pub blocks_said : List (ℕ × ℕ) → List ℕ → List Column
blocks_said entries classes = entries_from (block_said entries) 0 classes

abbrev pub no_parts : ℕ → DutyRow
no_parts group = record { group = group; parts = [] }

-- a piece behind those of its duty
abbrev pub more_parts : ℕ × ℕ → DutyRow → DutyRow
more_parts part duty = record { group = duty.group; parts = duty.parts ++ part ∷ [] }

abbrev pub with_part : List DutyRow → Part → List DutyRow
with_part duties entry = change (more_parts entry.1) entry.0 duties

abbrev pub with_parts : List DutyRow → List Part → List DutyRow
with_parts duties [] = duties
with_parts duties (entry ∷ entries) = with_parts (with_part duties entry) entries

-- the duties of these groups, each with its pieces in the order of their rows
abbrev pub duties_said : List Part → List ℕ → List DutyRow
duties_said entries groups = entries_from (duty_said entries) 0 groups
