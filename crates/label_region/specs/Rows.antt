-- Inner: labels in one block of memory.
use Rattle.std.specs.Prelude.{◌≡◌, ℕ, ◌≤◌, List, [], map, length, take, Option, Some, None, refl}
use Rattle.std.specs.Coded.{Coded, code_by, coded×, coded_list, coded_ℕ}
use Rattle.label_region.specs.Places.{values}

-- the labels, and how many there is memory for
pub record Row (X : Type 0) : Type 0 where
  pub items : List X
  pub room : ℕ

module _ {X : Type 0} where
  abbrev pub row : List X → ℕ → Row X
  row items room = record { items = items; room = room }

  abbrev pub row_code : Coded X → Coded (Row X)
  row_code c = code_by (List X × ℕ) (coded× (coded_list c) coded_ℕ) (λ r. (r.items, r.room)) (λ p. row p.0 p.1) (λ _. refl)

  -- the places of a block, of which there are none where there is no memory
  abbrev pub places_of : Option (List (Option X)) → List (Option X)
  places_of None = []
  places_of (Some places) = places

  -- the labels in the first n places
  abbrev pub labels_of : ℕ → List (Option X) → List X
  labels_of n places = values (take n places)

  -- each of the first n places holds a label
  pub record IsFilledTo (n : ℕ) (places : List (Option X)) : Type 0 where
    pub within : n ≤ length places
    pub filled : take n places ≡ map Some (labels_of n places)
