-- Promise: which columns of a pool are chosen at some prices, and what a class asks for a place.
use Rattle.std.specs.Prelude.{◌≡◌, ◌&&◌, ◌==◌, ℕ, ℤ, pos, neg_ℤ, ◌+ℤ◌, ◌≤ℤ◌, ◌<ℤ◌, int_lt, nat_lt, ◌+◌, ◌<◌, ◌≤◌, Bool, true, false, cond, suc, ◌*◌, List, [], ◌∷◌, length, Option, Some, None, slice_get, slice_index, slice_index_or, slice_set, not}
use Rattle.std.specs.List.Sorted.{IsPermutation, IsSortedBy}
use Rattle.plan_core.specs.declared.Price.{Price}
use Rattle.cover_core.specs.declared.Column.{Column}
use Rattle.cover_core.specs.FirstLeast.{value}
use Rattle.cover_core.specs.Cover.{AllBelow}
use Rattle.cover_core.specs.Plans.{number_at}
use Rattle.cover_core.specs.declared.column_keys.ColumnKey.{ColumnKey}
use Rattle.cover_core.specs.ColumnKeys.{is_before}
use Rattle.lagrangian_climb.specs.declared.choosing.Choice.{Choice}

-- whether no item of a list is fixed
abbrev pub none_fixed : List Bool → List ℕ → Bool
none_fixed fixed [] = true
none_fixed fixed (x ∷ xs) = not (slice_index_or fixed x false) && none_fixed fixed xs

-- whether a column's class has a place, and none of its items is fixed
abbrev pub is_in_play : List Bool → List ℕ → Column → Bool
is_in_play fixed caps c = nat_lt 0 (slice_index caps c.class) && none_fixed fixed c.items

-- the columns in play whose values are below 0, by class, value and place
abbrev pub gains_from : List Bool → List ℕ → List Price → ℕ → List Column → List ColumnKey
gains_from fixed caps prices place [] = []
gains_from fixed caps prices place (c ∷ cs) =
    let rest = gains_from fixed caps prices (suc place) cs in
    cond (is_in_play fixed caps c && int_lt (value prices c) (pos 0))
    (record { class = c.class; value = value prices c; place = place } ∷ rest) rest

abbrev pub gains_of : List Bool → List ℕ → List Price → List Column → List ColumnKey
gains_of fixed caps prices pool = gains_from fixed caps prices 0 pool

-- the places of the columns in play, from a place on
abbrev pub playing_from : List Bool → List ℕ → ℕ → List Column → List ℕ
playing_from fixed caps place [] = []
playing_from fixed caps place (c ∷ cs) =
    let rest = playing_from fixed caps (suc place) cs in
    cond (is_in_play fixed caps c) (place ∷ rest) rest

abbrev pub playing_of : List Bool → List ℕ → List Column → List ℕ
playing_of fixed caps pool = playing_from fixed caps 0 pool

-- before others the column of a place, where its value is below 0
abbrev pub gain_before : List Price → ℕ → List ColumnKey → Option Column → List ColumnKey
gain_before prices place rest None = rest
gain_before prices place rest (Some c) =
    cond (int_lt (value prices c) (pos 0)) (record { class = c.class; value = value prices c; place = place } ∷ rest) rest

-- of the columns at some places those whose values are below 0
abbrev pub gains_at : List Price → List Column → List ℕ → List ColumnKey
gains_at prices pool [] = []
gains_at prices pool (p ∷ ps) = gain_before prices p (gains_at prices pool ps) (slice_get pool p)

-- one more column of its class was seen
abbrev pub seen : List ℕ → ColumnKey → List ℕ
seen counts key = slice_set counts key.class (slice_index counts key.class + 1)

-- whether fewer of its class were seen than the class has places
abbrev pub has_room : List ℕ → List ℕ → ColumnKey → Bool
has_room caps counts key = nat_lt (slice_index counts key.class) (slice_index caps key.class)

-- whether as many of its class were seen as the class has places
abbrev pub is_next : List ℕ → List ℕ → ColumnKey → Bool
is_next caps counts key = slice_index counts key.class == slice_index caps key.class

-- the places of the columns that are chosen of those in order, after so many of each class were seen
abbrev pub chosen_places : List ℕ → List ℕ → List ColumnKey → List ℕ
chosen_places caps counts [] = []
chosen_places caps counts (k ∷ ks) =
    cond (has_room caps counts k) (k.place ∷ chosen_places caps (seen counts k) ks) (chosen_places caps (seen counts k) ks)

-- the sum of their values
abbrev pub chosen_sum : List ℕ → List ℕ → List ColumnKey → ℤ
chosen_sum caps counts [] = pos 0
chosen_sum caps counts (k ∷ ks) = cond (has_room caps counts k) k.value (pos 0) +ℤ chosen_sum caps (seen counts k) ks

-- class prices: minus the value of the first column of a class for which there is no place
abbrev pub priced_classes : List ℕ → List ℕ → List ColumnKey → List ℤ → List ℤ
priced_classes caps counts [] prices = prices
priced_classes caps counts (k ∷ ks) prices =
    priced_classes caps (seen counts k) ks (cond (is_next caps counts k) (slice_set prices k.class (neg_ℤ k.value)) prices)

-- the zeros of a list of a length
pub record AreZeroCounts (n : ℕ) (counts : List ℕ) : Type 0 where
  pub len : length counts ≡ n
  pub zero : (i : ℕ) → slice_index counts i ≡ 0

-- a class, a place in the pool, and a value below 0 and not below -30,000,000,000,000,000
pub record IsGain (classes columns : ℕ) (key : ColumnKey) : Type 0 where
  pub class : key.class < classes
  pub place : key.place < columns
  pub low : neg_ℤ (pos 30000000000000000) ≤ℤ key.value
  pub below : key.value <ℤ pos 0

-- each number is from 0 to 30,000,000,000,000,000
abbrev pub AreAsked : List ℤ → Type 0
AreAsked [] = Unit {0}
AreAsked (z ∷ zs) = (pos 0 ≤ℤ z) × (z ≤ℤ pos 30000000000000000) × AreAsked zs

-- so many numbers, all 0
abbrev pub AreZeroNumbers : ℕ → List ℤ → Type 0
AreZeroNumbers n prices = (length prices ≡ n) × ((i : ℕ) → number_at prices i ≡ pos 0)

-- what is chosen of some columns with values below 0: of each class the first ones by value and place, as many as it has places; and a
-- class asks minus the value of the next one
pub record IsChosen (gains : List ColumnKey) (caps : List ℕ) (choice : Choice) : Type 0 where
  pub keys : List ColumnKey
  pub all : IsPermutation gains keys
  pub sorted : IsSortedBy is_before keys
  pub counts : List ℕ
  pub zero : AreZeroCounts (length caps) counts
  pub asked : List ℤ
  pub none : AreZeroNumbers (length caps) asked
  pub places : choice.places ≡ chosen_places caps counts keys
  pub sum : choice.sum ≡ chosen_sum caps counts keys
  pub class_prices : choice.class_prices ≡ priced_classes caps counts keys asked

-- what is chosen of a pool at some prices, of the columns in play with values below 0
abbrev pub IsChoice : List Bool → List ℕ → List Price → List Column → Choice → Type 0
IsChoice fixed caps prices pool choice = IsChosen (gains_of fixed caps prices pool) caps choice

-- what the calls after a choice need of it
pub record IsSoundChoice (classes columns : ℕ) (choice : Choice) : Type 0 where
  pub below : AllBelow columns choice.places
  pub few : length choice.places ≤ columns
  pub len : length choice.class_prices ≡ classes
  pub asked : AreAsked choice.class_prices
  pub low : neg_ℤ (pos (30000000000000000 * columns)) ≤ℤ choice.sum
  pub high : choice.sum ≤ℤ pos 0
