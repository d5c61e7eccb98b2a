-- Promise: Rounding: a plan from columns in order, or the item that is left.
use Rattle.std.specs.Prelude.{ℕ, pos, ◌-ℤ◌, int_lt, Bool, true, cond, ◌&&◌, nat_lt, zero, suc, List, [], ◌∷◌, ◌++◌, length, Option, Some, None, slice_set}
use Rattle.cover_core.specs.declared.Column.{Column}
use Rattle.cover_core.specs.Cover.{Problem}
use Rattle.cover_core.specs.Parts.{has_place, is_free, column_at}
use Rattle.plan_round.specs.declared.choice.Choice.{Choice}
use Rattle.plan_round.specs.declared.choice.Spot.{Spot}
use Rattle.plan_round.specs.declared.choice.Spot.TheVariants.{Into, New}

-- whether each item of a list is free
abbrev pub all_free : List Column → List ℕ → Bool
all_free columns [] = true
all_free columns (x ∷ xs) = is_free columns x && all_free columns xs

-- the columns after one more is looked at: it is taken where its items are free and its class has a place left
abbrev pub with_taken : Problem → List Column → Column → List Column
with_taken p columns c = cond (all_free columns c.items && has_place p columns c.class) (columns ++ c ∷ []) columns

-- the columns that are taken, in the order in which they are looked at
abbrev pub taken : Problem → List Column → List Column → List Column
taken p columns [] = columns
taken p columns (c ∷ cs) = taken p (with_taken p columns c) cs

-- the columns of a pool at places, in the places' order
abbrev pub picked : List Column → List ℕ → List Column
picked pool [] = []
picked pool (place ∷ places) = column_at pool place ∷ picked pool places

-- an item put at the place that its number gives
abbrev pub put_in : ℕ → List ℕ → List ℕ
put_in item [] = item ∷ []
put_in item (x ∷ xs) = cond (nat_lt x item) (x ∷ put_in item xs) (item ∷ x ∷ xs)

-- where an item goes, if that list has a worth, and how much more than before
abbrev pub choice_for : ℕ → Spot → Option ℕ → List Choice
choice_for before spot None = []
choice_for before spot (Some worth) = record { rise = pos worth -ℤ pos before; worth = worth; spot = spot } ∷ []

-- the item into each column, in the columns' order, these standing from a place on
abbrev pub into_columns : Problem → ℕ → ℕ → List Column → List Choice
into_columns p item place [] = []
into_columns p item place (c ∷ cs) =
    choice_for c.worth (Into place) (p.worth c.class (put_in item c.items)) ++ into_columns p item (suc place) cs

-- the item alone, in a class that has a place left
abbrev pub class_choice : Problem → ℕ → List Column → ℕ → List Choice
class_choice p item columns class = cond (has_place p columns class) (choice_for 0 (New class) (p.worth class (item ∷ []))) []

-- in each class below k, in the classes' order
abbrev pub into_classes : Problem → ℕ → List Column → ℕ → List Choice
into_classes p item columns zero = []
into_classes p item columns (suc k) = into_classes p item columns k ++ class_choice p item columns k

-- the new choice where it raises the cost less than the best so far
abbrev pub cheaper : Option Choice → Choice → Choice
cheaper None c = c
cheaper (Some b) c = cond (int_lt c.rise b.rise) c b

-- the first choice that raises the cost least
abbrev pub first_cheapest : Option Choice → List Choice → Option Choice
first_cheapest best [] = best
first_cheapest best (c ∷ cs) = first_cheapest (Some (cheaper best c)) cs

-- where an item may go: into the columns, then into new columns
abbrev pub choices : Problem → ℕ → List Column → List Choice
choices p item columns = into_columns p item 0 columns ++ into_classes p item columns (length p.caps)

-- the columns with the item put where it goes
abbrev pub put_at : ℕ → List Column → ℕ → Spot → List Column
put_at item columns worth (Into place) =
    slice_set columns place
    (record { class = (column_at columns place).class; worth = worth; items = put_in item (column_at columns place).items })
put_at item columns worth (New class) = columns ++ record { class = class; worth = worth; items = item ∷ [] } ∷ []

-- a plan, or the first item that is left beside the columns so far
pub data Rounded : Type 0 where
  whole : List Column → Rounded
  left : ℕ → List Column → Rounded

-- the item put where it goes, or left where it has no place
abbrev pub with_choice : ℕ → List Column → Option Choice → Rounded
with_choice item columns None = left item columns
with_choice item columns (Some c) = whole (put_at item columns c.worth c.spot)

-- an item that is still free is put in, until one is left
abbrev pub round_item : Problem → ℕ → Rounded → Rounded
round_item p item (left other columns) = left other columns
round_item p item (whole columns) =
    cond (is_free columns item) (with_choice item columns (first_cheapest None (choices p item columns))) (whole columns)

-- the items below n
abbrev pub round_items : Problem → ℕ → List Column → Rounded
round_items p zero columns = whole columns
round_items p (suc n) columns = round_item p n (round_items p n columns)

-- columns are taken in their order, and then the free items are put in
abbrev pub rounded : Problem → List Column → Rounded
rounded p ordered = round_items p p.items (taken p [] ordered)
