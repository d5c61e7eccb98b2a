-- Promise: the first least of a group as a function of the problem: of all lists of the group with a worth, the earliest column.
use Rattle.std.specs.Prelude.{ℕ, ℤ, int_le, ◌/◌, ◌==◌, Bool, false, cond, zero, suc, List, [], ◌∷◌, ◌++◌, map, Option, Some, None}
use Rattle.std.specs.List.{filter_map}
use Rattle.std.specs.Option.{option_map, option_map_or}
use Rattle.std.specs.Ordering.{int_cmp, then_cmp, on, is_gt}
use Rattle.std.specs.declared.cmp.Ordering.{Ordering}
use Rattle.plan_core.specs.declared.Price.{Price}
use Rattle.cover_core.specs.declared.Column.{Column}
use Rattle.cover_core.specs.Cover.{Problem}
use Rattle.cover_core.specs.FirstLeast.{backward_cmp, value}

-- all lists that rise, of the n items from k on: those that begin with k, and those without it
abbrev pub rising_from : ℕ → ℕ → List (List ℕ)
rising_from zero k = [] ∷ []
rising_from (suc n) k = map (λ (list : List ℕ). k ∷ list) (rising_from n (suc k)) ++ rising_from n (suc k)

-- whether the first item is one of 16 * group to 16 * group + 15
abbrev pub is_in_group : ℕ → List ℕ → Bool
is_in_group group [] = false
is_in_group group (x ∷ xs) = x / 16 == group

-- a list of the group as a column of the class, where it has a worth
abbrev pub column_of : Problem → ℕ → ℕ → List ℕ → Option Column
column_of p class group list =
    cond (is_in_group group list) (option_map (λ worth. record { class = class; worth = worth; items = list }) (p.worth class list)) None

-- columns by their values; those of equal value by their lists, compared from the last items backwards
abbrev pub column_cmp : List Price → Column → Column → Ordering
column_cmp prices = then_cmp (on (value prices) int_cmp) (on (λ (c : Column). c.items) backward_cmp)

-- the earlier of two columns
abbrev pub earlier : List Price → Column → Column → Column
earlier prices a b = cond (is_gt (column_cmp prices a b)) b a

-- the earliest of a list of columns
abbrev pub earliest : List Price → List Column → Option Column
earliest prices [] = None
earliest prices (c ∷ cs) = Some (option_map_or (earlier prices c) (earliest prices cs) c)

-- all lists of the class and group with a worth, as columns
abbrev pub group_columns : Problem → ℕ → ℕ → List Column
group_columns p class group = filter_map (column_of p class group) (rising_from p.items 0)

-- the first least of a class and group, where there is a list
abbrev pub best_of : Problem → List Price → ℕ → ℕ → Option Column
best_of p prices class group = earliest prices (group_columns p class group)

-- a column whose value is not above the limit
abbrev pub within : ℤ → List Price → Option Column → Option Column
within limit prices None = None
within limit prices (Some c) = cond (int_le (value prices c) limit) (Some c) None
