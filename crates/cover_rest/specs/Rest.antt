-- Promise: the rest of a set partitioning problem, of which some columns have begun.
use Rattle.std.specs.Prelude.{ℕ, ◌==◌, nat_lt, nat_le, nat_eq, Bool, true, false, cond, ◌&&◌, ◌||◌, not, zero, suc, List, [], ◌∷◌, ◌++◌, length, Option, Some, None, slice_get}
use Rattle.cover_core.specs.declared.Column.{Column}
use Rattle.cover_core.specs.Cover.{Problem}
use Rattle.cover_core.specs.Plans.{times}
use Rattle.cover_rest.specs.declared.begun.Begun.{Begun}

-- some lists, one after another
abbrev pub joined : List (List ℕ) → List ℕ
joined [] = []
joined (xs ∷ rest) = xs ++ joined rest

-- the items of heads, each as a list
abbrev pub begun_lists : List Begun → List (List ℕ)
begun_lists [] = []
begun_lists (h ∷ hs) = h.items ∷ begun_lists hs

-- whether an item stands in a head
abbrev pub has_begun : List Begun → ℕ → Bool
has_begun heads item = not (times item (joined (begun_lists heads)) == 0)

-- of n items from one on those in no head, each as a list, by number
abbrev pub free_lists : List Begun → ℕ → ℕ → List (List ℕ)
free_lists heads zero item = []
free_lists heads (suc n) item = cond (has_begun heads item) (free_lists heads n (suc item)) ((item ∷ []) ∷ free_lists heads n (suc item))

-- what the items of the rest of n items stand for: first the heads, then the items in no head
abbrev pub bodies : List Begun → ℕ → List (List ℕ)
bodies heads n = begun_lists heads ++ free_lists heads n 0

-- what an item of the rest stands for
abbrev pub body_at : List (List ℕ) → ℕ → List ℕ
body_at [] x = []
body_at (b ∷ bs) zero = b
body_at (b ∷ bs) (suc x) = body_at bs x

-- a list of the rest, written out
abbrev pub written : List (List ℕ) → List ℕ → List ℕ
written bs [] = []
written bs (x ∷ xs) = body_at bs x ++ written bs xs

abbrev pub rises : List ℕ → Bool
rises [] = true
rises (x ∷ []) = true
rises (x ∷ y ∷ rest) = nat_lt x y && rises (y ∷ rest)

abbrev pub all_below : ℕ → List ℕ → Bool
all_below n [] = true
all_below n (x ∷ xs) = nat_lt x n && all_below n xs

-- no item is one of the first n
abbrev pub none_below : ℕ → List ℕ → Bool
none_below n [] = true
none_below n (x ∷ xs) = nat_le n x && none_below n xs

abbrev pub is_empty : List ℕ → Bool
is_empty [] = true
is_empty (x ∷ xs) = false

-- Whether a list that begins so may go on as it does: with a head its class is the head's, and nothing follows where the head is finished;
-- without one the written-out list may be begun now.
abbrev pub may_go_on : (ℕ → List ℕ → Bool) → ℕ → Option Begun → List ℕ → List ℕ → Bool
may_go_on may class None xs list = may class list
may_go_on may class (Some h) xs list = nat_eq h.class class && (not h.finished || is_empty xs)

-- whether a list of the rest keeps the heads: it is not empty, a head stands in it as its first item alone, and it may go on as it does
abbrev pub keeps_heads : List Begun → List (List ℕ) → (ℕ → List ℕ → Bool) → ℕ → List ℕ → Bool
keeps_heads heads bs may class [] = false
keeps_heads heads bs may class (x ∷ xs) = none_below (length heads) xs && may_go_on may class (slice_get heads x) xs (written bs (x ∷ xs))

-- whether a list is one of the rest: it rises, has items of the rest and keeps the heads
abbrev pub is_rest_list : List Begun → List (List ℕ) → (ℕ → List ℕ → Bool) → ℕ → List ℕ → Bool
is_rest_list heads bs may class list = (rises list && all_below (length bs) list) && keeps_heads heads bs may class list

-- the worth of a list of the rest: that of the written-out list
abbrev pub rest_worth : Problem → List Begun → List (List ℕ) → (ℕ → List ℕ → Bool) → ℕ → List ℕ → Option ℕ
rest_worth p heads bs may class list = cond (is_rest_list heads bs may class list) (p.worth class (written bs list)) None

-- the rest of a problem, of which these heads have begun; columns without a head may begin where a test says so
abbrev pub rest_of : Problem → List Begun → (ℕ → List ℕ → Bool) → Problem
rest_of p heads may = record {
  items = length (bodies heads p.items);
  caps = p.caps;
  worth = rest_worth p heads (bodies heads p.items) may;
}

-- a column of the rest, written out
abbrev pub written_column : List (List ℕ) → Column → Column
written_column bs c = record { class = c.class; worth = c.worth; items = written bs c.items }

abbrev pub written_plan : List (List ℕ) → List Column → List Column
written_plan bs [] = []
written_plan bs (c ∷ cs) = written_column bs c ∷ written_plan bs cs
