-- Promise: the verdict on lists, computed.
use Rattle.std.specs.Prelude.{ℕ, ◌+◌, Bool, not, nat_eq, nat_lt, zero, suc, List, [], ◌∷◌, length, map, Option, Some, None, unwrap_or, slice_index, if◌then◌else◌}
use Rattle.cover_core.specs.declared.Column.{Column}
use Rattle.cover_core.specs.Cover.{Problem}
use Rattle.cover_core.specs.Plans.{times, all_items, all_classes}
use Rattle.plan_check.specs.declared.verdict.PlanVerdict.{PlanVerdict}
use Rattle.plan_check.specs.declared.verdict.PlanVerdict.TheVariants.{Lawful, Times, Unlawful, Over}
use Rattle.plan_check.specs.Verdicts.{IsVerdict}

-- the first of some numbers that passes a test; they are counted on from this one
abbrev pub first_of : ℕ → ℕ → (ℕ → Bool) → Option ℕ
first_of zero from test = None
first_of (suc count) from test = if test from then Some from else first_of count (from + 1) test

-- the worth of a list as a column of its class
abbrev pub worth_in : Problem → Column → Option ℕ
worth_in p c = if nat_lt c.class (length p.caps) then p.worth c.class c.items else None

-- the place of the first list without a worth
abbrev pub first_worthless : Problem → ℕ → List Column → Option ℕ
first_worthless p from [] = None
first_worthless p from (c ∷ cs) = elim (worth_in p c) [ None ↦ Some from | Some worth ↦ first_worthless p (from + 1) cs ]

abbrev pub with_worth : Problem → Column → Column
with_worth p c = record { class = c.class; worth = unwrap_or (worth_in p c) 0; items = c.items }

abbrev pub is_off : List Column → ℕ → Bool
is_off lists item = not (nat_eq (times item (all_items lists)) 1)

abbrev pub is_over : Problem → List Column → ℕ → Bool
is_over p lists class = nat_lt (slice_index p.caps class) (times class (all_classes lists))

abbrev pub by_classes : Problem → List Column → Option ℕ → PlanVerdict
by_classes p lists (Some class) = Over class (times class (all_classes lists))
by_classes p lists None = Lawful (record { columns = map (with_worth p) lists })

abbrev pub by_worths : Problem → List Column → Option ℕ → PlanVerdict
by_worths p lists (Some spot) = Unlawful spot
by_worths p lists None = by_classes p lists (first_of (length p.caps) 0 (is_over p lists))

abbrev pub by_items : Problem → List Column → Option ℕ → PlanVerdict
by_items p lists (Some item) = Times item (times item (all_items lists))
by_items p lists None = by_worths p lists (first_worthless p 0 lists)

-- the verdict: items first, then lists, then classes
abbrev pub verdict_of : Problem → List Column → PlanVerdict
verdict_of p lists = by_items p lists (first_of p.items 0 (is_off lists))

-- every list of lists has the computed verdict
abbrev pub AreJudged : Problem → Type 0
AreJudged p = (lists : List Column) → IsVerdict p lists (verdict_of p lists)
