-- Inner: the steps of a verdict: lists with their worths, then the classes.
use Rattle.std.specs.Prelude.{ℕ, ◌<◌, List, length, map, Option, Some, None}
use Rattle.cover_core.specs.declared.Column.{Column}
use Rattle.cover_core.specs.Cover.{Problem}
use Rattle.plan_check.specs.declared.check.Worths.{Worths}
use Rattle.plan_check.specs.declared.check.Worths.TheVariants as worths
use Rattle.plan_check.specs.declared.verdict.PlanVerdict.{PlanVerdict}
use Rattle.plan_check.specs.Judged.{by_classes, by_worths, first_of, first_worthless, is_over, with_worth}

-- the lists with their worths, or the place of the first list without a worth
abbrev pub worths_or : Problem → List Column → Option ℕ → Worths
worths_or p lists None = worths.All (map (with_worth p) lists)
worths_or p lists (Some place) = worths.NoneAt place

abbrev pub worths_of : Problem → List Column → Worths
worths_of p lists = worths_or p lists (first_worthless p 0 lists)

-- the place of a list without a worth is below a number
abbrev pub HasPlaceBelow : ℕ → Worths → Type 0
HasPlaceBelow count (worths.All found) = Unit {0}
HasPlaceBelow count (worths.NoneAt place) = place < count

-- the verdict where each item stands once and each list has a worth
abbrev pub of_classes : Problem → List Column → PlanVerdict
of_classes p lists = by_classes p lists (first_of (length p.caps) 0 (is_over p lists))

-- the verdict where each item stands once
abbrev pub of_worths : Problem → List Column → PlanVerdict
of_worths p lists = by_worths p lists (first_worthless p 0 lists)
