-- Inner: what the offers of a pass lead to.
use Rattle.cover_core.specs.Cover.{Problem}
use Rattle.plan_dive.specs.Grounds.{IsCourse}
use Rattle.price_rounds.specs.Steps.{IsOffer}
use Rattle.climb_rounds.specs.declared.passes.Outcome.{Outcome}
use Rattle.climb_rounds.specs.Searches.{IsSearch}

-- a search, prices in range, and a kept offer
pub record IsOutcome (p : Problem) (outcome : Outcome) : Type 0 where
  pub search : IsSearch p outcome.search
  pub course : IsCourse p outcome.course
  pub kept : IsOffer p outcome.kept
