-- Promise: what holds between the steps of a pass.
use Rattle.std.specs.Prelude.{◌≡◌, ℕ, neg_ℤ, pos, ◌≤◌, ◌++◌, List, length}
use Rattle.plan_core.specs.Limits.{most_items}
use Rattle.plan_core.specs.declared.Price.{Price}
use Rattle.cover_core.specs.declared.Column.{Column}
use Rattle.cover_core.specs.Cover.{Problem}
use Rattle.cover_core.specs.Plans.{AreColumns}
use Rattle.cover_core.specs.Fitting.{AreFit}
use Rattle.dual_bound.specs.declared.kept.Kept.{Kept}
use Rattle.dual_bound.specs.Ranges.{AreAtLeast}
use Rattle.worker_price.specs.declared.priced.Priced.{Priced}
use Rattle.worker_price.specs.Priced.{priced_columns, priced_least}
use Rattle.worker_price.specs.Work.{ArePricesFor}
use Rattle.price_rounds.specs.declared.progress.Progress.{Progress}
use Rattle.price_rounds.specs.Rounds.{after_rounds, after_lowering, offer_at, round_offers, lowering_offers, IsFirstGreatest}

-- at most 3,000 items and 32 classes
pub record IsSized (p : Problem) : Type 0 where
  pub items : p.items ≤ most_items
  pub classes : length p.caps ≤ 32

-- columns of a problem that may be valued, lowered and turned over
pub record AreReady (p : Problem) (columns : List Column) : Type 0 where
  pub are : AreColumns p columns
  pub fit : AreFit p.items (length p.caps) columns

-- what is priced at these prices
pub record IsPriced (p : Problem) (prices : List Price) (priced : Priced) : Type 0 where
  pub columns : priced.columns ≡ priced_columns p prices
  pub ready : AreReady p priced.columns
  pub least : priced.least ≡ priced_least p prices
  pub one_each : length priced.least ≡ length p.caps
  pub low : AreAtLeast (neg_ℤ (pos 1000000000000000000)) priced.least

-- prices in range were offered
pub record IsOffer (p : Problem) (kept : Kept) : Type 0 where
  pub prices : List Price
  pub ready : ArePricesFor p prices
  pub is : kept ≡ offer_at p prices

-- prices, columns and a kept offer with which a pass may go on
pub record IsReady (p : Problem) (progress : Progress) : Type 0 where
  pub prices : ArePricesFor p progress.prices.items
  pub pool : AreReady p progress.pool
  pub kept : IsOffer p progress.kept

-- how far a pass has come after so many price rounds
pub record HasRounds (p : Problem) (rounds : ℕ) (progress : Progress) : Type 0 where
  pub prices : progress.prices.items ≡ (after_rounds p rounds).prices
  pub pool : progress.pool ≡ (after_rounds p rounds).pool
  pub kept : IsFirstGreatest (round_offers p rounds) progress.kept
  pub ready : IsReady p progress

-- and then after so many lowering rounds
pub record HasLowered (p : Problem) (rounds lower : ℕ) (progress : Progress) : Type 0 where
  pub prices : progress.prices.items ≡ after_lowering p rounds lower
  pub pool : progress.pool ≡ (after_rounds p rounds).pool
  pub kept : IsFirstGreatest (round_offers p rounds ++ lowering_offers p rounds lower) progress.kept
  pub ready : IsReady p progress
