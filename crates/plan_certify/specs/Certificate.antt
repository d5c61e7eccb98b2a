-- Promise: the certificate of a planned day, and its text.
use Rattle.std.specs.Prelude.{◌≡◌, ℕ, Bool, true, false, List, [], ◌∷◌}
use Rattle.vdv451_text.specs.Plain.{text}
use Rattle.cover_core.specs.declared.Column.{Column}
use Rattle.dual_bound.specs.declared.kept.Kept.{Kept}
use Rattle.day_method.specs.Method.{SidePlan}
use Rattle.day_model.specs.Facts.{DayFacts}
use Rattle.mark_cover.specs.Covers.{IsMarkCover}
use Rattle.mark_cover.specs.Minimal.{AreMinimal}
use Rattle.depot_network.specs.BlockMarks.{block_marking}
use Rattle.depot_network.specs.Network.{blocks_of}
use Rattle.block_cut.specs.Cuts.{pieces_of_plan}
use Rattle.duty_network.specs.Duties.{DutyFacts}
use Rattle.block_cover.specs.Seen.{mark_order as block_order}
use Rattle.label_cover.specs.Marked.{duty_marking, mark_order as duty_order}
use Rattle.plan_cert.specs.declared.cert.Cert.{Cert}
use Rattle.plan_cert.specs.declared.cert.CertPart.{CertPart}
use Rattle.plan_cert.specs.Shapes.{class_numbers_of}
use Rattle.plan_cert.specs.Writing.{tables_of}
use Rattle.plan_command.specs.Planning.{Asked, IsDayPlan, IsDualFeasible, duties_over}

-- The part of a pass over the blocks of a day, each worth 1 or its cost: the prices and class prices that the pass kept, and the least
-- cover of the open blocks under them. Its marks are exactly those to which no other one is at least as good, each once, in the order of
-- their fields; and no mark closes with a value below minus the price of its pool. There are no marks of duties.
pub record IsBlockPartOf (facts : DayFacts) (counts : Bool) (kept : Kept) (part : CertPart) : Type 0 where
  pub prices : part.prices ≡ kept.prices
  pub class_prices : part.class_prices ≡ kept.class_prices
  pub least : AreMinimal (block_marking facts counts kept.prices.items) block_order part.blocks.marks
  pub covers : IsMarkCover (block_marking facts counts kept.prices.items) part.blocks.marks kept.class_prices
  pub none : part.cover.marks ≡ []

-- The part of a pass over duties, likewise: the marks are those of open lists of pieces, and classes are groups of drivers. There are no
-- marks of blocks.
pub record IsDutyPartOf (over : DutyFacts) (kept : Kept) (part : CertPart) : Type 0 where
  pub prices : part.prices ≡ kept.prices
  pub class_prices : part.class_prices ≡ kept.class_prices
  pub least : AreMinimal (duty_marking over kept.prices.items) duty_order part.cover.marks
  pub covers : IsMarkCover (duty_marking over kept.prices.items) part.cover.marks kept.class_prices
  pub none : part.blocks.marks ≡ []

-- the pieces of blocks and the settings of the day, as they are what duties are over
abbrev pub duty_facts : DayFacts → List Column → Bool → DutyFacts
duty_facts facts blocks counts = record { pieces = pieces_of_plan facts blocks; params = facts.params; counts = counts }

-- The certificate of planned blocks and duties: four parts, those of the passes over the blocks with each worth 1 and with costs, and of
-- the passes over the duties with each worth 1 and with costs, in this order.
pub record IsCertOf (facts : DayFacts) (blocks duties : SidePlan) (cert : Cert) : Type 0 where
  pub block_number : CertPart
  pub block_cost : CertPart
  pub duty_number : CertPart
  pub duty_cost : CertPart
  pub parts : cert.parts ≡ block_number ∷ block_cost ∷ duty_number ∷ duty_cost ∷ []
  pub of_block_number : IsBlockPartOf facts true blocks.count block_number
  pub of_block_cost : IsBlockPartOf facts false blocks.cost block_cost
  pub of_duty_number : IsDutyPartOf (duty_facts facts blocks.columns true) duties.count duty_number
  pub of_duty_cost : IsDutyPartOf (duty_facts facts blocks.columns false) duties.cost duty_cost

-- The offers that planned blocks and duties keep are dual feasible: there is a price for each trip and each piece, and no block or duty has
-- a value below minus the price of its class.
pub record ArePaid (facts : DayFacts) (blocks duties : SidePlan) : Type 0 where
  pub block_number : IsDualFeasible (blocks_of facts true) blocks.count
  pub block_cost : IsDualFeasible (blocks_of facts false) blocks.cost
  pub duty_number : IsDualFeasible (duties_over facts blocks.columns true) duties.count
  pub duty_cost : IsDualFeasible (duties_over facts blocks.columns false) duties.cost

-- the text of the certificate of blocks and duties
pub record IsCertTextOf (facts : DayFacts) (blocks duties : SidePlan) (bytes : List ℕ) : Type 0 where
  pub cert : Cert
  pub parts : IsCertOf facts blocks duties cert
  pub written : bytes ≡ text (tables_of (class_numbers_of facts) cert)

-- The text of the certificate of a day: that of the blocks and duties that the method ends with, as the text of the day's plan has them.
-- No worker occurs in it.
pub record IsCertTextOver (facts : DayFacts) (asked : Asked) (bytes : List ℕ) : Type 0 where
  pub blocks : SidePlan
  pub duties : SidePlan
  pub plan : IsDayPlan facts asked blocks duties
  pub cert : Cert
  pub parts : IsCertOf facts blocks duties cert
  pub written : bytes ≡ text (tables_of (class_numbers_of facts) cert)
