-- The tables of an earlier plan have one answer.
use Rattle.std.proofs.Common.{◌≡◌, ℕ, ◌+◌, ◌⊎◌, inl, inr, false, List, length, refl, sym, ◌∙◌, subst}
use Rattle.std.specs.Prelude.{Some, Ok, Err, slice_get}
use Rattle.plan_core.specs.declared.types.Piece.{Piece}
use Rattle.vdv451_text.specs.declared.table.Table.{Table}
use Rattle.day_model.specs.Facts.{DayFacts}
use Rattle.depot_network.specs.Network.{blocks_of}
use Rattle.umlauf_write.specs.declared.text.PlanText.{PlanText}
use Rattle.umlauf_write.specs.declared.text.PlanFault.TheVariants as faults
use Rattle.umlauf_write.specs.Reading.{read_of}
use Rattle.plan_check.specs.Verdicts.{IsFirstTimes, IsFirstUnlawful}
use Rattle.cert_check.specs.declared.old.OldPlan.{OldPlan}
use Rattle.cert_check.specs.declared.old.OldPlan.TheVariants.{Good, Bad}
use Rattle.cert_check.specs.declared.reason.Reason.TheVariants as reasons
use Rattle.cert_check.specs.Old.{HasLawfulBlocks, HasPiecesOnce, HasTripsOnce, IsOldAnswer, fids_of, old_duties, old_pieces}
use Rattle.one_answer.specs.Single.{HasOneOldAnswer}
use Rattle.one_answer.proofs.Firsts.{err-same, ok-err, ok-same, one-of-two, some-same}
use Rattle.one_answer.proofs.Verdicts.{not-times, not-unlawful, one-times, one-unlawful}

-- the blocks are passed
abbrev AfterBlocks : DayFacts → PlanText → OldPlan → Type 0
AfterBlocks day text a =
    ((item : ℕ) × (times : ℕ) × (piece : Piece) × (slice_get (old_pieces day text) item ≡ Some piece) ×
    IsFirstTimes (length (old_pieces day text)) (old_duties day text) item times
    × (a ≡ Bad (reasons.PieceTimes piece.block piece.index times))) ⊎
    (HasPiecesOnce day text × (a ≡ Good text))

-- the trips are passed
abbrev AfterTrips : DayFacts → PlanText → OldPlan → Type 0
AfterTrips day text a =
    ((spot : ℕ) × IsFirstUnlawful (blocks_of day false) text.blocks.columns spot × (a ≡ Bad (reasons.BlockUnlawful (spot + 1)))) ⊎
    (HasLawfulBlocks day text × AfterBlocks day text a)

-- the text is read
abbrev AfterText : DayFacts → PlanText → OldPlan → Type 0
AfterText day text a =
    ((item : ℕ) × (times : ℕ) × (fid : ℕ) × (slice_get (fids_of day) item ≡ Some fid) ×
    IsFirstTimes (length day.trips) text.blocks.columns item times × (a ≡ Bad (reasons.TripTimes fid times))) ⊎
    (HasTripsOnce day text × AfterTrips day text a)

abbrev InSteps : DayFacts → List Table → OldPlan → Type 0
InSteps day plan a =
    ((table : List ℕ) × (row : ℕ) × (read_of day plan ≡ Err (faults.Form table row)) × (a ≡ Bad (reasons.PlanForm table row))) ⊎
    ((text : PlanText) × (read_of day plan ≡ Ok text) × AfterText day text a)

in-steps : (day : DayFacts) (plan : List Table) (a : OldPlan) → IsOldAnswer day plan a → InSteps day plan a
in-steps day plan (Good text) (said, good) = inr (text, said, inr (good.trips, inr (good.blocks, inr (good.pieces, refl))))
in-steps day plan (Bad (reasons.PlanForm table row)) is = inl (table, row, is, refl)
in-steps day plan (Bad (reasons.TripTimes fid times)) (text, said, (item, at, first)) =
    inr (text, said, inl (item, times, fid, at, first, refl))
in-steps day plan (Bad (reasons.BlockUnlawful block)) (text, said, (trips, (spot, block_is, first))) =
    inr (text, said, inr (trips, inl (spot, first, cc)))
in-steps day plan (Bad (reasons.PieceTimes block index times)) (text, said, (trips, blocks, (item, piece, at, block_is, index_is, first))) =
    inr (text, said, inr (trips, inr (blocks, inl (item, times, piece, at, first, cc))))
in-steps day plan (Bad (reasons.PoolOver pool used cap)) (text, said, none) = absurd none
in-steps day plan (Bad (reasons.DutyUnlawful duty)) (text, said, none) = absurd none
in-steps day plan (Bad (reasons.GroupOver group used cap)) (text, said, none) = absurd none
in-steps day plan (Bad (reasons.PlanDiffers table row)) (text, said, none) = absurd none
in-steps day plan (Bad (reasons.CertForm at)) (text, said, none) = absurd none
in-steps day plan (Bad (reasons.NegativeClassPrice pass class)) (text, said, none) = absurd none
in-steps day plan (Bad (reasons.Uncovered pass gap)) (text, said, none) = absurd none
in-steps day plan (Bad (reasons.BoundTooHigh pass print show)) (text, said, none) = absurd none

pieces-once : (day : DayFacts) (text : PlanText) (a b : OldPlan) → AfterBlocks day text a → AfterBlocks day text b → a ≡ b
pieces-once day text a b h k =
    let number = length (old_pieces day text) in
    let lists = old_duties day text in
    one-of-two _ _ _ _ (a ≡ b) h k
    (λ (item, times, piece, at, is, said) (item', times', piece', at', is', said').
    let same = one-times number lists item times item' times' is is' in
    let items : item ≡ item' = cc in
    let P : ℕ → Type 0 = λ n. slice_get (old_pieces day text) n ≡ Some piece' in
    let pieces = some-same (slice_get (old_pieces day text) item) piece piece' at (subst P (sym items) at') in cc)
    (λ one other. not-times number lists one.0 one.1 other.0 one.4)
    (λ other one. not-times number lists other.0 other.1 one.0 other.4)
    (λ one other. one.1 ∙ sym other.1)

blocks-once : (day : DayFacts) (text : PlanText) (a b : OldPlan) → AfterTrips day text a → AfterTrips day text b → a ≡ b
blocks-once day text a b h k =
    let lists = text.blocks.columns in
    one-of-two _ _ _ _ (a ≡ b) h k
    (λ (spot, is, said) (spot', is', said'). let same = one-unlawful (blocks_of day false) lists spot spot' is is' in cc)
    (λ one other. not-unlawful (blocks_of day false) lists one.0 other.0 one.1)
    (λ other one. not-unlawful (blocks_of day false) lists other.0 one.0 other.1)
    (λ one other. pieces-once day text a b one.1 other.1)

text-once : (day : DayFacts) (text : PlanText) (a b : OldPlan) → AfterText day text a → AfterText day text b → a ≡ b
text-once day text a b h k =
    let number = length day.trips in
    let lists = text.blocks.columns in
    one-of-two _ _ _ _ (a ≡ b) h k
    (λ (item, times, fid, at, is, said) (item', times', fid', at', is', said').
    let same = one-times number lists item times item' times' is is' in
    let items : item ≡ item' = cc in
    let P : ℕ → Type 0 = λ n. slice_get (fids_of day) n ≡ Some fid' in
    let fids = some-same (slice_get (fids_of day) item) fid fid' at (subst P (sym items) at') in cc)
    (λ one other. not-times number lists one.0 one.1 other.0 one.4)
    (λ other one. not-times number lists other.0 other.1 one.0 other.4)
    (λ one other. blocks-once day text a b one.1 other.1)

steps-once : (day : DayFacts) (plan : List Table) (a b : OldPlan) → InSteps day plan a → InSteps day plan b → a ≡ b
steps-once day plan a b h k =
    let read = read_of day plan in
    one-of-two _ _ _ _ (a ≡ b) h k
    (λ (table, row, is, said) (table', row', is', said').
    let same = err-same read (faults.Form table row) (faults.Form table' row') is is' in cc)
    (λ one other. ok-err read other.0 (faults.Form one.0 one.1) other.1 one.2)
    (λ other one. ok-err read one.0 (faults.Form other.0 other.1) one.1 other.2)
    (λ (text, is, rest) (text', is', rest').
    let P : PlanText → Type 0 = λ t. AfterText day t b in
    text-once day text a b rest (subst P (sym (ok-same read text text' is is')) rest'))

-- Two answers go through the same steps: form, trips, blocks and pieces. At the step where one of them ends the other ends too, since what
-- a reason says is the contrary of what is passed, and the first trip, block or piece against the plan is one.
pub one-old-answer : (day : DayFacts) (plan : List Table) → HasOneOldAnswer day plan
one-old-answer day plan a b is is' = steps-once day plan a b (in-steps day plan a is) (in-steps day plan b is')
