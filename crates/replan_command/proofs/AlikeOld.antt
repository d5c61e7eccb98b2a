-- The tables of an earlier plan have the same answer on two days that are alike.
use Rattle.std.proofs.Common.{◌≡◌, ℕ, Bool, false, List, length, map, sym, ap, ◌∙◌, subst, slice_get}
use Rattle.std.specs.Prelude.{Some}
use Rattle.plan_core.specs.declared.types.Piece.{Piece}
use Rattle.vdv451_text.specs.declared.table.Table.{Table}
use Rattle.cover_core.specs.declared.Column.{Column}
use Rattle.cover_core.specs.Cover.{Problem}
use Rattle.trip_times.specs.declared.trip.Trip.{Trip}
use Rattle.plan_params.specs.declared.rows.ParamRows.{ParamRows}
use Rattle.day_model.specs.Facts.{DayFacts}
use Rattle.umlauf_write.specs.declared.text.PlanText.{PlanText}
use Rattle.umlauf_write.specs.Reading.{read_of}
use Rattle.plan_check.specs.Verdicts.{EachOnce, HaveWorths, IsFirstTimes, IsFirstUnlawful, StandOnce}
use Rattle.cert_check.specs.declared.old.OldPlan.{OldPlan}
use Rattle.cert_check.specs.declared.old.OldPlan.TheVariants.{Good, Bad}
use Rattle.cert_check.specs.declared.reason.Reason.{Reason}
use Rattle.cert_check.specs.declared.reason.Reason.TheVariants as reasons
use Rattle.cert_check.specs.Judging.{duty_list}
use Rattle.cert_check.specs.Old.{HasLawfulBlocks, HasPiecesOnce, HasTripsOnce, IsAgainst, IsOldAnswer, IsOldPlan, fids_of, old_duties, old_pieces}
use Rattle.plan_command.specs.Alike.{AreAlike}
use Rattle.plan_command.proofs.AlikeDays.{same_blocks, same_pieces}

module _ (one other : DayFacts) (alike : AreAlike one other) where
  -- tables are read by the numbers of the trips, pools and groups alone
  read_alike : (tables : List Table) → read_of one tables ≡ read_of other tables
  read_alike tables =
      let with : List Trip → ParamRows → DayFacts = λ trips params. record one { trips = trips; params = params } in
      ap (λ trips. read_of (with trips one.params) tables) alike.trips
      ∙ ap (λ params. read_of (with other.trips params) tables) alike.params

  fids_alike : fids_of one ≡ fids_of other
  fids_alike = ap (λ (trips : List Trip). map (λ (trip : Trip). trip.fid) trips) alike.trips

  pieces_alike : (text : PlanText) → old_pieces one text ≡ old_pieces other text
  pieces_alike text = ap (λ (pieces : List Column → List Piece). pieces text.blocks.columns) (same_pieces one other alike)

  duties_alike : (text : PlanText) → old_duties one text ≡ old_duties other text
  duties_alike text =
      let lists : ParamRows → List Piece → List Column = λ params pieces. map (duty_list params.groups pieces) text.duties in
      ap (λ params. lists params (old_pieces one text)) alike.params ∙ ap (λ pieces. lists other.params pieces) (pieces_alike text)

  trips_once : (text : PlanText) → HasTripsOnce one text → HasTripsOnce other text
  trips_once text h = let P : (Bool → Problem) → Type 0 = λ problem. StandOnce (problem false) text.blocks.columns in
      subst P (same_blocks one other alike) h

  lawful_blocks : (text : PlanText) → HasLawfulBlocks one text → HasLawfulBlocks other text
  lawful_blocks text h =
      let P : (Bool → Problem) → Type 0 = λ problem. HaveWorths (problem false) text.blocks.columns (length text.blocks.columns) in
      subst P (same_blocks one other alike) h

  pieces_once : (text : PlanText) → HasPiecesOnce one text → HasPiecesOnce other text
  pieces_once text h =
      let P : List Piece → Type 0 = λ pieces. EachOnce (length pieces) (old_duties one text) in
      let Q : List Column → Type 0 = λ lists. EachOnce (length (old_pieces other text)) lists in
      subst Q (duties_alike text) (subst P (pieces_alike text) h)

  old_plan_alike : (text : PlanText) → IsOldPlan one text → IsOldPlan other text
  old_plan_alike text h =
      record { trips = trips_once text h.trips; blocks = lawful_blocks text h.blocks; pieces = pieces_once text h.pieces }

  -- of the kinds that the tables by themselves have no reason of there is none on either day
  against_alike : (text : PlanText) (reason : Reason) → IsAgainst one text reason → IsAgainst other text reason
  against_alike text (reasons.TripTimes fid times) (item, at, first) =
      let P : List ℕ → Type 0 = λ fids. slice_get fids item ≡ Some fid in
      let Q : List Trip → Type 0 = λ trips. IsFirstTimes (length trips) text.blocks.columns item times in
      (item, subst P fids_alike at, subst Q alike.trips first)
  against_alike text (reasons.BlockUnlawful block) (trips, (spot, is, first)) =
      let P : (Bool → Problem) → Type 0 = λ problem. IsFirstUnlawful (problem false) text.blocks.columns spot in
      (trips_once text trips, (spot, is, subst P (same_blocks one other alike) first))
  against_alike text (reasons.PieceTimes block index times) (trips, blocks, (item, piece, at, block_is, index_is, first)) =
      let P : List Piece → Type 0 = λ pieces. slice_get pieces item ≡ Some piece in
      let Q : List Piece → Type 0 = λ pieces. IsFirstTimes (length pieces) (old_duties one text) item times in
      let R : List Column → Type 0 = λ lists. IsFirstTimes (length (old_pieces other text)) lists item times in (
        trips_once text trips,
        lawful_blocks text blocks,
        (item, piece, subst P (pieces_alike text) at, block_is, index_is, subst R (duties_alike text) (subst Q (pieces_alike text) first)),
      )
  against_alike text reason h = h

  -- Reading the tables and judging the plan look at the day's trips, settings and deadheads alone, in which alike days agree; so each
  -- part of an answer is carried over by putting one day's for the other's.
  pub old_alike : (tables : List Table) (answer : OldPlan) → IsOldAnswer one tables answer → IsOldAnswer other tables answer
  old_alike tables (Good text) h = (sym (read_alike tables) ∙ h.0, old_plan_alike text h.1)
  old_alike tables (Bad (reasons.PlanForm table row)) h = sym (read_alike tables) ∙ h
  old_alike tables (Bad reason) h = (h.0, sym (read_alike tables) ∙ h.1, against_alike h.0 reason h.2)
