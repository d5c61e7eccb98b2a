-- The answer on a plan and its certificate says what is answered of the plan by itself. Where its blocks are a plan, they are the lists
-- that the tables say but for their worths, and pieces are cut by classes and trips alone: so both see the same pieces and the same
-- duties. A trip, a block or a piece is then against the plan in both, and every later reason, as a yes, says that none is.
use Rattle.std.proofs.Common.{◌≡◌, ℕ, ◌+◌, ◌++◌, false, List, [], ◌∷◌, length, map, refl, sym, ap, ◌∙◌, subst}
use Rattle.std.specs.Prelude.{Some, slice_get}
use Rattle.plan_core.specs.declared.types.Piece.{Piece}
use Rattle.cover_core.specs.declared.Column.{Column}
use Rattle.cover_core.specs.declared.Plan.{Plan}
use Rattle.cover_core.specs.Plans.{times}
use Rattle.day_model.specs.Facts.{DayFacts}
use Rattle.plan_params.specs.Settings.{in_order}
use Rattle.block_cut.specs.Cuts.{block_pieces, moment, pieces_by_block}
use Rattle.umlauf_write.specs.declared.text.PlanText.{PlanText}
use Rattle.plan_check.specs.Verdicts.{EachOnce, HaveSameLists, IsFirstTimes, StandOnce}
use Rattle.plan_check.proofs.Lists.{same-items, worth-at}
use Rattle.cert_check.specs.declared.reason.Answered.TheVariants.{Yes, No}
use Rattle.cert_check.specs.declared.reason.Reason.TheVariants as reasons
use Rattle.cert_check.specs.Judging.{Case, blocks_in, duties_in, duty_list, duty_lists, pieces_in}
use Rattle.cert_check.specs.Old.{AnswersSayOld, HasLawfulBlocks, HasTripsOnce, IsGood, old_pieces}
use Rattle.cert_check.specs.Reasons.{HasBlocks, HasDuties}

-- Lists that are the same but for their worths have the same pieces. Pieces are cut block by block, and in a block the worth plays no
-- part.
same-cut : (day : DayFacts) (number : ℕ) (as' bs : List Column) → HaveSameLists as' bs →
    pieces_by_block day number as' ≡ pieces_by_block day number bs
same-cut day number [] [] h = refl
same-cut day number [] (b ∷ bs) h = absurd h
same-cut day number (a ∷ as') [] h = absurd h
same-cut day number (a ∷ as') (b ∷ bs) h =
    let column : ℕ → List ℕ → ℕ → Column = λ class items worth. record { class = class; worth = worth; items = items } in
    let class = ap (λ (k : ℕ). block_pieces day number (column k a.items a.worth)) h.0 in
    let items = ap (λ (is : List ℕ). block_pieces day number (column b.class is a.worth)) h.1 in
    let head : block_pieces day number a ≡ block_pieces day number b = class ∙ items in
    let rest = same-cut day (number + 1) as' bs h.2 in
    ap (λ (l : List Piece). l ++ pieces_by_block day (number + 1) as') head ∙ ap (λ (l : List Piece). block_pieces day number b ++ l) rest

same-pieces : (c : Case) (text : PlanText) (blocks : Plan) → HasBlocks c text blocks → pieces_in c blocks.columns ≡ old_pieces c.day text
same-pieces c text blocks has = sym (ap (in_order moment) (same-cut c.day 1 text.blocks.columns blocks.columns has.lawful.0))

trips-once : (c : Case) (text : PlanText) (blocks : Plan) → HasBlocks c text blocks → HasTripsOnce c.day text
trips-once c text blocks has = λ item below.
    ap (times item) (same-items text.blocks.columns blocks.columns has.lawful.0) ∙ has.lawful.1.once item below

lawful-blocks : (c : Case) (text : PlanText) (blocks : Plan) → HasBlocks c text blocks → HasLawfulBlocks c.day text
lawful-blocks c text blocks has = λ place list below at.
    worth-at (blocks_in c false) text.blocks.columns blocks.columns place list has.lawful.0 has.lawful.1.worths at

-- Where the blocks are a plan and each piece stands once, the tables are a plan of the day. The lists that the tables say differ from
-- the plan that was found in worths alone; so trips that stand once there stand once here, each list has a worth, and the pieces, and
-- with them the duties' piece numbers, are the same.
good : (c : Case) (text : PlanText) (blocks : Plan) → HasBlocks c text blocks →
    StandOnce (duties_in c (pieces_in c blocks.columns) false) (duty_lists c blocks.columns text) → IsGood c
good c text blocks has once =
    let P : List Piece → Type 0 = λ l. EachOnce (length l) (map (duty_list c.day.params.groups l) text.duties) in (
      text,
      (
        has.said,
        record {
          trips = trips-once c text blocks has;
          blocks = lawful-blocks c text blocks has;
          pieces = subst P (same-pieces c text blocks has) once;
        },
      ),
    )

good-duties : (c : Case) (text : PlanText) (blocks duties : Plan) → HasDuties c text blocks duties → IsGood c
good-duties c text blocks duties has =
    let lists = duty_lists c blocks.columns text in
    good c text blocks has.has_blocks (λ item below. ap (times item) (same-items lists duties.columns has.lawful.0)
    ∙ has.lawful.1.once item below)

-- Reasons are taken in turn. One against a trip, a block or a piece is handed over with what had to hold before it; all later ones,
-- and a yes, presuppose lawful blocks and pieces that stand once, which is `good`. A pool with too many blocks is no reason against an
-- earlier plan, and nothing follows from it. So `answers_say_old` ties what `check` answers to what `check_old` does.
pub says-old : (c : Case) → AnswersSayOld c
says-old c (Yes vehicles block_cost duty_count duty_cost) (text, blocks, duties, cert, accepted, one, two, three, four) =
    good-duties c text blocks duties accepted.is_covered.is_charged.has_cert.has_tables.has_duties
says-old c (No (reasons.PlanForm table row)) is = is
says-old c (No (reasons.TripTimes fid times)) (text, said, item, at, verdict) = (text, said, (item, at, verdict))
says-old c (No (reasons.BlockUnlawful block)) (text, said, spot, block_is, verdict) = (text, said, (verdict.0, (spot, block_is, verdict.1)))
says-old c (No (reasons.PoolOver pool used cap)) is = tt
says-old c (No (reasons.PieceTimes block index times)) (text, blocks, has, item, piece, at, block_is, index_is, verdict) =
    let pieces = same-pieces c text blocks has in
    let P : List Piece → Type 0 = λ l. slice_get l item ≡ Some piece in
    let Q : List Piece → Type 0 = λ l. IsFirstTimes (length l) (map (duty_list c.day.params.groups l) text.duties) item times in (
      text,
      has.said,
      (
        trips-once c text blocks has,
        lawful-blocks c text blocks has,
        (item, piece, subst P pieces at, block_is, index_is, subst Q pieces verdict),
      ),
    )
says-old c (No (reasons.DutyUnlawful duty)) (text, blocks, has, spot, duty_is, verdict) = good c text blocks has verdict.0
says-old c (No (reasons.GroupOver group used cap)) (text, blocks, has, class, at, cap_is, verdict) = good c text blocks has verdict.0
says-old c (No (reasons.PlanDiffers table row)) (text, blocks, duties, has, is) = good-duties c text blocks duties has
says-old c (No (reasons.CertForm at)) (text, blocks, duties, has, said) = good-duties c text blocks duties has.has_duties
says-old c (No (reasons.NegativeClassPrice pass class)) (text, blocks, duties, cert, has, is) =
    good-duties c text blocks duties has.has_tables.has_duties
says-old c (No (reasons.Uncovered pass gap)) (text, blocks, duties, cert, has, is) =
    good-duties c text blocks duties has.has_cert.has_tables.has_duties
says-old c (No (reasons.BoundTooHigh pass print show)) (text, blocks, duties, cert, has, is) =
    good-duties c text blocks duties has.is_charged.has_cert.has_tables.has_duties
