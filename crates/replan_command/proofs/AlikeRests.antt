-- Two days that are alike have the same heads and the same rests: what has begun hangs on the trips, the settings and the times of
-- deadheads alone.
use Rattle.std.proofs.Common.{◌≡◌, ℕ, pos, ◌-ℤ◌, Bool, false, cond, not, zero, suc, List, [], ◌∷◌, ◌++◌, length, Option, None, refl, ap, ◌∙◌, slice_get}
use Rattle.std.proofs.Math.Path.{fun_ext}
use Rattle.std.specs.Prelude.{◌==◌, int_lt, option_and_then}
use Rattle.std.specs.Option.{option_map_or}
use Rattle.plan_core.specs.declared.types.Piece.{Piece as WorkPiece}
use Rattle.cover_core.specs.declared.Column.{Column}
use Rattle.cover_core.specs.Cover.{Problem}
use Rattle.day_method.specs.Method.{DayProblems}
use Rattle.trip_times.specs.declared.trip.Trip.{Trip}
use Rattle.plan_params.specs.declared.rows.ParamRows.{ParamRows}
use Rattle.plan_params.specs.declared.rows.pool.Pool.{Pool}
use Rattle.day_model.specs.Facts.{DayFacts}
use Rattle.day_model.specs.Links.{pull_out, pull_out_over}
use Rattle.depot_network.specs.Network.{blocks_of}
use Rattle.block_cut.specs.Cuts.{pieces_of_plan}
use Rattle.duty_network.specs.Duties.{DutyFacts}
use Rattle.umlauf_write.specs.declared.text.PlanText.{PlanText}
use Rattle.umlauf_write.specs.Printed.{printed}
use Rattle.cover_rest.specs.Rest.{bodies, rest_of, written_plan}
use Rattle.block_rest.specs.declared.head.Head.{Head}
use Rattle.block_rest.specs.Heads.{head_at, head_from, heads_at, heads_from, heads_of, kept_after, leaves_before}
use Rattle.block_rest.specs.Rest.{may_begin}
use Rattle.block_rest.specs.Rest.{begun_of as begun_blocks_of}
use Rattle.duty_rest.specs.declared.head.DutyHead.{DutyHead}
use Rattle.duty_rest.specs.Heads.{duty_heads_of}
use Rattle.duty_rest.specs.Rest.{rest_duties}
use Rattle.duty_rest.specs.Rest.{begun_of as begun_duties_of}
use Rattle.plan_command.specs.Alike.{AreAlike}
use Rattle.plan_command.proofs.AlikeDays.{same_blocks, same_pieces}
use Rattle.replan_command.specs.Begun.{duty_facts}
use Rattle.replan_command.specs.Replanning.{block_heads, block_items, blocks_left, replan_of, rest_problems}

module _ (one other : DayFacts) (alike : AreAlike one other) where
  -- the other day with these trips
  abbrev with : List Trip → DayFacts
  with trips = record other { trips = trips }

  outs_alike : pull_out one ≡ pull_out other
  outs_alike = fun_ext (λ pool. fun_ext (λ trip. ap (λ o. pull_out_over trip o) (alike.deads pool.depot trip.from)))

  -- of a day only the trips, the pools and the pull-outs say what leaves before a moment
  leaves_alike : (moment class t : ℕ) → leaves_before one moment class t ≡ leaves_before other moment class t
  leaves_alike moment class t =
      let leaves : List Trip → ParamRows → (Pool → Trip → Option ℕ) → Bool = λ trips params outward.
      option_map_or (λ (trip : Trip). option_map_or (λ (out : ℕ). int_lt (trip.begin.0 -ℤ pos out) (pos moment))
      (option_and_then (λ (pool : Pool). option_and_then (λ (trip : Trip). outward pool trip) (slice_get trips t))
      (slice_get params.pools class)) false) (slice_get trips t) false in
      ap (λ trips. leaves trips one.params (pull_out one)) alike.trips
      ∙ ap (λ params. leaves other.trips params (pull_out one)) alike.params
      ∙ ap (λ outward. leaves other.trips other.params outward) outs_alike

  head_alike : (moment first class : ℕ) (list : List ℕ) → head_at one moment first class list ≡ head_at other moment first class list
  head_alike moment first class [] = refl
  head_alike moment first class (t ∷ ts) =
      let head : List Trip → Bool → List Head = λ trips leaves.
      cond (t == first) (cond leaves (head_from (with trips) moment class t (kept_after (with trips) moment t ts) ∷ []) []) [] in
      ap (λ trips. head trips (leaves_before one moment class t)) alike.trips
      ∙ ap (λ leaves. head other.trips leaves) (leaves_alike moment class t)

  heads_at_alike : (moment : ℕ) (blocks : List Column) (first : ℕ) → heads_at one moment blocks first ≡ heads_at other moment blocks first
  heads_at_alike moment [] first = refl
  heads_at_alike moment (c ∷ cs) first =
      ap (λ heads. heads ++ heads_at one moment cs first) (head_alike moment first c.class c.items)
      ∙ ap (λ heads. head_at other moment first c.class c.items ++ heads) (heads_at_alike moment cs first)

  heads_from_alike : (moment : ℕ) (blocks : List Column) (n first : ℕ) →
      heads_from one moment blocks n first ≡ heads_from other moment blocks n first
  heads_from_alike moment blocks zero first = refl
  heads_from_alike moment blocks (suc n) first =
      ap (λ heads. heads ++ heads_from one moment blocks n (suc first)) (heads_at_alike moment blocks first)
      ∙ ap (λ heads. heads_at other moment blocks first ++ heads) (heads_from_alike moment blocks n (suc first))

  pub heads_alike : (moment : ℕ) (blocks : List Column) → heads_of one moment blocks ≡ heads_of other moment blocks
  heads_alike moment blocks =
      heads_from_alike moment blocks (length one.trips) 0
      ∙ ap (λ (trips : List Trip). heads_from other moment blocks (length trips) 0) alike.trips

  may_at : (moment class : ℕ) (list : List ℕ) → may_begin one moment class list ≡ may_begin other moment class list
  may_at moment class [] = refl
  may_at moment class (t ∷ ts) = ap not (leaves_alike moment class t)

  pub may_alike : (moment : ℕ) → may_begin one moment ≡ may_begin other moment
  may_alike moment = fun_ext (λ class. fun_ext (λ list. may_at moment class list))

  -- what the duties over blocks are made of
  pub facts_alike : duty_facts one ≡ duty_facts other
  facts_alike =
      let facts : (List Column → List WorkPiece) → ParamRows → List Column → Bool → DutyFacts =
      λ pieces params blocks counts. record { pieces = pieces blocks; params = params; counts = counts } in
      ap (λ pieces. facts pieces one.params) (same_pieces one other alike) ∙ ap (λ params. facts (pieces_of_plan other) params) alike.params

-- the side of the duties by what the duties over blocks are made of: the heads, what their items stand for, and their rest
module _ (earlier : PlanText) (moment : ℕ) where
  abbrev pub heads_by : (List Column → Bool → DutyFacts) → List Column → List DutyHead
  heads_by facts blocks = duty_heads_of (facts blocks false) blocks earlier moment

  abbrev pub items_by : (List Column → Bool → DutyFacts) → List Column → List (List ℕ)
  items_by facts blocks = bodies (begun_duties_of (heads_by facts blocks)) (length (facts blocks false).pieces)

  abbrev pub left_by : (List Column → Bool → DutyFacts) → List Column → Bool → Problem
  left_by facts blocks counts = rest_duties (facts blocks counts) (heads_by facts blocks)

-- the rests of both days
module _ (one other : DayFacts) (alike : AreAlike one other) (earlier : PlanText) (moment : ℕ) where
  pub same_heads : block_heads (replan_of one earlier moment) ≡ block_heads (replan_of other earlier moment)
  same_heads = heads_alike one other alike moment earlier.blocks.columns

  pub same_left : blocks_left (replan_of one earlier moment) ≡ blocks_left (replan_of other earlier moment)
  same_left =
      let left : (Bool → Problem) → List Head → (ℕ → List ℕ → Bool) → Bool → Problem =
      λ problem heads may counts. rest_of (problem counts) (begun_blocks_of heads) may in
      ap (λ problem. left problem (block_heads (replan_of one earlier moment)) (may_begin one moment)) (same_blocks one other alike)
      ∙ ap (λ heads. left (blocks_of other) heads (may_begin one moment)) same_heads
      ∙ ap (λ may. left (blocks_of other) (block_heads (replan_of other earlier moment)) may) (may_alike one other alike moment)

  pub same_items : block_items (replan_of one earlier moment) ≡ block_items (replan_of other earlier moment)
  same_items =
      let items : List Head → List Trip → List (List ℕ) = λ heads trips. bodies (begun_blocks_of heads) (length trips) in
      ap (λ heads. items heads one.trips) same_heads ∙ ap (λ trips. items (block_heads (replan_of other earlier moment)) trips) alike.trips

  -- All that the method is given of what is left is made of the rest of the blocks, of what its items stand for, and of what duties
  -- are made of. Each of the three is the same on both days, and they are exchanged one after another.
  pub same_problems : rest_problems (replan_of one earlier moment) ≡ rest_problems (replan_of other earlier moment)
  same_problems =
      let problems : (Bool → Problem) → List (List ℕ) → (List Column → Bool → DutyFacts) → DayProblems = λ problem items facts.
      record {
        blocks = λ counts. problem counts;
        known_blocks = None;
        written_blocks = λ columns. written_plan items columns;
        printed_blocks = printed;
        duties = λ blocks counts. left_by earlier moment facts blocks counts;
        written_duties = λ blocks columns. written_plan (items_by earlier moment facts blocks) columns;
        printed_duties = λ blocks. printed;
      } in
      ap (λ problem. problems problem (block_items (replan_of one earlier moment)) (duty_facts one)) same_left
      ∙ ap (λ items. problems (blocks_left (replan_of other earlier moment)) items (duty_facts one)) same_items
      ∙ ap (λ facts. problems (blocks_left (replan_of other earlier moment)) (block_items (replan_of other earlier moment)) facts)
      (facts_alike one other alike)
