-- Promise: pieces of new blocks that begin before a moment, and the duties of an earlier plan that have them.
use Rattle.std.specs.Prelude.{◌≡◌, ℕ, pos, int_lt, ◌&&◌, Bool, true, false, not, List, [], ◌∷◌, Some, slice_get}
use Rattle.std.specs.Option.{option_map_or}
use Rattle.plan_core.specs.declared.types.Piece.{Piece}
use Rattle.cover_core.specs.declared.Column.{Column}
use Rattle.day_model.specs.Facts.{DayFacts}
use Rattle.block_cut.specs.Cuts.{pieces_of_plan}
use Rattle.duty_network.specs.Duties.{DutyFacts}
use Rattle.umlauf_write.specs.declared.text.PlanText.{PlanText}
use Rattle.duty_rest.specs.Heads.{begun_part}
use Rattle.duty_rest.specs.Laws.{all_parts, has_begun_in, part_times}

-- whether a piece begins before a moment
abbrev pub begins_before : ℕ → Piece → Bool
begins_before moment p = int_lt p.begin.0 (pos moment)

-- whether the piece of a number does
abbrev pub has_begun_at : ℕ → List Piece → ℕ → Bool
has_begun_at moment pieces k = option_map_or (begins_before moment) (slice_get pieces k) false

-- whether none of the pieces of these numbers does
abbrev pub none_begun : ℕ → List Piece → List ℕ → Bool
none_begun moment pieces [] = true
none_begun moment pieces (k ∷ ks) = not (has_begun_at moment pieces k) && none_begun moment pieces ks

-- what the duties over blocks are made of, counted or with their costs
abbrev pub duty_facts : DayFacts → List Column → Bool → DutyFacts
duty_facts day blocks counts = record { pieces = pieces_of_plan day blocks; params = day.params; counts = counts }

-- Each piece of new blocks that begins before a moment has its duty in an earlier plan, and one alone: a part of that duty stands for it,
-- and the duty's group is there.
pub record HaveDuties (day : DayFacts) (earlier : PlanText) (moment : ℕ) (blocks : List Column) : Type 0 where
  pub belongs : (k : ℕ) → has_begun_at moment (pieces_of_plan day blocks) k ≡ true →
      has_begun_in (duty_facts day blocks false) blocks earlier moment k ≡ true
  pub once : (k : ℕ) (p : Piece) (x : ℕ × ℕ) → slice_get (pieces_of_plan day blocks) k ≡ Some p →
      begun_part blocks earlier.blocks.columns moment p ≡ Some x →
      part_times x (all_parts earlier.duties) ≡ 1
