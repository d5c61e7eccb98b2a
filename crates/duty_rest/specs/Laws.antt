-- Promise: what holds of the heads of plans of duties.
use Rattle.std.specs.Prelude.{◌≡◌, ℕ, ◌+◌, ◌≤◌, ◌&&◌, ◌||◌, Bool, true, false, cond, not, List, [], ◌∷◌, ◌++◌, Option, Some, slice_get}
use Rattle.std.specs.Option.{option_map_or}
use Rattle.plan_core.specs.declared.types.Piece.{Piece}
use Rattle.plan_params.specs.declared.rows.group.Group.{Group}
use Rattle.cover_core.specs.declared.Column.{Column}
use Rattle.cover_core.specs.Plans.{IsPlan}
use Rattle.duty_network.specs.Duties.{DutyFacts, duties}
use Rattle.umlauf_write.specs.declared.text.DutyRow.{DutyRow}
use Rattle.umlauf_write.specs.declared.text.PlanText.{PlanText}
use Rattle.cover_rest.specs.Keeping.{AreHeads, KeepsBegun}
use Rattle.duty_rest.specs.Heads.{begun_part, class_of, duty_heads_of, is_one_of, same_part}
use Rattle.duty_rest.specs.Rest.{begun_of, may_begin}

-- how often a part stands in a list
abbrev pub part_times : ℕ × ℕ → List (ℕ × ℕ) → ℕ
part_times x [] = 0
part_times x (y ∷ ys) = cond (same_part x y) 1 0 + part_times x ys

-- the parts of all duties
abbrev pub all_parts : List DutyRow → List (ℕ × ℕ)
all_parts [] = []
all_parts (row ∷ rows) = row.parts ++ all_parts rows

-- the part that stands for a begun piece stands at most once in the duties of an earlier plan
abbrev pub IsBegunOnce : DutyFacts → List Column → PlanText → ℕ → Type 0
IsBegunOnce d blocks earlier moment =
    (k : ℕ) (p : Piece) (part : ℕ × ℕ) → slice_get d.pieces k ≡ Some p → begun_part blocks earlier.blocks.columns moment p ≡ Some part →
    part_times part (all_parts earlier.duties) ≤ 1

-- the heads of an earlier plan are heads of the day's duties: none is empty, their pieces are there, and no piece stands twice
abbrev pub HeadsAreHeads : Type 0
HeadsAreHeads =
    (d : DutyFacts) (blocks : List Column) (earlier : PlanText) (moment : ℕ) → IsBegunOnce d blocks earlier moment →
    AreHeads (duties d) (begun_of (duty_heads_of d blocks earlier moment))

-- whether a piece has begun and belongs to a duty: a part of the duty stands for it, and the duty's group is there
abbrev pub belongs : List Group → Option (ℕ × ℕ) → DutyRow → Bool
belongs groups o row = is_one_of o row.parts && option_map_or (λ (class : ℕ). true) (class_of groups row.group 0) false

-- whether it belongs to one of some duties
abbrev pub belongs_to : List Group → Option (ℕ × ℕ) → List DutyRow → Bool
belongs_to groups o [] = false
belongs_to groups o (row ∷ rows) = belongs groups o row || belongs_to groups o rows

-- whether the piece of a number has begun and belongs to a duty of the earlier plan
abbrev pub has_begun_in : DutyFacts → List Column → PlanText → ℕ → ℕ → Bool
has_begun_in d blocks earlier moment k =
    option_map_or (λ (p : Piece). belongs_to d.params.groups (begun_part blocks earlier.blocks.columns moment p) earlier.duties)
    (slice_get d.pieces k) false

-- whether none of a list's pieces does
abbrev pub none_begun : DutyFacts → List Column → PlanText → ℕ → List ℕ → Bool
none_begun d blocks earlier moment [] = true
none_begun d blocks earlier moment (k ∷ ks) = not (has_begun_in d blocks earlier moment k) && none_begun d blocks earlier moment ks

-- in a plan of duties that keeps the heads of an earlier plan, every duty without a head has no begun piece of an earlier duty
abbrev pub KeptLeavesNoneBegun : Type 0
KeptLeavesNoneBegun =
    (d : DutyFacts) (blocks : List Column) (earlier : PlanText) (moment : ℕ) (columns : List Column) → IsPlan (duties d) columns →
    KeepsBegun (begun_of (duty_heads_of d blocks earlier moment)) may_begin columns →
    KeepsBegun (begun_of (duty_heads_of d blocks earlier moment)) (λ class list. none_begun d blocks earlier moment list) columns
