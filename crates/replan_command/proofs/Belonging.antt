-- Each begun piece of new blocks has its one duty in a good earlier plan, where it is a piece of the earlier blocks too: there each piece
-- stands in exactly one duty, once, and the group of each duty is there.
use Rattle.std.proofs.Common.{◌≡◌, ℕ, pos, ◌+◌, ◌≤◌, Bool, true, false, cond, ◌&&◌, ◌||◌, List, [], ◌∷◌, refl, sym, ap, subst, ◌∙◌, arith, inl, inr, Option, Some, None, slice_get}
use Rattle.std.specs.Prelude.{int_lt}
use Rattle.std.specs.Option.{option_map_or}
use Rattle.std.proofs.lemmas.Bool.{cases_lt}
use Rattle.plan_core.specs.declared.types.Piece.{Piece}
use Rattle.vdv451_text.specs.declared.table.Table.{Table}
use Rattle.cover_core.specs.declared.Column.{Column}
use Rattle.plan_params.specs.declared.rows.group.Group.{Group}
use Rattle.day_model.specs.Facts.{DayFacts}
use Rattle.block_cut.specs.Cuts.{pieces_of_plan}
use Rattle.umlauf_write.specs.declared.text.DutyRow.{DutyRow}
use Rattle.umlauf_write.specs.declared.text.PlanText.{PlanText}
use Rattle.duty_rest.specs.Heads.{begun_part, is_one_of, part_of, same_part}
use Rattle.duty_rest.specs.Laws.{all_parts, belongs_to, part_times}
use Rattle.cert_check.specs.declared.old.OldPlan.TheVariants.{Good}
use Rattle.cert_check.specs.Judging.{part_number}
use Rattle.cert_check.specs.Old.{HasPiecesOnce, IsOldAnswer}
use Rattle.replan_command.specs.Begun.{HaveDuties, begins_before}
use Rattle.replan_command.proofs.NamedParts.{number-there, parts-append, rows-times}
use Rattle.replan_command.proofs.KnownGroups.{AreKnown, groups-known, is_known}

-- each piece of new blocks that begins before a moment is one of the earlier blocks too
abbrev pub IsFound : DayFacts → PlanText → ℕ → List Column → Type 0
IsFound day earlier moment blocks =
    (k : ℕ) (p : Piece) → slice_get (pieces_of_plan day blocks) k ≡ Some p → int_lt p.begin.0 (pos moment) ≡ true →
    (x : ℕ × ℕ) × (part_of blocks earlier.blocks.columns p ≡ Some x) ×
    ((n : ℕ) × (q : Piece) × (slice_get (pieces_of_plan day earlier.blocks.columns) n ≡ Some q) × (q.block ≡ x.0) × (q.index ≡ x.1))

-- a part that a duty names is one of it
one-named : (x : ℕ × ℕ) (parts : List (ℕ × ℕ)) → 1 ≤ part_times x parts → is_one_of (Some x) parts ≡ true
one-named x [] some = absurd (omega (arith, some))
one-named x (y ∷ ys) some =
    elim (same_part x y) as (λ t. 1 ≤ cond t 1 0 + part_times x ys → (t || is_one_of (Some x) ys) ≡ true) [
      | true ↦ λ s. refl
      | false ↦ λ s. one-named x ys (omega (arith, s))
    ] some

-- A part that duties name belongs to one of them, where their groups are there. Named at least once by all duties together, it is
-- named by some duty, of which the first counts; its group is there, as tables that name another group are not read. So the piece
-- belongs to that duty.
rows-belong : (groups : List Group) (x : ℕ × ℕ) (rows : List DutyRow) → AreKnown groups rows → 1 ≤ part_times x (all_parts rows) →
    belongs_to groups (Some x) rows ≡ true
rows-belong groups x [] known some = absurd (omega (arith, some))
rows-belong groups x (row ∷ rows) known some =
    let both = parts-append x row.parts (all_parts rows) in
    elim (cases_lt 0 (part_times x row.parts)) [
      | inl here ↦
          let one : is_one_of (Some x) row.parts ≡ true = one-named x row.parts (omega (arith, here)) in
          let own : (is_one_of (Some x) row.parts && is_known groups row.group) ≡ true =
          ap (λ (t : Bool). t && is_known groups row.group) one ∙ known.0 in
          ap (λ (t : Bool). t || belongs_to groups (Some x) rows) own
      | inr none ↦
          let rest : belongs_to groups (Some x) rows ≡ true = rows-belong groups x rows known.1 (omega (arith, both, none, some)) in
          or-true (is_one_of (Some x) row.parts && is_known groups row.group) (belongs_to groups (Some x) rows) rest
    ]
  where
    or-true : (a b : Bool) → b ≡ true → (a || b) ≡ true
    or-true true b e = refl
    or-true false b e = e

-- a part that stands for a begun piece is one of the piece
part-begun : (blocks earlier : List Column) (moment : ℕ) (p : Piece) (x : ℕ × ℕ) → begun_part blocks earlier moment p ≡ Some x →
    (begins_before moment p ≡ true) × (part_of blocks earlier p ≡ Some x)
part-begun blocks earlier moment p x is =
    elim (begins_before moment p) as (λ t. begins_before moment p ≡ t → cond t (part_of blocks earlier p) None ≡ Some x →
    (begins_before moment p ≡ true) × (part_of blocks earlier p ≡ Some x)) [
      | true ↦ λ before e. (before, e)
      | false ↦ λ before e. absurd (cc)
    ] refl is

begun-part : (blocks earlier : List Column) (moment : ℕ) (p : Piece) (x : ℕ × ℕ) → begins_before moment p ≡ true →
    part_of blocks earlier p ≡ Some x →
    begun_part blocks earlier moment p ≡ Some x
begun-part blocks earlier moment p x before is = ap (λ (t : Bool). cond t (part_of blocks earlier p) None) before ∙ is

-- a part that names an earlier piece stands once in the earlier duties
named-once : (day : DayFacts) (earlier : PlanText) → HasPiecesOnce day earlier → (x : ℕ × ℕ) (n : ℕ) (q : Piece) →
    slice_get (pieces_of_plan day earlier.blocks.columns) n ≡ Some q → q.block ≡ x.0 → q.index ≡ x.1 →
    part_times x (all_parts earlier.duties) ≡ 1
named-once day earlier once x n q at block index =
    let pieces : List Piece = pieces_of_plan day earlier.blocks.columns in
    let there = number-there pieces x n q at block index in
    sym (rows-times day.params.groups pieces x there earlier.duties) ∙ once (part_number pieces x) there

-- A begun piece of the new blocks is a piece of the earlier blocks, by its name (`IsFound`, from `same_cut`). There each piece stands
-- in one duty, once (`named-once`), since the earlier plan is good. So it has its duty, and one alone, and what a driver has begun can
-- be kept.
pub have_duties : (day : DayFacts) (old : List Table) (earlier : PlanText) (moment : ℕ) (blocks : List Column) →
    IsOldAnswer day old (Good earlier) →
    IsFound day earlier moment blocks → HaveDuties day earlier moment blocks
have_duties day old earlier moment blocks good found = record {
  belongs = λ k begun.
      let pieces : List Piece = pieces_of_plan day blocks in
      elim (slice_get pieces k) as (λ o. slice_get pieces k ≡ o → option_map_or (begins_before moment) o false ≡ true →
      option_map_or (λ (p : Piece). belongs_to day.params.groups (begun_part blocks earlier.blocks.columns moment p) earlier.duties) o false
      ≡ true) [
        | None ↦ λ at e. absurd (cc)
        | Some p ↦ λ at e.
            let (x, part, (n, q, there, block, index)) = found k p at e in
            let once = named-once day earlier good.1.pieces x n q there block index in
            let own = rows-belong day.params.groups x earlier.duties (groups-known day old earlier good.0) (omega (arith, once)) in
            let P : Option (ℕ × ℕ) → Type 0 = λ o. belongs_to day.params.groups o earlier.duties ≡ true in
            subst P (sym (begun-part blocks earlier.blocks.columns moment p x e part)) own
      ] refl begun;
  once = λ k p x at is.
      let (before, part) = part-begun blocks earlier.blocks.columns moment p x is in
      let (y, part', (n, q, there, block, index)) = found k p at before in
      let same : y ≡ x = cc in
      let P : ℕ × ℕ → Type 0 = λ z. part_times z (all_parts earlier.duties) ≡ 1 in
      subst P same (named-once day earlier good.1.pieces y n q there block index);
}
