use Rattle.std.proofs.Common.{◌≡◌, ◌<◌, ◌≤◌, ◌^◌, ℕ, All, List, length, sym, ap, ◌∙◌, subst, inl, arith, codes}
use Rattle.std.specs.Prelude.{Option, Some}
use Rattle.vdv451_text.specs.declared.table.Table.{Table}
use Rattle.cover_core.specs.declared.Column.{Column}
use Rattle.cover_core.specs.Cover.{AllBelow}
use Rattle.cover_core.specs.FirstLeast.{AreCheap}
use Rattle.umlauf_write.specs.declared.answer.Answer.{Answer}
use Rattle.umlauf_write.specs.Answers.{answer_tables}
use Rattle.table_differences.specs.declared.difference.Difference.{Difference}
use Rattle.table_differences.specs.Differences.{first_difference}
use Rattle.cert_check.specs.declared.reason.Reason.{Reason}
use Rattle.cert_check.specs.Judging.{Case}
use Rattle.cert_check.specs.Reasons.{IsPlaceOf, IsReason, tables_in}
use Rattle.cert_check.proofs.Again.{has_ranges, shift_pieces}
use Rattle.cert_check.proofs.FourBounds.{four-bounds}
use Rattle.cert_check.proofs.Made.{tables_made}
use Rattle.cert_check.proofs.printing.same_tables.Goals as goal

pub plan_tables-requires-clause-few_blocks : goal.plan_tables-requires-clause-few_blocks
plan_tables-requires-clause-few_blocks c =
    let P : Answer → Type 0 = λ answer. length answer.blocks.columns ≤ 3000 in
    let ranges = has_ranges c.args.case.now c.args.text.now c.args.blocks.now c.args.duties.now c.requires.has
    c.requires.few_blocks c.requires.few_pieces c.requires.cheap_blocks c.requires.cheap_duties in
    subst P (sym c.requires.answer) ranges.few_blocks

pub plan_tables-requires-clause-pools : goal.plan_tables-requires-clause-pools
plan_tables-requires-clause-pools c =
    let P : Case → Answer → Type 0 = λ k answer. All (λ (block : Column). block.class < length k.day.params.pools) answer.blocks.columns in
    let ranges = has_ranges c.args.case.now c.args.text.now c.args.blocks.now c.args.duties.now c.requires.has
    c.requires.few_blocks c.requires.few_pieces c.requires.cheap_blocks c.requires.cheap_duties in
    subst (λ (k : Case). P k c.args.answer.now) (sym c.case.view_is) (subst (P c.args.case.now) (sym c.requires.answer) ranges.pools)

pub plan_tables-requires-clause-trips : goal.plan_tables-requires-clause-trips
plan_tables-requires-clause-trips c =
    let P : Case → Answer → Type 0 =
    λ k answer. All (λ (block : Column). AllBelow (length k.day.trips) block.items) answer.blocks.columns in
    let ranges = has_ranges c.args.case.now c.args.text.now c.args.blocks.now c.args.duties.now c.requires.has
    c.requires.few_blocks c.requires.few_pieces c.requires.cheap_blocks c.requires.cheap_duties in
    subst (λ (k : Case). P k c.args.answer.now) (sym c.case.view_is) (subst (P c.args.case.now) (sym c.requires.answer) ranges.trips)

pub plan_tables-requires-clause-cheap_blocks : goal.plan_tables-requires-clause-cheap_blocks
plan_tables-requires-clause-cheap_blocks c =
    let P : Answer → Type 0 = λ answer. AreCheap answer.blocks.columns in
    let ranges = has_ranges c.args.case.now c.args.text.now c.args.blocks.now c.args.duties.now c.requires.has
    c.requires.few_blocks c.requires.few_pieces c.requires.cheap_blocks c.requires.cheap_duties in
    subst P (sym c.requires.answer) ranges.cheap_blocks

pub plan_tables-requires-clause-few_duties : goal.plan_tables-requires-clause-few_duties
plan_tables-requires-clause-few_duties c =
    let P : Answer → Type 0 = λ answer. length answer.duties.columns ≤ 3000 in
    let ranges = has_ranges c.args.case.now c.args.text.now c.args.blocks.now c.args.duties.now c.requires.has
    c.requires.few_blocks c.requires.few_pieces c.requires.cheap_blocks c.requires.cheap_duties in
    subst P (sym c.requires.answer) ranges.few_duties

pub plan_tables-requires-clause-groups : goal.plan_tables-requires-clause-groups
plan_tables-requires-clause-groups c =
    let P : Case → Answer → Type 0 = λ k answer. All (λ (duty : Column). duty.class < length k.day.params.groups) answer.duties.columns in
    let ranges = has_ranges c.args.case.now c.args.text.now c.args.blocks.now c.args.duties.now c.requires.has
    c.requires.few_blocks c.requires.few_pieces c.requires.cheap_blocks c.requires.cheap_duties in
    subst (λ (k : Case). P k c.args.answer.now) (sym c.case.view_is) (subst (P c.args.case.now) (sym c.requires.answer) ranges.groups)

pub plan_tables-requires-clause-parts : goal.plan_tables-requires-clause-parts
plan_tables-requires-clause-parts c =
    let P : Answer → Type 0 = λ answer. All (λ (duty : Column). length duty.items ≤ 3000) answer.duties.columns in
    let ranges = has_ranges c.args.case.now c.args.text.now c.args.blocks.now c.args.duties.now c.requires.has
    c.requires.few_blocks c.requires.few_pieces c.requires.cheap_blocks c.requires.cheap_duties in
    subst P (sym c.requires.answer) ranges.parts

pub plan_tables-requires-clause-cheap_duties : goal.plan_tables-requires-clause-cheap_duties
plan_tables-requires-clause-cheap_duties c =
    let P : Answer → Type 0 = λ answer. AreCheap answer.duties.columns in
    let ranges = has_ranges c.args.case.now c.args.text.now c.args.blocks.now c.args.duties.now c.requires.has
    c.requires.few_blocks c.requires.few_pieces c.requires.cheap_blocks c.requires.cheap_duties in
    subst P (sym c.requires.answer) ranges.cheap_duties

pub plan_tables-requires-clause-pieces : goal.plan_tables-requires-clause-pieces
plan_tables-requires-clause-pieces c = shift_pieces c.args.answer.now.pieces c.requires.shifts

pub plan_tables-requires-clause-passes : goal.plan_tables-requires-clause-passes
plan_tables-requires-clause-passes c =
    let P : Answer → Type 0 = λ answer. length answer.bounds ≤ 4 in
    let four = four-bounds c.args.case.now.day c.args.case.now.plan c.args.text.now c.requires.has.has_blocks.said in
    subst P (sym c.requires.answer) (omega (arith, four))

pub plan_tables-requires-clause-bounds : goal.plan_tables-requires-clause-bounds
plan_tables-requires-clause-bounds c =
    let P : Answer → Type 0 = λ answer. All (λ (bound : ℕ). bound < 2 ^ 63) answer.bounds in
    subst P (sym c.requires.answer) c.requires.bounds

pub returns-in-None-clause-same : goal.returns-in-None-clause-same
returns-in-None-clause-same c =
    let inside : Case = record {
      day = c.case.inside.day.now;
      rec_frt = c.case.inside.rec_frt.now;
      plan = c.case.inside.plan.now;
      cert =
          c.case.inside.cert.now;
    } in
    let Made : Case → Type 0 = λ k. c.in_ok-made.made ≡ answer_tables k.day k.rec_frt c.args.answer.now in
    let tables = tables_in c.args.case.now c.args.text.now c.args.blocks.now c.args.duties.now in
    let made : c.in_ok-made.made ≡ tables =
    tables_made c.args.case.now c.args.text.now c.args.blocks.now c.args.duties.now c.args.answer.now c.in_ok-made.made c.requires.answer
    (subst Made c.case.view_is c.in_ok-made.ensures.tables) in
    let Diff : Case → List Table → Option Difference = λ k ts. first_difference (codes "X_SCHRANKE") (codes "SCHRANKE") k.plan ts in
    let same : Diff inside c.as_slice.result.now ≡ Diff c.args.case.now tables =
    ap (λ (ts : List Table). Diff inside ts) (c.as_slice.ensures ∙ made) ∙ ap (λ (k : Case). Diff k tables) c.case.view_is in
    sym (c.in-None.ensures.difference ∙ same)

pub returns-clause-stop : goal.returns-clause-stop
returns-clause-stop c =
    let inside : Case = record {
      day = c.case.inside.day.now;
      rec_frt = c.case.inside.rec_frt.now;
      plan = c.case.inside.plan.now;
      cert =
          c.case.inside.cert.now;
    } in
    let Made : Case → Type 0 = λ k. c.in_ok-made.made ≡ answer_tables k.day k.rec_frt c.args.answer.now in
    let tables = tables_in c.args.case.now c.args.text.now c.args.blocks.now c.args.duties.now in
    let made : c.in_ok-made.made ≡ tables =
    tables_made c.args.case.now c.args.text.now c.args.blocks.now c.args.duties.now c.args.answer.now c.in_ok-made.made c.requires.answer
    (subst Made c.case.view_is c.in_ok-made.ensures.tables) in
    let Diff : Case → List Table → Option Difference = λ k ts. first_difference (codes "X_SCHRANKE") (codes "SCHRANKE") k.plan ts in
    let same : Diff inside c.as_slice.result.now ≡ Diff c.args.case.now tables =
    ap (λ (ts : List Table). Diff inside ts) (c.as_slice.ensures ∙ made) ∙ ap (λ (k : Case). Diff k tables) c.case.view_is in
    let d = c.in-Some.difference in
    let found : Diff c.args.case.now tables ≡ Some d = sym (c.in-Some.ensures.difference ∙ same) in
    let (table, row, is, place) = c.in_ok-difference_reason-in-Some.ensures in
    let here : IsPlaceOf tables d table row =
    subst (λ (ts : List Table). IsPlaceOf ts d table row) (c.as_slice-in-Some.ensures ∙ made) place in
    subst (λ (r : Reason). IsReason c.args.case.now r) (sym is)
    (c.args.text.now, c.args.blocks.now, c.args.duties.now, c.requires.has, inl (d, found, here))
