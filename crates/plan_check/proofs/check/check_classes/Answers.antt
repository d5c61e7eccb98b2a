use Rattle.std.proofs.Common.{◌≡◌, ◌<◌, List, ℕ, length, nat_lt, ap, ◌∙◌, sym, subst, arith}
use Rattle.std.proofs.lemmas.Grind.{get_or_default_zero}
use Rattle.std.specs.Prelude.{Option, Some, None, slice_index}
use Rattle.cover_core.specs.declared.Column.{Column}
use Rattle.cover_core.specs.FirstLeast.{AreCheap}
use Rattle.plan_check.specs.declared.verdict.PlanVerdict.{PlanVerdict}
use Rattle.plan_check.specs.declared.verdict.PlanVerdict.TheVariants.{Lawful, Over}
use Rattle.plan_check.specs.Counts.{IsFirstOf}
use Rattle.plan_check.specs.Judged.{by_classes}
use Rattle.plan_check.proofs.Counted.{first-over}
use Rattle.plan_check.proofs.Small.{all-cheap}
use Rattle.plan_check.proofs.check.check_classes.Goals as goal

pub returns-in-Some-clause-verdict : goal.returns-in-Some-clause-verdict
returns-in-Some-clause-verdict g c =
    let p = g.C.Columns.problem c.args.columns.now in
    let lists = c.args.lists.now in
    let counts = c.in_ok-counts.counts.items in
    let long : length counts ≡ length p.caps = c.in_ok-counts.ensures.count ∙ c.classes.ensures.value in
    let P : List ℕ → Type 0 =
    λ l. IsFirstOf (length p.caps) (λ class. nat_lt (slice_index p.caps class) (slice_index l class)) c.first_over.result in
    let Q : Option ℕ → Type 0 = λ o. IsFirstOf (length p.caps) (λ class. nat_lt (slice_index p.caps class) (slice_index counts class)) o in
    let first = subst Q c.in-Some.is (subst P c.as_slice.ensures.value c.first_over.ensures) in
    let found = first-over p lists counts (Some c.in-Some.class) long c.in_ok-counts.ensures.counts first in
    let there = first.0 in
    let below : c.in-Some.class < length counts = omega arith in
    let read = c.index.ensures
    ∙ (get_or_default_zero counts c.in-Some.class c.index.result.now below ∙ c.in_ok-counts.ensures.counts c.in-Some.class below) in
    let over : ℕ → PlanVerdict = λ used. Over c.in-Some.class used in
    ap over read ∙ sym (ap (by_classes p lists) found)

pub returns-in-None-clause-verdict : goal.returns-in-None-clause-verdict
returns-in-None-clause-verdict g c =
    let p = g.C.Columns.problem c.args.columns.now in
    let lists = c.args.lists.now in
    let counts = c.in_ok-counts.counts.items in
    let long : length counts ≡ length p.caps = c.in_ok-counts.ensures.count ∙ c.classes.ensures.value in
    let P : List ℕ → Type 0 =
    λ l. IsFirstOf (length p.caps) (λ class. nat_lt (slice_index p.caps class) (slice_index l class)) c.first_over.result in
    let Q : Option ℕ → Type 0 = λ o. IsFirstOf (length p.caps) (λ class. nat_lt (slice_index p.caps class) (slice_index counts class)) o in
    let first = subst Q c.in-None.is (subst P c.as_slice.ensures.value c.first_over.ensures) in
    let found = first-over p lists counts None long c.in_ok-counts.ensures.counts first in
    let lawful : List Column → PlanVerdict = λ columns. Lawful (record { columns = columns }) in
    ap lawful c.requires.found ∙ sym (ap (by_classes p lists) found)

pub returns-in-None-clause-cheap : goal.returns-in-None-clause-cheap
returns-in-None-clause-cheap g c =
    let p = g.C.Columns.problem c.args.columns.now in
    subst AreCheap (sym c.requires.found) (all-cheap p c.args.lists.now c.classes.ensures.worths)
