use Rattle.std.proofs.Common.{◌≡◌, ◌≤◌, List, ℕ, length, not, nat_eq, ap, ◌∙◌, sym, subst}
use Rattle.std.proofs.lemmas.Grind.{get_or_default_zero}
use Rattle.std.specs.Prelude.{Option, Some, None, IfOk, slice_index}
use Rattle.plan_check.specs.declared.verdict.PlanVerdict.{PlanVerdict}
use Rattle.plan_check.specs.declared.verdict.PlanVerdict.TheVariants.{Times}
use Rattle.plan_check.specs.Counts.{IsFirstOf}
use Rattle.plan_check.specs.Judged.{by_items, first_of, is_off}
use Rattle.plan_check.proofs.Counted.{first-off}
use Rattle.plan_check.proofs.Small.{few-judged}
use Rattle.plan_check.proofs.check.judge.Goals as goal

pub returns-in-Some-clause-verdict : goal.returns-in-Some-clause-verdict
returns-in-Some-clause-verdict g c =
    let p = g.C.Columns.problem c.args.columns.now in
    let lists = c.args.lists.now in
    let counts = c.in_ok-counts.counts.items in
    let long : length counts ≡ p.items = c.in_ok-counts.ensures.count ∙ c.items.ensures.value in
    let P : List ℕ → Type 0 = λ l. IsFirstOf (length l) (λ n. not (nat_eq (slice_index l n) 1)) c.first_off.result in
    let Q : Option ℕ → Type 0 = λ o. IsFirstOf (length counts) (λ n. not (nat_eq (slice_index counts n) 1)) o in
    let first = subst Q c.in-Some.is (subst P c.as_slice.ensures.value c.first_off.ensures) in
    let found = first-off lists counts (Some c.in-Some.item) c.in_ok-counts.ensures.counts first in
    let items = ap (λ (n : ℕ). first_of n 0 (is_off lists)) long in
    let below = first.0 in
    let read = c.index.ensures
    ∙ (get_or_default_zero counts c.in-Some.item c.index.result.now below ∙ c.in_ok-counts.ensures.counts c.in-Some.item below) in
    let times : ℕ → PlanVerdict = λ count. Times c.in-Some.item count in
    ap times read ∙ sym (ap (by_items p lists) (sym items ∙ found))

pub returns-clause-verdict : goal.returns-clause-verdict
returns-clause-verdict g c =
    let p = g.C.Columns.problem c.args.columns.now in
    let lists = c.args.lists.now in
    let counts = c.in_ok-counts.counts.items in
    let long : length counts ≡ p.items = c.in_ok-counts.ensures.count ∙ c.items.ensures.value in
    let P : List ℕ → Type 0 = λ l. IsFirstOf (length l) (λ n. not (nat_eq (slice_index l n) 1)) c.first_off.result in
    let Q : Option ℕ → Type 0 = λ o. IsFirstOf (length counts) (λ n. not (nat_eq (slice_index counts n) 1)) o in
    let first = subst Q c.in-None.is (subst P c.as_slice.ensures.value c.first_off.ensures) in
    let found = first-off lists counts None c.in_ok-counts.ensures.counts first in
    let items = ap (λ (n : ℕ). first_of n 0 (is_off lists)) long in
    let R : PlanVerdict → Type 0 = λ v. IfOk c.check_worths.result (λ verdict. verdict ≡ v) in
    subst R (sym (ap (by_items p lists) (sym items ∙ found))) c.check_worths.ensures.verdict

pub returns-clause-few : goal.returns-clause-few
returns-clause-few g c =
    let p = g.C.Columns.problem c.args.columns.now in
    let few : p.items ≤ 3000 = subst (λ (n : ℕ). n ≤ 3000) c.items.ensures.value c.items.ensures.few in
    few-judged p c.args.lists.now c.check_worths.result (g.met.C.Columns.listed c.args.columns.now) few (returns-clause-verdict g c)
