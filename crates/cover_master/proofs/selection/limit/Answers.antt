use Rattle.std.proofs.Common.{◌≡◌, ◌∙◌, ◌-◌, ℤ, int_le, List, sym, ap, subst, inr, arith, rules, w64, to_z-of_z, FitsSigned}
use Rattle.std.specs.List.{count_by}
use Rattle.cover_master.specs.Candidates.{IsLimit, class_values}
use Rattle.cover_master.proofs.Limits.{count-split, count-class}
use Rattle.cover_master.proofs.selection.limit.Goals as goal

pub returns : goal.returns
returns c =
    let keys = c.args.keys.now in
    let values : List ℤ = c.as_mut_slice-values.result.now in
    let limit : ℤ = c.select_nth_unstable-value.result.1.now in
    let fits : FitsSigned w64 limit = search rules in
    let shown : values ≡ class_values c.args.class keys = c.as_mut_slice-values.ensures.value ∙ c.in_ok-values.ensures in
    let split = c.select_nth_unstable-value.ensures.partitioned in
    let found = count-split values c.select_nth_unstable-value.result.0.now c.select_nth_unstable-value.result.2.now limit (c.args.cap - 1)
    c.select_nth_unstable-value.ensures.permutation c.select_nth_unstable-value.ensures.front_len split.0 in
    let same : count_by (λ v. int_le v limit) values ≡ count_by (λ v. int_le v limit) (class_values c.args.class keys) =
    ap (λ (l : List ℤ). count_by (λ v. int_le v limit) l) shown in
    let counted = count-class c.args.class limit keys in
    let P : ℤ → Type 0 = λ l. IsLimit keys c.args.class c.args.cap l in
    subst P (sym (to_z-of_z fits)) (inr (omega arith))
