use Rattle.std.proofs.Common.{◌≡◌, List, length, ap, ◌∙◌, arith}
use Rattle.std.specs.Vec.{with_items}
use Rattle.umlauf_write.specs.declared.text.DutyRow.{DutyRow}
use Rattle.plan_read.specs.Gathering.{with_parts}
use Rattle.plan_read.proofs.Gathered.{duties-gathered, parts-long, refilled}
use Rattle.plan_read.proofs.gathering.gathered_duties.Goals as goal

pub returns : goal.returns
returns c =
    let entries = c.args.entries.now in
    let groups = c.args.groups.now in
    let v = c.in_ok-duties.duties in
    let duties = c.put_parts.new.duties in
    let put : duties ≡ with_parts v.items entries =
    c.in_ok-put_parts.ensures ∙ ap (λ (l : List DutyRow). with_parts l entries) c.as_mut_slice.ensures.value in
    let long : length duties ≡ length v.items = ap (λ (l : List DutyRow). length l) put ∙ parts-long v.items entries in
    let ok = v.ok.0 in
    let filled : (with_items v duties).items ≡ duties = refilled v.len v.items duties (omega (arith, ok)) long in
    c.from_vec.ensures ∙ (filled
    ∙ (put ∙ (ap (λ (l : List DutyRow). with_parts l entries) c.in_ok-duties.ensures ∙ duties-gathered entries groups)))
