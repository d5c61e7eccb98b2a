use Rattle.std.proofs.Common.{◌≡◌, List, ℕ, Some, ap, sym, ◌∙◌}
use Rattle.vdv451_text.specs.declared.table.Field.{Field}
use Rattle.plan_read.specs.declared.fault.PlanTable.TheVariants.{Parts}
use Rattle.plan_read.specs.Entries.{part_entry}
use Rattle.plan_read.specs.Numbers.{triple_at}
use Rattle.plan_read.proofs.Saying.{said-more}
use Rattle.plan_read.proofs.parts.part_entries.Goals as goal

pub loop-place-preserved : goal.loop-place-preserved
loop-place-preserved c =
    let counts = c.args.counts.now in
    let table = c.args.table.now in
    let row = c.index-rows-place.result in
    let says : part_entry counts (triple_at table.columns row) ≡ Some c.in-Some.entry =
    ap (λ (r : List Field). part_entry counts (triple_at table.columns r)) (sym c.as_slice.ensures)
    ∙ (sym c.part_entry.ensures ∙ c.in-Some.is) in
    said-more (λ (place : ℕ). part_entry counts) Parts (triple_at table.columns) _ c.loop-place.entries c.push.new.self c.loop-place.place
    table.rows.now row c.in-Some.entry c.loop-place-test.true c.index-rows-place.is says
    c.in_ok-push-in-Some.ensures.ok c.loop-place.invariant
