use Rattle.std.proofs.Common.{◌≡◌, List, ℕ, length, map, ap, ◌∙◌, arith}
use Rattle.std.specs.Vec.{with_items}
use Rattle.plan_read.specs.Gathering.{blocks_from, no_trips, with_trips}
use Rattle.plan_read.proofs.Gathered.{blocks-gathered, refilled, trips-long}
use Rattle.plan_read.proofs.gathering.gathered_blocks.Goals as goal

pub returns : goal.returns
returns c =
    let entries = c.args.entries.now in
    let classes = c.args.classes.now in
    let v = c.in_ok-lists.lists in
    let lists = c.put_trips.new.lists in
    let put : lists ≡ with_trips v.items entries =
    c.in_ok-put_trips.ensures ∙ ap (λ (l : List (List ℕ)). with_trips l entries) c.as_mut_slice.ensures.value in
    let long : length lists ≡ length v.items = ap (λ (l : List (List ℕ)). length l) put ∙ trips-long v.items entries in
    let ok = v.ok.0 in
    let filled : (with_items v lists).items ≡ lists = refilled v.len v.items lists (omega (arith, ok)) long in
    let all : c.as_slice.result.now ≡ with_trips (map no_trips classes) entries =
    c.as_slice.ensures.value ∙ (filled ∙ (put ∙ ap (λ (l : List (List ℕ)). with_trips l entries) c.in_ok-lists.ensures)) in
    c.in_ok-blocks_from.ensures ∙ (ap (λ (l : List (List ℕ)). blocks_from l classes) all ∙ blocks-gathered entries classes)
