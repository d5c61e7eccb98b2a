use Rattle.std.proofs.Common.{◌≡◌, ◌<◌, List, ℕ, length, replicate, slice_index, sym, ap, ◌∙◌, subst, arith}
use Rattle.std.proofs.lemmas.List.{get_or-replicate, length-replicate}
use Rattle.cover_core.specs.Plans.{all_items}
use Rattle.plan_check.specs.Counts.{HaveRoom}
use Rattle.plan_check.proofs.Counted.{room}
use Rattle.plan_check.proofs.counts.item_counts.Goals as goal

pub count_items-requires : goal.count_items-requires
count_items-requires c =
    let counts = c.as_mut_slice.ensures.value in
    let blank : c.in_ok-counts.counts.items ≡ replicate c.args.count 0 = c.in_ok-counts.ensures.items_if_clones_equal (λ y e. e) in
    let long : length c.in_ok-counts.counts.items ≡ c.args.count = ap length blank ∙ length-replicate c.args.count 0 in
    let P : List ℕ → Type 0 = λ l. HaveRoom l (all_items c.args.lists.now) in
    subst P (sym counts) (room c.in_ok-counts.counts.items (all_items c.args.lists.now) (λ n below. let below' : n < c.args.count =
    omega arith in ap (λ l. slice_index l n) blank ∙ get_or-replicate c.args.count n 0 0 below') c.requires)
