use Rattle.std.proofs.Common.{◌≡◌, ◌<◌, ◌^◌, List, ℕ, length, replicate, slice_index, sym, ap, ◌∙◌, subst, arith}
use Rattle.std.proofs.lemmas.List.{get_or-replicate, length-map, length-replicate}
use Rattle.cover_core.specs.declared.Column.{Column}
use Rattle.plan_check.specs.Counts.{HaveRoom}
use Rattle.plan_check.proofs.Counted.{room}
use Rattle.plan_check.proofs.counts.class_counts.Goals as goal

pub count_numbers-requires : goal.count_numbers-requires
count_numbers-requires c =
    let counts = c.as_mut_slice.ensures.value in
    let classes = c.as_slice.ensures.value in
    let made = c.in_ok-classes.ensures in
    let blank : c.in_ok-counts.counts.items ≡ replicate c.args.count 0 = c.in_ok-counts.ensures.items_if_clones_equal (λ y e. e) in
    let long : length c.in_ok-counts.counts.items ≡ c.args.count = ap length blank ∙ length-replicate c.args.count 0 in
    let lists = c.requires in
    let P : List ℕ → Type 0 = λ l. HaveRoom l c.as_slice.result.now in
    let few : length c.as_slice.result.now < 2 ^ 32 =
    (let same = ap length classes ∙ ap length made ∙ length-map c.args.lists.now (λ (list : Column). list.class) in omega arith) in
    subst P (sym counts) (room c.in_ok-counts.counts.items c.as_slice.result.now (λ n below. let below' : n < c.args.count =
    omega arith in ap (λ l. slice_index l n) blank ∙ get_or-replicate c.args.count n 0 0 below') few)
