use Rattle.std.proofs.lemmas.List.Sorted.{IsPermutation-refl}
use Rattle.mark_cover.specs.Minimal.{AreMinimal}
use Rattle.unpaid_list.proofs.Risen.{kept-same, ok-from, rising-pairs}
use Rattle.unpaid_list.proofs.covers.least_cover.Goals as goal

pub marks_of_cover-requires-clause-kept : goal.marks_of_cover-requires-clause-kept
marks_of_cover-requires-clause-kept g c =
    let m = g.M.Marks.marking c.args.m.now in
    kept-same m c.in-Ok.marks c.put_in_order.result c.put_in_order.ensures.keeps c.put_in_order.ensures.adds_none c.in-Ok.ensures

pub returns-in-Ok-clause-minimal : goal.returns-in-Ok-clause-minimal
returns-in-Ok-clause-minimal g c =
    let m = g.M.Marks.marking c.args.m.now in
    let result = c.put_in_order.result in
    let order = g.M.Mark.Ord.cmp in
    let kept = kept-same m c.in-Ok.marks result c.put_in_order.ensures.keeps c.put_in_order.ensures.adds_none c.in-Ok.ensures in
    let minimal = c.kept_marks_are_minimal.ensures c.args.m.now order result result (g.met.M.OpenLists.apart c.args.m.now)
    kept (IsPermutation-refl result)
    (rising-pairs order result c.put_in_order.ensures.rising) in
    ok-from c.marks_of_cover.result result (AreMinimal m order) c.marks_of_cover.ensures.marks minimal
