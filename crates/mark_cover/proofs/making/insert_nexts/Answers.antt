use Rattle.std.proofs.Common.{length, refl, sym, ◌∙◌, arith}
use Rattle.std.proofs.lemmas.Option.{slice_get_read}
use Rattle.std.specs.Option.{option_map}
use Rattle.mark_cover.proofs.Kept.{insert-step}
use Rattle.mark_cover.proofs.making.insert_nexts.Goals as goal

pub insert_some-requires : goal.insert_some-requires
insert_some-requires g c = λ b e.
    let below = c.loop-place-test.true in
    let at = slice_get_read c.args.kept.now (length c.args.kept.now) c.loop-place.place c.index-kept-place.result refl
    (omega arith) c.index-kept-place.is in
    (g.met.M.OpenLists.safe c.args.m.now).steps c.index-kept-place.result b c.args.item
    (c.requires.given.are_sound c.index-kept-place.result (c.loop-place.place, at)) (sym c.next.ensures ∙ e)

pub loop-place-preserved : goal.loop-place-preserved
loop-place-preserved g c =
    let below = c.loop-place-test.true in
    let at = slice_get_read c.args.kept.now (length c.args.kept.now) c.loop-place.place c.index-kept-place.result refl
    (omega arith) c.index-kept-place.is in
    insert-step (g.M.Marks.marking c.args.m.now) c.args.marks.now.items c.args.kept.now c.args.item
    c.loop-place.place c.index-kept-place.result
    (option_map (g.M.Marks.seen c.args.m.now) c.next.result) c.loop-place.marks.items c.insert_some.new.marks.items at c.next.ensures
    c.loop-place.invariant c.in_ok-near.ensures
