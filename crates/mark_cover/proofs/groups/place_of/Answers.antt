use Rattle.std.proofs.Common.{◌+◌, ◌-◌, ◌/◌, length, arith, refl, sym, ◌∙◌}
use Rattle.std.proofs.lemmas.Option.{slice_get_read}
use Rattle.mark_cover.proofs.Keys.{early-step, late-step}
use Rattle.mark_cover.proofs.groups.place_of.Goals as goal

pub loop-low-preserved-then-is_early : goal.loop-low-preserved-then-is_early
loop-low-preserved-then-is_early g c =
    let m = g.M.Marks.marking c.args.m.now in
    let less = c.loop-low-test.true in
    let within = c.loop-low.invariant.within in
    let middle = c.loop-low.low + (c.loop-low.high - c.loop-low.low) / 2 in
    let at = slice_get_read c.args.marks.now (length c.args.marks.now) middle c.index-marks-middle.result refl
    (omega arith) c.index-marks-middle.is in
    record {
      order = omega arith;
      within = within;
      early = early-step m c.args.marks.now c.args.class c.args.item middle c.index-marks-middle.result
          c.requires at (sym c.is_early.ensures ∙ c.if-is_early.true);
      late = c.loop-low.invariant.late;
    }

pub loop-low-preserved : goal.loop-low-preserved
loop-low-preserved g c =
    let m = g.M.Marks.marking c.args.m.now in
    let less = c.loop-low-test.true in
    let within = c.loop-low.invariant.within in
    let middle = c.loop-low.low + (c.loop-low.high - c.loop-low.low) / 2 in
    let at = slice_get_read c.args.marks.now (length c.args.marks.now) middle c.index-marks-middle.result refl
    (omega arith) c.index-marks-middle.is in
    record {
      order = omega arith;
      within = omega arith;
      early = c.loop-low.invariant.early;
      late = late-step m c.args.marks.now c.args.class c.args.item middle c.index-marks-middle.result
          c.requires at (sym c.is_early.ensures ∙ c.if-is_early.false);
    }
