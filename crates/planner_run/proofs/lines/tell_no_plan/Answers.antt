use Rattle.std.proofs.Common.{◌∷◌, [], codes, decimal}
use Rattle.day_method.specs.Names.{name_of}
use Rattle.input_files.specs.Lines.{joined}
use Rattle.input_files.proofs.LineLemmas.{named_part, telling_begins, telling_ends}
use Rattle.planner_run.proofs.lines.tell_no_plan.Goals as goal

pub returns : goal.returns
returns g c =
    let old = g.E.Sink.taken c.args.err.now in
    let faults = g.E.Sink.faults c.args.err.now in
    let line = joined (codes "no plan: " ∷ name_of c.args.side ∷ codes " bound " ∷ decimal c.args.bound ∷ codes " places "
    ∷ decimal c.args.places ∷ codes "\n" ∷ []) in
    let s1 = c.write_part-is_whole.ensures old faults line
    (joined (name_of c.args.side ∷ codes " bound " ∷ decimal c.args.bound ∷ codes " places " ∷ decimal c.args.places ∷ codes "\n"
    ∷ [])) (telling_begins old faults line) in
    let s2 = c.write_part-is_whole-2.ensures old faults line
    (joined (codes " bound " ∷ decimal c.args.bound ∷ codes " places " ∷ decimal c.args.places ∷ codes "\n" ∷ []))
    (named_part old _ faults _ line (name_of c.args.side) c.name.result.now
    (joined (codes " bound " ∷ decimal c.args.bound ∷ codes " places " ∷ decimal c.args.places ∷ codes "\n" ∷ [])) _ c.name.ensures
    s1) in
    let s3 = c.write_part-is_whole-3.ensures old faults line
    (joined (decimal c.args.bound ∷ codes " places " ∷ decimal c.args.places ∷ codes "\n" ∷ [])) s2 in
    let s4 = c.write_number-is_whole.ensures old faults line (joined (codes " places " ∷ decimal c.args.places ∷ codes "\n" ∷ [])) s3 in
    let s5 = c.write_part-is_whole-4.ensures old faults line (joined (decimal c.args.places ∷ codes "\n" ∷ [])) s4 in
    let s6 = c.write_number-is_whole-2.ensures old faults line (joined (codes "\n" ∷ [])) s5 in
    telling_ends old _ faults _ line c.write_part.result (c.write_part.ensures old faults line [] s6)
