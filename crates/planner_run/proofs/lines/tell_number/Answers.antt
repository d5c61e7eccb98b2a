use Rattle.std.proofs.Common.{◌∷◌, [], codes, decimal}
use Rattle.input_files.specs.Lines.{joined}
use Rattle.input_files.proofs.LineLemmas.{telling_begins, telling_ends}
use Rattle.planner_run.proofs.lines.tell_number.Goals as goal

pub returns : goal.returns
returns g c =
    let old = g.E.Sink.taken c.args.err.now in
    let faults = g.E.Sink.faults c.args.err.now in
    let line = joined (c.args.text.now ∷ decimal c.args.number ∷ codes "\n" ∷ []) in
    let s1 = c.write_part-is_whole.ensures old faults line (joined (decimal c.args.number ∷ codes "\n" ∷ []))
    (telling_begins old faults line) in
    let s2 = c.write_number-is_whole.ensures old faults line (joined (codes "\n" ∷ [])) s1 in
    telling_ends old _ faults _ line c.write_part.result (c.write_part.ensures old faults line ([]) s2)
