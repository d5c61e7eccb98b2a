use Rattle.std.proofs.Common.{◌∷◌, [], codes, decimal}
use Rattle.input_files.specs.Lines.{joined}
use Rattle.input_files.proofs.LineLemmas.{telling_begins, telling_ends}
use Rattle.planner_run.proofs.lines.tell_left_piece.Goals as goal

pub returns : goal.returns
returns g c =
    let old = g.E.Sink.taken c.args.err.now in
    let faults = g.E.Sink.faults c.args.err.now in
    let line = joined (codes "not placed: " ∷ codes "block " ∷ decimal c.args.block ∷ codes " piece "
    ∷ decimal c.args.index ∷ codes "\n" ∷ []) in
    let s1 = c.write_part-is_whole.ensures old faults line
    (joined (codes "block " ∷ decimal c.args.block ∷ codes " piece " ∷ decimal c.args.index ∷ codes "\n" ∷ []))
    (telling_begins old faults line) in
    let s2 = c.write_part-is_whole-2.ensures old faults line
    (joined (decimal c.args.block ∷ codes " piece " ∷ decimal c.args.index ∷ codes "\n" ∷ [])) s1 in
    let s3 = c.write_number-is_whole.ensures old faults line (joined (codes " piece " ∷ decimal c.args.index ∷ codes "\n" ∷ [])) s2 in
    let s4 = c.write_part-is_whole-3.ensures old faults line (joined (decimal c.args.index ∷ codes "\n" ∷ [])) s3 in
    let s5 = c.write_number-is_whole-2.ensures old faults line (joined (codes "\n" ∷ [])) s4 in
    telling_ends old _ faults _ line c.write_part.result (c.write_part.ensures old faults line [] s5)
