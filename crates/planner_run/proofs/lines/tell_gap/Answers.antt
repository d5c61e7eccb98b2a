use Rattle.std.proofs.Common.{◌∷◌, [], codes, decimal}
use Rattle.input_files.specs.Lines.{joined}
use Rattle.input_files.proofs.LineLemmas.{telling_begins, telling_ends}
use Rattle.planner_run.proofs.lines.tell_gap.Goals as goal

pub returns : goal.returns
returns g c =
    let old = g.E.Sink.taken c.args.err.now in
    let faults = g.E.Sink.faults c.args.err.now in
    let word = c.args.word.now in
    let line = joined (codes "trip " ∷ decimal c.args.fid ∷ codes ": " ∷ word ∷ codes " " ∷ decimal c.args.from.typ ∷ codes "/"
    ∷ decimal c.args.from.nr ∷ codes " to " ∷ decimal c.args.to.typ ∷ codes "/" ∷ decimal c.args.to.nr ∷ codes "\n" ∷ []) in
    let s1 = c.write_part-is_whole.ensures old faults line
    (joined (decimal c.args.fid ∷ codes ": " ∷ word ∷ codes " " ∷ decimal c.args.from.typ ∷ codes "/" ∷ decimal c.args.from.nr
    ∷ codes " to " ∷ decimal c.args.to.typ ∷ codes "/" ∷ decimal c.args.to.nr ∷ codes "\n" ∷ [])) (telling_begins old faults line) in
    let s2 = c.write_number-is_whole.ensures old faults line
    (joined (codes ": " ∷ word ∷ codes " " ∷ decimal c.args.from.typ ∷ codes "/" ∷ decimal c.args.from.nr ∷ codes " to "
    ∷ decimal c.args.to.typ ∷ codes "/" ∷ decimal c.args.to.nr ∷ codes "\n" ∷ [])) s1 in
    let s3 = c.write_part-is_whole-2.ensures old faults line
    (joined (word ∷ codes " " ∷ decimal c.args.from.typ ∷ codes "/" ∷ decimal c.args.from.nr ∷ codes " to " ∷ decimal c.args.to.typ
    ∷ codes "/" ∷ decimal c.args.to.nr ∷ codes "\n" ∷ [])) s2 in
    let s4 = c.write_part-is_whole-3.ensures old faults line
    (joined (codes " " ∷ decimal c.args.from.typ ∷ codes "/" ∷ decimal c.args.from.nr ∷ codes " to " ∷ decimal c.args.to.typ
    ∷ codes "/" ∷ decimal c.args.to.nr ∷ codes "\n" ∷ [])) s3 in
    let s5 = c.write_part-is_whole-4.ensures old faults line
    (joined (decimal c.args.from.typ ∷ codes "/" ∷ decimal c.args.from.nr ∷ codes " to " ∷ decimal c.args.to.typ ∷ codes "/"
    ∷ decimal c.args.to.nr ∷ codes "\n" ∷ [])) s4 in
    let s6 = c.write_number-is_whole-2.ensures old faults line
    (joined (codes "/" ∷ decimal c.args.from.nr ∷ codes " to " ∷ decimal c.args.to.typ ∷ codes "/" ∷ decimal c.args.to.nr
    ∷ codes "\n" ∷ [])) s5 in
    let s7 = c.write_part-is_whole-5.ensures old faults line
    (joined (decimal c.args.from.nr ∷ codes " to " ∷ decimal c.args.to.typ ∷ codes "/" ∷ decimal c.args.to.nr ∷ codes "\n" ∷ [])) s6 in
    let s8 = c.write_number-is_whole-3.ensures old faults line
    (joined (codes " to " ∷ decimal c.args.to.typ ∷ codes "/" ∷ decimal c.args.to.nr ∷ codes "\n" ∷ [])) s7 in
    let s9 = c.write_part-is_whole-6.ensures old faults line
    (joined (decimal c.args.to.typ ∷ codes "/" ∷ decimal c.args.to.nr ∷ codes "\n" ∷ [])) s8 in
    let s10 = c.write_number-is_whole-4.ensures old faults line (joined (codes "/" ∷ decimal c.args.to.nr ∷ codes "\n" ∷ [])) s9 in
    let s11 = c.write_part-is_whole-7.ensures old faults line (joined (decimal c.args.to.nr ∷ codes "\n" ∷ [])) s10 in
    let s12 = c.write_number-is_whole-5.ensures old faults line (joined (codes "\n" ∷ [])) s11 in
    telling_ends old _ faults _ line c.write_part.result (c.write_part.ensures old faults line [] s12)
