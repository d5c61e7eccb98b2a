use Rattle.std.proofs.Common.{◌∷◌, [], ap, codes, decimal}
use Rattle.input_files.specs.Lines.{joined}
use Rattle.cert_check.specs.Names.{name_of, number_of}
use Rattle.input_files.proofs.LineLemmas.{named_part, telling_begins, telling_ends}
use Rattle.planner_run.proofs.lines.tell_old_plan.Goals as goal

pub returns : goal.returns
returns g c =
    let old = g.E.Sink.taken c.args.err.now in
    let faults = g.E.Sink.faults c.args.err.now in
    let number = number_of c.args.reason.now in
    let name = name_of c.args.reason.now in
    let line = joined (codes "old plan " ∷ decimal number ∷ codes " " ∷ name ∷ codes "\n" ∷ []) in
    let s1 = c.write_part-is_whole.ensures old faults line (joined (decimal number ∷ codes " " ∷ name ∷ codes "\n" ∷ []))
    (telling_begins old faults line) in
    let s2 = c.write_number-is_whole.ensures old faults line (joined (codes " " ∷ name ∷ codes "\n" ∷ []))
    (named_part old _ faults _ line (decimal number) (decimal c.number.result)
    (joined (codes " " ∷ name ∷ codes "\n" ∷ [])) _ (ap decimal c.number.ensures) s1) in
    let s3 = c.write_part-is_whole-2.ensures old faults line (joined (name ∷ codes "\n" ∷ [])) s2 in
    let s4 = c.write_part-is_whole-3.ensures old faults line (joined (codes "\n" ∷ []))
    (named_part old _ faults _ line name c.name.result.now (joined (codes "\n" ∷ [])) _ c.name.ensures s3) in
    telling_ends old _ faults _ line c.write_part.result (c.write_part.ensures old faults line [] s4)
