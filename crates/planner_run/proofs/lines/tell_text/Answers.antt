use Rattle.std.proofs.Common.{◌∷◌, [], codes, decimal}
use Rattle.vdv451_text.specs.Names.{name_of}
use Rattle.input_files.specs.Lines.{joined}
use Rattle.planner_run.specs.Lines as spec
use Rattle.planner_run.specs.declared.status.Status.TheVariants as statuses
use Rattle.planner_run.specs.declared.status.InputFault.TheVariants as inputs
use Rattle.input_files.proofs.LineLemmas.{named_part, telling_begins, telling_ends}
use Rattle.planner_run.proofs.lines.tell_text.Goals as goal

pub returns : goal.returns
returns g c = λ day.
    let old = g.E.Sink.taken c.args.err.now in
    let faults = g.E.Sink.faults c.args.err.now in
    let fault = c.args.fault.now in
    let kind = name_of fault.kind in
    let line = spec.line_of day (statuses.Input (inputs.Text c.args.file fault)) in
    let s1 = c.write_part-is_whole.ensures old faults line
    (joined (decimal c.args.file ∷ codes " line " ∷ decimal fault.line ∷ codes ": " ∷ kind ∷ codes "\n" ∷ []))
    (telling_begins old faults line) in
    let s2 = c.write_number-is_whole.ensures old faults line
    (joined (codes " line " ∷ decimal fault.line ∷ codes ": " ∷ kind ∷ codes "\n" ∷ [])) s1 in
    let s3 = c.write_part-is_whole-2.ensures old faults line (joined (decimal fault.line ∷ codes ": " ∷ kind ∷ codes "\n" ∷ [])) s2 in
    let s4 = c.write_number-is_whole-2.ensures old faults line (joined (codes ": " ∷ kind ∷ codes "\n" ∷ [])) s3 in
    let s5 = c.write_part-is_whole-3.ensures old faults line (joined (kind ∷ codes "\n" ∷ [])) s4 in
    let s6 = c.write_part-is_whole-4.ensures old faults line (joined (codes "\n" ∷ []))
    (named_part old _ faults _ line kind c.name.result.now (joined (codes "\n" ∷ [])) _ c.name.ensures s5) in
    telling_ends old _ faults _ line c.write_part.result (c.write_part.ensures old faults line ([]) s6)
