use Rattle.std.proofs.Common.{◌∷◌, [], codes, decimal}
use Rattle.vdv452_rows.specs.Names.{name_of}
use Rattle.input_files.specs.Lines.{joined}
use Rattle.planner_run.specs.Lines as spec
use Rattle.planner_run.specs.declared.status.Status.TheVariants as statuses
use Rattle.planner_run.specs.declared.status.InputFault.TheVariants as inputs
use Rattle.input_files.proofs.LineLemmas.{named_part, telling_begins, telling_ends}
use Rattle.planner_run.proofs.lines.tell_table.Goals as goal

pub returns : goal.returns
returns g c = λ day.
    let old = g.E.Sink.taken c.args.err.now in
    let faults = g.E.Sink.faults c.args.err.now in
    let fault = c.args.fault.now in
    let kind = name_of fault.kind in
    let line = spec.line_of day (statuses.Input (inputs.Table fault)) in
    let s1 = c.write_part-is_whole.ensures old faults line
    (joined (fault.table ∷ codes " column " ∷ fault.column ∷ codes " row " ∷ decimal fault.row ∷ codes ": " ∷ kind ∷ codes "\n" ∷ []))
    (telling_begins old faults line) in
    let s2 = c.write_part-is_whole-2.ensures old faults line
    (joined (codes " column " ∷ fault.column ∷ codes " row " ∷ decimal fault.row ∷ codes ": " ∷ kind ∷ codes "\n" ∷ []))
    (named_part old _ faults _ line fault.table c.as_slice.result.now
    (joined (codes " column " ∷ fault.column ∷ codes " row " ∷ decimal fault.row ∷ codes ": " ∷ kind ∷ codes "\n"
    ∷ [])) _ c.as_slice.ensures s1) in
    let s3 = c.write_part-is_whole-3.ensures old faults line
    (joined (fault.column ∷ codes " row " ∷ decimal fault.row ∷ codes ": " ∷ kind ∷ codes "\n" ∷ [])) s2 in
    let s4 = c.write_part-is_whole-4.ensures old faults line
    (joined (codes " row " ∷ decimal fault.row ∷ codes ": " ∷ kind ∷ codes "\n" ∷ []))
    (named_part old _ faults _ line fault.column c.as_slice-2.result.now
    (joined (codes " row " ∷ decimal fault.row ∷ codes ": " ∷ kind ∷ codes "\n" ∷ [])) _ c.as_slice-2.ensures s3) in
    let s5 = c.write_part-is_whole-5.ensures old faults line (joined (decimal fault.row ∷ codes ": " ∷ kind ∷ codes "\n" ∷ [])) s4 in
    let s6 = c.write_number-is_whole.ensures old faults line (joined (codes ": " ∷ kind ∷ codes "\n" ∷ [])) s5 in
    let s7 = c.write_part-is_whole-6.ensures old faults line (joined (kind ∷ codes "\n" ∷ [])) s6 in
    let s8 = c.write_part-is_whole-7.ensures old faults line (joined (codes "\n" ∷ []))
    (named_part old _ faults _ line kind c.name.result.now (joined (codes "\n" ∷ [])) _ c.name.ensures s7) in
    telling_ends old _ faults _ line c.write_part.result (c.write_part.ensures old faults line ([]) s8)
