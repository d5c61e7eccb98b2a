use Rattle.std.proofs.Common.{◌∷◌, [], codes, decimal}
use Rattle.plan_rows.specs.Names.{name_of}
use Rattle.input_files.specs.Lines.{joined}
use Rattle.plan_chart.specs.Lines as spec
use Rattle.plan_chart.specs.declared.status.Status.TheVariants as statuses
use Rattle.input_files.proofs.LineLemmas.{named_part, telling_begins, telling_ends}
use Rattle.plan_chart.proofs.lines.tell_form.Goals as goal

pub returns : goal.returns
returns g c =
    let old = g.E.Sink.taken c.args.err.now in
    let faults = g.E.Sink.faults c.args.err.now in
    let place = c.args.place in
    let name = name_of place.table in
    let line = spec.line_of (statuses.Form place) in
    let s1 = c.write_part-is_whole.ensures old faults line (joined (name ∷ codes " row " ∷ decimal place.row ∷ codes ": not drawn\n" ∷ []))
    (telling_begins old faults line) in
    let s2 = c.write_part-is_whole-2.ensures old faults line (joined (codes " row " ∷ decimal place.row ∷ codes ": not drawn\n" ∷ []))
    (named_part old _ faults _ line name c.name.result.now
    (joined (codes " row " ∷ decimal place.row ∷ codes ": not drawn\n" ∷ [])) _ c.name.ensures s1) in
    let s3 = c.write_part-is_whole-3.ensures old faults line (joined (decimal place.row ∷ codes ": not drawn\n" ∷ [])) s2 in
    let s4 = c.write_number-is_whole.ensures old faults line (joined (codes ": not drawn\n" ∷ [])) s3 in
    telling_ends old _ faults _ line c.write_part.result (c.write_part.ensures old faults line [] s4)
