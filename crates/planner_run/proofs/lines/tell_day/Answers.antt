use Rattle.std.proofs.Common.{◌∷◌, [], codes}
use Rattle.day_calendar.specs.Names.{name_of}
use Rattle.input_files.specs.Lines.{joined}
use Rattle.planner_run.specs.Lines as spec
use Rattle.planner_run.specs.declared.status.Status.TheVariants as statuses
use Rattle.input_files.proofs.LineLemmas.{named_part, telling_begins, telling_ends}
use Rattle.planner_run.proofs.lines.tell_day.Goals as goal

pub returns : goal.returns
returns g c =
    let old = g.E.Sink.taken c.args.err.now in
    let faults = g.E.Sink.faults c.args.err.now in
    let kind = name_of c.args.fault in
    let line = spec.line_of c.args.day.now (statuses.Day c.args.fault) in
    let s1 = c.write_part-is_whole.ensures old faults line (joined (c.args.day.now ∷ codes ": " ∷ kind ∷ codes "\n" ∷ []))
    (telling_begins old faults line) in
    let s2 = c.write_part-is_whole-2.ensures old faults line (joined (codes ": " ∷ kind ∷ codes "\n" ∷ [])) s1 in
    let s3 = c.write_part-is_whole-3.ensures old faults line (joined (kind ∷ codes "\n" ∷ [])) s2 in
    let s4 = c.write_part-is_whole-4.ensures old faults line (joined (codes "\n" ∷ []))
    (named_part old _ faults _ line kind c.name.result.now (joined (codes "\n" ∷ [])) _ c.name.ensures s3) in
    telling_ends old _ faults _ line c.write_part.result (c.write_part.ensures old faults line ([]) s4)
