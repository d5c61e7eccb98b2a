use Rattle.std.proofs.Common.{◌∷◌, [], codes, decimal}
use Rattle.input_files.specs.Lines.{joined}
use Rattle.planner_run.specs.Lines as spec
use Rattle.planner_run.specs.declared.status.Status.TheVariants as statuses
use Rattle.planner_run.specs.declared.status.InputFault.TheVariants as inputs
use Rattle.input_files.proofs.LineLemmas.{telling_begins, telling_ends}
use Rattle.planner_run.proofs.lines.tell_days.Goals as goal

pub returns : goal.returns
returns g c = λ day.
    let old = g.E.Sink.taken c.args.err.now in
    let faults = g.E.Sink.faults c.args.err.now in
    let first = c.args.first in
    let last = c.args.last in
    let line = spec.line_of day (statuses.Input (inputs.Days first last)) in
    let s1 = c.write_part-is_whole.ensures old faults line (joined (decimal first ∷ codes " to " ∷ decimal last ∷ codes "\n" ∷ []))
    (telling_begins old faults line) in
    let s2 = c.write_number-is_whole.ensures old faults line (joined (codes " to " ∷ decimal last ∷ codes "\n" ∷ [])) s1 in
    let s3 = c.write_part-is_whole-2.ensures old faults line (joined (decimal last ∷ codes "\n" ∷ [])) s2 in
    let s4 = c.write_number-is_whole-2.ensures old faults line (joined (codes "\n" ∷ [])) s3 in
    telling_ends old _ faults _ line c.write_part.result (c.write_part.ensures old faults line [] s4)
