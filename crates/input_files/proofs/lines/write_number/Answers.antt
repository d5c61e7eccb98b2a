use Rattle.std.proofs.Common.{◌≡◌, ◌∙◌, decimal}
use Rattle.input_files.proofs.lines.write_number.Goals as goal

pub returns : goal.returns
returns g c = λ old faults line rest told.
    let digits : c.as_bytes.result.now ≡ decimal c.args.number = c.as_bytes.ensures.value ∙ c.format.ensures.text in
    c.write_part.ensures old faults line rest (rw (← digits) at told)
