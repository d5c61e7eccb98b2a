use Rattle.std.proofs.Common.{◌≡◌, ◌^◌, ◌<◌, length, arith}
use Rattle.std.proofs.lemmas.Grind.{common_steps}
use Rattle.vdv451_text.specs.declared.table.Table.{Table}
use Rattle.input_files.specs.Parts.{joined}
use Rattle.input_files.proofs.JoinLemmas.{all_joined, plain_joined}
use Rattle.input_files.proofs.parts.join_tables.Goals as goal

pub returns-clause-plain : goal.returns-clause-plain
returns-clause-plain c = λ plain.
    let all : c.loop-part.tables.items ≡ joined c.args.parts = grind (arith, common_steps) in
    rw all (plain_joined c.args.parts plain)

pub returns-clause-sized : goal.returns-clause-sized
returns-clause-sized c = λ sized.
    let all : c.loop-part.tables.items ≡ joined c.args.parts = grind (arith, common_steps) in
    rw all (all_joined (λ (table : Table). length table.rows < 2 ^ 32) c.args.parts sized)
