use Rattle.vdv451_text.proofs.ReadBack.{back_clause, only_clause, one_clause}
use Rattle.vdv451_text.proofs.writing.write_tables.Goals as goal

pub returns-clause-back : goal.returns-clause-back
returns-clause-back c = back_clause c.args.tables.now _ c.text_of_tables.ensures.written c.requires c.text_of_tables.ensures.sized

pub returns-clause-only : goal.returns-clause-only
returns-clause-only c =
    λ others. only_clause c.args.tables.now
    others _ (back_clause c.args.tables.now _ c.text_of_tables.ensures.written c.requires c.text_of_tables.ensures.sized)

pub returns-clause-one : goal.returns-clause-one
returns-clause-one c = λ others plain sized. one_clause c.args.tables.now others _ plain sized
    (back_clause c.args.tables.now _ c.text_of_tables.ensures.written c.requires c.text_of_tables.ensures.sized)
