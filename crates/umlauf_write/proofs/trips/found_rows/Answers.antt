use Rattle.std.proofs.Common.{ap, length, ◌∙◌, rules}
use Rattle.umlauf_write.proofs.FoundPlain.{row_long}
use Rattle.umlauf_write.proofs.Plain.{uid_fits}
use Rattle.umlauf_write.proofs.trips.found_rows.Goals as goal

pub with_uid-requires : goal.with_uid-requires
with_uid-requires c =
    uid_fits c.column_place-uid.result c.as_slice-heads.result.now c.row_of-row.result.now c.column_place-uid.ensures.within
    (ap length c.row_of-row.ensures ∙ row_long c.args.table.now _ _ c.requires.plain (search rules) ∙ search rules)
