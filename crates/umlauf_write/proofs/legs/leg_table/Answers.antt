use Rattle.std.proofs.Common.{codes, refl, rules}
use Rattle.number_tables.proofs.SignedLemmas.{plain_signed}
use Rattle.umlauf_write.specs.Answers.{all_rows, leg_columns, leg_numbers, leg_rows, leg_table}
use Rattle.umlauf_write.proofs.Plain.{ok_plain}
use Rattle.umlauf_write.proofs.Rows.{all_full, signed_full}
use Rattle.umlauf_write.proofs.legs.leg_table.Goals as goal

pub returns-clause-plain : goal.returns-clause-plain
returns-clause-plain c =
    let trips = c.args.day.now.trips in
    let legs = c.args.legs.now in
    ok_plain c.number_table.result (leg_table c.args.day.now legs) (search rules)
    (plain_signed (codes "X_UMLAUF_TEIL") leg_columns (all_rows (leg_rows trips) 1 legs) refl
    (all_full leg_columns (leg_rows trips) (λ n ls. signed_full leg_columns (leg_numbers trips n) (λ k l. refl) 1 ls) 1 legs))
