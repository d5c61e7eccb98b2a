use Rattle.std.proofs.Common.{◌≡◌, codes, length, refl, rules, sym, subst, true}
use Rattle.std.proofs.lemmas.List.Elements.{All-map}
use Rattle.std.proofs.lemmas.Result.{IfOk-weaker}
use Rattle.vdv451_text.specs.Plain.{is_plain_table}
use Rattle.vdv451_text.specs.declared.table.Table.{Table}
use Rattle.number_tables.proofs.SignedLemmas.{plain_signed}
use Rattle.week_check.specs.Verdict.{verdict_columns, verdict_numbers, verdict_rows, verdict_table}
use Rattle.week_check.proofs.verdict.verdict_table.Goals as goal

pub returns-clause-plain : goal.returns-clause-plain
returns-clause-plain c =
    let denials = c.args.denials.now in
    let plain : is_plain_table (verdict_table c.args.denials.now) ≡ true =
    plain_signed (codes "X_URTEIL") verdict_columns (verdict_rows c.args.denials.now) refl
    (All-map (λ row. length row ≡ length verdict_columns) verdict_numbers c.args.denials.now (λ k d within. refl)) in
    IfOk-weaker c.number_table.result (λ (table : Table). table ≡ verdict_table c.args.denials.now)
    (λ (table : Table). is_plain_table table ≡ true) (λ table is. subst (λ t. is_plain_table t ≡ true) (sym is) plain) (search rules)
