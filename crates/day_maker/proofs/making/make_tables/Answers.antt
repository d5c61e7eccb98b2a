use Rattle.std.proofs.Common.{◌≡◌, ◌++◌, ◌∷◌, [], List, ap, ◌∙◌}
use Rattle.vdv451_text.specs.declared.table.Table.{Table}
use Rattle.day_maker.specs.declared.parts.Part.TheVariants.{Deadheads}
use Rattle.day_maker.specs.Made.{calendar_table, part_table, trip_table, version_table}
use Rattle.day_maker.proofs.TableLemmas.{then_more}
use Rattle.day_maker.proofs.making.make_tables.Goals as goal

pub returns : goal.returns
returns c =
    let calendar : c.add_calendar.new.tables ≡ version_table ∷ calendar_table ∷ [] =
    c.in_ok-add_calendar.ensures ∙ ap (λ (ts : List Table). ts ++ version_table ∷ calendar_table ∷ []) c.new-tables.ensures in
    let trips : c.push.new.self ≡ c.add_parts.new.tables ++ trip_table c.args.seed c.args.trips ∷ [] =
    c.in_ok-push.ensures.ok ∙ ap (λ (t : Table). c.add_parts.new.tables ++ t ∷ []) c.in_ok-trip_table.ensures in
    let deadheads : c.push-2.new.self ≡ c.push.new.self ++ part_table Deadheads ∷ [] =
    c.in_ok-push-2.ensures.ok ∙ ap (λ (t : Table). c.push.new.self ++ t ∷ []) c.in_ok-part_table.ensures in
    let network = then_more [] _ _ _ _ calendar c.in_ok-add_parts.ensures in
    let courses = then_more [] _ _ _ _ network trips in
    let moves = then_more [] _ _ _ _ courses deadheads in
    let settings = then_more [] _ _ _ _ moves c.in_ok-add_settings.ensures in
    then_more [] _ _ _ _ settings c.in_ok-add_parts-2.ensures
