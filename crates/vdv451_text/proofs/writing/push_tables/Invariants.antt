use Rattle.std.proofs.Common.{◌≡◌, ◌++◌, ◌∷◌, [], drop}
use Rattle.std.specs.List.{flat_map, list_all}
use Rattle.vdv451_text.specs.Plain.{is_sized_table, table_text}
use Rattle.vdv451_text.proofs.writing.push_tables.Given as goal

-- what is written so far and what is left to write are the whole
abbrev pub invariant-loop-table : goal.invariant-loop-table
invariant-loop-table l = record {
  written : l.out.items ++ flat_map (table_text (13 ∷ 10 ∷ [])) (drop l.table-index l.tables) ≡ l.initial.out.items
      ++ flat_map (table_text (13 ∷ 10 ∷ [])) l.tables;
  sized : list_all is_sized_table (drop l.table-index l.tables) ≡ list_all is_sized_table l.tables;
}
